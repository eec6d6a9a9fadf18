-- The branch in a lane is that of the step at the place.
use Rattle.std.proofs.Common.{◌∙◌, [], ap, arith, cond, length}
use Rattle.std.proofs.lemmas.List.{get_or_read}
use Rattle.interval_ops.specs.declared.choice.Choice.TheVariants.{Left, Right}
use Rattle.live_clauses.proofs.MarkTurns.{first_within, second_within}
use Rattle.normal_shade.proofs.Reached.{lane-both, lane-max, lane-min}
use Rattle.normal_shade.proofs.branches.row_at.Goals as goal

pub overflow_cast-place : goal.overflow_cast-place
overflow_cast-place c = omega (arith, c.requires.there, c.requires.tape.few)

pub returns-in-Min : goal.returns-in-Min
returns-in-Min c = λ l h.
    let rows = c.args.values.now in
    let step = c.step-step.result in
    let first = first_within c.args.place (length rows) step c.step-step.ensures.stands (omega (arith, c.requires.there, c.requires.room)) in
    let second = second_within c.args.place (length rows) step c.step-step.ensures.stands (omega (arith, c.requires.there, c.requires.room)) in
    c.either.ensures l h ∙ ap (λ t. cond t Left Right) (c.lanes_at_most.ensures l h)
    ∙ lane-min c.args.list.now rows c.args.place l step c.index-values-step.result c.index-values-step-2.result c.step-step.ensures.step
    (get_or_read rows step.a c.index-values-step.result first c.index-values-step.is []) (get_or_read rows step.b c.index-values-step-2.result second c.index-values-step-2.is []) c.in-Min.is

pub returns-in-Max : goal.returns-in-Max
returns-in-Max c = λ l h.
    let rows = c.args.values.now in
    let step = c.step-step.result in
    let first = first_within c.args.place (length rows) step c.step-step.ensures.stands (omega (arith, c.requires.there, c.requires.room)) in
    let second = second_within c.args.place (length rows) step c.step-step.ensures.stands (omega (arith, c.requires.there, c.requires.room)) in
    c.either-in-Max.ensures l h ∙ ap (λ t. cond t Left Right) (c.lanes_at_most-in-Max.ensures l h)
    ∙ lane-max c.args.list.now rows c.args.place l step c.index-values-step.result c.index-values-step-2.result c.step-step.ensures.step
    (get_or_read rows step.a c.index-values-step.result first c.index-values-step.is []) (get_or_read rows step.b c.index-values-step-2.result second c.index-values-step-2.is []) c.in-Max.is

pub returns-in_default : goal.returns-in_default
returns-in_default c = λ l h.
    let rows = c.args.values.now in
    let step = c.step-step.result in
    let first = first_within c.args.place (length rows) step c.step-step.ensures.stands (omega (arith, c.requires.there, c.requires.room)) in
    let second = second_within c.args.place (length rows) step c.step-step.ensures.stands (omega (arith, c.requires.there, c.requires.room)) in
    c.both.ensures l
    ∙ lane-both c.args.list.now rows c.args.place l step c.index-values-step.result c.index-values-step-2.result c.step-step.ensures.step
    (get_or_read rows step.a c.index-values-step.result first c.index-values-step.is []) (get_or_read rows step.b c.index-values-step-2.result second c.index-values-step-2.is []) c.in_default.not-Min c.in_default.not-Max
