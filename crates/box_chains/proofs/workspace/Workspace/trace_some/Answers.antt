use Rattle.std.proofs.Common.{[], ◌∷◌, ◌++◌, ◌∙◌, length, ap, sym, subst, zero-mul, arith}
use Rattle.interval_ops.specs.HullCounts.{CountsHulls}
use Rattle.live_clauses.specs.Blocks.{list_at}
use Rattle.interval_ops.proofs.HullCountLaws.{CountsHulls-none}
use Rattle.box_chains.specs.Outcomes.{AreSeen, asked_decisions, asked_outcome, asked_outcomes}
use Rattle.box_chains.proofs.Lanes.{take-one}
use Rattle.box_chains.proofs.Seen.{are-pushed}
use Rattle.box_chains.proofs.Traced.{hulls-among, hulls-one, on_err}
use Rattle.box_chains.proofs.workspace.Workspace.trace_some.Goals as goal

pub returns-in_err-trace-clause-at_most : goal.returns-in_err-trace-clause-at_most
returns-in_err-trace-clause-at_most c =
    on_err _ _ (hulls-among c.args.tally.now c.trace.new.tally 4 (length c.args.asked.now) (length (list_at c.args.lists.now c.args.at)) (omega arith) c.in_err-trace.ensures.counted)

pub returns-in_err-trace-2-clause-at_most : goal.returns-in_err-trace-2-clause-at_most
returns-in_err-trace-2-clause-at_most c =
    on_err _ _ (hulls-among c.args.tally.now _ 2 (length c.args.asked.now) (length (list_at c.args.lists.now c.args.at)) (omega arith) c.in_err-trace-2.ensures.counted)

pub returns-in_err-traced-clause-at_most : goal.returns-in_err-traced-clause-at_most
returns-in_err-traced-clause-at_most c =
    on_err _ _ (hulls-among c.args.tally.now c.trace_one.new.tally 1 (length c.args.asked.now) (length (list_at c.args.lists.now c.args.at)) c.requires.some (hulls-one c.args.tally.now c.trace_one.new.tally (length (list_at c.args.lists.now c.args.at)) c.in_err-traced.ensures.counted))

pub returns-then-len-gt-LONGEST-clause-outcomes : goal.returns-then-len-gt-LONGEST-clause-outcomes
returns-then-len-gt-LONGEST-clause-outcomes c = λ told seen.
    let lists = c.args.lists.now in
    let list = list_at lists c.args.at in
    let after = c.trace_one.new.lists in
    let box = c.index-asked-0.result in
    let one = take-one c.args.asked.now box c.requires.some c.index-asked-0.is in
    subst (λ boxes. AreSeen (length list) after c.push.new.self.items (told ++ asked_outcomes c.args.places.now list boxes)) (sym one)
    (are-pushed (length list) lists after c.args.outcomes.now.items c.push.new.self.items told c.in_ok-traced.traced.outcome (asked_outcome c.args.places.now list box)
    c.in_ok-traced.ensures.first seen c.push.ensures.items c.in_ok-traced.ensures.outcome c.in_ok-traced.ensures.shorter)

pub returns-in_err-make_room-clause-at_most : goal.returns-in_err-make_room-clause-at_most
returns-in_err-make_room-clause-at_most c =
    on_err _ _ (hulls-among c.args.tally.now c.args.tally.now 0 (length c.args.asked.now) (length (list_at c.args.lists.now c.args.at)) (omega arith) (subst (λ n. CountsHulls n c.args.tally.now c.args.tally.now) (sym (zero-mul (length (list_at c.args.lists.now c.args.at)))) (CountsHulls-none c.args.tally.now)))

pub returns-then-len-gt-LONGEST-clause-decisions : goal.returns-then-len-gt-LONGEST-clause-decisions
returns-then-len-gt-LONGEST-clause-decisions c =
    let list = list_at c.args.lists.now c.args.at in
    let box = c.index-asked-0.result in
    let one = take-one c.args.asked.now box c.requires.some c.index-asked-0.is in
    c.push-then-len-gt-LONGEST.ensures.items
    ∙ ap (λ d. c.args.decisions.now.items ++ d ∷ []) c.in_ok-traced.ensures.decision
    ∙ ap (λ boxes. c.args.decisions.now.items ++ asked_decisions c.args.places.now list boxes) (sym one)

pub trace-requires-clause-whole : goal.trace-requires-clause-whole
trace-requires-clause-whole c = c.requires.whole (omega arith)

pub trace-requires-else-asked-ge4-clause-whole : goal.trace-requires-else-asked-ge4-clause-whole
trace-requires-else-asked-ge4-clause-whole c = c.requires.whole (omega arith)
