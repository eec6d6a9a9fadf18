-- Lists of one length are the same where the steps at each place are.
use Rattle.std.proofs.Common.{◌≡◌, ℕ, ℤ, pos, ◌<◌, List, length, map, refl, ap, sym, ◌∙◌, below_more, arith}
use Rattle.std.proofs.lemmas.Bool.{false≢true}
use Rattle.std.proofs.lemmas.List.{ext_get_or, length-map}
use Rattle.fixed_ops.specs.declared.operation.Op.TheVariants.{X}
use Rattle.live_clauses.specs.declared.packed_step.PackedStep.{PackedStep}
use Rattle.live_clauses.specs.declared.step.Step.{Step}
use Rattle.live_clauses.specs.Choices.{step_at}
use Rattle.live_clauses.specs.Packed.{unpacked}
use Rattle.live_clauses.proofs.Stored.{kept_at, kept_at-is, read-stored, step_at-unpacked}
use Rattle.live_clauses.proofs.equality.same_steps.Goals as goal

pub same_step-requires-clause-a : goal.same_step-requires-clause-a
same_step-requires-clause-a c =
    let kept = c.args.a.now in
    let within : c.loop-at.at < length kept = omega arith in
    λ is. read-stored c.args.a_constants.now kept c.requires.a.each c.loop-at.at (kept_at kept c.loop-at.at) within (kept_at-is kept c.loop-at.at within) is

pub same_step-requires-clause-b : goal.same_step-requires-clause-b
same_step-requires-clause-b c =
    let kept = c.args.b.now in
    let within : c.loop-at.at < length kept = omega arith in
    λ is. read-stored c.args.b_constants.now kept c.requires.b.each c.loop-at.at (kept_at kept c.loop-at.at) within (kept_at-is kept c.loop-at.at within) is

abbrev no_clause : Step
no_clause = record { op = X; a = 0; b = 0; value = pos 0 }

-- the steps at a place
module _ (constants : List ℤ) (kept : List PackedStep) (at : ℕ) (within : at < length kept) where
  listed : unpacked constants (kept_at kept at) ≡ step_at (map (unpacked constants) kept) at
  listed = step_at-unpacked constants kept at (kept_at kept at) within (kept_at-is kept at within)

pub returns-then-not-same_step : goal.returns-then-not-same_step
returns-then-not-same_step c =
    let at = c.loop-at.at in
    let in_a : at < length c.args.a.now = omega arith in
    let in_b : at < length c.args.b.now = omega arith in (
      λ no. absurd (false≢true no),
      λ alike. sym c.if-not-same_step.true
          ∙ c.same_step.ensures.1 (listed c.args.a_constants.now c.args.a.now at in_a ∙ ap (λ steps. step_at steps at) alike ∙ sym (listed c.args.b_constants.now c.args.b.now at in_b)),
    )

pub loop-at-preserved : goal.loop-at-preserved
loop-at-preserved c =
    let at = c.loop-at.at in
    let in_a : at < length c.args.a.now = omega arith in
    let in_b : at < length c.args.b.now = omega arith in
    below_more _ _ c.loop-at.invariant
    (sym (listed c.args.a_constants.now c.args.a.now at in_a) ∙ c.same_step.ensures.0 c.if-not-same_step.false ∙ listed c.args.b_constants.now c.args.b.now at in_b)

pub returns : goal.returns
returns c =
    let left = map (unpacked c.args.a_constants.now) c.args.a.now in
    let right = map (unpacked c.args.b_constants.now) c.args.b.now in
    let a_long : length left ≡ length c.args.a.now = length-map c.args.a.now (unpacked c.args.a_constants.now) in
    let b_long : length right ≡ length c.args.b.now = length-map c.args.b.now (unpacked c.args.b_constants.now) in
    (λ yes. ext_get_or no_clause left right (a_long ∙ c.if-a-b.false ∙ sym b_long) (λ k below. c.loop-at.invariant k (omega (arith, below, a_long, c.loop-at-test.false))), λ alike. refl)
