-- The marks of both operands are what the step hands on.
use Rattle.std.proofs.Common.{ℕ, Bool, ◌≡◌, ◌&&◌, ◌||◌, ◌<◌, true, false, ltb, eqb, ap, ◌∙◌}
use Rattle.fixed_ops.specs.Arity.{arity_of}
use Rattle.interval_ops.specs.declared.choice.Choice.{Choice}
use Rattle.live_clauses.specs.declared.packed_step.PackedStep.{PackedStep}
use Rattle.live_clauses.specs.Choices.{choice_in, has_bit}
use Rattle.live_clauses.specs.Live.{chosen}
use Rattle.live_clauses.specs.Packed.{first_of}
use Rattle.live_clauses.proofs.Bits.{handed, has_bit-and}
use Rattle.live_clauses.proofs.MarkTurns.{marks-both}
use Rattle.live_clauses.proofs.Walks.{first-index}
use Rattle.live_clauses.proofs.marking.visit.Goals as goal

-- what the two operands are asked for
asked-for : (step : PackedStep) (choice : Choice) (operands a place : ℕ) (needed first second one two : Bool) → operands ≡ arity_of step.op → a ≡ first_of step
    → first ≡ chosen choice true false (ltb 0 operands) → second ≡ chosen choice false true (ltb 1 operands) → one ≡ (needed && first) → two ≡ (needed && second)
    → ((one && eqb place a) || (two && eqb place step.b)) ≡ (needed && chosen choice (eqb place (first_of step)) (eqb place step.b) ((ltb 0 (arity_of step.op) && eqb place (first_of step)) || (ltb 1 (arity_of step.op) && eqb place step.b)))
asked-for step choice operands a place needed first second one two is a_is first_is second_is one_is two_is =
    ap (λ b. (b && eqb place a) || (two && eqb place step.b)) (one_is ∙ ap (λ b. needed && b) first_is)
    ∙ ap (λ b. ((needed && chosen choice true false (ltb 0 operands)) && eqb place a) || (b && eqb place step.b)) (two_is ∙ ap (λ b. needed && b) second_is)
    ∙ handed choice (ltb 0 operands) (ltb 1 operands) (eqb place a) (eqb place step.b) needed
    ∙ ap (λ n. needed && chosen choice (eqb place n) (eqb place step.b) ((ltb 0 operands && eqb place n) || (ltb 1 operands && eqb place step.b))) a_is
    ∙ ap (λ n. needed && chosen choice (eqb place (first_of step)) (eqb place step.b) ((ltb 0 n && eqb place (first_of step)) || (ltb 1 n && eqb place step.b))) is

pub returns : goal.returns
returns c = λ constants l within.
    let eight : l < 8 = within in
    let a_is : c.kept_if-a.result ≡ first_of c.args.step.now = c.kept_if-a.ensures ∙ first-index c.args.step.now c.arity-operands.result c.arity-operands.ensures c.requires.none in
    marks-both l c.args.marks.now c.mark_in.new.marks c.mark_in-2.new.marks _ _ _ (c.mark_in.ensures l within) (c.mark_in-2.ensures l within)
    (λ place. asked-for c.args.step.now (choice_in c.args.row l) c.arity-operands.result c.kept_if-a.result place (has_bit c.args.asked l) (has_bit c.first.result l) (has_bit c.second.result l) _ _
    c.arity-operands.ensures a_is (c.first.ensures l eight) (c.second.ensures l eight) (has_bit-and c.args.asked c.first.result l) (has_bit-and c.args.asked c.second.result l))
