use Rattle.std.proofs.Common.{◌≤◌, ℕ, ℤ, ap, arith, length, refl, subst}
use Rattle.live_clauses.specs.Marks.{AreMarks}
use Rattle.normal_shade.specs.Branches.{branches_of}
use Rattle.normal_shade.specs.Duals.{dual_in}
use Rattle.normal_shade.proofs.Reached.{branches-length, marks-reach}
use Rattle.normal_shade.proofs.branches.mark_reached.Goals as goal

pub mark_rows-requires-clause-enough : goal.mark_rows-requires-clause-enough
mark_rows-requires-clause-enough c = λ l h.
    let enough : length c.args.list.now ≤ length (branches_of c.again-steps.result (λ place. (dual_in place c.args.duals.now).value)) =
    omega (arith, branches-length c.again-steps.result (λ place. (dual_in place c.args.duals.now).value), ap length c.again-steps.ensures.steps) in
    enough

pub returns : goal.returns
returns c = λ p values.
    let value : ℕ → ℤ = λ place. (dual_in place c.args.duals.now).value in
    marks-reach p c.args.list.now c.again-steps.ensures.tape 0 value c.mark_rows.new.marks values
    (subst (λ s. AreMarks 0 c.args.list.now (branches_of s value) c.mark_rows.new.marks) c.again-steps.ensures.steps (c.mark_rows.ensures 0 (omega arith) refl))
