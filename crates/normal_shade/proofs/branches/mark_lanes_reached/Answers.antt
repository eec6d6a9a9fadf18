use Rattle.std.proofs.Common.{ap, arith, length, subst}
use Rattle.choice_trace.specs.Lanes.{number_at}
use Rattle.live_clauses.specs.Marks.{AreMarks}
use Rattle.normal_shade.specs.Branches.{branches_of}
use Rattle.normal_shade.proofs.Reached.{branches-length, marks-reach}
use Rattle.normal_shade.proofs.branches.mark_lanes_reached.Goals as goal

pub mark_rows-requires-clause-enough : goal.mark_rows-requires-clause-enough
mark_rows-requires-clause-enough c = λ l h. omega (arith, branches-length c.again-steps.result (number_at l c.args.values.now), ap length c.again-steps.ensures.steps)

pub returns : goal.returns
returns c = λ l p h asked values.
    marks-reach p c.args.list.now c.again-steps.ensures.tape l (number_at l c.args.values.now) c.mark_rows.new.marks values
    (subst (λ s. AreMarks l c.args.list.now (branches_of s (number_at l c.args.values.now)) c.mark_rows.new.marks) c.again-steps.ensures.steps (c.mark_rows.ensures l h asked))
