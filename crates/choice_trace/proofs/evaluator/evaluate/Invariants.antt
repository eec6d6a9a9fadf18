use Rattle.std.proofs.Common.{◌≡◌, drop, length}
use Rattle.fixed_ops.specs.Counts.{RisesWithin, no_counts, times}
use Rattle.fixed_ops.specs.Points.{Point}
use Rattle.live_clauses.specs.Steps.{values}
use Rattle.choice_trace.specs.Meaning.{StandForPoint}
use Rattle.choice_trace.proofs.Elements.{AreRead}
use Rattle.choice_trace.proofs.evaluator.evaluate.Given as goal

abbrev pub invariant-loop-at : goal.invariant-loop-at
invariant-loop-at g l = let d = g.D.Domain in record {
  read : (p : Point) → StandForPoint d.stands_for l.inputs p → AreRead d.stands_for l.inputs.x l.regs (values p l.steps) l.at;
  rest : drop (length l.steps) l.regs ≡ drop (length l.steps) l.fn.regs;
  counted : RisesWithin no_counts l.work (times l.at d.least) (times l.at d.most);
}
