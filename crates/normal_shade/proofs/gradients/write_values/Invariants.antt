use Rattle.std.proofs.Common.{◌≡◌, drop, length}
use Rattle.fixed_ops.specs.Slopes.{Sloped, flat}
use Rattle.live_clauses.specs.Steps.{values}
use Rattle.choice_trace.proofs.Elements.{AreRead}
use Rattle.normal_shade.proofs.gradients.write_values.Given as goal

abbrev pub invariant-loop-at : goal.invariant-loop-at
invariant-loop-at l = record {
  read : AreRead (λ (d : Sloped) v. d.value ≡ v) flat l.duals (values (record { x = l.x; y = l.y; z = l.z }) l.steps) l.at;
  rest : drop (length l.steps) l.duals ≡ drop (length l.steps) l.fn.duals;
}
