use Rattle.std.proofs.Common.{◌≡◌, ◌-◌, ◌*◌, ◌≤◌, length}
use Rattle.fixed_ops.specs.Counts.{RisesBy, points_of}
use Rattle.quad_descent.specs.Scans.{IsTold, sample_count}
use Rattle.quad_descent.proofs.leaf.tell_groups.Given as goal

abbrev pub invariant-loop-scan : goal.invariant-loop-scan
invariant-loop-scan g l = record {
  told : IsTold l.places.view l.places.lattice l.list l.b l.scan;
  whole : l.scan.told ≤ sample_count l.b;
  onward : l.fn.scan.told ≤ l.scan.told;
  room : length l.values ≡ length l.fn.values;
  counted : RisesBy l.fn.tally l.tally (points_of ((l.scan.told - l.fn.scan.told) * length l.list));
}

abbrev pub decreases-loop-scan : goal.decreases-loop-scan
decreases-loop-scan g l = sample_count l.b - l.scan.told
