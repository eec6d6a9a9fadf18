use Rattle.std.proofs.Common.{◌≡◌, ◌-◌, ◌*◌, ◌≤◌, length, take}
use Rattle.fixed_ops.specs.Counts.{RisesBy, points_of}
use Rattle.contour_lines.specs.Gaps.{Fills}
use Rattle.contour_lines.specs.Tables.{known_of}
use Rattle.contour_lines.specs.Ways.{flat_value}
use Rattle.contour_lines.proofs.gaps.fill_gaps.Given as goal

abbrev pub invariant-loop-at : goal.invariant-loop-at
invariant-loop-at l = record {
  within : l.at ≤ length l.gaps;
  room : length l.rows ≡ length l.fn.rows;
  fills : Fills (flat_value l.places.view l.list) (take l.at l.gaps) (known_of l.fn.values) (known_of l.values);
  counted : RisesBy l.fn.tally l.tally (points_of (l.at * length l.list));
}

abbrev pub decreases-loop-at : goal.decreases-loop-at
decreases-loop-at l = length l.gaps - l.at
