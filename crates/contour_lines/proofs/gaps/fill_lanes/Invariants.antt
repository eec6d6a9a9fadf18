use Rattle.std.proofs.Common.{take}
use Rattle.contour_lines.specs.Gaps.{Fills}
use Rattle.contour_lines.specs.Tables.{known_of}
use Rattle.contour_lines.specs.Ways.{flat_value}
use Rattle.contour_lines.proofs.gaps.fill_lanes.Given as goal

abbrev pub invariant-loop-lane : goal.invariant-loop-lane
invariant-loop-lane g l = Fills (flat_value l.places.view l.list) (take l.lane l.gaps) (known_of l.fn.values) (known_of l.values)
