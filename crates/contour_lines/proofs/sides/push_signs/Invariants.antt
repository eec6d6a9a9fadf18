use Rattle.contour_lines.specs.Signs.{AreRows, signs_by}
use Rattle.contour_lines.proofs.sides.push_signs.Given as goal

abbrev pub invariant-loop-x : goal.invariant-loop-x
invariant-loop-x l = AreRows l.nx (signs_by l.nx l.sides) 0 l.y l.x l.signs.items
