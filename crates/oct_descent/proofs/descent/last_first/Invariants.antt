use Rattle.std.proofs.Common.{◌≡◌, ◌+◌, ◌≤◌, drop, length, reverse}
use Rattle.arrayvec.specs.ArrayVec.{array_vec_len}
use Rattle.oct_descent.proofs.descent.last_first.Given as goal

-- the boxes from a place on, from the last one
abbrev pub invariant-loop-at : goal.invariant-loop-at
invariant-loop-at l = record {
  room : array_vec_len l.turned + l.at ≤ length l.boxes;
  items : l.turned.items ≡ reverse (drop l.at l.boxes);
}
