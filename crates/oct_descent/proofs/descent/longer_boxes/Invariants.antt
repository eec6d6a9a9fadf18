use Rattle.std.proofs.Common.{◌≡◌, ◌≤◌, take}
use Rattle.arrayvec.specs.ArrayVec.{array_vec_len}
use Rattle.oct_descent.specs.Asked.{longer}
use Rattle.oct_descent.specs.Kinds.{mesh}
use Rattle.oct_descent.proofs.descent.longer_boxes.Given as goal

abbrev pub invariant-loop-b : goal.invariant-loop-b
invariant-loop-b l = record {
  room : array_vec_len l.asked ≤ l.b-index;
  items : l.asked.items ≡ longer mesh l.n (take l.b-index l.boxes);
}
