use Rattle.std.proofs.Common.{◌≡◌, ◌≤◌, take}
use Rattle.std.specs.List.{filter}
use Rattle.arrayvec.specs.ArrayVec.{array_vec_len}
use Rattle.box_descent.specs.Looked.{looked}
use Rattle.box_descent.proofs.wanted.wanted_among.Given as goal

abbrev pub invariant-loop-n : goal.invariant-loop-n
invariant-loop-n g l = record {
  few : array_vec_len l.kept ≤ l.n;
  items : l.kept.items ≡ filter (g.V.Visitor.meaning.wanted (looked g.V.Visitor.meaning.plan l.fn.desk) l.fn.visitor) (take l.n l.fn.boxes);
}
