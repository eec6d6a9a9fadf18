use Rattle.std.proofs.Common.{◌≡◌, ◌≤◌, map, take}
use Rattle.std.specs.List.{filter}
use Rattle.arrayvec.specs.ArrayVec.{array_vec_len}
use Rattle.box_descent.specs.Looked.{looked}
use Rattle.box_descent.specs.Plans.{asked, is_traced}
use Rattle.box_descent.proofs.children.asked_among.Given as goal

abbrev pub invariant-loop-n : goal.invariant-loop-n
invariant-loop-n l = record {
  few : array_vec_len l.asked ≤ l.n;
  items : l.asked.items ≡ map (asked l.plan (looked l.plan l.desk)) (filter (is_traced l.plan) (take l.n l.boxes));
}
