use Rattle.std.proofs.Common.{◌≡◌, ◌+◌, ◌-◌, ◌++◌}
use Rattle.arrayvec.specs.ArrayVec.{array_vec_len}
use Rattle.height_map.specs.Layers.{columns_in}
use Rattle.height_map.proofs.leaf.push_row.Given as goal

abbrev pub invariant-loop-i : goal.invariant-loop-i
invariant-loop-i l = record {
  len : array_vec_len l.columns ≡ array_vec_len l.fn.columns + (l.i - l.fn.b.x0);
  items : l.columns.items ≡ l.fn.columns.items ++ columns_in l.w (record l.fn.b { x1 = l.i }) l.j;
}
