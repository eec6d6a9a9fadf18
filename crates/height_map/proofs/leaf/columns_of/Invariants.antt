use Rattle.std.proofs.Common.{◌≡◌, ◌-◌, ◌*◌, ◌≤◌}
use Rattle.arrayvec.specs.ArrayVec.{array_vec_len}
use Rattle.height_map.specs.Layers.{columns_of}
use Rattle.height_map.proofs.leaf.columns_of.Given as goal

abbrev pub invariant-loop-j : goal.invariant-loop-j
invariant-loop-j l = record {
  few : array_vec_len l.columns ≤ (l.j - l.fn.b.y0) * 8;
  items : l.columns.items ≡ columns_of l.w (record l.fn.b { y1 = l.j });
}
