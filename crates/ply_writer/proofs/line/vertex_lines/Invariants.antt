use Rattle.std.proofs.Common.{◌≡◌, ◌+◌, ◌-◌, ◌*◌, ◌≤◌, ◌++◌, drop, length}
use Rattle.std.specs.List.{flat_map}
use Rattle.ply_writer.specs.Ply.{vertex_line}
use Rattle.ply_writer.proofs.line.vertex_lines.Given as goal

abbrev pub invariant-loop-i : goal.invariant-loop-i
invariant-loop-i l = record {
  room : l.i * 69 ≤ l.start;
  few : l.end ≤ l.start + 69 * (length l.vertices - l.i);
  before : l.start ≤ l.end;
  full : length l.block ≡ length l.fn.block;
  lines : drop l.start l.block ≡ flat_map (vertex_line l.places) (drop l.i l.vertices) ++ drop l.end l.fn.block;
}
