use Rattle.std.proofs.Common.{◌≡◌, ◌+◌, ◌-◌, ◌*◌, ◌≤◌, ◌++◌, drop, length}
use Rattle.std.specs.List.{flat_map}
use Rattle.ply_writer.specs.Ply.{face_line}
use Rattle.ply_writer.proofs.line.face_lines.Given as goal

abbrev pub invariant-loop-i : goal.invariant-loop-i
invariant-loop-i l = record {
  room : l.i * 35 ≤ l.start;
  few : l.end ≤ l.start + 35 * (length l.faces - l.i);
  before : l.start ≤ l.end;
  full : length l.block ≡ length l.fn.block;
  lines : drop l.start l.block ≡ flat_map face_line (drop l.i l.faces) ++ drop l.end l.fn.block;
}
