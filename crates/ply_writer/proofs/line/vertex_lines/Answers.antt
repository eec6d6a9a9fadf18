-- Nothing is written at first.
use Rattle.std.proofs.Common.{length, refl, arith}
use Rattle.std.proofs.lemmas.List.{drop_all}
use Rattle.ply_writer.proofs.line.vertex_lines.Goals as goal

pub loop-i-init : goal.loop-i-init
loop-i-init c = record {
  room = omega (arith, c.requires.room);
  few = omega arith;
  before = omega arith;
  full = refl;
  lines = rw (drop_all (length c.args.vertices.now) c.args.vertices.now (omega arith)) refl;
}
