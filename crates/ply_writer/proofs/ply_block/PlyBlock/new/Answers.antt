-- The block is whole.
use Rattle.std.proofs.Common.{arith}
use Rattle.ply_writer.proofs.ply_block.PlyBlock.new.Goals as goal

pub invariant_of-result : goal.invariant_of-result
invariant_of-result c = record {
  full = omega (arith, c.in_ok-block.ensures.len);
  within = omega arith;
  points = rw (c.in_ok-places.ensures.ok, c.new.ensures) c.in_ok-texts.ensures;
  written = c.in_ok-triples.ensures;
}
