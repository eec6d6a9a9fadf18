-- Each line has a byte at least.
use Rattle.std.proofs.Common.{◌≡◌, length, length-append, drop, arith}
use Rattle.std.specs.List.{flat_map}
use Rattle.std.proofs.lemmas.List.{take_at}
use Rattle.ply_writer.specs.Ply.{vertex_line}
use Rattle.ply_writer.proofs.PieceLaws.{vertex_lines_long}
use Rattle.ply_writer.proofs.ply_block.PlyBlock.put_vertices.Goals as goal

pub returns-clause-more : goal.returns-clause-more
returns-clause-more c =
    let kept : length c.vertex_lines-self-inside.new.block ≡ c.self.inside.block.len = grind arith in
    rw (take_at c.vertex_lines-self-inside.new.block _ c.self.inside.block.len kept, c.vertex_lines-self-inside.ensures.lines, c.deref_mut.ensures.value, ← c.self.view_is)
    (omega (arith, length-append (flat_map (vertex_line c.deref.result.now) c.args.vertices.now) (drop c.self.inside.start c.self.inside.block.items), vertex_lines_long c.deref.result.now c.args.vertices.now))
