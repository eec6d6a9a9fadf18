-- One more tetrahedron.
use Rattle.std.proofs.Common.{◌≡◌, arith, ◌∙◌}
use Rattle.tetra_mesh.proofs.TriangleLaws.{shape_more, shape_whole}
use Rattle.tetra_mesh.proofs.shapes.put_triples.Goals as goal

pub loop-tetra-preserved : goal.loop-tetra-preserved
loop-tetra-preserved c =
    shape_more c.args.signs c.loop-tetra.tetra c.loop-tetra.triples.items c.extend_from_slice.new.self.items c.as_slice.result.now c.loop-tetra.invariant c.in_ok-extend_from_slice.ensures.items (c.as_slice.ensures.value ∙ c.triangles.ensures)

pub returns : goal.returns
returns c =
    let six : c.loop-tetra.tetra ≡ 6 = omega arith in
    c.loop-tetra.invariant ∙ shape_whole c.args.signs c.loop-tetra.tetra six
