-- The triangles at the place of the signs.
use Rattle.std.proofs.Common.{◌≡◌, ◌+◌, ◌-◌, ◌<◌, ◌∙◌, ap, arith, length, refl, subst, sym}
use Rattle.std.specs.Prelude.{get_or}
use Rattle.std.proofs.lemmas.List.{get_or_read_under}
use Rattle.tetra_mesh.specs.Edges.{HasTriangles}
use Rattle.tetra_mesh.specs.Shapes.{shape_of}
use Rattle.tetra_mesh.proofs.TriangleLaws.{few_triangles}
use Rattle.tetra_mesh.proofs.shapes.Shapes.shape.Goals as goal

pub returns-clause-triangles : goal.returns-clause-triangles
returns-clause-triangles c =
    let made = c.requires.this in
    let shape = c.index-2.result.now in
    let shapes = c.args.self.now.shapes.items in
    let few : c.from.result < length c.args.self.now.places.items = omega (arith, c.ranges.signs, c.from.ensures, c.requires.made.room) in
    let read : c.index.result.now ≡ made.place + 1 =
    get_or_read_under c.args.self.now.places.items c.from.result _ c.index.result.now 0 c.index.ensures few refl ∙ ap (λ at. get_or c.args.self.now.places.items at 0) c.from.ensures ∙ made.at in
    let place : c.index.result.now - 1 ≡ made.place = omega (arith, read) in
    subst (HasTriangles (shape_of c.args.signs)) (sym (c.index-2.ensures ∙ ap (λ at. get_or shapes at shape) place)) (made.shape shape)

pub returns-clause-few : goal.returns-clause-few
returns-clause-few c = few_triangles c.args.signs
