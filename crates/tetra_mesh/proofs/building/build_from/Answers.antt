-- The parts of the cells are those of the grid's mixed cells.
use Rattle.std.proofs.Common.{refl}
use Rattle.view_places.specs.Window.{size_of}
use Rattle.tetra_mesh.proofs.GridLaws.{are_few, parts_of_grid}
use Rattle.tetra_mesh.proofs.building.build_from.Goals as goal

pub parts_of-requires : goal.parts_of-requires
parts_of-requires c = are_few (size_of c.args.view.now) c.args.cells c.requires.cells.0 c.requires.fits.all c.requires.cells.1

pub mesh_of_parts-requires-clause-parts : goal.mesh_of_parts-requires-clause-parts
mesh_of_parts-requires-clause-parts c =
    let have = c.in_ok-vertices.ensures in
    (c.requires.cells.0, parts_of_grid (size_of c.args.view.now) c.args.cells _ c.requires.cells.0 _ _ c.requires.cells.1 refl have.vertices have.sides)

pub returns-clause-mesh : goal.returns-clause-mesh
returns-clause-mesh c g is =
    let have = c.in_ok-vertices.ensures in
    c.mesh_of_parts.ensures.mesh g (parts_of_grid (size_of c.args.view.now) c.args.cells _ g _ _ is refl have.vertices have.sides)

pub returns-clause-sound : goal.returns-clause-sound
returns-clause-sound c g is =
    let have = c.in_ok-vertices.ensures in
    c.mesh_of_parts.ensures.sound g (parts_of_grid (size_of c.args.view.now) c.args.cells _ g _ _ is refl have.vertices have.sides)
