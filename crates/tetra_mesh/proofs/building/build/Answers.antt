-- The parts of the cells are those of the grid's mixed cells.
use Rattle.std.proofs.Common.{ap, arith, length}
use Rattle.view_places.specs.Window.{size_of}
use Rattle.tetra_mesh.proofs.GridLaws.{are_few, parts_of_grid}
use Rattle.tetra_mesh.proofs.building.build.Goals as goal

pub parts-requires : goal.parts-requires
parts-requires c =
    let few = are_few (size_of c.args.view.now) c.args.cells.now c.requires.cells.0 c.requires.fits.all c.requires.cells.1 in
    let listed = ap length c.deref.ensures.value in
    omega (arith, few, listed)

pub mesh_of_parts-requires-clause-parts : goal.mesh_of_parts-requires-clause-parts
mesh_of_parts-requires-clause-parts c =
    let have = c.in_ok-vertices.ensures in
    (c.requires.cells.0, parts_of_grid (size_of c.args.view.now) c.args.cells.now _ c.requires.cells.0 _ _ c.requires.cells.1 c.deref.ensures.value have.vertices have.sides)

pub returns-clause-mesh : goal.returns-clause-mesh
returns-clause-mesh c g is =
    let have = c.in_ok-vertices.ensures in
    c.mesh_of_parts.ensures.mesh g (parts_of_grid (size_of c.args.view.now) c.args.cells.now _ g _ _ is c.deref.ensures.value have.vertices have.sides)

pub returns-clause-sound : goal.returns-clause-sound
returns-clause-sound c g is =
    let have = c.in_ok-vertices.ensures in
    c.mesh_of_parts.ensures.sound g (parts_of_grid (size_of c.args.view.now) c.args.cells.now _ g _ _ is c.deref.ensures.value have.vertices have.sides)
