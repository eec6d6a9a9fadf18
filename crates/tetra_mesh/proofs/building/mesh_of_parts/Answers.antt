-- The mixed cells of the grid suffice.
use Rattle.std.proofs.Common.{subst, sym}
use Rattle.kuhn_cells.specs.Cells.{mixed_cells}
use Rattle.kuhn_cells.specs.Sizes.{IsBounded}
use Rattle.view_places.specs.Window.{size_of}
use Rattle.tetra_mesh.specs.Sound.{IsSound, LieApart}
use Rattle.tetra_mesh.proofs.GridLaws.{are_cells, mesh_is}
use Rattle.tetra_mesh.proofs.SideLaws.{sides_as}
use Rattle.tetra_mesh.proofs.SoundLaws.{grid_meshes_are_sound, grid_meshes_lie_apart}
use Rattle.tetra_mesh.proofs.building.mesh_of_parts.Goals as goal

pub faces_of-requires : goal.faces_of-requires
faces_of-requires c =
    let n = size_of c.args.view.now in
    let g = c.requires.parts.0 in
    let is = c.requires.parts.1 in
    let size = c.grid.ensures.size in
    let bounded = subst IsBounded size (c.grid.ensures.bounded c.requires.fits) in
    let cells = are_cells n g c.args.vertices.items c.args.sided.items bounded is in
    (mixed_cells g, sides_as (mixed_cells g) c.args.sided.items n c.grid.result (sym size) (record { mixed = cells; sides = is.sides }))

pub returns-clause-mesh : goal.returns-clause-mesh
returns-clause-mesh c g is =
    let n = size_of c.args.view.now in
    let size = c.grid.ensures.size in
    let bounded = subst IsBounded size (c.grid.ensures.bounded c.requires.fits) in
    let cells = are_cells n g c.args.vertices.items c.args.sided.items bounded is in
    let are = sides_as (mixed_cells g) c.args.sided.items n c.grid.result (sym size) (record { mixed = cells; sides = is.sides }) in
    mesh_is n g c.args.vertices.items c.args.sided.items c.in_ok-faces.faces.items is (c.in_ok-faces.ensures (mixed_cells g) are)

pub returns-clause-sound : goal.returns-clause-sound
returns-clause-sound c g is =
    subst (IsSound g) (sym (returns-clause-mesh c g is)) (grid_meshes_are_sound g is.border)

pub returns-clause-apart : goal.returns-clause-apart
returns-clause-apart c =
    let g = c.requires.parts.0 in
    let is = c.requires.parts.1 in
    subst (λ m. LieApart c.args.view.now m.vertices) (sym (returns-clause-mesh c g is))
    (grid_meshes_lie_apart c.args.view.now g c.grid.ensures.window c.requires.fits (record { x = is.x; y = is.y; z = is.z }) is.border)
