use Rattle.std.proofs.Common.{◌≡◌, ◌<◌, ◌^◌, length, subst}
use Rattle.std.specs.Prelude.{All}
use Rattle.live_clauses.specs.Steps.{IsTape, tape_value}
use Rattle.ply_writer.specs.Ply.{ply_of}
use Rattle.solid_model.specs.Values.{solid_value}
use Rattle.tetra_mesh.specs.Cuts.{mesh_of}
use Rattle.tetra_mesh.specs.Places.{IsPlaced}
use Rattle.model_frames.specs.Meshes.{grid_of, mesh_text}
use Rattle.model_frames.proofs.WorkLaws.{within-none}
use Rattle.model_frames.proofs.GridWork.{mesh_counted, mesh_plain, mesh_within}
use Rattle.model_frames.proofs.MeshLaws.{mesh_same, of_mesh, solid_faces, solid_placed, solid_text, solid_vertices}
use Rattle.model_frames.proofs.DescentLaws.{mesh_points_are_bounded}
use Rattle.model_frames.proofs.mesh.solid_mesh.Goals as goal

pub returns-in_err-list-clause-at_most : goal.returns-in_err-list-clause-at_most
returns-in_err-list-clause-at_most c = within-none c.args.tally.now _

pub returns-in_err-cells-clause-at_most : goal.returns-in_err-cells-clause-at_most
returns-in_err-cells-clause-at_most c =
    mesh_within c.args.tally.now c.mixed_cells.new.tally c.args.view.now c.args.model.now c.in_ok-list.list c.in_ok-list.ensures.live c.in_err-cells.ensures.at_most

pub returns-in_err-cells-clause-plain : goal.returns-in_err-cells-clause-plain
returns-in_err-cells-clause-plain c =
    mesh_plain c.args.tally.now c.mixed_cells.new.tally c.args.view.now c.args.model.now c.in_ok-list.list c.in_ok-list.ensures.live c.window_holds.ensures
    (subst IsTape c.list.view_is c.list.invariant) mesh_points_are_bounded
    (mesh_within c.args.tally.now c.mixed_cells.new.tally c.args.view.now c.args.model.now c.in_ok-list.list c.in_ok-list.ensures.live c.in_err-cells.ensures.at_most)

pub build_from-requires-clause-cells : goal.build_from-requires-clause-cells
build_from-requires-clause-cells c = (grid_of c.args.view.now (λ p. tape_value p c.in_ok-list.list), c.in_ok-cells.ensures.cells)

pub returns-clause-mesh : goal.returns-clause-mesh
returns-clause-mesh c =
    mesh_same c.build_from.result c.args.view.now c.args.model.now c.in_ok-list.list c.in_ok-list.ensures.value
    (c.build_from.ensures.mesh (grid_of c.args.view.now (λ p. tape_value p c.in_ok-list.list)) c.in_ok-cells.ensures.cells)

pub returns-clause-text : goal.returns-clause-text
returns-clause-text c =
    of_mesh c.build_from.result (mesh_of (grid_of c.args.view.now (λ p. solid_value p c.args.model.now))) (λ mesh. ply_of c.args.view.now mesh.vertices mesh.faces ≡ mesh_text c.args.view.now c.args.model.now)
    (mesh_same c.build_from.result c.args.view.now c.args.model.now c.in_ok-list.list c.in_ok-list.ensures.value
    (c.build_from.ensures.mesh (grid_of c.args.view.now (λ p. tape_value p c.in_ok-list.list)) c.in_ok-cells.ensures.cells))
    (solid_text c.args.view.now c.args.model.now)

pub returns-clause-placed : goal.returns-clause-placed
returns-clause-placed c =
    of_mesh c.build_from.result (mesh_of (grid_of c.args.view.now (λ p. solid_value p c.args.model.now))) (λ mesh. All (IsPlaced c.args.view.now) mesh.vertices)
    (mesh_same c.build_from.result c.args.view.now c.args.model.now c.in_ok-list.list c.in_ok-list.ensures.value
    (c.build_from.ensures.mesh (grid_of c.args.view.now (λ p. tape_value p c.in_ok-list.list)) c.in_ok-cells.ensures.cells))
    (solid_placed c.args.view.now (λ p. solid_value p c.args.model.now))

pub returns-clause-vertices : goal.returns-clause-vertices
returns-clause-vertices c =
    of_mesh c.build_from.result (mesh_of (grid_of c.args.view.now (λ p. solid_value p c.args.model.now))) (λ mesh. length mesh.vertices < 2 ^ 31)
    (mesh_same c.build_from.result c.args.view.now c.args.model.now c.in_ok-list.list c.in_ok-list.ensures.value
    (c.build_from.ensures.mesh (grid_of c.args.view.now (λ p. tape_value p c.in_ok-list.list)) c.in_ok-cells.ensures.cells))
    (solid_vertices c.args.view.now (λ p. solid_value p c.args.model.now) c.window_holds.ensures)

pub returns-clause-faces : goal.returns-clause-faces
returns-clause-faces c =
    of_mesh c.build_from.result (mesh_of (grid_of c.args.view.now (λ p. solid_value p c.args.model.now))) (λ mesh. length mesh.faces < 2 ^ 31)
    (mesh_same c.build_from.result c.args.view.now c.args.model.now c.in_ok-list.list c.in_ok-list.ensures.value
    (c.build_from.ensures.mesh (grid_of c.args.view.now (λ p. tape_value p c.in_ok-list.list)) c.in_ok-cells.ensures.cells))
    (solid_faces c.args.view.now (λ p. solid_value p c.args.model.now) c.window_holds.ensures)

pub returns-clause-at_most : goal.returns-clause-at_most
returns-clause-at_most c =
    mesh_within c.args.tally.now c.mixed_cells.new.tally c.args.view.now c.args.model.now c.in_ok-list.list c.in_ok-list.ensures.live c.in_ok-cells.ensures.at_most

pub returns-clause-plain : goal.returns-clause-plain
returns-clause-plain c =
    mesh_plain c.args.tally.now c.mixed_cells.new.tally c.args.view.now c.args.model.now c.in_ok-list.list c.in_ok-list.ensures.live c.window_holds.ensures
    (subst IsTape c.list.view_is c.list.invariant) mesh_points_are_bounded
    (mesh_within c.args.tally.now c.mixed_cells.new.tally c.args.view.now c.args.model.now c.in_ok-list.list c.in_ok-list.ensures.live c.in_ok-cells.ensures.at_most)

pub returns-clause-counted : goal.returns-clause-counted
returns-clause-counted c =
    mesh_counted c.build_from.result c.args.tally.now c.mixed_cells.new.tally c.args.view.now c.args.model.now c.in_ok-list.list c.in_ok-list.ensures.live c.in_ok-cells.ensures.at_most
    c.in_ok-cells.ensures.at_least c.in_ok-cells.ensures.traced
