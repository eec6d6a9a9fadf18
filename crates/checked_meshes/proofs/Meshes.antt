-- The text of the mesh of a model says a mesh that is found closed.
use Rattle.std.proofs.Common.{length, get_or, subst, sym}
use Rattle.std.specs.Prelude.{ℤ, All}
use Rattle.std.proofs.lemmas.List.{length-map}
use Rattle.std.proofs.lemmas.List.Elements.{All-map}
use Rattle.fixed_ops.specs.Points.{Point}
use Rattle.kuhn_cells.specs.Faces.{all_triangles, face_among, faces}
use Rattle.kuhn_cells.specs.Grids.{Grid, vertices}
use Rattle.mesh_laws.specs.Manifold.{IsManifold}
use Rattle.model_frames.specs.Meshes.{grid_of, mesh_text}
use Rattle.ply_writer.specs.Ply.{ply_of}
use Rattle.solid_model.specs.Values.{solid_value}
use Rattle.tetra_mesh.specs.Cuts.{mesh_of, vertex_of}
use Rattle.checked_meshes.specs.ModelTexts.{MeshTextsCheck}
use Rattle.checked_meshes.specs.Readings.{HasCornersBelow, SaysMesh}
use Rattle.kuhn_cells.proofs.FaceLaws.{numbers_are_places, triangles_have_vertices}
use Rattle.ply_check.proofs.VerdictLaws.{verdicts_are_exact}
use Rattle.tetra_mesh.proofs.SoundLaws.{grid_meshes_are_sound}
use Rattle.checked_meshes.proofs.Texts.{written_read}
use Rattle.model_frames.proofs.MeshLaws.{solid_faces, solid_vertices}
use Rattle.model_frames.proofs.GridLaws.{grid_bordered}

-- ---- the mesh of the grid of a model

corners_below : (g : Grid) → All (HasCornersBelow (length (vertices g))) (faces g)
unfolding faces
corners_below g =
    All-map (HasCornersBelow (length (vertices g))) (face_among (vertices g)) (all_triangles g) (λ k d less.
    let triangle = get_or (all_triangles g) k d in
    let edges = triangles_have_vertices g k d less in
    record {
      a = (numbers_are_places g triangle.a triangle.a edges.a).0;
      b = (numbers_are_places g triangle.b triangle.b edges.b).0;
      c = (numbers_are_places g triangle.c triangle.c edges.c).0;
    })

pub texts_check : MeshTextsCheck
unfolding mesh_text
texts_check view clauses model window fits =
    let value : Point → ℤ = λ p. solid_value p clauses in
    let g = grid_of view value in
    let mesh = mesh_of g in
    let border = grid_bordered view value in
    let as_many = length-map (vertices g) (vertex_of g) in
    let is_sound = grid_meshes_are_sound g border in
    let below = corners_below g in
    record {
      says = subst (λ n. SaysMesh (ply_of view mesh.vertices mesh.faces) n (faces g)) as_many
          (written_read view mesh.vertices mesh.faces (solid_vertices view value window) (solid_faces view value window) (subst (λ n. All (HasCornersBelow n) (faces g)) (sym as_many) below));
      closed = (verdicts_are_exact (length (vertices g)) (faces g)).1 (is_sound.closed, subst (λ n. IsManifold n (faces g)) as_many is_sound.manifold);
    }
