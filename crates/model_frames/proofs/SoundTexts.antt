-- The text of the mesh of a solid is that of a sound mesh.
use Rattle.std.proofs.Common.{◌≡◌, ◌≢◌, ℕ, ℤ, List, ◌++◌, append_assoc, get_or, refl, sym, ◌∙◌}
use Rattle.std.specs.Prelude.{AllPairs, codes}
use Rattle.fixed_ops.specs.NumberTexts.{number_text}
use Rattle.fixed_ops.specs.Points.{Point}
use Rattle.mesh_laws.specs.Places.{place_line}
use Rattle.ply_writer.specs.Ply.{vertex_line}
use Rattle.solid_model.specs.Values.{solid_value}
use Rattle.tetra_mesh.specs.declared.vertex.Vertex.{Vertex}
use Rattle.tetra_mesh.specs.Cuts.{mesh_of}
use Rattle.tetra_mesh.specs.Places.{vertex_place}
use Rattle.tetra_mesh.specs.Sound.{raw_of}
use Rattle.tetra_mesh.specs.SoundLaws.{IsGridOf}
use Rattle.view_places.specs.declared.lattice.Axis.TheVariants.{X, Y, Z}
use Rattle.view_places.specs.Window.{Window}
use Rattle.model_frames.specs.Meshes.{grid_of, mesh_text}
use Rattle.model_frames.specs.SoundTexts.{MeshTextsAreSound}
use Rattle.model_frames.proofs.GridLaws.{grid_bordered}
use Rattle.tetra_mesh.proofs.SoundLaws.{grid_meshes_are_sound, grid_meshes_lie_apart}

-- the line of a vertex is that of its raw place
pub parts_joined : (a s b t c e : List ℕ) → ((((a ++ s) ++ b) ++ t) ++ c) ++ e ≡ a ++ (s ++ (b ++ (t ++ (c ++ e))))
parts_joined a s b t c e = simp append_assoc

line_same : (view : Window) (v : Vertex) → vertex_line view v ≡ place_line (raw_of view v)
line_same view v =
    parts_joined (number_text (vertex_place view v X)) (codes " ") (number_text (vertex_place view v Y)) (codes " ") (number_text (vertex_place view v Z)) (codes "\n")

lines_apart : (view : Window) (vs : List Vertex) → AllPairs (λ u v. place_line (raw_of view u) ≢ place_line (raw_of view v)) vs
    → AllPairs (λ u v. vertex_line view u ≢ vertex_line view v) vs
lines_apart view vs apart i j d less within same =
    apart i j d less within (sym (line_same view (get_or vs i d)) ∙ same ∙ line_same view (get_or vs j d))

pub texts_are_sound : MeshTextsAreSound
unfolding grid_of mesh_text
texts_are_sound view clauses window fits =
    let value : Point → ℤ = λ p. solid_value p clauses in
    let g = grid_of view value in
    let border = grid_bordered view value in
    let of_view : IsGridOf view g = record { x = refl; y = refl; z = refl } in
    let lie = grid_meshes_lie_apart view g window fits of_view border in
    record { mesh = mesh_of g; «is» = refl; text_is = refl; sound = grid_meshes_are_sound g border; places = lie.raw; lines = lines_apart view (mesh_of g).vertices lie.lines }
