-- The triangles of a cell are those of the cell at the origin, moved.
use Rattle.std.proofs.Common.{◌≡◌, ℕ, ◌<◌, ◌++◌, arith, ap, length, map, refl, ◌∙◌}
use Rattle.std.specs.Prelude.{get_or}
use Rattle.kuhn_cells.specs.Laws.{OfEdges}
use Rattle.tetra_mesh.specs.Edges.{face_by, no_edge}
use Rattle.tetra_mesh.specs.Numbering.{IsKept, face_in, number_in}
use Rattle.tetra_mesh.specs.Shapes.{moved, moved_triple, shape_of}
use Rattle.tetra_mesh.proofs.EdgeLaws.{edges_kept, faces_by}
use Rattle.tetra_mesh.proofs.TriangleLaws.{all_moved, faces_moved}
use Rattle.tetra_mesh.proofs.faces.push_faces.Goals as goal

pub find_numbers-requires-clause-kept : goal.find_numbers-requires-clause-kept
find_numbers-requires-clause-kept c =
    let cell = c.args.cell.now in
    let ts = shape_of cell.signs in
    rw c.as_slice.ensures.value
    (edges_kept c.args.n cell ts c.shape-shape.result.now.edges.items c.shape-shape.ensures.triangles.own (all_moved (OfEdges (IsKept c.args.n)) cell ts refl c.requires.kept))

pub returns : goal.returns
returns c =
    let cell = c.args.cell.now in
    let ts = shape_of cell.signs in
    let shape = c.shape-shape.result.now in
    let f = face_in c.args.n c.args.slots.now in
    let has = c.shape-shape.ensures.triangles in
    let are : (i : ℕ) → i < length shape.edges.items → get_or c.find_numbers.new.numbers i 0 ≡ number_in c.args.n c.args.slots.now (moved cell (get_or shape.edges.items i no_edge)) =
    λ i less. rw (← c.as_slice.ensures.value) (c.find_numbers.ensures i (omega (arith, less, ap length c.as_slice.ensures.value))) in
    c.push_triangles.ensures
    ∙ ap (λ l. c.args.faces.now.items ++ l)
    (ap (map (face_by c.find_numbers.new.numbers)) c.as_slice-2.ensures.value
    ∙ faces_by c.args.n c.args.slots.now cell shape.edges.items c.find_numbers.new.numbers shape.triangles.items are has.places
    ∙ ap (map (λ t. f (moved_triple cell t))) has.triangles
    ∙ faces_moved f cell ts refl)
