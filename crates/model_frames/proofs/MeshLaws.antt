-- The mesh of a grid may be written, and that of a solid is the one of its root list.
use Rattle.std.proofs.Common.{◌≡◌, ℕ, zero, suc, Ok, Err, sym, ◌+◌, ◌*◌, ◌^◌, ◌<◌, ◌≤◌, Bool, true, false, List, [], ◌∷◌, length, get_or, map, refl, subst, arith, mul-le-mul, if◌then◌else◌}
use Rattle.std.specs.Prelude.{ℤ, ◌==◌, ◌&&◌, nat_le, All, IfOk, Result, flat_map}
use Rattle.std.specs.List.{range_with_len}
use Rattle.std.proofs.lemmas.Bool.{and_parts, leb-true}
use Rattle.std.proofs.lemmas.List.{get_or_default, length-append, length-map}
use Rattle.std.proofs.lemmas.List.Elements.{All-map}
use Rattle.fixed_ops.specs.Points.{Point}
use Rattle.kuhn_cells.specs.declared.edge_key.EdgeKey.{EdgeKey}
use Rattle.kuhn_cells.specs.declared.triple.Triple.{Triple}
use Rattle.kuhn_cells.specs.Arrangement.{arrangement, inside_count, pattern_of}
use Rattle.kuhn_cells.specs.Faces.{all_triangles, cell_triangles, face_among, faces}
use Rattle.kuhn_cells.specs.Grids.{Grid, edges, is_inside_at, is_mixed, is_point, lower, over_block, upper, value_at, vertices}
use Rattle.kuhn_cells.specs.Laws.{IsVertex}
use Rattle.kuhn_cells.specs.Triangles.{GridPoint, edge_between, edge_from, further, point, triangles_by, triangles_in}
use Rattle.live_clauses.specs.Steps.{tape_value}
use Rattle.live_clauses.specs.declared.step.Step.{Step}
use Rattle.ply_writer.specs.Ply.{ply_of}
use Rattle.solid_model.specs.Values.{solid_value}
use Rattle.solid_model.specs.declared.clause.Clause.{Clause}
use Rattle.tetra_mesh.specs.Cuts.{mesh_of, vertex_of}
use Rattle.tetra_mesh.specs.Meshes.{Triangulation}
use Rattle.tetra_mesh.specs.Places.{IsPlaced}
use Rattle.view_places.specs.Window.{IsWindow, Window}
use Rattle.model_frames.specs.Meshes.{grid_of, mesh_text}
use Rattle.kuhn_cells.proofs.VertexLaws.{vertices_are_mixed_edges}
use Rattle.mesh_laws.proofs.Lattice.{way_is_share}
use Rattle.fixed_ops.proofs.Lists.{filter_length, flat_length}

-- ---- counts

flat_most : {A : Type 0} (f : ℕ → List A) (a n size : ℕ) → ((k : ℕ) → length (f k) ≤ size) → length (flat_map f (range_with_len a n)) ≤ n * size
flat_most f a zero size each = omega arith
flat_most f a (suc n) size each =
    omega (arith, length-append (f a) (flat_map f (range_with_len (a + 1) n)), each a, flat_most f (a + 1) n size each)

-- no more than so many things at each place of a small block
block_most : (n x y z size len : ℕ) → x ≤ n → y ≤ n → z ≤ n → len ≤ z * (y * (x * size)) → len ≤ n * (n * (n * size))
block_most n x y z size len fx fy fz few =
    let row : x * size ≤ n * size = mul-le-mul fx (omega arith) in
    let layer : y * (x * size) ≤ n * (n * size) = mul-le-mul fy row in
    let block : z * (y * (x * size)) ≤ n * (n * (n * size)) = mul-le-mul fz layer in
    omega (arith, few, block)

-- Seven edges go up from a point. So a grid of at most 512 cells along each axis has fewer than 2^31 vertices, though
-- it may have eight times as many cells as a mesh.
pub few_vertices : (g : Grid) → g.x ≤ 512 → g.y ≤ 512 → g.z ≤ 512 → length (mesh_of g).vertices < 2 ^ 31
unfolding vertices
few_vertices g fx fy fz =
    let at : GridPoint → List EdgeKey = λ p. map (edge_from p) (range_with_len 1 7) in
    let all = over_block (g.x + 1) (g.y + 1) (g.z + 1) at in
    let whole : length all ≡ (g.z + 1) * ((g.y + 1) * ((g.x + 1) * 7)) =
    flat_length _ 0 (g.z + 1) ((g.y + 1) * ((g.x + 1) * 7)) (λ z. flat_length _ 0 (g.y + 1) ((g.x + 1) * 7) (λ y. flat_length (λ x. at (point x y z)) 0 (g.x + 1) 7 (λ x. refl))) in
    let kept = filter_length (λ e. is_point g (upper e)) all in
    let mixed = filter_length (is_mixed (is_inside_at g)) (edges g) in
    let made = length-map (vertices g) (vertex_of g) in
    let most = block_most 513 (g.x + 1) (g.y + 1) (g.z + 1) 7 (length (vertices g)) (omega (arith, fx)) (omega (arith, fy)) (omega (arith, fz)) (omega (arith, whole, kept, mixed)) in
    omega (arith, made, most)

few_of : {A : Type 0} (one three two : Bool) (p q r s : A)
    → length {A = A} (if one then p ∷ [] else (if three then q ∷ [] else (if two then r ∷ s ∷ [] else []))) ≤ 2
few_of true three two p q r s = omega arith
few_of false true two p q r s = omega arith
few_of false false true p q r s = omega arith
few_of false false false p q r s = omega arith

-- a tetrahedron has at most two triangles
few_triangles : (cell : GridPoint) (tetra : ℕ) (pattern : List Bool) → length (triangles_by cell tetra pattern) ≤ 2
few_triangles cell tetra pattern =
    let count = inside_count pattern in
    let corners = arrangement tetra pattern in
    let edge = edge_between cell in
    let a = get_or corners 0 0 in
    let b = get_or corners 1 0 in
    let c = get_or corners 2 0 in
    let d = get_or corners 3 0 in
    few_of {A = Triple} (count == 1) (count == 3) (count == 2) (record { a = edge a b; b = edge a c; c = edge a d }) (record { a = edge a b; b = edge a d; c = edge a c })
    (record { a = edge a c; b = edge a d; c = edge b d }) (record { a = edge a c; b = edge b d; c = edge b c })

-- and a cell has at most twelve faces, so it has fewer than 2^31 of them
pub few_faces : (g : Grid) → g.x ≤ 512 → g.y ≤ 512 → g.z ≤ 512 → length (mesh_of g).faces < 2 ^ 31
unfolding faces all_triangles
few_faces g fx fy fz =
    let inside = is_inside_at g in
    let at : GridPoint → List Triple = cell_triangles inside in
    let tetra : (p : GridPoint) (t : ℕ) → length (triangles_in p t (λ c. inside (further p c))) ≤ 2 = λ p t. few_triangles p t (pattern_of (λ c. inside (further p c)) t) in
    let cell : (p : GridPoint) → length (at p) ≤ 12 = λ p. flat_most (λ t. triangles_in p t (λ c. inside (further p c))) 0 6 2 (tetra p) in
    let whole : length (all_triangles g) ≤ g.z * (g.y * (g.x * 12)) =
    flat_most _ 0 g.z (g.y * (g.x * 12)) (λ z. flat_most _ 0 g.y (g.x * 12) (λ y. flat_most (λ x. at (point x y z)) 0 g.x 12 (λ x. cell (point x y z)))) in
    let made = length-map (all_triangles g) (face_among (vertices g)) in
    let most = block_most 512 g.x g.y g.z 12 (length (all_triangles g)) fx fy fz whole in
    omega (arith, made, most)

-- ---- places

placed : (view : Window) (g : Grid) (e : EdgeKey) → g.x ≡ view.nx → g.y ≡ view.ny → g.z ≡ view.nz → IsVertex g e → IsPlaced view (vertex_of g e)
placed view g e sx sy sz v =
    let p = upper e in
    let x = and_parts (nat_le p.x g.x) (nat_le p.y g.y && nat_le p.z g.z) v.within in
    let yz = and_parts (nat_le p.y g.y) (nat_le p.z g.z) x.1 in
    let way = way_is_share (value_at g (lower e)) (value_at g (upper e)) in
    record {
      direction = v.direction;
      upper_end = record {
        x = omega (arith, leb-true p.x g.x x.0, sx);
        y = omega (arith, leb-true p.y g.y yz.0, sy);
        z = omega (arith, leb-true p.z g.z yz.1, sz);
      };
      some = way.some;
      few = way.few;
    }

-- each vertex of the mesh of a view's grid lies in that grid
pub all_placed : (view : Window) (g : Grid) → g.x ≡ view.nx → g.y ≡ view.ny → g.z ≡ view.nz → All (IsPlaced view) (mesh_of g).vertices
all_placed view g sx sy sz =
    All-map (IsPlaced view) (vertex_of g) (vertices g) (λ k d within.
    let e = get_or (vertices g) k d in
    placed view g e sx sy sz ((vertices_are_mixed_edges g e).0 (k, within, get_or_default (vertices g) k e d within)))

-- ---- solids

-- where a list has the solid's value, its grid is the solid's
pub grid_same : (view : Window) (clauses : List Clause) (list : List Step) → ((p : Point) → tape_value p list ≡ solid_value p clauses)
    → grid_of view (λ p. tape_value p list) ≡ grid_of view (λ p. solid_value p clauses)
grid_same view clauses list same = λ k. grid_of view (λ p. same p k)

-- and so is the mesh
pub mesh_same : {E : Type 0} (r : Result Triangulation E) (view : Window) (clauses : List Clause) (list : List Step)
    → ((p : Point) → tape_value p list ≡ solid_value p clauses) → IfOk r (λ mesh. mesh ≡ mesh_of (grid_of view (λ p. tape_value p list)))
    → IfOk r (λ mesh. mesh ≡ mesh_of (grid_of view (λ p. solid_value p clauses)))
mesh_same r view clauses list same = subst (λ g. IfOk r (λ mesh. mesh ≡ mesh_of g)) (grid_same view clauses list same)

-- what holds of a mesh holds of each one that is the same
pub of_mesh : {E : Type 0} (r : Result Triangulation E) (whole : Triangulation) (P : Triangulation → Type 0)
    → IfOk r (λ mesh. mesh ≡ whole) → P whole → IfOk r P
of_mesh (Ok mesh) whole P same holds = subst P (sym same) holds
of_mesh (Err why) whole P same holds = same

-- the text of the mesh of a solid is that which is asked for
pub solid_text : (view : Window) (clauses : List Clause)
    → let mesh = mesh_of (grid_of view (λ p. solid_value p clauses)) in ply_of view mesh.vertices mesh.faces ≡ mesh_text view clauses
unfolding mesh_text
solid_text view clauses = refl

-- the mesh of a view's grid may be written
pub solid_placed : (view : Window) (value : Point → ℤ) → All (IsPlaced view) (mesh_of (grid_of view value)).vertices
unfolding grid_of
solid_placed view value = all_placed view (grid_of view value) refl refl refl

-- so it is of the grid of each view
pub solid_vertices : (view : Window) (value : Point → ℤ) → IsWindow view → length (mesh_of (grid_of view value)).vertices < 2 ^ 31
unfolding grid_of
solid_vertices view value window = few_vertices (grid_of view value) window.nx.few window.ny.few window.nz.few

-- and of its faces
pub solid_faces : (view : Window) (value : Point → ℤ) → IsWindow view → length (mesh_of (grid_of view value)).faces < 2 ^ 31
unfolding grid_of
solid_faces view value window = few_faces (grid_of view value) window.nx.few window.ny.few window.nz.few
