-- The vertices of a contour lie as far apart as those of a mesh in whose middle layer it lies.
use Rattle.std.proofs.Common.{◌≡◌, ◌≢◌, ℕ, ◌+◌, ◌*◌, ◌/◌, ◌<◌, ◌≤◌, ℤ, pos, true, List, [], ◌∷◌, ◌++◌, length, map, get_or, refl, ap, sym, subst, ◌∙◌, append_assoc, arith, mul-le-mul, inl, inr}
use Rattle.std.specs.Prelude.{◌⊎◌, All, AllPairs, Contains, codes}
use Rattle.std.proofs.lemmas.Bool.{and_parts, cases_order, leb-true}
use Rattle.std.proofs.lemmas.Int.{ints}
use Rattle.std.proofs.lemmas.List.{get_or-map, get_or_default, length-map}
use Rattle.std.proofs.lemmas.List.Elements.{All-filter, filter_passes}
use Rattle.fixed_ops.specs.NumberTexts.{number_text}
use Rattle.kuhn_cells.specs.Corners.{along_x, along_y}
use Rattle.kuhn_cells.specs.Grids.{vertices}
use Rattle.kuhn_cells.specs.Vectors.{Vector}
use Rattle.mesh_laws.specs.Places.{place_line}
use Rattle.plane_loops.specs.Contours.{Contour}
use Rattle.plane_loops.specs.declared.plane_vertex.PlaneVertex.{PlaneVertex}
use Rattle.plane_loops.specs.Planes.{IsBordered, PlaneEdge, PlaneGrid, directions, edge_from, edges, is_inside_at, is_mixed, is_point, mixed_edges, over_square, share, upper, vertex_on}
use Rattle.plane_loops.specs.Planes as planes
use Rattle.plane_loops.specs.Sides.{lattice_place}
use Rattle.tetra_mesh.specs.declared.vertex.Vertex.{Vertex}
use Rattle.tetra_mesh.specs.Cuts.{mesh_of, vertex_of}
use Rattle.tetra_mesh.specs.Sound as solid
use Rattle.tetra_mesh.specs.SoundLaws.{IsGridOf}
use Rattle.view_places.specs.declared.lattice.Axis.TheVariants.{Z}
use Rattle.view_places.specs.declared.lattice.Lattice.TheVariants.{Grid}
use Rattle.view_places.specs.Places.{sample_place}
use Rattle.view_places.specs.Window.{FitsContour, FitsMesh, IsWindow, Window}
use Rattle.mesh_laws.proofs.Lattice.{few_steps}
use Rattle.tetra_mesh.proofs.SoundLaws.{grid_meshes_are_sound, grid_meshes_lie_apart, lattice_axis}
use Rattle.path_writer.specs.Apart.{ContoursLieApart, LieApart, raw_of}
use Rattle.path_writer.specs.Paths.{place_text}
use Rattle.path_writer.proofs.Contours.{HasSteps, steps_over}
use Rattle.path_writer.proofs.Layers.{IsMixed, layered, layered_bordered, lower_value, no_step, raised, raised_listed, upper_value}
use Rattle.path_writer.proofs.Order.{edges_differ}
use Rattle.fixed_ops.proofs.Lists.{in_map}

-- ---- lists

-- two different things of a list have different places, where those of any two on it differ
two_apart : {A B : Type 0} (place : A → B) (xs : List A) → AllPairs (λ u v. place u ≢ place v) xs → (u v : A) → Contains xs u → Contains xs v → u ≢ v → place u ≢ place v
two_apart place xs apart u v (i, few_i, at_i) (j, few_j, at_j) differ same = by (cases_order i j)
  where
    by : (i ≡ j) ⊎ ((i < j) ⊎ (j < i)) → ⊥
    by (inl equal) = differ (sym at_i ∙ ap (λ k. get_or xs k u) equal ∙ get_or_default xs j u v few_j ∙ at_j)
    by (inr (inl less)) = apart i j u less few_j (ap place at_i ∙ same ∙ sym (ap place (get_or_default xs j u v few_j ∙ at_j)))
    by (inr (inr more)) = apart j i u more few_i (ap place (get_or_default xs j u v few_j ∙ at_j) ∙ sym same ∙ sym (ap place at_i))

-- ---- the view of the grid in whose middle layer a plane grid lies

abbrev lifted : Window → Window
lifted w = record w { z0 = pos 0; z1 = pos 131072; nz = 2 }

lifted_window : (w : Window) → IsWindow w → IsWindow (lifted w)
lifted_window w is = record {
  x = is.x;
  y = is.y;
  z_ends = record { low_raw = (omega (arith, ints), omega (arith, ints)); high_raw = (omega (arith, ints), omega (arith, ints)); ordered = omega (arith, ints) };
  z = is.z;
  w = is.w;
  h = is.h;
  d = is.d;
  nx = is.nx;
  ny = is.ny;
  nz = record { some = omega arith; few = omega arith };
}

few_cells : (n m : ℕ) → n ≡ m → n ≤ 256 → n * (m * 2) ≤ 16777216
few_cells n m same few =
    let row : m * 2 ≤ 256 * 2 = omega (arith, same, few) in
    let all : n * (m * 2) ≤ 256 * (256 * 2) = mul-le-mul few row in
    omega (arith, all)

lifted_fits : (w : Window) → FitsContour w → FitsMesh (lifted w)
lifted_fits w fits = record { x = fits.x; y = fits.y; z = omega (arith, ints); all = few_cells w.nx w.ny fits.square fits.few }

-- ---- the vertices in that layer

abbrev up : PlaneVertex → Vertex
up v = record { key = record { x = v.x; y = v.y; z = 1; dir = v.dir }; t = v.t }

abbrev at_height : ℤ → ℤ → ℤ → Vector
at_height z x y = record { x = x; y = y; z = z }

lattice_up : (g : PlaneGrid) (e : PlaneEdge) → e.dir ≤ 3 → solid.lattice_of (up (vertex_on g e)) ≡ at_height (pos 65536) (lattice_place g e).x (lattice_place g e).y
lattice_up g e few =
    let x = lattice_axis e.x (along_x e.dir) (share g e) (few_steps e.dir) in
    let y = lattice_axis e.y (along_y e.dir) (share g e) (few_steps (e.dir / 2)) in
    let z : solid.lattice_of (up (vertex_on g e)) ≡ at_height (pos 65536) (solid.lattice_of (up (vertex_on g e))).x (solid.lattice_of (up (vertex_on g e))).y =
    rw (no_step e.dir few) refl in
    z
    ∙ ap (λ (n : ℕ). at_height (pos 65536) (pos n) (solid.lattice_of (up (vertex_on g e))).y) x
    ∙ ap (λ (n : ℕ). at_height (pos 65536) (lattice_place g e).x (pos n)) y

level : Window → ℤ
level w = sample_place (lifted w) Grid Z 1

raw_up : (w : Window) (v : PlaneVertex) → v.dir ≤ 3 → solid.raw_of (lifted w) (up v) ≡ at_height (level w) (raw_of w v).x (raw_of w v).y
unfolding level
raw_up w v few = rw (no_step v.dir few) refl

line_joined : (x y z : List ℕ) → x ++ 32 ∷ (y ++ 32 ∷ (z ++ 10 ∷ [])) ≡ (x ++ codes " " ++ y) ++ 32 ∷ (z ++ 10 ∷ [])
line_joined x y z = simp append_assoc

line_up : (w : Window) (v : PlaneVertex) → v.dir ≤ 3
    → place_line (solid.raw_of (lifted w) (up v)) ≡ place_text w v ++ 32 ∷ (number_text (level w) ++ 10 ∷ [])
line_up w v few = ap place_line (raw_up w v few) ∙ line_joined (number_text (raw_of w v).x) (number_text (raw_of w v).y) (number_text (level w))

-- ---- the edges that hold a vertex

all_mixed : (g : PlaneGrid) → All (IsMixed g) (mixed_edges g)
unfolding mixed_edges
all_mixed g k d less =
    let every = over_square (g.n + 1) (λ p. map (edge_from p) directions) in
    let within = λ (e : PlaneEdge). is_point g (upper e) in
    let parted = is_mixed (is_inside_at g) in
    let steps = All-filter parted HasSteps (edges g) (All-filter within HasSteps every (steps_over (g.n + 1))) k d less in
    let ends = and_parts _ _ (All-filter parted (λ e. within e ≡ true) (edges g) (filter_passes within every) k d less) in
    record {
      some = steps.0;
      few = steps.1;
      x = leb-true _ g.n ends.0;
      y = leb-true _ g.n ends.1;
      mixed = filter_passes parted (edges g) k d less;
    }

-- what tells things of a list apart tells apart what is made of them
pairs_map : {A B C : Type 0} (made : A → B) (place : B → C) (xs : List A) → A → AllPairs (λ u v. place (made u) ≢ place (made v)) xs
    → AllPairs (λ u v. place u ≢ place v) (map made xs)
pairs_map made place xs any apart i j d less within =
    let long = length-map xs made in
    let few : j < length xs = omega (arith, long, within) in
    let at_i = get_or-map made xs i any d (omega (arith, less, few)) in
    let at_j = get_or-map made xs j any d few in
    rw (at_i, at_j) (apart i j any less few)

-- ---- they lie apart

module _ (w : Window) (g : PlaneGrid)
    (window : IsWindow w) (fits : FitsContour w) (size : g.n ≡ w.nx) (border : IsBordered g) where
  vertex_same : (e : PlaneEdge) → IsMixed g e → vertex_of (layered g) (raised e) ≡ up (vertex_on g e)
  vertex_same e «is» = rw (lower_value g border e «is», upper_value g border e «is») refl

  listed : (e : PlaneEdge) → IsMixed g e → Contains (mesh_of (layered g)).vertices (up (vertex_on g e))
  listed e «is» =
      subst (Contains (mesh_of (layered g)).vertices) (vertex_same e «is»)
      (in_map (vertex_of (layered g)) (vertices (layered g)) (raised e) (raised_listed g border e «is»))

  -- a place that no two vertices of the mesh share is shared by none of the plane
  told : {B C : Type 0} (place : PlaneEdge → B) (high : Vertex → C) (put : B → C) → ((e : PlaneEdge) → e.dir ≤ 3 → high (up (vertex_on g e)) ≡ put (place e))
      → AllPairs (λ u v. high u ≢ high v) (mesh_of (layered g)).vertices → AllPairs (λ e f. place e ≢ place f) (mixed_edges g)
  told place high put «is» apart i j d less within same =
      let e = get_or (mixed_edges g) i d in
      let f = get_or (mixed_edges g) j d in
      let e_is = all_mixed g i d (omega (arith, less, within)) in
      let f_is = all_mixed g j d within in
      two_apart high (mesh_of (layered g)).vertices apart (up (vertex_on g e)) (up (vertex_on g f)) (listed e e_is) (listed f f_is)
      (λ equal. edges_differ g i j d less within (ap (λ (v : Vertex). record { x = v.key.x; y = v.key.y; dir = v.key.dir }) equal))
      («is» e e_is.few ∙ ap put same ∙ sym («is» f f_is.few))

  of_view : IsGridOf (lifted w) (layered g)
  unfolding layered
  of_view = record { x = size; y = size ∙ fits.square; z = refl }

  vertices_apart : (c : Contour) → c.vertices ≡ planes.vertices g → LieApart w g c
  vertices_apart c same =
      let bordered = layered_bordered g border in
      let apart = grid_meshes_lie_apart (lifted w) (layered g) (lifted_window w window) (lifted_fits w fits) of_view bordered in
      let any : PlaneEdge = record { x = 0; y = 0; dir = 0 } in
      let raw = told (λ e. raw_of w (vertex_on g e)) (solid.raw_of (lifted w)) (λ p. at_height (level w) p.x p.y) (λ e. raw_up w (vertex_on g e)) apart.raw in
      let texts = told (λ e. place_text w (vertex_on g e)) (λ v. place_line (solid.raw_of (lifted w) v)) (λ text. text ++ 32 ∷ (number_text (level w) ++ 10 ∷ []))
      (λ e. line_up w (vertex_on g e)) apart.lines in
      record {
        lattice = told (lattice_place g) solid.lattice_of (λ p. at_height (pos 65536) p.x p.y) (lattice_up g) (grid_meshes_are_sound (layered g) bordered).apart;
        raw = subst (λ (vs : List PlaneVertex). AllPairs (λ u v. raw_of w u ≢ raw_of w v) vs) (sym same) (pairs_map (vertex_on g) (raw_of w) (mixed_edges g) any raw);
        texts = subst (λ (vs : List PlaneVertex). AllPairs (λ u v. place_text w u ≢ place_text w v) vs) (sym same)
            (pairs_map (vertex_on g) (place_text w) (mixed_edges g) any texts);
      }

pub contours_lie_apart : ContoursLieApart
contours_lie_apart w g c window fits size border contour =
    vertices_apart w g window fits size border c (ap (λ (k : Contour). k.vertices) contour.is)
