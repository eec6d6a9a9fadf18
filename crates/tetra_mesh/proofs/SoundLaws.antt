-- The laws of meshes hold of the mesh of a grid with its vertices, and the points of a view's grid lie apart.
use Rattle.std.proofs.Common.{◌≡◌, ◌≢◌, ℕ, zero, suc, ◌+◌, ◌*◌, ◌/◌, ◌<◌, ◌≤◌, ℤ, pos, negsuc, ◌+ℤ◌, true, false, List, [], ◌∷◌, length, map, get_or, refl, ap, sym, subst, ◌∙◌, inl, inr, arith}
use Rattle.std.specs.Prelude.{◌⊎◌, ◌==◌, ◌||◌, ◌-ℤ◌, ◌≤ℤ◌, IsTrue, AllPairs, Contains, if◌then◌else◌}
use Rattle.std.specs.List.{range_with_len}
use Rattle.std.proofs.lemmas.Bool.{and_parts, eq-eqb, leb-true, ne_eqb, or_left, or_right}
use Rattle.std.proofs.lemmas.Int.{ints}
use Rattle.std.proofs.lemmas.List.{get_or-map, length-map}
use Rattle.std.proofs.lemmas.List.Elements.{Contains-get_or}
use Rattle.std.proofs.lemmas.List.FromFn.{get_or-map-range_with_len, length-map-range_with_len}
use Rattle.std.proofs.lemmas.Nat.{le-div}
use Rattle.std.proofs.Math.Nat.{add-mul-div_right, div-le_of_le-mul, div-mul-le_self, mul-le-mul_left}
use Rattle.fixed_ops.specs.Raw.{IsRaw, is_inside}
use Rattle.kuhn_cells.specs.declared.edge_key.EdgeKey.{EdgeKey}
use Rattle.kuhn_cells.specs.Cells.{IsBordered, is_outermost}
use Rattle.kuhn_cells.specs.Corners.{along_x, along_y, along_z}
use Rattle.kuhn_cells.specs.Faces.{faces}
use Rattle.kuhn_cells.specs.Grids.{Grid, is_point, upper, value_at, vertices}
use Rattle.kuhn_cells.specs.Laws.{IsBefore}
use Rattle.kuhn_cells.specs.Triangles.{GridPoint}
use Rattle.mesh_laws.specs.Frames.{IsFramed, IsOuter}
use Rattle.mesh_laws.specs.Manifold.{IsManifold}
use Rattle.mesh_laws.specs.Places.{AreAllApart, AreApart, RawPlaces, place_between, lattice_place as edge_place, place_line, raw_along, raw_place, share}
use Rattle.mesh_laws.specs.Separating.{IsSeparating}
use Rattle.view_places.specs.Samples.{place_up}
use Rattle.view_places.specs.Window.{FitsMesh, IsWindow, Window}
use Rattle.kuhn_cells.proofs.OrderLaws.{vertices_rise}
use Rattle.kuhn_cells.proofs.VertexLaws.{vertices_are_mixed_edges}
use Rattle.mesh_laws.proofs.Theorems.{places_are_distinct, separates}
use Rattle.mesh_laws.proofs.ClosedLaws.{edges_are_paired}
use Rattle.mesh_laws.proofs.FanLaws.{have_one_cycle}
use Rattle.mesh_laws.proofs.Lattice.{few_steps}
use Rattle.tetra_mesh.specs.declared.vertex.Vertex.{Vertex}
use Rattle.tetra_mesh.specs.Cuts.{vertex_of}
use Rattle.tetra_mesh.specs.Sound.{lattice_of, raw_of}
use Rattle.tetra_mesh.specs.SoundLaws.{GridMeshesAreSound, GridMeshesLieApart, IsGridOf}

-- ---- the outermost layer

not_inside : (v : ℤ) → is_inside v ≡ false → pos 0 ≤ℤ v
not_inside (pos a) h = omega (arith, ints)
not_inside (negsuc a) h = (cc)

end_is : (count index : ℕ) → (index ≡ 0) ⊎ (index ≡ count) → (index == 0 || index == count) ≡ true
end_is count index (inl h) = or_left _ _ (eq-eqb index 0 h)
end_is count index (inr h) = or_right _ _ (eq-eqb index count h)

outer_is : (g : Grid) (p : GridPoint) → IsOuter g p → is_outermost g p ≡ true
outer_is g p (inl h) = or_left _ _ (end_is g.x p.x h)
outer_is g p (inr (inl h)) = or_right _ _ (or_left _ _ (end_is g.y p.y h))
outer_is g p (inr (inr h)) = or_right _ _ (or_right _ _ (end_is g.z p.z h))

framed : (g : Grid) → IsBordered g → IsFramed g
framed g border = record {
  points = border.whole;
  frame = λ p within outer. not_inside (value_at g p) (border.outside p within (outer_is g p outer));
}

-- ---- vertices and their edges

keys_are : (g : Grid) (es : List EdgeKey) → map (λ v. v.key) (map (vertex_of g) es) ≡ es
keys_are g [] = refl
keys_are g (e ∷ es) = ap (λ rest. e ∷ rest) (keys_are g es)

before_differs : (e f : EdgeKey) → IsBefore e f → e ≢ f
before_differs e f (inl z) same = let is = ap (λ (k : EdgeKey). k.z) same in omega (arith, z, is)
before_differs e f (inr (z, inl y)) same = let is = ap (λ (k : EdgeKey). k.y) same in omega (arith, y, is)
before_differs e f (inr (z, inr (y, inl x))) same = let is = ap (λ (k : EdgeKey). k.x) same in omega (arith, x, is)
before_differs e f (inr (z, inr (y, inr (x, dir)))) same = let is = ap (λ (k : EdgeKey). k.dir) same in omega (arith, dir, is)

abbrev some_edge : EdgeKey
some_edge = record { x = 0; y = 0; z = 0; dir = 0 }

-- what holds of any two different vertices of a grid holds of any two on its list
pairs : (g : Grid) (R : Vertex → Vertex → Type 0)
    → ((e f : EdgeKey) → Contains (vertices g) e → Contains (vertices g) f → e ≢ f → R (vertex_of g e) (vertex_of g f))
    → AllPairs R (map (vertex_of g) (vertices g))
pairs g R differ i j d less within =
    let long = length-map (vertices g) (vertex_of g) in
    let few : j < length (vertices g) = omega (arith, long, within) in
    let at_i = get_or-map (vertex_of g) (vertices g) i some_edge d (omega (arith, less, few)) in
    let at_j = get_or-map (vertex_of g) (vertices g) j some_edge d few in
    rw (at_i, at_j)
    (differ (get_or (vertices g) i some_edge) (get_or (vertices g) j some_edge)
    (Contains-get_or (vertices g) i some_edge (omega (arith, less, few))) (Contains-get_or (vertices g) j some_edge few)
    (before_differs _ _ (vertices_rise g i j some_edge less few)))

-- ---- the lattice

pub lattice_axis : (index n t : ℕ) → n ≤ 1 → 65536 * index + (if n == 1 then t else 0) ≡ 65536 * index + t * n
lattice_axis index zero t few = omega arith
lattice_axis index (suc zero) t few = omega arith
lattice_axis index (suc (suc n)) t few = absurd (omega (arith, few))

lattice_same : (g : Grid) (e : EdgeKey) → lattice_of (vertex_of g e) ≡ edge_place g e
lattice_same g e =
    let x = lattice_axis e.x (along_x e.dir) (share g e) (few_steps e.dir) in
    let y = lattice_axis e.y (along_y e.dir) (share g e) (few_steps (e.dir / 2)) in
    let z = lattice_axis e.z (along_z e.dir) (share g e) (few_steps (e.dir / 4)) in
    let v = lattice_of (vertex_of g e) in
    ap (λ (n : ℕ). record { x = pos n; y = v.y; z = v.z }) x
    ∙ ap (λ (n : ℕ). record { x = pos (65536 * e.x + share g e * along_x e.dir); y = pos n; z = v.z }) y
    ∙ ap (λ (n : ℕ). record { x = pos (65536 * e.x + share g e * along_x e.dir); y = pos (65536 * e.y + share g e * along_y e.dir); z = pos n }) z

-- ---- raw places

-- the raw places of the points along each axis of a view's grid
along : ℤ → ℤ → ℕ → List ℤ
along low high n = map (place_up low high n) (range_with_len 0 (n + 1))

places_of : Window → RawPlaces
places_of w = record { along_x = along w.x0 w.x1 w.nx; along_y = along w.y0 w.y1 w.ny; along_z = along w.z0 w.z1 w.nz }

along-at : (low high : ℤ) (n i : ℕ) (d : ℤ) → i ≤ n → get_or (along low high n) i d ≡ place_up low high n i
unfolding along
along-at low high n i d few = get_or-map-range_with_len (place_up low high n) 0 (n + 1) i i d (omega (arith, few)) (omega arith)

axis_same : (low high : ℤ) (n index steps t : ℕ) → steps ≤ 1 → index + steps ≤ n
    → (if steps == 1 then place_between (place_up low high n index) (place_up low high n (index + steps)) t else place_up low high n index) ≡ raw_along (along low high n) index steps t
axis_same low high n index zero t few within = sym (along-at low high n index (pos 0) (omega (arith, within)))
axis_same low high n index (suc zero) t few within =
    let first = along-at low high n index (pos 0) (omega (arith, within)) in
    let second = along-at low high n (index + 1) (pos 0) (omega (arith, within)) in
    rw (first, second) refl
axis_same low high n index (suc (suc steps)) t few within = absurd (omega (arith, few))

raw_same : (w : Window) (g : Grid) (e : EdgeKey) → IsGridOf w g → IsTrue (is_point g (upper e)) → raw_of w (vertex_of g e) ≡ raw_place (places_of w) g e
unfolding places_of
raw_same w g e of_view within =
    let inside = and_parts _ _ within in
    let inside' = and_parts _ _ inside.1 in
    let fx = leb-true (e.x + along_x e.dir) g.x inside.0 in
    let fy = leb-true (e.y + along_y e.dir) g.y inside'.0 in
    let fz = leb-true (e.z + along_z e.dir) g.z inside'.1 in
    let gx = of_view.x in
    let gy = of_view.y in
    let gz = of_view.z in
    let x = axis_same w.x0 w.x1 w.nx e.x (along_x e.dir) (share g e) (few_steps e.dir) (omega (arith, fx, gx)) in
    let y = axis_same w.y0 w.y1 w.ny e.y (along_y e.dir) (share g e) (few_steps (e.dir / 2)) (omega (arith, fy, gy)) in
    let z = axis_same w.z0 w.z1 w.nz e.z (along_z e.dir) (share g e) (few_steps (e.dir / 4)) (omega (arith, fz, gz)) in
    let v = raw_of w (vertex_of g e) in
    let r = raw_place (places_of w) g e in
    ap (λ (n : ℤ). record { x = n; y = v.y; z = v.z }) x
    ∙ ap (λ (n : ℤ). record { x = r.x; y = n; z = v.z }) y
    ∙ ap (λ (n : ℤ). record { x = r.x; y = r.y; z = n }) z

-- a distance that is at least so much
distance : (low high : ℤ) (least : ℕ) → pos least ≤ℤ (high -ℤ low) → (d : ℕ) × (high -ℤ low ≡ pos d) × (least ≤ d)
distance low high least h = by (high -ℤ low) refl h
  where
    by : (z : ℤ) → high -ℤ low ≡ z → pos least ≤ℤ z → (d : ℕ) × (high -ℤ low ≡ pos d) × (least ≤ d)
    by (pos d) e k = (d, e, omega (arith, ints, k))
    by (negsuc d) e k = absurd (omega (arith, ints, k))

place_is : (low high : ℤ) (d n i : ℕ) → high -ℤ low ≡ pos d → place_up low high (suc n) i ≡ low +ℤ pos (d * i / suc n)
place_is low high d n i e =
    let some : (suc n == 0) ≡ false = ne_eqb (suc n) 0 (λ none. omega (arith, none)) in
    rw (e, some) refl

-- a part of a distance grows by at least 65536 from one point to the next, and is at most the whole
part_grows : (d n i : ℕ) → suc n * 65536 ≤ d → d * i / suc n + 65536 ≤ d * (i + 1) / suc n
part_grows d n i h =
    let whole : d * (i + 1) ≡ d * i + d = grind arith in
    let more : d * i + 65536 * suc n ≤ d * (i + 1) = omega (arith, h, whole) in
    let sum = add-mul-div_right (d * i) 65536 {z = suc n} (omega arith) in
    let least = div-mul-le_self (d * i + 65536 * suc n) (suc n) in
    let up = le-div ((d * i + 65536 * suc n) / suc n) (d * (i + 1)) (suc n) (omega arith) (omega (arith, least, more)) in
    omega (arith, sum, up)

part_within : (d n i : ℕ) → i ≤ suc n → d * i / suc n ≤ d
part_within d n i few =
    let most : d * i ≤ d * suc n = mul-le-mul_left d few in
    let turned : d * suc n ≡ suc n * d = grind arith in
    div-le_of_le-mul (suc n) {m = d * i} {n = d} (omega (arith, most, turned))

apart_along : (low high : ℤ) (n : ℕ) → 1 ≤ n → IsRaw low → IsRaw high → pos (n * 65536) ≤ℤ (high -ℤ low) → AreApart n (along low high n)
unfolding along
apart_along low high zero some raw_low raw_high room = absurd (omega (arith, some))
apart_along low high (suc n) some raw_low raw_high room =
    let d = distance low high (suc n * 65536) room in
    record {
      points = length-map-range_with_len (place_up low high (suc n)) 0 (suc n + 1);
      raw = λ k e within.
          let few : k ≤ suc n = omega (arith, within, length-map-range_with_len (place_up low high (suc n)) 0 (suc n + 1)) in
          let is = along-at low high (suc n) k e few ∙ place_is low high d.0 n k d.1 in
          let most = part_within d.0 n k few in
          let e' = d.1 in
          rw is (omega (arith, ints, raw_low, raw_high, most, e'), omega (arith, ints, raw_low, raw_high, most, e'));
      rise = λ k few.
          let here = along-at low high (suc n) k (pos 0) (omega (arith, few)) ∙ place_is low high d.0 n k d.1 in
          let next = along-at low high (suc n) (k + 1) (pos 0) (omega (arith, few)) ∙ place_is low high d.0 n (k + 1) d.1 in
          let grows = part_grows d.0 n k d.2 in
          rw (here, next) (omega (arith, ints, grows));
    }

points_apart : (w : Window) (g : Grid) → IsWindow w → FitsMesh w → IsGridOf w g → AreAllApart g (places_of w)
unfolding places_of
points_apart w g is fits of_view = record {
  x = subst (λ (n : ℕ). AreApart n (along w.x0 w.x1 w.nx)) (sym of_view.x) (apart_along w.x0 w.x1 w.nx is.nx.some is.x.low_raw is.x.high_raw fits.x);
  y = subst (λ (n : ℕ). AreApart n (along w.y0 w.y1 w.ny)) (sym of_view.y) (apart_along w.y0 w.y1 w.ny is.ny.some is.y.low_raw is.y.high_raw fits.y);
  z = subst (λ (n : ℕ). AreApart n (along w.z0 w.z1 w.nz)) (sym of_view.z) (apart_along w.z0 w.z1 w.nz is.nz.some is.z_ends.low_raw is.z_ends.high_raw fits.z);
}

-- ---- the laws

pub grid_meshes_are_sound : GridMeshesAreSound
grid_meshes_are_sound g border =
    let is = framed g border in
    record {
      closed = edges_are_paired g is;
      manifold = subst (λ (n : ℕ). IsManifold n (faces g)) (sym (length-map (vertices g) (vertex_of g))) (have_one_cycle g is);
      separating = subst (λ (es : List EdgeKey). IsSeparating g es (faces g)) (sym (keys_are g (vertices g))) (separates g is);
      apart = pairs g (λ u v. lattice_of u ≢ lattice_of v) (λ e f at_e at_f differ same.
          (places_are_distinct g is e f at_e at_f differ).lattice (sym (lattice_same g e) ∙ same ∙ lattice_same g f));
    }

pub grid_meshes_lie_apart : GridMeshesLieApart
grid_meshes_lie_apart w g window fits of_view border =
    let is = framed g border in
    let apart = points_apart w g window fits of_view in
    let same = λ (e : EdgeKey) (at_e : Contains (vertices g) e). raw_same w g e of_view ((vertices_are_mixed_edges g e).0 at_e).within in
    record {
      raw = pairs g (λ u v. raw_of w u ≢ raw_of w v) (λ e f at_e at_f differ equal.
          (places_are_distinct g is e f at_e at_f differ).raw (places_of w) apart (sym (same e at_e) ∙ equal ∙ same f at_f));
      lines = pairs g (λ u v. place_line (raw_of w u) ≢ place_line (raw_of w v)) (λ e f at_e at_f differ equal.
          (places_are_distinct g is e f at_e at_f differ).lines (places_of w) apart (ap place_line (sym (same e at_e)) ∙ equal ∙ ap place_line (same f at_f)));
    }
