-- The arcs that the faces of a vertex leave opposite it are those of the tetrahedra round its edge.
use Rattle.std.proofs.Common.{◌≡◌, ℕ, zero, suc, ◌+◌, ◌-◌, ◌*◌, ◌<◌, ◌≤◌, Bool, true, false, List, [], ◌∷◌, refl, arith, ap, sym, subst, ◌∙◌, inl, inr}
use Rattle.std.specs.Prelude.{◌==◌, ◌&&◌, ◌⊎◌, map, flat_map, get_or, All, Contains, if◌then◌else◌}
use Rattle.std.specs.List.{range_with_len}
use Rattle.std.proofs.lemmas.Bool.{agree_below, agree_below_at, and_parts, cases_Bool, eqb-true, leb-true, ltb-true, or_cases, false≢true}
use Rattle.std.proofs.lemmas.List.Elements.{All-cons, All-contains, All-contains_itself, All-map, All-nil, All-weaker, Contains-append_right, Contains-get_or}
use Rattle.std.proofs.lemmas.List.Folds.{flat_map-map}
use Rattle.std.proofs.lemmas.List.Sums.{AllPass-from_list_all}
use Rattle.kuhn_cells.specs.declared.edge_key.EdgeKey.{EdgeKey}
use Rattle.kuhn_cells.specs.declared.triple.Triple.{Triple}
use Rattle.kuhn_cells.specs.Arrangement.{differ}
use Rattle.kuhn_cells.specs.Corners.{along_x, along_y, along_z, corner, is_negative}
use Rattle.kuhn_cells.specs.Faces.{all_triangles, cell_triangles, face_among, faces}
use Rattle.kuhn_cells.specs.Grids.{Grid, is_inside_at, lower, upper, vertices}
use Rattle.kuhn_cells.specs.Laws.{IsDirection, IsVertex, OfEdges}
use Rattle.kuhn_cells.specs.Triangles.{GridPoint, further, point, triangles_in}
use Rattle.kuhn_cells.proofs.FaceLaws.{all_in_block, triangles_have_vertices}
use Rattle.kuhn_cells.proofs.VertexLaws.{in_block}
use Rattle.mesh_laws.specs.Frames.{IsFramed}
use Rattle.mesh_laws.specs.Manifold.{arcs, arcs_at}
use Rattle.mesh_laws.proofs.ClosedLaws.{number, one_vertex}
use Rattle.mesh_laws.proofs.Fans.{IsBack, both_by, cell_back, key_is, key_near, number_is, number_near, own_key, own_number, pattern_is, same_arcs, same_test, spot}
use Rattle.mesh_laws.proofs.Lists.{all_of_flat}
use Rattle.mesh_laws.proofs.Owners.{direction, low}
use Rattle.mesh_laws.proofs.Partners.{IsInner, inner}
use Rattle.mesh_laws.proofs.Rings.{always_near, always_round, arcs_in, are_near, edge_number, has_arc, is_near, is_point_of, is_round, offset, pattern_in, points, ring, ring_arcs}
use Rattle.mesh_laws.proofs.Sides.{HasEnds, IsOut, all_out}
use Rattle.mesh_laws.proofs.Turns.{Way, key_of, pattern_at, triangles_of_tetrahedron, triple_of, ways_in}
use Rattle.fixed_ops.proofs.Lists.{all_within, in_flat, in_map, in_range}
use Rattle.kuhn_cells.proofs.EdgeLaws.{implied_or}

-- ---- the tetrahedra round an edge

-- what the check says of them
pub record IsAround (dir : ℕ) (os : List ℕ) (m : ℕ × ℕ) : Type 0 where
  pub few : m.1 < 6
  pub x : along_x m.0 + along_x dir ≤ 1
  pub y : along_y m.0 + along_y dir ≤ 1
  pub z : along_z m.0 + along_z dir ≤ 1
  pub near : (k : ℕ) → k < 4 → is_point_of os (offset m.0 (corner m.1 k)) ≡ true

around_of : (dir : ℕ) (os : List ℕ) (m : ℕ × ℕ) → is_near dir os m ≡ true → IsAround dir os m
unfolding is_near
around_of dir os m h =
    let first = and_parts _ _ h in
    let second = and_parts _ _ first.1 in
    let x = and_parts _ _ second.0 in
    let y = and_parts _ _ x.1 in
    record {
      few = ltb-true _ _ first.0;
      x = leb-true _ _ x.0;
      y = leb-true _ _ y.0;
      z = leb-true _ _ y.1;
      near = λ k few. agree_below_at (λ k. is_point_of os (offset m.0 (corner m.1 k))) (λ _. true) 4 k second.1 few;
    }

near_at : (dir : ℕ) → IsDirection dir → are_near (points dir) dir ≡ true
near_at zero h = let some = h.some in absurd (omega (arith, some))
near_at (suc k) h = let few = h.within in agree_below_at (λ k. are_near (points (suc k)) (suc k)) (λ _. true) 7 k always_near (omega (arith, few))

pub ends_are_points : (dir : ℕ) → IsDirection dir → (is_point_of (points dir) 13 ≡ true) × (is_point_of (points dir) (offset 0 dir) ≡ true)
unfolding are_near
ends_are_points dir h = let first = and_parts _ _ (near_at dir h) in (first.0, (and_parts _ _ first.1).0)

all_around : (dir : ℕ) → IsDirection dir → All (IsAround dir (points dir)) (ring dir)
unfolding are_near
all_around dir h =
    let first = and_parts _ _ (near_at dir h) in
    All-weaker (λ m. is_near dir (points dir) m ≡ true) (IsAround dir (points dir)) (around_of dir (points dir)) (ring dir)
    (AllPass-from_list_all (is_near dir (points dir)) (ring dir) (and_parts _ _ first.1).1)

-- ---- their cells lie in the grid

-- along one axis: an end of the edge that is inside
lies_back : (n l d m : ℕ) → m + d ≤ 1 → 1 ≤ l + d → m ≤ l
lies_back n l d m h low = omega (arith, h, low)

stays_in : (n l d m : ℕ) → (l + d) + 1 ≤ n → l - m < n
stays_in n l d m high = omega (arith, high)

pub record IsInGrid (g : Grid) (cell : GridPoint) : Type 0 where
  pub x : cell.x < g.x
  pub y : cell.y < g.y
  pub z : cell.z < g.z

pub record IsThere (g : Grid) (l : GridPoint) (mask : ℕ) : Type 0 where
  pub back : IsBack l mask
  pub cell : IsInGrid g (cell_back l mask)

less_far : (m d e : ℕ) → m + d ≤ 1 → e ≤ d → m + e ≤ 1
less_far m d e h k = omega (arith, h, k)

by_end : (g : Grid) (l : GridPoint) (dx dy dz mask : ℕ) → along_x mask + dx ≤ 1 → along_y mask + dy ≤ 1 → along_z mask + dz ≤ 1 → IsInner g (point (l.x + dx) (l.y + dy) (l.z + dz)) → IsThere g l mask
by_end g l dx dy dz mask x y z n =
    record {
      back = record { x = lies_back g.x l.x dx (along_x mask) x n.x.low; y = lies_back g.y l.y dy (along_y mask) y n.y.low; z = lies_back g.z l.z dz (along_z mask) z n.z.low };
      cell = record { x = stays_in g.x l.x dx (along_x mask) n.x.high; y = stays_in g.y l.y dy (along_y mask) n.y.high; z = stays_in g.z l.z dz (along_z mask) n.z.high };
    }

nothing_more : (l : GridPoint) → l ≡ point (l.x + 0) (l.y + 0) (l.z + 0)
nothing_more l = let x : l.x + 0 ≡ l.x = omega arith in let y : l.y + 0 ≡ l.y = omega arith in let z : l.z + 0 ≡ l.z = omega arith in rw (x, y, z) refl

below_upper : (a d n : ℕ) → a + d ≤ n → a ≤ n
below_upper a d n h = omega (arith, h)

no_step : (a d : ℕ) → a + d ≤ 1 → a + 0 ≤ 1
no_step a d h = omega (arith, h)

is_there : (g : Grid) (e : EdgeKey) (m : ℕ × ℕ) → IsFramed g → IsVertex g e → IsAround e.dir (points e.dir) m → IsThere g (lower e) m.0
is_there g e m framed v h =
    let within = and_parts _ _ v.within in
    let rest = and_parts _ _ within.1 in
    let x = leb-true (e.x + along_x e.dir) g.x within.0 in
    let y = leb-true (e.y + along_y e.dir) g.y rest.0 in
    let z = leb-true (e.z + along_z e.dir) g.z rest.1 in
    by (is_inside_at g (lower e)) (is_inside_at g (upper e)) v.mixed
    (λ lit. by_end g (lower e) 0 0 0 m.0 (no_step _ _ h.x) (no_step _ _ h.y) (no_step _ _ h.z) (subst (IsInner g) (nothing_more (lower e)) (inner g framed (lower e) (below_upper _ _ _ x) (below_upper _ _ _ y) (below_upper _ _ _ z) lit)))
    (λ lit. by_end g (lower e) (along_x e.dir) (along_y e.dir) (along_z e.dir) m.0 h.x h.y h.z (inner g framed (upper e) x y z lit))
  where
    by : (a b : Bool) → differ a b ≡ true → (a ≡ true → IsThere g (lower e) m.0) → (b ≡ true → IsThere g (lower e) m.0) → IsThere g (lower e) m.0
    by true b parted first second = first refl
    by false true parted first second = second refl
    by false false parted first second = absurd (false≢true parted)

-- ---- arcs by the numbers of the vertices

-- the number of the vertex on an edge near another
unfoldable pub value_of : Grid → EdgeKey → ℕ → ℕ
value_of g e n = number g (key_near (lower e) n)

abbrev pub signs_of : Grid → EdgeKey → List Bool
signs_of g e = map (λ o. is_inside_at g (spot (lower e) o)) (points e.dir)

-- the arcs of the tetrahedra round an edge
abbrev pub near_arcs : Grid → EdgeKey → List (ℕ × ℕ)
near_arcs g e = ring_arcs e.dir (points e.dir) (signs_of g e)

abbrev pub fan_arcs : Grid → EdgeKey → List (ℕ × ℕ)
fan_arcs g e = map (both_by (value_of g e)) (near_arcs g e)

abbrev pub triangle_arcs : Grid → ℕ → Triple → List (ℕ × ℕ)
triangle_arcs g u t = arcs_at u (number g t.a) (number g t.b) (number g t.c)

pub arcs_are : (g : Grid) (u : ℕ) → arcs (faces g) u ≡ flat_map (triangle_arcs g u) (all_triangles g)
unfolding faces
arcs_are g u = flat_map-map (λ f. arcs_at u f.a f.b f.c) (face_among (vertices g)) (all_triangles g)

-- an edge of a tetrahedron whose cell is known
record IsValued (g : Grid) (e : EdgeKey) (mask tetra : ℕ) (w : Way) (k : EdgeKey) : Type 0 where
  test : (number g k == number g e) ≡ (edge_number mask tetra w == 13 + 27 * e.dir)
  value : value_of g e (edge_number mask tetra w) ≡ number g k

valued : (g : Grid) (e : EdgeKey) (mask tetra : ℕ) (w : Way) → IsBack (lower e) mask → IsVertex g e → IsVertex g (key_of (cell_back (lower e) mask) tetra w) → IsValued g e mask tetra w (key_of (cell_back (lower e) mask) tetra w)
unfolding value_of
valued g e mask tetra w back v at_k =
    let k = key_of (cell_back (lower e) mask) tetra w in
    let key = key_is (lower e) mask tetra w back in
    record {
      test = same_test (number g k) (number g e) (edge_number mask tetra w) (13 + 27 * e.dir)
          (λ same. sym (number_is (lower e) mask tetra w back) ∙ ap (number_near (lower e)) (one_vertex g k e at_k v same) ∙ own_number e)
          (λ same. ap (number g) (sym key ∙ ap (key_near (lower e)) same ∙ own_key e));
      value = ap (number g) key;
    }

same_triangle : (g : Grid) (e : EdgeKey) (m : ℕ × ℕ) (t : Way × Way × Way) → IsBack (lower e) m.0 → IsVertex g e → OfEdges (IsVertex g) (triple_of (cell_back (lower e) m.0) m.1 t) → triangle_arcs g (number g e) (triple_of (cell_back (lower e) m.0) m.1 t) ≡ map (both_by (value_of g e)) (arcs_in e.dir m t)
same_triangle g e m t back v at =
    let a = valued g e m.0 m.1 t.0 back v at.a in
    let b = valued g e m.0 m.1 t.1 back v at.b in
    let c = valued g e m.0 m.1 t.2 back v at.c in
    same_arcs (number g e) (13 + 27 * e.dir) _ _ _ (edge_number m.0 m.1 t.0) (edge_number m.0 m.1 t.1) (edge_number m.0 m.1 t.2) (value_of g e) a.test b.test c.test a.value b.value c.value

-- ---- triangles of a grid

pub in_triangles : (g : Grid) (cell : GridPoint) (tetra : ℕ) (t : Way × Way × Way) → IsInGrid g cell → tetra < 6 → Contains (ways_in (is_negative tetra) (pattern_at (is_inside_at g) cell tetra)) t → Contains (all_triangles g) (triple_of cell tetra t)
unfolding all_triangles
in_triangles g cell tetra t lies few h =
    let inside = is_inside_at g in
    let at = λ (tetra : ℕ). triangles_in cell tetra (λ c. inside (further cell c)) in
    in_block g.x g.y g.z (cell_triangles inside) cell (triple_of cell tetra t) lies.x lies.y lies.z
    (in_flat at (range_with_len 0 6) tetra (triple_of cell tetra t) (in_range 0 6 tetra (omega arith) (omega (arith, few)))
    (subst (λ (ts : List Triple). Contains ts (triple_of cell tetra t)) (sym (triangles_of_tetrahedron inside cell tetra)) (in_map (triple_of cell tetra) (ways_in (is_negative tetra) (pattern_at inside cell tetra)) t h)))

vertices_of : (g : Grid) (t : Triple) → Contains (all_triangles g) t → OfEdges (IsVertex g) t
vertices_of g t h = All-contains (OfEdges (IsVertex g)) (all_triangles g) t (triangles_have_vertices g) h

-- ---- the arcs round the edge are arcs of faces

pub near_are_arcs : (g : Grid) (e : EdgeKey) → IsFramed g → IsVertex g e → All (λ a. Contains (flat_map (triangle_arcs g (number g e)) (all_triangles g)) (both_by (value_of g e) a)) (near_arcs g e)
unfolding ring_arcs
near_are_arcs g e framed v =
    let inside = is_inside_at g in
    let os = points e.dir in
    let bs = signs_of g e in
    let u = number g e in
    let f = both_by (value_of g e) in
    let Q = λ (a : ℕ × ℕ). Contains (flat_map (triangle_arcs g u) (all_triangles g)) (f a) in
    all_of_flat (IsAround e.dir os) Q (λ (m : ℕ × ℕ). flat_map (arcs_in e.dir m) (ways_in (is_negative m.1) (pattern_in os bs m))) (λ m around.
    let there = is_there g e m framed v around in
    let cell = cell_back (lower e) m.0 in
    let ways = ways_in (is_negative m.1) (pattern_in os bs m) in
    let same = pattern_is os inside (lower e) m there.back around.near in
    all_of_flat (Contains ways) Q (arcs_in e.dir m) (λ t at_t.
    let t_in : Contains (ways_in (is_negative m.1) (pattern_at inside cell m.1)) t = subst (λ (bs : List Bool). Contains (ways_in (is_negative m.1) bs) t) same at_t in
    let in_all = in_triangles g cell m.1 t there.cell around.few t_in in
    let eq = same_triangle g e m t there.back v (vertices_of g (triple_of cell m.1 t) in_all) in
    λ k d within.
    let a = get_or (arcs_in e.dir m t) k d in
    in_flat (triangle_arcs g u) (all_triangles g) (triple_of cell m.1 t) (f a) in_all
    (subst (λ (xs : List (ℕ × ℕ)). Contains xs (f a)) (sym eq) (in_map f (arcs_in e.dir m t) a (Contains-get_or (arcs_in e.dir m t) k d within))))
    ways (All-contains_itself ways))
    (ring e.dir) (all_around e.dir v.direction)

-- ---- the arcs of faces are arcs round the edge

arc_is : (a b : ℕ × ℕ) → (b.0 == a.0 && b.1 == a.1) ≡ true → b ≡ a
arc_is a b h = let p = and_parts _ _ h in rw (eqb-true b.0 a.0 p.0, eqb-true b.1 a.1 p.1) refl

pub arc_found : (es : List (ℕ × ℕ)) (a : ℕ × ℕ) → has_arc es a ≡ true → Contains es a
arc_found [] a h = absurd (false≢true h)
arc_found (b ∷ es) a h = by (or_cases _ _ h) (λ k. arc_found es a k)
  where
    by : ((b.0 == a.0 && b.1 == a.1) ≡ true) ⊎ (has_arc es a ≡ true) → (has_arc es a ≡ true → Contains es a) → Contains (b ∷ es) a
    by (inl same) next = (0, omega arith, arc_is a b same)
    by (inr later) next = Contains-append_right (b ∷ []) es a (next later)

lies_round : (tetra : ℕ) (w : Way) → tetra < 6 → w.inner < 4 → w.outer < 4 → (w.inner == w.outer) ≡ false → Contains (ring (direction tetra w)) (low tetra w, tetra)
unfolding is_round
lies_round tetra w few fi fo apart =
    let i = w.inner in
    let h = agree_below_at (is_round tetra i) (λ _. true) 4 w.outer (agree_below_at (λ i. agree_below (is_round tetra i) (λ _. true) 4) (λ _. true) 4 i (agree_below_at (λ t. agree_below (λ i. agree_below (is_round t i) (λ _. true) 4) (λ _. true) 4) (λ _. true) 6 tetra always_round few) fi) fo in
    arc_found (ring (direction tetra w)) (low tetra w, tetra) (and_parts _ _ (implied_or _ _ h apart)).0

gone_back : (c m : ℕ) → (c + m) - m ≡ c
gone_back c m = omega arith

no_less : (c m : ℕ) → m ≤ c + m
no_less c m = omega arith

same_cell : (cell : GridPoint) (mask : ℕ) → cell_back (further cell mask) mask ≡ cell
same_cell cell mask = rw (gone_back cell.x (along_x mask), gone_back cell.y (along_y mask), gone_back cell.z (along_z mask)) refl

abbrev AreNear : Grid → EdgeKey → ℕ → Triple → Type 0
AreNear g e u t = All (Contains (fan_arcs g e)) (triangle_arcs g u t)

own_arcs : (g : Grid) (cell : GridPoint) (tetra : ℕ) (t : Way × Way × Way) (w : Way) → tetra < 6 → HasEnds (is_inside_at g) cell tetra w → IsVertex g (key_of cell tetra w) → OfEdges (IsVertex g) (triple_of cell tetra t) → Contains (ways_in (is_negative tetra) (pattern_at (is_inside_at g) cell tetra)) t → AreNear g (key_of cell tetra w) (number g (key_of cell tetra w)) (triple_of cell tetra t)
unfolding ring_arcs
own_arcs g cell tetra t w few ends v at t_in =
    let inside = is_inside_at g in
    let e = key_of cell tetra w in
    let mask = low tetra w in
    let m : ℕ × ℕ = (mask, tetra) in
    let os = points e.dir in
    let bs = signs_of g e in
    let u = number g e in
    let f = both_by (value_of g e) in
    let in_ring = lies_round tetra w few ends.inner ends.outer ends.apart in
    let around = All-contains (IsAround e.dir os) (ring e.dir) m (all_around e.dir v.direction) in_ring in
    let back : IsBack (lower e) mask = record { x = no_less cell.x (along_x mask); y = no_less cell.y (along_y mask); z = no_less cell.z (along_z mask) } in
    let same = same_cell cell mask in
    let ways = ways_in (is_negative tetra) (pattern_in os bs m) in
    let pattern = pattern_is os inside (lower e) m back around.near ∙ ap (λ (c : GridPoint). pattern_at inside c tetra) same in
    let at_t : Contains ways t = subst (λ (bs : List Bool). Contains (ways_in (is_negative tetra) bs) t) (sym pattern) t_in in
    let there = subst (λ (c : GridPoint). OfEdges (IsVertex g) (triple_of c tetra t)) (sym same) at in
    let eq = ap (λ (c : GridPoint). triangle_arcs g u (triple_of c tetra t)) (sym same) ∙ same_triangle g e m t back v there in
    subst (λ (xs : List (ℕ × ℕ)). All (Contains (fan_arcs g e)) xs) (sym eq)
    (All-map (Contains (fan_arcs g e)) f (arcs_in e.dir m t) (λ k d within.
    let a = get_or (arcs_in e.dir m t) k d in
    in_map f (near_arcs g e) a
    (in_flat (λ (m : ℕ × ℕ). flat_map (arcs_in e.dir m) (ways_in (is_negative m.1) (pattern_in os bs m))) (ring e.dir) m a in_ring
    (in_flat (arcs_in e.dir m) ways t a at_t (Contains-get_or (arcs_in e.dir m t) k d within)))))

-- the vertex of an edge of a triangle
arcs_through : (g : Grid) (e : EdgeKey) (cell : GridPoint) (tetra : ℕ) (t : Way × Way × Way) (w : Way) → IsVertex g e → tetra < 6 → HasEnds (is_inside_at g) cell tetra w → IsVertex g (key_of cell tetra w) → OfEdges (IsVertex g) (triple_of cell tetra t) → Contains (ways_in (is_negative tetra) (pattern_at (is_inside_at g) cell tetra)) t → number g (key_of cell tetra w) ≡ number g e → AreNear g e (number g e) (triple_of cell tetra t)
arcs_through g e cell tetra t w v few ends at_w at t_in same =
    subst (λ (k : EdgeKey). AreNear g k (number g k) (triple_of cell tetra t)) (one_vertex g (key_of cell tetra w) e at_w v same) (own_arcs g cell tetra t w few ends at_w at t_in)

by_corner : (P : ℕ × ℕ → Type 0) (u a b c : ℕ) → (a ≡ u → All P (arcs_at u a b c)) → (b ≡ u → All P (arcs_at u a b c)) → (c ≡ u → All P (arcs_at u a b c)) → All P (arcs_at u a b c)
by_corner P u a b c first second third = by (cases_Bool (a == u)) (cases_Bool (b == u)) (cases_Bool (c == u))
  where
    by : ((a == u) ≡ true) ⊎ ((a == u) ≡ false) → ((b == u) ≡ true) ⊎ ((b == u) ≡ false) → ((c == u) ≡ true) ⊎ ((c == u) ≡ false) → All P (arcs_at u a b c)
    by (inl p) q r = first (eqb-true a u p)
    by (inr p) (inl q) r = second (eqb-true b u q)
    by (inr p) (inr q) (inl r) = third (eqb-true c u r)
    by (inr p) (inr q) (inr r) = rw (p, q, r) (All-nil P)

triangle_near : (g : Grid) (e : EdgeKey) (cell : GridPoint) (tetra : ℕ) (t : Way × Way × Way) → IsVertex g e → IsInGrid g cell → tetra < 6 → IsOut (is_inside_at g) cell tetra t → Contains (ways_in (is_negative tetra) (pattern_at (is_inside_at g) cell tetra)) t → AreNear g e (number g e) (triple_of cell tetra t)
triangle_near g e cell tetra t v lies few out t_in =
    let at = vertices_of g (triple_of cell tetra t) (in_triangles g cell tetra t lies few t_in) in
    by_corner (Contains (fan_arcs g e)) (number g e) _ _ _
    (arcs_through g e cell tetra t t.0 v few out.first at.a at t_in)
    (arcs_through g e cell tetra t t.1 v few out.second at.b at t_in)
    (arcs_through g e cell tetra t t.2 v few out.third at.c at t_in)

all_near : (g : Grid) (e : EdgeKey) → IsVertex g e → All (AreNear g e (number g e)) (all_triangles g)
unfolding all_triangles
all_near g e v =
    let inside = is_inside_at g in
    let P = AreNear g e (number g e) in
    all_in_block P g.x g.y g.z (cell_triangles inside) (λ cell x y z.
    all_within P (λ tetra. triangles_in cell tetra (λ c. inside (further cell c))) 0 6 (λ tetra few.
    let ways = ways_in (is_negative tetra) (pattern_at inside cell tetra) in
    let six : tetra < 6 = omega (arith, few) in
    subst (λ (ts : List Triple). All P ts) (sym (triangles_of_tetrahedron inside cell tetra))
    (All-map P (triple_of cell tetra) ways (λ k d within. triangle_near g e cell tetra (get_or ways k d) v (record { x = x; y = y; z = z }) six (all_out inside cell tetra six k d within) (Contains-get_or ways k d within)))))

pub arcs_are_near : (g : Grid) (e : EdgeKey) → IsVertex g e → All (Contains (fan_arcs g e)) (flat_map (triangle_arcs g (number g e)) (all_triangles g))
arcs_are_near g e v =
    all_of_flat (AreNear g e (number g e)) (Contains (fan_arcs g e)) (triangle_arcs g (number g e)) (λ t h. h) (all_triangles g) (all_near g e v)

-- ---- the numbers near an edge tell vertices apart

-- a number of an edge that holds a vertex
pub record IsNearVertex (g : Grid) (e : EdgeKey) (n : ℕ) : Type 0 where
  pub vertex : IsVertex g (key_near (lower e) n)
  pub same : number_near (lower e) (key_near (lower e) n) ≡ n

near_vertex : (g : Grid) (e : EdgeKey) (mask tetra : ℕ) (w : Way) → IsBack (lower e) mask → IsVertex g (key_of (cell_back (lower e) mask) tetra w) → IsNearVertex g e (edge_number mask tetra w)
near_vertex g e mask tetra w back v =
    let key = key_is (lower e) mask tetra w back in
    record {
      vertex = subst (λ (k : EdgeKey). IsVertex g k) (sym key) v;
      same = ap (number_near (lower e)) key ∙ number_is (lower e) mask tetra w back;
    }

from_corners : (P : ℕ → Type 0) (u a b c : ℕ) → P a → P b → P c → All (λ (x : ℕ × ℕ). P x.0) (arcs_at u a b c)
from_corners P u a b c p q r = by (a == u) (b == u) (c == u)
  where
    by : (i j k : Bool) → All (λ (x : ℕ × ℕ). P x.0) (if i then (b, c) ∷ [] else (if j then (c, a) ∷ [] else (if k then (a, b) ∷ [] else [])))
    by true j k = All-cons (λ (x : ℕ × ℕ). P x.0) (b, c) [] q (All-nil (λ (x : ℕ × ℕ). P x.0))
    by false true k = All-cons (λ (x : ℕ × ℕ). P x.0) (c, a) [] r (All-nil (λ (x : ℕ × ℕ). P x.0))
    by false false true = All-cons (λ (x : ℕ × ℕ). P x.0) (a, b) [] p (All-nil (λ (x : ℕ × ℕ). P x.0))
    by false false false = All-nil (λ (x : ℕ × ℕ). P x.0)

pub near_vertices : (g : Grid) (e : EdgeKey) → IsFramed g → IsVertex g e → All (λ a. IsNearVertex g e a.0) (near_arcs g e)
unfolding ring_arcs
near_vertices g e framed v =
    let inside = is_inside_at g in
    let os = points e.dir in
    let bs = signs_of g e in
    let Q = λ (a : ℕ × ℕ). IsNearVertex g e a.0 in
    all_of_flat (IsAround e.dir os) Q (λ (m : ℕ × ℕ). flat_map (arcs_in e.dir m) (ways_in (is_negative m.1) (pattern_in os bs m))) (λ m around.
    let there = is_there g e m framed v around in
    let cell = cell_back (lower e) m.0 in
    let ways = ways_in (is_negative m.1) (pattern_in os bs m) in
    let same = pattern_is os inside (lower e) m there.back around.near in
    all_of_flat (Contains ways) Q (arcs_in e.dir m) (λ t at_t.
    let t_in : Contains (ways_in (is_negative m.1) (pattern_at inside cell m.1)) t = subst (λ (bs : List Bool). Contains (ways_in (is_negative m.1) bs) t) same at_t in
    let at = vertices_of g (triple_of cell m.1 t) (in_triangles g cell m.1 t there.cell around.few t_in) in
    from_corners (IsNearVertex g e) (13 + 27 * e.dir) _ _ _ (near_vertex g e m.0 m.1 t.0 there.back at.a) (near_vertex g e m.0 m.1 t.1 there.back at.b) (near_vertex g e m.0 m.1 t.2 there.back at.c))
    ways (All-contains_itself ways))
    (ring e.dir) (all_around e.dir v.direction)
