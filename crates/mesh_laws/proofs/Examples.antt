-- The mesh of the grid of which the middle point alone is inside is closed, has one fan of faces at each vertex, and
-- faces out, and paths to its inside pass its vertices. Refused are a mesh with a face turned, one with a face missing, a
-- flat face, two cones that share a tip, a triangle with two sides, and a vertex with no face.
use Rattle.std.proofs.Common.{◌≡◌, ℕ, ◌<◌, ◌≤◌, ℤ, pos, negsuc, Bool, true, false, List, [], ◌∷◌, ◌++◌, length, refl, arith, sym, subst, ◌∙◌, inl, inr}
use Rattle.std.specs.Prelude.{◌==◌, ◌&&◌, ◌||◌, ◌⊎◌, ◌≤ℤ◌, ◌<ℤ◌, int_le, int_lt, nat_lt, not, get_or, All, Contains, replicate}
use Rattle.std.specs.Bool.{Decides}
use Rattle.std.specs.List.{list_all, range_with_len}
use Rattle.std.proofs.lemmas.Bool.Decides.{Decides-and, Decides-by_and, Decides-eqb, Decides-like, Decides-not, not_from_Decides}
use Rattle.kuhn_cells.specs.Arrangement.{arranged, differ}
use Rattle.kuhn_cells.specs.Faces.{Face, all_triangles, faces}
use Rattle.kuhn_cells.specs.Grids.{Grid, edges, value_at, vertices}
use Rattle.kuhn_cells.specs.Triangles.{GridPoint, point}
use Rattle.kuhn_cells.specs.Vectors.{determinant_at}
use Rattle.kuhn_cells.specs.declared.edge_key.EdgeKey.{EdgeKey}
use Rattle.mesh_laws.specs.Closed.{IsClosed, IsTriangle, directed_edges, occurrences}
use Rattle.mesh_laws.specs.Frames.{IsFramed, IsOuter}
use Rattle.mesh_laws.specs.Manifold.{HasFan, IsManifold, arcs, arcs_on, cycle_arcs}
use Rattle.mesh_laws.specs.Places.{inner_end, lattice_place, point_place}
use Rattle.mesh_laws.specs.Separating.{FacesOut, IsPath, passed}
use Rattle.mesh_laws.proofs.FanLaws.{counted, cycle_sources, occurs}
use Rattle.mesh_laws.proofs.Owners.{found}
use Rattle.mesh_laws.proofs.Rings.{cycle_of, follow, is_fan}
use Rattle.std.proofs.lemmas.Bool.{agree_below, agree_below_at, and_parts, eqb-true, leb-true, not-true, or_cases, true≢false}
use Rattle.std.proofs.lemmas.Bool.{cases_lt}
use Rattle.std.proofs.lemmas.Int.{ints}
use Rattle.std.proofs.lemmas.List.{get_or-replicate, get_or_past, length-replicate}
use Rattle.std.proofs.lemmas.List.Elements.{All-cons, All-contains, All-head, All-map, All-nil, All-tail, All-weaker, Contains-get_or}
use Rattle.std.proofs.lemmas.List.Sums.{AllPass-from_list_all}
use Rattle.fixed_ops.proofs.Lists.{in_map, not_in_none}

-- ---- a test of closed meshes

is_triangle : Face → Bool
is_triangle f = not (f.a == f.b) && (not (f.b == f.c) && not (f.c == f.a))

triangle_decides : (f : Face) → Decides (is_triangle f) (IsTriangle f)
unfolding is_triangle
triangle_decides f =
    Decides-like (is_triangle f) (λ h. record { ab = h.0; bc = h.1.0; ca = h.1.1 }) (λ h. (h.ab, (h.bc, h.ca)))
    (Decides-and _ _ (Decides-not _ (Decides-eqb f.a f.b)) (Decides-and _ _ (Decides-not _ (Decides-eqb f.b f.c)) (Decides-not _ (Decides-eqb f.c f.a))))

all_decides : {A : Type 0} (p : A → Bool) (P : A → Type 0) → ((x : A) → Decides (p x) (P x)) → (xs : List A) → Decides (list_all p xs) (All P xs)
all_decides p P each xs = Decides-by_and p P (list_all p) each refl (λ x xs. refl) xs

is_closed : List Face → Bool
is_closed fs =
    let es = directed_edges fs in
    list_all is_triangle fs && (list_all (λ e. occurrences es e.0 e.1 == 1) es && list_all (λ e. occurrences es e.1 e.0 == 1) es)

closed_decides : (fs : List Face) → Decides (is_closed fs) (IsClosed fs)
unfolding is_closed
closed_decides fs =
    let es = directed_edges fs in
    Decides-like (is_closed fs) (λ h. record { triangles = h.0; once = h.1.0; back = h.1.1 }) (λ h. (h.triangles, (h.once, h.back)))
    (Decides-and _ _ (all_decides is_triangle IsTriangle triangle_decides fs)
    (Decides-and _ _ (all_decides (λ e. occurrences es e.0 e.1 == 1) (λ e. occurrences es e.0 e.1 ≡ 1) (λ e. Decides-eqb _ _) es)
    (all_decides (λ e. occurrences es e.1 e.0 == 1) (λ e. occurrences es e.1 e.0 ≡ 1) (λ e. Decides-eqb _ _) es)))

-- ---- the mesh of one inside point

abbrev middle_inside : Grid
middle_inside = record { x = 2; y = 2; z = 2; values = (replicate 13 (pos 1) ++ negsuc 0 ∷ []) ++ replicate 13 (pos 1) }

vertices_counted : length (vertices middle_inside) ≡ 14
unfolding vertices
vertices_counted = refl

faces_counted : length (faces middle_inside) ≡ 24
unfolding faces all_triangles vertices arranged
faces_counted = refl

middle_is_closed : IsClosed (faces middle_inside)
unfolding is_closed is_triangle faces all_triangles vertices arranged
middle_is_closed = (closed_decides (faces middle_inside)).0 refl

-- the first face, with its last two vertices exchanged, in front of the others
first_turned : List Face → List Face
first_turned [] = []
first_turned (f ∷ fs) = record { a = f.a; b = f.c; c = f.b } ∷ fs

first_missing : List Face → List Face
first_missing [] = []
first_missing (f ∷ fs) = fs

turned_is_not_closed : IsClosed (first_turned (faces middle_inside)) → ⊥
unfolding first_turned is_closed is_triangle faces all_triangles vertices arranged
turned_is_not_closed = not_from_Decides (is_closed (first_turned (faces middle_inside))) (closed_decides (first_turned (faces middle_inside))) refl

open_is_not_closed : IsClosed (first_missing (faces middle_inside)) → ⊥
unfolding first_missing is_closed is_triangle faces all_triangles vertices arranged
open_is_not_closed = not_from_Decides (is_closed (first_missing (faces middle_inside))) (closed_decides (first_missing (faces middle_inside))) refl

abbrev face : ℕ → ℕ → ℕ → Face
face a b c = record { a = a; b = b; c = c }

-- a face two of whose vertices are one, although each of its directed edges has its partner
flat_at_first_is_not_closed : IsClosed (face 0 0 1 ∷ []) → ⊥
unfolding is_closed is_triangle
flat_at_first_is_not_closed = not_from_Decides (is_closed (face 0 0 1 ∷ [])) (closed_decides (face 0 0 1 ∷ [])) refl

flat_at_second_is_not_closed : IsClosed (face 0 1 1 ∷ []) → ⊥
unfolding is_closed is_triangle
flat_at_second_is_not_closed = not_from_Decides (is_closed (face 0 1 1 ∷ [])) (closed_decides (face 0 1 1 ∷ [])) refl

flat_at_third_is_not_closed : IsClosed (face 0 1 0 ∷ []) → ⊥
unfolding is_closed is_triangle
flat_at_third_is_not_closed = not_from_Decides (is_closed (face 0 1 0 ∷ [])) (closed_decides (face 0 1 0 ∷ [])) refl

-- ---- it is framed

at_most : (a b : ℤ) → int_le a b ≡ true → a ≤ℤ b
at_most a b h = omega (arith, ints, h)

-- all points but the middle one are outside
is_right : ℕ → ℕ → ℕ → Bool
is_right x y z = (x == 1 && (y == 1 && z == 1)) || int_le (pos 0) (value_at middle_inside (point x y z))

abbrev yes : ℕ → Bool
yes k = true

all_right : agree_below (λ x. agree_below (λ y. agree_below (is_right x y) yes 3) yes 3) yes 3 ≡ true
unfolding is_right
all_right = refl

outer_is_not_middle : (p : GridPoint) → IsOuter middle_inside p → p.x ≡ 1 → p.y ≡ 1 → p.z ≡ 1 → ⊥
outer_is_not_middle p (inl (inl h)) x y z = omega (arith, h, x)
outer_is_not_middle p (inl (inr h)) x y z = omega (arith, h, x)
outer_is_not_middle p (inr (inl (inl h))) x y z = omega (arith, h, y)
outer_is_not_middle p (inr (inl (inr h))) x y z = omega (arith, h, y)
outer_is_not_middle p (inr (inr (inl h))) x y z = omega (arith, h, z)
outer_is_not_middle p (inr (inr (inr h))) x y z = omega (arith, h, z)

outer_is_outside : (p : GridPoint) → is_right p.x p.y p.z ≡ true → IsOuter middle_inside p → pos 0 ≤ℤ value_at middle_inside p
unfolding is_right
outer_is_outside p h outer = by (or_cases _ _ h)
  where
    by : ((p.x == 1 && (p.y == 1 && p.z == 1)) ≡ true) ⊎ (int_le (pos 0) (value_at middle_inside p) ≡ true) → pos 0 ≤ℤ value_at middle_inside p
    by (inl middle) =
        let x = and_parts _ _ middle in
        let y = and_parts _ _ x.1 in
        absurd (outer_is_not_middle p outer (eqb-true p.x 1 x.0) (eqb-true p.y 1 y.0) (eqb-true p.z 1 y.1))
    by (inr outside) = at_most (pos 0) (value_at middle_inside p) outside

middle_is_framed : IsFramed middle_inside
middle_is_framed =
    record {
      points = refl;
      frame = λ p within outer.
          let x = and_parts _ _ within in
          let y = and_parts _ _ x.1 in
          let fx = leb-true p.x 2 x.0 in
          let fy = leb-true p.y 2 y.0 in
          let fz = leb-true p.z 2 y.1 in
          outer_is_outside p (agree_below_at (is_right p.x p.y) yes 3 p.z (agree_below_at (λ y. agree_below (is_right p.x y) yes 3) yes 3 p.y (agree_below_at (λ x. agree_below (λ y. agree_below (is_right x y) yes 3) yes 3) yes 3 p.x all_right (omega (arith, fx))) (omega (arith, fy))) (omega (arith, fz))) outer;
    }

-- a grid of other sizes along each axis: two points, three and four, none of them inside
abbrev uneven : Grid
uneven = record { x = 1; y = 2; z = 3; values = replicate 24 (pos 0) }

zero_everywhere : (n k : ℕ) → get_or (replicate n (pos 0)) k (pos 0) ≡ pos 0
zero_everywhere n k =
    elim (cases_lt k n) [
      | inl h ↦ get_or-replicate n k (pos 0) (pos 0) h
      | inr h ↦ get_or_past (replicate n (pos 0)) k (pos 0) (rw (length-replicate n (pos 0)) h)
    ]

uneven_is_framed : IsFramed uneven
uneven_is_framed = record { points = refl; frame = λ p within outer. rw (zero_everywhere 24 _) (omega (arith, ints)) }

-- ---- it has one fan of faces at each vertex

middle_has_fans : list_all (λ u. is_fan (arcs (faces middle_inside) u)) (range_with_len 0 14) ≡ true
unfolding is_fan cycle_of follow found faces all_triangles vertices arranged
middle_has_fans = refl

-- two tetrahedra that share the vertex 0 and nothing else
two_cones : List Face
two_cones = face 0 1 2 ∷ face 0 2 3 ∷ face 0 3 1 ∷ face 1 3 2 ∷ face 0 4 5 ∷ face 0 5 6 ∷ face 0 6 4 ∷ face 4 6 5 ∷ []

cones_are_closed : IsClosed two_cones
unfolding is_closed is_triangle two_cones
cones_are_closed = (closed_decides two_cones).0 refl

-- the arcs of a cycle lead from each of its vertices to each other one
kept_on : (s : ℕ → Bool) (first v : ℕ) (ws : List ℕ) → All (λ (a : ℕ × ℕ). s a.0 ≡ s a.1) (arcs_on first v ws) → All (λ w. s w ≡ s v) (v ∷ ws)
kept_on s first v [] h = All-cons (λ w. s w ≡ s v) v [] refl (All-nil (λ w. s w ≡ s v))
kept_on s first v (w ∷ ws) h =
    let here = All-head (λ (a : ℕ × ℕ). s a.0 ≡ s a.1) (v, w) (arcs_on first w ws) h in
    let later = kept_on s first w ws (All-tail (λ (a : ℕ × ℕ). s a.0 ≡ s a.1) (v, w) (arcs_on first w ws) h) in
    All-cons (λ x. s x ≡ s v) v (w ∷ ws) refl (All-weaker (λ x. s x ≡ s w) (λ x. s x ≡ s v) (λ x e. e ∙ sym here) (w ∷ ws) later)

kept_round : (s : ℕ → Bool) (c : List ℕ) (x y : ℕ) → All (λ (a : ℕ × ℕ). s a.0 ≡ s a.1) (cycle_arcs c) → Contains c x → Contains c y → s x ≡ s y
kept_round s [] x y h p q = absurd (not_in_none x p)
kept_round s (v ∷ vs) x y h p q =
    let all = kept_on s v v vs h in
    All-contains (λ w. s w ≡ s v) (v ∷ vs) x all p ∙ sym (All-contains (λ w. s w ≡ s v) (v ∷ vs) y all q)

starts_in : (c : List ℕ) (a : ℕ × ℕ) → Contains (cycle_arcs c) a → Contains c a.0
starts_in c a h = subst (λ (xs : List ℕ). Contains xs a.0) (cycle_sources c) (in_map (λ (a : ℕ × ℕ). a.0) (cycle_arcs c) a h)

alike : (a b : Bool) → differ a b ≡ false → a ≡ b
alike true true h = refl
alike true false h = absurd (true≢false h)
alike false true h = absurd (true≢false h)
alike false false h = refl

abbrev is_low : ℕ → Bool
is_low v = nat_lt v 4

cones_have_no_fan : HasFan two_cones 0 → ⊥
unfolding two_cones
cones_have_no_fan fan =
    let c = fan.cycle in
    let exact = fan.exact in
    let es = arcs two_cones 0 in
    let kept : All (λ (a : ℕ × ℕ). is_low a.0 ≡ is_low a.1) es = All-weaker (λ (a : ℕ × ℕ). not (differ (is_low a.0) (is_low a.1)) ≡ true) (λ a. is_low a.0 ≡ is_low a.1) (λ a h. alike (is_low a.0) (is_low a.1) (not-true _ h)) es (AllPass-from_list_all (λ (a : ℕ × ℕ). not (differ (is_low a.0) (is_low a.1))) es refl) in
    let round : All (λ (a : ℕ × ℕ). is_low a.0 ≡ is_low a.1) (cycle_arcs c) = λ k d within.
    let a = get_or (cycle_arcs c) k d in
    All-contains (λ (a : ℕ × ℕ). is_low a.0 ≡ is_low a.1) es a kept (occurs es a.0 a.1 (subst (λ (n : ℕ). 1 ≤ n) (sym (exact a.0 a.1)) (counted (cycle_arcs c) a.0 a.1 (Contains-get_or (cycle_arcs c) k d within)))) in
    let one = starts_in c (1, 2) (occurs (cycle_arcs c) 1 2 (subst (λ (n : ℕ). 1 ≤ n) (exact 1 2) (omega arith))) in
    let four = starts_in c (4, 5) (occurs (cycle_arcs c) 4 5 (subst (λ (n : ℕ). 1 ≤ n) (exact 4 5) (omega arith))) in
    true≢false (kept_round is_low c 1 4 round one four)

cones_are_no_manifold : IsManifold 7 two_cones → ⊥
cones_are_no_manifold h = cones_have_no_fan (h 0 (omega arith))

-- one triangle and the same turned, whose fans have two faces
two_sides : List Face
two_sides = face 0 1 2 ∷ face 0 2 1 ∷ []

sides_are_closed : IsClosed two_sides
unfolding is_closed is_triangle two_sides
sides_are_closed = (closed_decides two_sides).0 refl

abbrev is_end : ℕ → Bool
is_end v = v == 1 || v == 2

ends_on : (fan : HasFan two_sides 0) → All (λ v. is_end v ≡ true) fan.cycle
unfolding two_sides
ends_on fan =
    let c = fan.cycle in
    let exact = fan.exact in
    let es = arcs two_sides 0 in
    let kept : All (λ (a : ℕ × ℕ). is_end a.0 ≡ true) es = AllPass-from_list_all (λ (a : ℕ × ℕ). is_end a.0) es refl in
    let round : All (λ (a : ℕ × ℕ). is_end a.0 ≡ true) (cycle_arcs c) = λ k d within.
    let a = get_or (cycle_arcs c) k d in
    All-contains (λ (a : ℕ × ℕ). is_end a.0 ≡ true) es a kept (occurs es a.0 a.1 (subst (λ (n : ℕ). 1 ≤ n) (sym (exact a.0 a.1)) (counted (cycle_arcs c) a.0 a.1 (Contains-get_or (cycle_arcs c) k d within)))) in
    subst (λ (xs : List ℕ). All (λ v. is_end v ≡ true) xs) (cycle_sources c) (All-map (λ v. is_end v ≡ true) (λ (a : ℕ × ℕ). a.0) (cycle_arcs c) round)

one_end : (v : ℕ) → is_end v ≡ true → (v ≡ 1) ⊎ (v ≡ 2)
one_end v h = by (or_cases _ _ h)
  where
    by : ((v == 1) ≡ true) ⊎ ((v == 2) ≡ true) → (v ≡ 1) ⊎ (v ≡ 2)
    by (inl e) = inl (eqb-true v 1 e)
    by (inr e) = inr (eqb-true v 2 e)

no_three_ends : (x y z : ℕ) → (x ≡ y → ⊥) → (y ≡ z → ⊥) → (x ≡ z → ⊥) → (x ≡ 1) ⊎ (x ≡ 2) → (y ≡ 1) ⊎ (y ≡ 2) → (z ≡ 1) ⊎ (z ≡ 2) → ⊥
no_three_ends x y z xy yz xz (inl a) (inl b) c = xy (a ∙ sym b)
no_three_ends x y z xy yz xz (inl a) (inr b) (inl c) = xz (a ∙ sym c)
no_three_ends x y z xy yz xz (inl a) (inr b) (inr c) = yz (b ∙ sym c)
no_three_ends x y z xy yz xz (inr a) (inr b) c = xy (a ∙ sym b)
no_three_ends x y z xy yz xz (inr a) (inl b) (inl c) = yz (b ∙ sym c)
no_three_ends x y z xy yz xz (inr a) (inl b) (inr c) = xz (a ∙ sym c)

sides_have_no_fan : HasFan two_sides 0 → ⊥
sides_have_no_fan fan =
    let c = fan.cycle in
    let long = fan.long in
    let at = λ (k : ℕ). get_or c k 0 in
    let is = λ (k : ℕ) (few : k < 3). one_end (at k) (ends_on fan k 0 (omega (arith, long, few))) in
    no_three_ends (at 0) (at 1) (at 2) (fan.differ 0 1 0 (omega arith) (omega (arith, long))) (fan.differ 1 2 0 (omega arith) (omega (arith, long))) (fan.differ 0 2 0 (omega arith) (omega (arith, long))) (is 0 (omega arith)) (is 1 (omega arith)) (is 2 (omega arith))

sides_are_no_manifold : IsManifold 3 two_sides → ⊥
sides_are_no_manifold h = sides_have_no_fan (h 0 (omega arith))

-- a tetrahedron beside a vertex that has no face, which is the last
beside_last : List Face
beside_last = face 0 1 2 ∷ face 0 2 3 ∷ face 0 3 1 ∷ face 1 3 2 ∷ []

no_cycle : (c : List ℕ) → 3 ≤ length c → ((v w : ℕ) → 0 ≡ occurrences (cycle_arcs c) v w) → ⊥
no_cycle [] long none = omega (arith, long)
no_cycle (v ∷ []) long none = omega (arith, long)
no_cycle (v ∷ w ∷ ws) long none =
    let one = counted (cycle_arcs (v ∷ w ∷ ws)) v w (Contains-get_or (cycle_arcs (v ∷ w ∷ ws)) 0 (v, w) (omega arith)) in
    omega (arith, one, none v w)

last_has_no_fan : IsManifold 5 beside_last → ⊥
unfolding beside_last
last_has_no_fan h =
    let fan = h 4 (omega arith) in
    no_cycle fan.cycle fan.long fan.exact

-- ---- its faces have the inside ends behind them

abbrev nowhere : EdgeKey
nowhere = record { x = 0; y = 0; z = 0; dir = 0 }

is_behind : EdgeKey → EdgeKey → EdgeKey → EdgeKey → Bool
is_behind a b c e =
    int_lt (determinant_at (lattice_place middle_inside a) (lattice_place middle_inside b) (lattice_place middle_inside c) (point_place (inner_end middle_inside e))) (pos 0)

faces_out : Face → Bool
faces_out f =
    let at = λ (n : ℕ). get_or (vertices middle_inside) n nowhere in
    is_behind (at f.a) (at f.b) (at f.c) (at f.a) && (is_behind (at f.a) (at f.b) (at f.c) (at f.b) && is_behind (at f.a) (at f.b) (at f.c) (at f.c))

middle_faces_out : list_all faces_out (faces middle_inside) ≡ true
unfolding faces_out is_behind faces all_triangles vertices arranged
middle_faces_out = refl

not_below : (a : ℤ) → int_lt a (pos 0) ≡ false → a <ℤ pos 0 → ⊥
not_below a h k = omega (arith, ints, h, k)

turned_faces_in : All (FacesOut middle_inside (vertices middle_inside)) (first_turned (faces middle_inside)) → ⊥
unfolding first_turned faces all_triangles vertices arranged
turned_faces_in h = not_below _ refl (h 0 (face 0 0 0) (omega arith) nowhere).at_a

-- ---- paths pass its vertices

edge : ℕ → ℕ → ℕ → ℕ → EdgeKey
edge x y z dir = record { x = x; y = y; z = z; dir = dir }

edges_counted : length (edges middle_inside) ≡ 98
edges_counted = refl

-- up to the middle point and down again elsewhere
there : List EdgeKey
there = edge 0 0 0 7 ∷ []

there_and_back : List EdgeKey
there_and_back = edge 0 0 0 7 ∷ edge 1 0 1 2 ∷ []

up : Contains (edges middle_inside) (edge 0 0 0 7)
unfolding edge
up = Contains-get_or (edges middle_inside) 6 nowhere (omega (arith, edges_counted))

down : Contains (edges middle_inside) (edge 1 0 1 2)
unfolding edge
down = Contains-get_or (edges middle_inside) 49 nowhere (omega (arith, edges_counted))

path_there : IsPath middle_inside (point 0 0 0) there (point 1 1 1)
unfolding there edge
path_there = (up, inl (refl, refl))

path_there_and_back : IsPath middle_inside (point 0 0 0) there_and_back (point 1 0 1)
unfolding there_and_back edge
path_there_and_back = (up, inl (refl, (down, inr (refl, refl))))

passed_once : passed (vertices middle_inside) there ≡ 1
unfolding there edge vertices
passed_once = refl

passed_twice : passed (vertices middle_inside) there_and_back ≡ 2
unfolding there_and_back edge vertices
passed_twice = refl
