-- The tetrahedra round an edge, and the arcs that their triangles leave opposite its vertex: the check.
use Rattle.std.proofs.Common.{◌≡◌, ℕ, zero, suc, ◌+◌, ◌-◌, ◌*◌, Bool, true, false, List, [], ◌∷◌, length, refl}
use Rattle.std.specs.Prelude.{◌==◌, ◌&&◌, ◌||◌, not, nat_le, nat_lt, map, flat_map, get_or, if◌then◌else◌}
use Rattle.std.specs.List.{list_all, list_any, position_or_len, range_with_len}
use Rattle.std.proofs.lemmas.Bool.{agree_below}
use Rattle.kuhn_cells.specs.Arrangement.{arranged, differ, positions}
use Rattle.kuhn_cells.specs.Corners.{along_x, along_y, along_z, corner, is_negative}
use Rattle.kuhn_cells.proofs.Checks.{both, both_at}
use Rattle.mesh_laws.specs.Manifold.{arcs_at, cycle_arcs}
use Rattle.mesh_laws.proofs.Lists.{distinct}
use Rattle.mesh_laws.proofs.Owners.{direction, found, low}
use Rattle.mesh_laws.proofs.Turns.{Way, way, ways_in}

-- ---- numbers for the points and the edges near the lower end of an edge

-- the number of a corner of a cell of which another corner is the lower end: 13 is the lower end itself
abbrev pub offset : ℕ → ℕ → ℕ
offset mask c = (along_x c + 1 - along_x mask) + 3 * ((along_y c + 1 - along_y mask) + 3 * (along_z c + 1 - along_z mask))

-- the number of an edge of a tetrahedron of that cell
abbrev pub edge_number : ℕ → ℕ → Way → ℕ
edge_number mask tetra w = offset mask (low tetra w) + 27 * direction tetra w

-- ---- the tetrahedra round an edge, each with the corner that is the edge's lower end

abbrev pub pairs : List (ℕ × ℕ)
pairs = (0, 1) ∷ (0, 2) ∷ (0, 3) ∷ (1, 2) ∷ (1, 3) ∷ (2, 3) ∷ []

abbrev ring_in : ℕ → ℕ → List (ℕ × ℕ)
ring_in dir tetra = flat_map (λ (p : ℕ × ℕ). if corner tetra p.1 - corner tetra p.0 == dir then (corner tetra p.0, tetra) ∷ [] else []) pairs

unfoldable pub ring : ℕ → List (ℕ × ℕ)
ring dir = flat_map (ring_in dir) (range_with_len 0 6)

-- the points of these tetrahedra, each once
unfoldable pub once_each : List ℕ → List ℕ → List ℕ
once_each seen [] = seen
once_each seen (o ∷ os) = if list_any (λ s. s == o) seen then once_each seen os else once_each (o ∷ seen) os

unfoldable pub points : ℕ → List ℕ
points dir = once_each [] (flat_map (λ (m : ℕ × ℕ). map (λ k. offset m.0 (corner m.1 k)) positions) (ring dir))

-- whether a point is inside, by the list of all points and the list that says so of each
abbrev pub sign_in : List ℕ → List Bool → ℕ → Bool
sign_in os bs o = get_or bs (position_or_len (λ k. k == o) os) false

abbrev pub pattern_in : List ℕ → List Bool → ℕ × ℕ → List Bool
pattern_in os bs m = map (λ k. sign_in os bs (offset m.0 (corner m.1 k))) positions

-- the arcs opposite the vertex of the edge
abbrev pub arcs_in : ℕ → ℕ × ℕ → Way × Way × Way → List (ℕ × ℕ)
arcs_in dir m t = arcs_at (13 + 27 * dir) (edge_number m.0 m.1 t.0) (edge_number m.0 m.1 t.1) (edge_number m.0 m.1 t.2)

unfoldable pub ring_arcs : ℕ → List ℕ → List Bool → List (ℕ × ℕ)
ring_arcs dir os bs = flat_map (λ (m : ℕ × ℕ). flat_map (arcs_in dir m) (ways_in (is_negative m.1) (pattern_in os bs m))) (ring dir)

-- the vertices that arcs lead through, from the first on
unfoldable pub follow : ℕ → List (ℕ × ℕ) → ℕ → List ℕ
follow zero es v = []
follow (suc n) es v = v ∷ follow n es (found es v)

unfoldable pub cycle_of : List (ℕ × ℕ) → List ℕ
cycle_of [] = []
cycle_of (a ∷ es) = follow (length (a ∷ es)) (a ∷ es) a.0

-- ---- the check of all signs of these points

abbrev pub has_arc : List (ℕ × ℕ) → ℕ × ℕ → Bool
has_arc es a = list_any (λ (b : ℕ × ℕ). b.0 == a.0 && b.1 == a.1) es

unfoldable pub is_fan : List (ℕ × ℕ) → Bool
is_fan es =
    let c = cycle_of es in
    nat_le 3 (length c) && (distinct c && (list_all (has_arc (cycle_arcs c)) es && list_all (has_arc es) (cycle_arcs c)))

unfoldable pub has_fan : ℕ → List ℕ → List Bool → Bool
has_fan dir os bs = not (differ (sign_in os bs 13) (sign_in os bs (offset 0 dir))) || is_fan (ring_arcs dir os bs)

-- a test of all truth values of so many points
unfoldable pub all_signs : List ℕ → (List Bool → Bool) → Bool
all_signs [] p = p []
all_signs (o ∷ os) p = both (λ b. all_signs os (λ bs. p (b ∷ bs)))

pub all_signs_at : (os : List ℕ) (p : List Bool → Bool) (s : ℕ → Bool) → all_signs os p ≡ true → p (map s os) ≡ true
unfolding all_signs
all_signs_at [] p s h = h
all_signs_at (o ∷ os) p s h = all_signs_at os (λ bs. p (s o ∷ bs)) s (both_at (λ b. all_signs os (λ bs. p (b ∷ bs))) h (s o))

unfoldable pub fans_round : List ℕ → ℕ → Bool
fans_round os dir = all_signs os (has_fan dir os)

pub always_fan : agree_below (λ k. fans_round (points (suc k)) (suc k)) (λ _. true) 7 ≡ true
unfolding fans_round points once_each ring all_signs has_fan is_fan ring_arcs cycle_of follow found ways_in arranged
always_fan = refl

-- ---- the check of the tetrahedra round each edge

abbrev pub is_point_of : List ℕ → ℕ → Bool
is_point_of os o = nat_lt (position_or_len (λ k. k == o) os) (length os)

-- all corners are points, and the cell lies back only along axes that the edge does not run along
unfoldable pub is_near : ℕ → List ℕ → ℕ × ℕ → Bool
is_near dir os m =
    nat_lt m.1 6
    && ((nat_le (along_x m.0 + along_x dir) 1 && (nat_le (along_y m.0 + along_y dir) 1 && nat_le (along_z m.0 + along_z dir) 1))
    && agree_below (λ k. is_point_of os (offset m.0 (corner m.1 k))) (λ _. true) 4)

unfoldable pub are_near : List ℕ → ℕ → Bool
are_near os dir = is_point_of os 13 && (is_point_of os (offset 0 dir) && list_all (is_near dir os) (ring dir))

pub always_near : agree_below (λ k. are_near (points (suc k)) (suc k)) (λ _. true) 7 ≡ true
unfolding are_near is_near points once_each ring
always_near = refl

-- each edge of each tetrahedron has the tetrahedron round it
unfoldable pub is_round : ℕ → ℕ → ℕ → Bool
is_round tetra i j =
    let w = way i j in
    i == j || (has_arc (ring (direction tetra w)) (low tetra w, tetra) && (nat_le 1 (direction tetra w) && nat_le (direction tetra w) 7))

pub always_round : agree_below (λ tetra. agree_below (λ i. agree_below (is_round tetra i) (λ _. true) 4) (λ _. true) 4) (λ _. true) 6 ≡ true
unfolding is_round ring
always_round = refl
