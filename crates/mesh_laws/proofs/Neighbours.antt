-- Each turn is made in the other direction too: by the same tetrahedron across a quadrilateral, or else by the
-- tetrahedron beyond the face that holds both edges.
use Rattle.std.proofs.Common.{◌≡◌, ℕ, zero, suc, ◌+◌, ◌-◌, Bool, true, false, List, [], ◌∷◌, refl}
use Rattle.std.specs.Prelude.{◌==◌, ◌&&◌, ◌||◌, not, nat_le, nat_lt, get_or, if◌then◌else◌}
use Rattle.std.specs.List.{list_all, list_any}
use Rattle.std.proofs.lemmas.Bool.{agree_below}
use Rattle.kuhn_cells.specs.Arrangement.{arranged}
use Rattle.kuhn_cells.specs.Corners.{along_x, along_y, along_z, corner, is_negative}
use Rattle.kuhn_cells.proofs.Checks.{both, every}
use Rattle.mesh_laws.proofs.Owners.{direction, low}
use Rattle.mesh_laws.proofs.Turns.{Way, turns_in, way, ways_in}

-- ---- the position of the corner that a turn leaves out, or 4 where it leaves out none

abbrev pub has : Way × Way → ℕ → Bool
has t k = t.0.inner == k || (t.0.outer == k || (t.1.inner == k || t.1.outer == k))

abbrev pub missing_of : (ℕ → Bool) → ℕ
missing_of h = if h 0 then (if h 1 then (if h 2 then (if h 3 then 4 else 3) else 2) else 1) else 0

abbrev pub missing : Way × Way → ℕ
missing t = missing_of (has t)

-- ---- the tetrahedron beyond the face opposite a corner

-- its number
abbrev pub beyond : ℕ → ℕ → ℕ
beyond zero tetra = get_or (3 ∷ 5 ∷ 1 ∷ 4 ∷ 0 ∷ 2 ∷ []) tetra 0
beyond (suc zero) tetra = get_or (2 ∷ 4 ∷ 0 ∷ 5 ∷ 1 ∷ 3 ∷ []) tetra 0
beyond (suc (suc zero)) tetra = get_or (1 ∷ 0 ∷ 3 ∷ 2 ∷ 5 ∷ 4 ∷ []) tetra 0
beyond (suc (suc (suc k))) tetra = get_or (4 ∷ 2 ∷ 5 ∷ 0 ∷ 3 ∷ 1 ∷ []) tetra 0

-- its cell lies so much further, and so much back
abbrev pub ahead : ℕ → ℕ → ℕ
ahead zero tetra = corner tetra 1
ahead (suc k) tetra = 0

abbrev pub back : ℕ → ℕ → ℕ
back (suc (suc (suc zero))) tetra = 7 - corner tetra 2
back k tetra = 0

-- the position in it of a corner of the face
abbrev pub moved : ℕ → ℕ → ℕ
moved zero k = k - 1
moved (suc (suc (suc zero))) k = k + 1
moved out k = k

-- the position of its own other corner
abbrev pub opposite : ℕ → ℕ
opposite zero = 3
opposite (suc (suc (suc zero))) = 0
opposite out = out

-- which of its corners are inside, where a flag says whether the other one is
abbrev pub pattern_beyond : ℕ → (ℕ → Bool) → Bool → List Bool
pattern_beyond zero at flag = at 1 ∷ at 2 ∷ at 3 ∷ flag ∷ []
pattern_beyond (suc zero) at flag = at 0 ∷ flag ∷ at 2 ∷ at 3 ∷ []
pattern_beyond (suc (suc zero)) at flag = at 0 ∷ at 1 ∷ flag ∷ at 3 ∷ []
pattern_beyond (suc (suc (suc k))) at flag = flag ∷ at 0 ∷ at 1 ∷ at 2 ∷ []

-- its sign
abbrev pub sign_beyond : ℕ → Bool → Bool
sign_beyond (suc zero) negative = not negative
sign_beyond (suc (suc zero)) negative = not negative
sign_beyond out negative = negative

-- the turn in the other direction, as it has it
abbrev pub way_beyond : ℕ → Way → Way
way_beyond out w = way (moved out w.inner) (moved out w.outer)

abbrev pub turn_beyond : ℕ → Way × Way → Way × Way
turn_beyond out t = (way_beyond out t.1, way_beyond out t.0)

-- ---- the check of all turns by sign and pattern

unfoldable pub same_way : Way → Way → Bool
same_way v w = v.inner == w.inner && v.outer == w.outer

unfoldable pub has_turn : List (Way × Way) → Way × Way → Bool
has_turn turns t = list_any (λ (s : Way × Way). same_way s.0 t.0 && same_way s.1 t.1) turns

unfoldable pub is_met : Bool → (ℕ → Bool) → List (Way × Way) → Way × Way → Bool
is_met negative at turns t =
    let out = missing t in
    if nat_lt out 4 then both (λ flag. has_turn (turns_in (sign_beyond out negative) (pattern_beyond out at flag)) (turn_beyond out t))
    else has_turn turns (t.1, t.0)

unfoldable pub are_met : Bool → Bool → Bool → Bool → Bool → Bool
are_met negative v0 v1 v2 v3 =
    let pattern = v0 ∷ v1 ∷ v2 ∷ v3 ∷ [] in
    let turns = turns_in negative pattern in
    list_all (is_met negative (λ k. get_or pattern k false) turns) turns

pub always_met : both (λ negative. every (are_met negative)) ≡ true
unfolding are_met is_met has_turn same_way ways_in arranged
always_met = refl

-- ---- the check of the tetrahedra beyond the faces

-- two corners of the face, or one of them twice, are corners there too: the lower one has the same place, and the
-- direction is the same
unfoldable pub fits : ℕ → ℕ → ℕ → ℕ → Bool
fits tetra out i j =
    let w = way i j in
    let there = beyond out tetra in
    let beyond_w = way_beyond out w in
    let a = low tetra w in
    let b = low there beyond_w in
    (i == out || j == out)
    || ((along_x (ahead out tetra) + along_x b == along_x (back out tetra) + along_x a)
    && ((along_y (ahead out tetra) + along_y b == along_y (back out tetra) + along_y a)
    && ((along_z (ahead out tetra) + along_z b == along_z (back out tetra) + along_z a)
    && (direction there beyond_w == direction tetra w))))

-- a corner of the face lies away from the cell's side that the face does not touch
unfoldable pub touches : ℕ → ℕ → ℕ → Bool
touches tetra out i =
    let c = corner tetra i in
    i == out
    || ((nat_le (along_x (ahead out tetra)) (along_x c) && nat_le (along_x (back out tetra) + along_x c) 1)
    && ((nat_le (along_y (ahead out tetra)) (along_y c) && nat_le (along_y (back out tetra) + along_y c) 1)
    && (nat_le (along_z (ahead out tetra)) (along_z c) && nat_le (along_z (back out tetra) + along_z c) 1)))

unfoldable pub same_flag : Bool → Bool → Bool
same_flag true b = b
same_flag false b = not b

unfoldable pub yes : ℕ → Bool
yes k = true

unfoldable pub is_beyond : ℕ → ℕ → Bool
is_beyond tetra out =
    nat_lt (beyond out tetra) 6
    && (same_flag (is_negative (beyond out tetra)) (sign_beyond out (is_negative tetra))
    && agree_below (λ i. touches tetra out i && agree_below (fits tetra out i) yes 4) yes 4)

pub always_beyond : agree_below (λ tetra. agree_below (is_beyond tetra) yes 4) yes 6 ≡ true
unfolding is_beyond touches fits same_flag yes
always_beyond = refl
