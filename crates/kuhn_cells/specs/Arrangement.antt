-- How the corners of a tetrahedron are arranged by which of them are inside.
use Rattle.std.specs.Prelude.{ℕ, ◌==◌, Bool, true, false, not, List, [], ◌∷◌, ◌++◌, map, filter, get_or, length, if◌then◌else◌}
use Rattle.kuhn_cells.specs.Corners.{corner, is_odd, is_negative}

-- exactly one of two tests passes
abbrev pub differ : Bool → Bool → Bool
differ true b = not b
differ false b = b

-- the positions of v0 to v3
abbrev pub positions : List ℕ
positions = 0 ∷ 1 ∷ 2 ∷ 3 ∷ []

-- which of v0 to v3 are inside, where a test says which corners of the cell are
abbrev pub pattern_of : (ℕ → Bool) → ℕ → List Bool
pattern_of inside tetra = map (λ which. inside (corner tetra which)) positions

-- the positions of the inside corners, and of the others, in the order of v0 to v3
abbrev pub inside_ones : List Bool → List ℕ
inside_ones pattern = filter (λ k. get_or pattern k false) positions

abbrev pub outside_ones : List Bool → List ℕ
outside_ones pattern = filter (λ k. not (get_or pattern k false)) positions

abbrev pub inside_count : List Bool → ℕ
inside_count pattern = length (inside_ones pattern)

-- the one that differs from the other three stands first, or else the inside ones before the outside ones
abbrev pub grouped : List Bool → List ℕ
grouped pattern =
    if inside_count pattern == 3 then outside_ones pattern ++ inside_ones pattern
    else inside_ones pattern ++ outside_ones pattern

-- the last two of four, exchanged
abbrev pub turned : List ℕ → List ℕ
turned (a ∷ b ∷ c ∷ d ∷ ks) = a ∷ b ∷ d ∷ c ∷ ks
turned ks = ks

-- The positions of a, b, c and d: the last two are exchanged where the reordering is even and the sign of the
-- tetrahedron negative, or the reordering odd and the sign positive.
unfoldable pub arranged : Bool → List Bool → List ℕ
arranged negative pattern =
    if differ negative (is_odd (grouped pattern)) then turned (grouped pattern) else grouped pattern

-- the corners a, b, c and d of a tetrahedron
abbrev pub arrangement : ℕ → List Bool → List ℕ
arrangement tetra pattern = map (corner tetra) (arranged (is_negative tetra) pattern)
