-- Corners of a cell, and the six tetrahedra that it is cut into by Kuhn's subdivision.
use Rattle.std.specs.Prelude.{ℕ, ◌+◌, ◌/◌, ◌%◌, ◌==◌, ℤ, pos, Bool, List, [], ◌∷◌, take, get_or, sum, count_by, nat_lt}
use Rattle.kuhn_cells.specs.Vectors.{Vector, determinant_at}

-- A corner of a cell is a mask: 1 for one step along x, 2 for one along y, 4 for one along z. These are the
-- steps that it has along each axis.
abbrev pub along_x : ℕ → ℕ
along_x mask = mask % 2

abbrev pub along_y : ℕ → ℕ
along_y mask = mask / 2 % 2

abbrev pub along_z : ℕ → ℕ
along_z mask = mask / 4 % 2

-- where a corner lies in its cell
abbrev pub corner_place : ℕ → Vector
corner_place mask =
    record { x = pos (along_x mask); y = pos (along_y mask); z = pos (along_z mask) }

-- the six orders of the axes x, y and z, one for each tetrahedron
abbrev pub orders : List (List ℕ)
orders =
    (1 ∷ 2 ∷ 4 ∷ []) ∷ (1 ∷ 4 ∷ 2 ∷ [])
    ∷ (2 ∷ 1 ∷ 4 ∷ []) ∷ (2 ∷ 4 ∷ 1 ∷ [])
    ∷ (4 ∷ 1 ∷ 2 ∷ []) ∷ (4 ∷ 2 ∷ 1 ∷ []) ∷ []

abbrev pub order_of : ℕ → List ℕ
order_of tetra = get_or orders tetra []

-- the corners v0 to v3 of a tetrahedron: the first is the cell's lowest, and each next one lies one
-- step further along the next axis
abbrev pub corner : ℕ → ℕ → ℕ
corner tetra which = sum (take which (order_of tetra))

-- the pairs of a list that stand in falling order, counted
abbrev pub inversions : List ℕ → ℕ
inversions [] = 0
inversions (k ∷ ks) = count_by (λ later. nat_lt later k) ks + inversions ks

-- a list is an odd reordering of its numbers in rising order
abbrev pub is_odd : List ℕ → Bool
is_odd ks = inversions ks % 2 == 1

-- the sign of a tetrahedron is negative where its order of the axes is odd
abbrev pub is_negative : ℕ → Bool
is_negative tetra = is_odd (order_of tetra)

-- the determinant of the ways from one corner to three others
abbrev pub corner_determinant : ℕ → ℕ → ℕ → ℕ → ℤ
corner_determinant a b c d =
    determinant_at (corner_place a) (corner_place b) (corner_place c) (corner_place d)
