-- The mesh of a grid of two cells along each axis of which the middle point alone is inside, worked out by hand.
use Rattle.std.proofs.Common.{◌≡◌, ℕ, ◌≤◌, Bool, pos, negsuc, true, false, [], ◌∷◌, ◌++◌, refl, ap, arith, inl, inr}
use Rattle.std.specs.Prelude.{ℤ, List, ◌+◌, ◌*◌, get_or, if◌then◌else◌, map, replicate}
use Rattle.std.specs.List.{range_with_len}
use Rattle.std.proofs.lemmas.Bool.{cases_lt}
use Rattle.std.proofs.lemmas.List.{get_or-replicate, get_or_past, length-replicate}
use Rattle.kuhn_cells.specs.declared.cell_list.CellList.{CellList}
use Rattle.kuhn_cells.specs.declared.cell_list.CellValues.{CellValues}
use Rattle.kuhn_cells.specs.declared.edge_key.EdgeKey.{EdgeKey}
use Rattle.kuhn_cells.specs.declared.grid_size.GridSize.{GridSize}
use Rattle.kuhn_cells.specs.declared.pattern.Pattern.{Pattern}
use Rattle.kuhn_cells.specs.declared.triple.Triple.{Triple}
use Rattle.kuhn_cells.specs.Arrangement.{arranged}
use Rattle.kuhn_cells.specs.Cells.{HasCell, IsBordered, cell_at, is_mixed_cell, is_outermost}
use Rattle.kuhn_cells.specs.Corners.{corner, corner_determinant, is_negative}
use Rattle.kuhn_cells.specs.Faces.{Face, faces, all_triangles}
use Rattle.kuhn_cells.specs.Grids.{Grid, bordered, grid_over, is_point, over_block, value_at, vertices}
use Rattle.kuhn_cells.specs.Laws.{IsCellBefore, SignsAreDeterminants}
use Rattle.kuhn_cells.specs.Lists.{ListsCells, listed_size}
use Rattle.kuhn_cells.specs.Patterns.{listed}
use Rattle.kuhn_cells.specs.Rings.{HasEdge, IsRing, corners_off, in_turn, sides}
use Rattle.kuhn_cells.specs.Sizes.{IsBounded, SameSize}
use Rattle.kuhn_cells.specs.Triangles.{has_sign, point, triangles_of}
use Rattle.kuhn_cells.specs.Vectors.{Vector}

abbrev middle_inside : Grid
middle_inside = record { x = 2; y = 2; z = 2; values = (replicate 13 (pos 1) ++ negsuc 0 ∷ []) ++ replicate 13 (pos 1) }

abbrev key : ℕ → ℕ → ℕ → ℕ → EdgeKey
key x y z dir = record { x = x; y = y; z = z; dir = dir }

-- seven edges come up to the middle point, and seven go on from it
vertices_of_middle :
    vertices middle_inside ≡ key 0 0 0 7 ∷ key 1 0 0 6 ∷ key 0 1 0 5 ∷ key 1 1 0 4 ∷ key 0 0 1 3 ∷ key 1 0 1 2 ∷ key 0 1 1 1 ∷ key 1 1 1 1 ∷ key 1 1 1 2 ∷ key 1 1 1 3 ∷ key 1 1 1 4 ∷ key 1 1 1 5 ∷ key 1 1 1 6 ∷ key 1 1 1 7 ∷ []
unfolding vertices
vertices_of_middle = refl

abbrev face : ℕ → ℕ → ℕ → Face
face a b c = record { a = a; b = b; c = c }

faces_of_middle :
    faces middle_inside ≡ face 0 3 1 ∷ face 0 1 5 ∷ face 0 2 3 ∷ face 0 6 2 ∷ face 0 5 4 ∷ face 0 4 6 ∷ face 1 3 7 ∷ face 1 7 5 ∷ face 2 8 3 ∷ face 2 6 8 ∷ face 3 9 7 ∷ face 3 8 9 ∷ face 4 5 10 ∷ face 4 10 6 ∷ face 5 7 11 ∷ face 5 11 10 ∷ face 6 12 8 ∷ face 6 10 12 ∷ face 7 9 13 ∷ face 7 13 11 ∷ face 8 13 9 ∷ face 8 12 13 ∷ face 10 11 13 ∷ face 10 13 12 ∷ []
unfolding faces all_triangles vertices arranged
faces_of_middle = refl

-- ---- signs, patterns and triangles

-- the first corner's truth value first
abbrev pattern : Bool → Bool → Bool → Bool → Pattern
pattern a b c d = record { v0 = a; v1 = b; v2 = c; v3 = d }

patterns_in_order : listed (pattern true true false false) ∷ listed (pattern true false true false) ∷ []
    ≡ (true ∷ true ∷ false ∷ false ∷ []) ∷ (true ∷ false ∷ true ∷ false ∷ []) ∷ []
patterns_in_order = refl

-- the signs 38, which are 2 and 4 and 32, have the corners 1, 2 and 5 inside
corners_of_signs : map (has_sign 38) (range_with_len 0 8)
    ≡ false ∷ true ∷ true ∷ false ∷ false ∷ true ∷ false ∷ false ∷ []
corners_of_signs = refl

-- In the cell at 2, 3 and 5 corner 1 alone is inside. The second tetrahedron, with the corners 0, 1, 5 and 7, is cut
-- by one triangle, on the edges from corner 1 to the corners 0, 5 and 7, counterclockwise as seen from corner 0.
abbrev triangle : EdgeKey → EdgeKey → EdgeKey → Triple
triangle a b c = record { a = a; b = b; c = c }

triangles_of_a_tetrahedron : triangles_of 2 3 5 1 2 ≡ triangle (key 2 3 5 1) (key 3 3 5 4) (key 3 3 5 6) ∷ []
unfolding arranged
triangles_of_a_tetrahedron = refl

-- the fourth, with the corners 0, 2, 6 and 7, does not have that corner
no_triangle_of_another : triangles_of 2 3 5 3 2 ≡ []
unfolding arranged
no_triangle_of_another = refl

-- ---- other sizes along each axis

-- one cell along x, two along y and three along z, where the value of each point is its place among all
abbrev uneven : Grid
uneven = record { x = 1; y = 2; z = 3; values = map (λ k. pos k) (range_with_len 0 24) }

value_of_uneven : value_at uneven (point 1 0 2) ≡ pos 13
value_of_uneven = refl

last_value_of_uneven : value_at uneven (point 1 2 3) ≡ pos 23
last_value_of_uneven = refl

last_point_of_uneven : is_point uneven (point 1 2 3) ≡ true
last_point_of_uneven = refl

beyond_uneven_along_x : is_point uneven (point 2 0 0) ≡ false
beyond_uneven_along_x = refl

beyond_uneven_along_y : is_point uneven (point 0 3 0) ≡ false
beyond_uneven_along_y = refl

beyond_uneven_along_z : is_point uneven (point 0 0 4) ≡ false
beyond_uneven_along_z = refl

abbrev cell : ℕ → ℕ → ℕ → List ℤ → CellValues
cell x y z values = record { x = x; y = y; z = z; values = values }

-- the corners by their masks: x first, then y, then z
cell_of_uneven :
    cell_at uneven (point 0 1 2) ≡ cell 0 1 2 (pos 14 ∷ pos 15 ∷ pos 16 ∷ pos 17 ∷ pos 20 ∷ pos 21 ∷ pos 22 ∷ pos 23 ∷ [])
cell_of_uneven = refl

places_of_block :
    over_block 1 2 3 (λ p. p ∷ []) ≡ point 0 0 0 ∷ point 0 1 0 ∷ point 0 0 1 ∷ point 0 1 1 ∷ point 0 0 2 ∷ point 0 1 2 ∷ []
places_of_block = refl

-- two cells along x, three along y and four along z: one layer of points at each end is outermost
abbrev wide : Grid
wide = record { x = 2; y = 3; z = 4; values = [] }

within_wide : is_outermost wide (point 1 2 3) ≡ false
within_wide = refl

first_of_wide_along_x : is_outermost wide (point 0 1 1) ≡ true
first_of_wide_along_x = refl

last_of_wide_along_x : is_outermost wide (point 2 1 1) ≡ true
last_of_wide_along_x = refl

first_of_wide_along_y : is_outermost wide (point 1 0 1) ≡ true
first_of_wide_along_y = refl

last_of_wide_along_y : is_outermost wide (point 1 3 1) ≡ true
last_of_wide_along_y = refl

first_of_wide_along_z : is_outermost wide (point 1 1 0) ≡ true
first_of_wide_along_z = refl

last_of_wide_along_z : is_outermost wide (point 1 1 4) ≡ true
last_of_wide_along_z = refl

-- a cell is mixed with one inside corner or with one outside, and not with all on one side
last_inside_is_mixed : is_mixed_cell (cell 0 0 0 (replicate 7 (pos 0) ++ negsuc 0 ∷ [])) ≡ true
last_inside_is_mixed = refl

last_outside_is_mixed : is_mixed_cell (cell 0 0 0 (replicate 7 (negsuc 0) ++ pos 0 ∷ [])) ≡ true
last_outside_is_mixed = refl

all_inside_is_not_mixed : is_mixed_cell (cell 0 0 0 (replicate 8 (negsuc 0))) ≡ false
all_inside_is_not_mixed = refl

all_outside_is_not_mixed : is_mixed_cell (cell 0 0 0 (replicate 8 (pos 0))) ≡ false
all_outside_is_not_mixed = refl

-- ---- grids whose outermost layer is outside

zero_everywhere : (n k : ℕ) → get_or (replicate n (pos 0)) k (pos 0) ≡ pos 0
zero_everywhere n k =
    elim (cases_lt k n) [
      | inl h ↦ get_or-replicate n k (pos 0) (pos 0) h
      | inr h ↦ get_or_past (replicate n (pos 0)) k (pos 0) (rw (length-replicate n (pos 0)) h)
    ]

-- two points along x, three along y and four along z have 24 values
zeros_are_bordered : IsBordered (record uneven { values = replicate 24 (pos 0) })
zeros_are_bordered = record { whole = refl; outside = λ p within outer. rw (zero_everywhere 24 _) refl }

-- cells are listed of grids alone that have as many of them along each axis as is told
abbrev sized : ℕ → ℕ → ℕ → GridSize
sized x y z = record { x = x; y = y; z = z }

listed_along_x : (list : CellList) → ListsCells (sized 3 3 4) list wide → ⊥
listed_along_x list h = let x : 2 ≡ 3 = h.x in omega (arith, x)

listed_along_y : (list : CellList) → ListsCells (sized 2 2 4) list wide → ⊥
listed_along_y list h = let y : 3 ≡ 2 = h.y in omega (arith, y)

listed_along_z : (list : CellList) → ListsCells (sized 2 3 3) list wide → ⊥
listed_along_z list h = let z : 4 ≡ 3 = h.z in omega (arith, z)

-- and each of the three counts of the list is that of its axis
counted_along_x : (list : CellList) → list.nx ≡ 3 → ListsCells (sized 2 3 4) list wide → ⊥
counted_along_x list e h = let x = ap (λ (s : GridSize). s.x) h.count in omega (arith, e, x)

counted_along_y : (list : CellList) → list.ny ≡ 2 → ListsCells (sized 2 3 4) list wide → ⊥
counted_along_y list e h = let y = ap (λ (s : GridSize). s.y) h.count in omega (arith, e, y)

counted_along_z : (list : CellList) → list.nz ≡ 3 → ListsCells (sized 2 3 4) list wide → ⊥
counted_along_z list e h = let z = ap (λ (s : GridSize). s.z) h.count in omega (arith, e, z)

-- ---- rings

-- the corners 0, 1, 3 and 7 of the first tetrahedron, of which the edge to corner 7 takes two
off_the_diagonal : corners_off 7 (0, 0) ≡ 1 ∷ 3 ∷ []
off_the_diagonal = refl

abbrev vector : ℕ → ℕ → ℕ → Vector
vector x y z = record { x = pos x; y = pos y; z = pos z }

-- round the diagonal the second tetrahedron, with the corners 0, 1, 5 and 7, ends at corner 1, where the first begins
first_lies_between : sides 7 (0, 0) ≡ (vector 1 0 0, vector 1 1 0)
first_lies_between = refl

second_lies_between : sides 7 (0, 1) ≡ (vector 1 0 1, vector 1 0 0)
second_lies_between = refl

-- a cell has six tetrahedra, the last of which has the number 5
no_seventh_tetrahedron : HasEdge 7 (0, 6) → ⊥
no_seventh_tetrahedron h = omega (arith, h.few)

-- the four tetrahedra round the edge to corner 3, from the second on
ring_from_the_second : IsRing 3 ((4, 4) ∷ (4, 5) ∷ (0, 2) ∷ (0, 0) ∷ []) → ⊥
ring_from_the_second h = let least : 4 ≤ 0 = h.least 3 (0, 0) (omega arith) in omega (arith, least)

-- and with the first once more at the end
ring_with_one_twice : IsRing 3 ((0, 0) ∷ (4, 4) ∷ (4, 5) ∷ (0, 2) ∷ (0, 0) ∷ []) → ⊥
ring_with_one_twice h = h.once 0 4 (0, 0) (omega arith) (omega arith) refl

-- ---- rings, borders and bounds

-- one to the next, and the last to the first
round : in_turn {A = ℕ} (0 ∷ 1 ∷ 2 ∷ []) ≡ (0, 1) ∷ (1, 2) ∷ (2, 0) ∷ []
round = refl

-- in the outermost layer no point is inside
inside_at_the_border : bordered (sized 2 3 4) (point 1 2 4) (negsuc 0) ≡ pos 0
inside_at_the_border = refl

inside_within : bordered (sized 2 3 4) (point 1 2 3) (negsuc 0) ≡ negsuc 0
inside_within = refl

most_cells : IsBounded (sized 512 512 64)
most_cells = record { x = omega arith; y = omega arith; z = omega arith; all = omega arith }

too_many_along_y : IsBounded (sized 1 513 1) → ⊥
too_many_along_y h = omega (arith, h.y)

-- ---- sizes, orders and laws that hold to the last

-- the last point of a grid of one cell, two and three has the value of that point
last_of_made : value_at (grid_over (sized 1 2 3) (λ p. pos (p.z * 100 + p.y * 10 + p.x))) (point 1 2 3) ≡ pos 321
last_of_made = refl

counts_of_list : (list : CellList) → (listed_size list).y ≡ list.ny
counts_of_list list = refl

other_along_z : SameSize (sized 1 2 3) (sized 1 2 4) → ⊥
other_along_z h = omega (arith, h.1.1)

-- no cell stands before itself
not_before_itself : (c : CellValues) → IsCellBefore c c → ⊥
not_before_itself c h =
    elim h [
      | inl z ↦ omega (arith, z)
      | inr zs ↦ elim zs.1 [ inl y ↦ omega (arith, y) | inr ys ↦ omega (arith, ys.1) ]
    ]

-- the signs are those of all six tetrahedra
sign_of_the_last : SignsAreDeterminants → corner_determinant (corner 5 0) (corner 5 1) (corner 5 2) (corner 5 3) ≡ (if is_negative 5 then negsuc 0 else pos 1)
sign_of_the_last law = law 5 (omega arith)

-- two layers above a cell no edge of it begins
two_layers_off : (cells : List CellValues) (c : CellValues) (e : EdgeKey) → e.z ≡ c.z + 2 → HasCell cells c e → ⊥
two_layers_off cells c e is h = omega (arith, is, h.near)
