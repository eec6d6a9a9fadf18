-- The work of grids, computed on lists that were worked out by hand.
use Rattle.std.proofs.Common.{◌≡◌, ℕ, zero, suc, ◌<◌, ◌≤◌, pos, negsuc, true, false, [], ◌∷◌, ◌++◌, List, map, refl, ap, arith}
use Rattle.std.specs.Prelude.{Bool, ◌||◌, All, None, Some, replicate}
use Rattle.box_chains.specs.Chains.{visit}
use Rattle.box_chains.specs.Desks.{Tracing}
use Rattle.box_chains.specs.Visits.{IsVisit}
use Rattle.fixed_ops.specs.Counts.{Counts, no_counts, risen}
use Rattle.fixed_ops.specs.declared.operation.Op.{Op}
use Rattle.fixed_ops.specs.declared.operation.Op.TheVariants.{X, Y, Z, Add, Const, Max, Min, Neg}
use Rattle.kuhn_cells.specs.Sizes.{SameSize}
use Rattle.kuhn_cells.specs.Triangles.{further, point}
use Rattle.kuhn_cells.specs.Grids.{is_border}
use Rattle.kuhn_cells.specs.declared.grid_size.GridSize.{GridSize}
use Rattle.live_clauses.specs.declared.step.Step.{Step}
use Rattle.view_places.specs.Boxes.{Indices}
use Rattle.view_places.specs.Window.{Window}
use Rattle.oct_descent.specs.Bound.{CountsAtLeast, CountsHullsAtLeast, least, long_spans_in, mesh_least, mesh_long_spans, mesh_points, mesh_spans, cell_spans_in}
use Rattle.view_places.specs.declared.lattice.Lattice.TheVariants as lattices
use Rattle.box_chains.specs.Sums.{maximum}
use Rattle.oct_descent.specs.After.{half_before}
use Rattle.oct_descent.specs.Corners.{are_mixed, places_to, side_seen}
use Rattle.oct_descent.specs.Gaps.{AreGaps, IsCornerBelow, StandsIn, has_gap, lies_at, spot}
use Rattle.oct_descent.specs.GridValues.{list_grid, list_grid_value}
use Rattle.oct_descent.specs.Halves.{MayLook}
use Rattle.oct_descent.specs.Kinds.{descent_of, mesh, value_in}
use Rattle.oct_descent.specs.Known.{AreRight, Known}
use Rattle.oct_descent.specs.declared.gap.Gap.{Gap}
use Rattle.oct_descent.specs.declared.seen.Seen.{Seen}
use Rattle.oct_descent.specs.Tables.{PointValues, brick_of, is_known, is_within, known_at, same_point, slot, stand, stand_in}
use Rattle.oct_descent.specs.Ways.{grid_root, gridded, is_open_by, meets_border, way_within}

-- from -1 to 1
abbrev pub window : ℕ → Window
window n = record {
  x0 = negsuc 4294967295;
  x1 = pos 4294967296;
  y0 = negsuc 4294967295;
  y1 = pos 4294967296;
  z0 = negsuc 4294967295;
  z1 = pos 4294967296;
  z = pos 0;
  w = 1;
  h = 1;
  d = 1;
  nx = n;
  ny = n;
  nz = n;
}

-- a grid of so many cells along each axis
abbrev cells : ℕ → GridSize
cells n = record { x = n; y = n; z = n }

abbrev pub step : Op → ℕ → ℕ → Step
step op a b = record { op = op; a = a; b = b; value = pos 0 }

-- what is inside everywhere: all eight cells have points of the outermost layer
abbrev pub full : List Step
full = record { op = Const; a = 0; b = 0; value = negsuc 4294967295 } ∷ []

full_points : mesh_points (window 2) full ≡ 27
unfolding mesh_points way_within
full_points = refl

full_least : mesh_least (window 2) full ≡ 27
unfolding mesh_least way_within
full_least = refl

full_spans : mesh_spans (window 2) full ≡ 9
unfolding cell_spans_in way_within
full_spans = refl

-- and what is outside everywhere
abbrev pub empty : List Step
empty = record { op = Const; a = 0; b = 0; value = pos 0 } ∷ []

empty_points : mesh_points (window 2) empty ≡ 0
unfolding mesh_points way_within
empty_points = refl

empty_spans : mesh_spans (window 2) empty ≡ 1
unfolding cell_spans_in way_within
empty_spans = refl

-- the coordinate x: the cells with x from 0 on are decided outside, and the others have points of the outermost layer
abbrev half : List Step
half = record { op = X; a = 0; b = 0; value = pos 0 } ∷ []

half_points : mesh_points (window 2) half ≡ 18
unfolding mesh_points way_within
half_points = refl

half_spans : mesh_spans (window 2) half ≡ 9
unfolding cell_spans_in way_within
half_spans = refl

-- its other side, in two steps: the cells with x up to 0 are decided outside
abbrev other_half : List Step
other_half = record { op = X; a = 0; b = 0; value = pos 0 } ∷ record { op = Neg; a = 0; b = 0; value = pos 0 } ∷ []

other_half_points : mesh_points (window 2) other_half ≡ 36
unfolding mesh_points way_within
other_half_points = refl

other_half_spans : mesh_spans (window 2) other_half ≡ 18
unfolding cell_spans_in way_within
other_half_spans = refl

-- the greatest of x, -y and z, which is undecided in the one cell with x and z up to 0 and y from 0 on: all other cells are
-- decided outside
abbrev one_cell : List Step
one_cell = step X 0 0 ∷ step Y 0 0 ∷ step Neg 1 0 ∷ step Max 0 2 ∷ step Z 0 0 ∷ step Max 3 4 ∷ []

one_cell_points : mesh_points (window 2) one_cell ≡ 48
unfolding mesh_points way_within
one_cell_points = refl

one_cell_least : mesh_least (window 2) one_cell ≡ 48
unfolding mesh_least way_within
one_cell_least = refl

one_cell_spans : mesh_spans (window 2) one_cell ≡ 54
unfolding cell_spans_in way_within
one_cell_spans = refl

-- and the cell opposite, by the greatest of -x, y and -z
abbrev cell_opposite : List Step
cell_opposite = step X 0 0 ∷ step Neg 0 0 ∷ step Y 0 0 ∷ step Max 1 2 ∷ step Z 0 0 ∷ step Neg 4 0 ∷ step Max 3 5 ∷ []

cell_opposite_points : mesh_points (window 2) cell_opposite ≡ 56
unfolding mesh_points way_within
cell_opposite_points = refl

cell_opposite_least : mesh_least (window 2) cell_opposite ≡ 56
unfolding mesh_least way_within
cell_opposite_least = refl

-- three cells along each axis: 8 boxes, of which 7 are split into 26 cells
uneven_spans : mesh_spans (window 3) full ≡ 35
unfolding cell_spans_in way_within
uneven_spans = refl

-- of these the first box and 7 of the 8 have more than one cell
uneven_long : mesh_long_spans (window 3) full ≡ 8
unfolding long_spans_in way_within
uneven_long = refl

other_half_long : mesh_long_spans (window 2) other_half ≡ 2
unfolding long_spans_in way_within
other_half_long = refl

-- The lesser of x and y, over three cells along each axis. Where y is from a third on it is x alone, so
-- cells there receive one step, and the others three. Where x is too, they are decided outside.
abbrev lesser : List Step
lesser = step X 0 0 ∷ step Y 0 0 ∷ step Min 0 1 ∷ []

lesser_points : mesh_points (window 3) lesser ≡ 156
unfolding mesh_points way_within
lesser_points = refl

lesser_least : mesh_least (window 3) lesser ≡ 132
unfolding mesh_least way_within
lesser_least = refl

lesser_spans : mesh_spans (window 3) lesser ≡ 87
unfolding cell_spans_in way_within
lesser_spans = refl

lesser_long : mesh_long_spans (window 3) lesser ≡ 24
unfolding long_spans_in way_within
lesser_long = refl

-- the least of some numbers, wherever it stands
least_first : least (2 ∷ 7 ∷ 5 ∷ []) ≡ 2
least_first = refl

least_last : least (7 ∷ 5 ∷ 2 ∷ []) ≡ 2
least_last = refl

greatest_within : maximum (2 ∷ 7 ∷ 5 ∷ []) ≡ 7
greatest_within = refl

-- ---- the values of a grid

-- from 1 to 2 along x, from -10 to 20 along y and from 3 to 100 along z, in raw numbers
abbrev uneven : Window
uneven = record (window 1) {
  x0 = pos 1;
  x1 = pos 2;
  y0 = negsuc 9;
  y1 = pos 20;
  z0 = pos 3;
  z1 = pos 100;
}

-- the sum of the coordinates
abbrev total : List Step
total = record { op = X; a = 0; b = 0; value = pos 0 } ∷ record { op = Y; a = 0; b = 0; value = pos 0 } ∷ record { op = Add; a = 0; b = 1; value = pos 0 } ∷ record { op = Z; a = 0; b = 0; value = pos 0 } ∷ record { op = Add; a = 2; b = 3; value = pos 0 } ∷ []

-- all points are outermost: -6 and -5 are raised to 0
values_of_total :
    (list_grid uneven total).values ≡ pos 0 ∷ pos 0 ∷ pos 24 ∷ pos 25 ∷ pos 91 ∷ pos 92 ∷ pos 121 ∷ pos 122 ∷ []
unfolding list_grid
values_of_total = refl

-- the middle point keeps its value
middle_of_full : list_grid_value (window 2) full (point 1 1 1) ≡ negsuc 4294967295
middle_of_full = refl

side_of_full : list_grid_value (window 2) full (point 2 1 1) ≡ pos 0
side_of_full = refl

-- ---- the outermost layer, on each side alone

inner_point : is_border (cells 5) (point 1 2 4) ≡ false
inner_point = refl

first_along_x : is_border (cells 5) (point 0 2 3) ≡ true
first_along_x = refl

last_along_x : is_border (cells 5) (point 5 2 3) ≡ true
last_along_x = refl

first_along_y : is_border (cells 5) (point 2 0 3) ≡ true
first_along_y = refl

last_along_y : is_border (cells 5) (point 2 5 3) ≡ true
last_along_y = refl

first_along_z : is_border (cells 5) (point 2 3 0) ≡ true
first_along_z = refl

last_along_z : is_border (cells 5) (point 2 3 5) ≡ true
last_along_z = refl

-- the cell at a point
abbrev cell : ℕ → ℕ → ℕ → Indices
cell x y z = record { x0 = x; x1 = suc x; y0 = y; y1 = suc y; z0 = z; z1 = suc z }

inner_cell : meets_border (cells 5) (cell 1 2 3) ≡ false
inner_cell = refl

cell_first_along_x : meets_border (cells 5) (cell 0 2 3) ≡ true
cell_first_along_x = refl

cell_last_along_x : meets_border (cells 5) (cell 4 2 3) ≡ true
cell_last_along_x = refl

cell_first_along_y : meets_border (cells 5) (cell 2 0 3) ≡ true
cell_first_along_y = refl

cell_last_along_y : meets_border (cells 5) (cell 2 4 3) ≡ true
cell_last_along_y = refl

cell_first_along_z : meets_border (cells 5) (cell 2 3 0) ≡ true
cell_first_along_z = refl

cell_last_along_z : meets_border (cells 5) (cell 2 3 4) ≡ true
cell_last_along_z = refl

-- an undecided box stays open anywhere, and one that is decided inside stays open there alone
undecided_box_stays_open : is_open_by (meets_border (cells 5)) (cell 1 2 3) None ≡ true
undecided_box_stays_open = refl

inner_box_is_closed : is_open_by (meets_border (cells 5)) (cell 1 2 3) (Some true) ≡ false
inner_box_is_closed = refl

border_box_stays_open : is_open_by (meets_border (cells 5)) (cell 2 4 3) (Some true) ≡ true
border_box_stays_open = refl

box_outside_is_closed : is_open_by (meets_border (cells 5)) (cell 2 4 3) (Some false) ≡ false
box_outside_is_closed = refl

-- evaluations and hulls are counted each by themselves, and what is too little is not enough
abbrev counted : ℕ → ℕ → Counts
counted points spans = record { points = points; spans = spans; corners = 300 }

four_evaluations : CountsAtLeast 4 no_counts (counted 4 3)
four_evaluations = record { by = counted 4 3; many = omega arith; rises = refl }

five_evaluations : CountsAtLeast 5 no_counts (counted 4 30) → ⊥
five_evaluations h =
    let points : 4 ≡ risen 0 h.by.points = ap (λ (counts : Counts). counts.points) h.rises in
    omega (arith, h.many, points)

four_hulls : CountsHullsAtLeast 4 no_counts (counted 3 4)
four_hulls = record { by = counted 3 4; many = omega arith; rises = refl }

five_hulls : CountsHullsAtLeast 5 no_counts (counted 30 4) → ⊥
five_hulls h =
    let spans : 4 ≡ risen 0 h.by.spans = ap (λ (counts : Counts). counts.spans) h.rises in
    omega (arith, h.many, spans)

-- where the values of points stand: x first, in bricks of 8 by 8 by 8, three along each axis of 17 cells
place_in_a_brick : slot (point 3 9 18) ≡ 139
place_in_a_brick = refl

brick_of_a_point : map (λ p. brick_of (cells 17) p) (point 3 9 18 ∷ point 16 0 0 ∷ point 0 0 8 ∷ [])
    ≡ 21 ∷ 2 ∷ 9 ∷ []
brick_of_a_point = refl

bricks_begin_at_one : map (λ place. stand_in place 7) (0 ∷ 1 ∷ 3 ∷ [])
    ≡ None ∷ Some 7 ∷ Some 1031 ∷ []
bricks_begin_at_one = refl

corners_of_a_cell : map places_to (0 ∷ 1 ∷ 2 ∷ 3 ∷ 4 ∷ 5 ∷ 6 ∷ 7 ∷ [])
    ≡ 0 ∷ 1 ∷ 8 ∷ 9 ∷ 64 ∷ 65 ∷ 72 ∷ 73 ∷ []
corners_of_a_cell = refl

points_of_five_cells : map (λ p. is_within (cells 5) p)
    (point 5 5 5 ∷ point 6 0 0 ∷ point 0 6 0 ∷ point 0 0 6 ∷ [])
    ≡ true ∷ false ∷ false ∷ false ∷ []
points_of_five_cells = refl

same_along_each_axis : map (λ p. same_point p (point 1 2 3))
    (point 1 2 3 ∷ point 0 2 3 ∷ point 1 0 3 ∷ point 1 2 0 ∷ [])
    ≡ true ∷ false ∷ false ∷ false ∷ []
same_along_each_axis = refl

-- sides that are seen: 0 is outside, and a corner that is not known shows none
abbrev seen : Bool → Bool → Bool → Seen
seen all inside outside = record { all = all; inside = inside; outside = outside }

one_more_corner : map (λ corner. side_seen (seen true false false) corner)
    (Some (negsuc 0) ∷ Some (pos 0) ∷ None ∷ [])
    ≡ seen true true false ∷ seen true false true ∷ seen false false false ∷ []
one_more_corner = refl

sides_stay_seen : map (λ corner. side_seen (seen true true true) corner)
    (Some (negsuc 0) ∷ Some (pos 0) ∷ None ∷ [])
    ≡ seen true true true ∷ seen true true true ∷ seen false true true ∷ []
sides_stay_seen = refl

both_sides_are_mixed : map are_mixed
    ((negsuc 0 ∷ pos 0 ∷ []) ∷ (negsuc 0 ∷ negsuc 4 ∷ []) ∷ (pos 0 ∷ pos 4 ∷ []) ∷ [])
    ≡ true ∷ false ∷ false ∷ []
both_sides_are_mixed = refl

-- ---- halves in the mesh before

-- The lesser of x and 9 is x everywhere: a half received that one step. Where the mesh before did not split the box,
-- or there was none, it did not reach the half.
abbrev lesser_of_nine : List Step
lesser_of_nine = step X 0 0 ∷ record { op = Const; a = 0; b = 0; value = pos 38654705664 } ∷ step Min 0 1 ∷ []

half_that_was_reached : half_before (gridded (window 2)) (Some (grid_root (window 2) lesser_of_nine)) (cell 0 1 0)
    ≡ Some (visit (cell 0 1 0) (step X 0 0 ∷ []))
half_that_was_reached = refl

half_of_what_was_shut : half_before (gridded (window 2)) (Some (grid_root (window 2) empty)) (cell 0 1 0) ≡ None
half_of_what_was_shut = refl

half_of_no_box : half_before (gridded (window 2)) None (cell 0 1 0) ≡ None
half_of_no_box = refl

-- ---- points without values

-- four cells along each axis, from 0 to 8, from 10 to 50 and from 100 to 500
gap_lies_at :
    lies_at
    (record (window 4) { x0 = pos 0; x1 = pos 8; y0 = pos 10; y1 = pos 50; z0 = pos 100; z1 = pos 500 })
    (record { x = 1; y = 3; z = 2; at = 4 })
    ≡ record { x = pos 2; y = pos 40; z = pos 300 }
gap_lies_at = refl

-- of one cell all corners are known but the one that lies furthest along all axes: that one is a gap
abbrev seven_known : PointValues
seven_known = record {
  n = cells 1;
  places = 1 ∷ [];
  kept = record { known = replicate 73 true ++ false ∷ []; values = [] };
}

abbrev last_corner : List Gap
last_corner = record { x = 1; y = 1; z = 1; at = 73 } ∷ []

last_corner_is_a_gap : AreGaps seven_known (point 0 0 0) last_corner
unfolding known_at stand
last_corner_is_a_gap = record {
  stand = stands;
  corners = corners;
  unknown = unknown;
  apart = λ i j d less within. absurd (omega (arith, less, within));
  all = all;
}
  where
    stands : All (StandsIn seven_known) last_corner
    stands zero d h =
        record { x = omega arith; y = omega arith; z = omega arith; stands = refl; within = omega arith }
    stands (suc i) d h = absurd (omega (arith, h))

    corners : All (λ (gap : Gap). IsCornerBelow 8 (point 0 0 0) (spot gap)) last_corner
    corners zero d h = record { mask = 7; less = omega arith; at = refl }
    corners (suc i) d h = absurd (omega (arith, h))

    unknown : All (λ (gap : Gap). known_at seven_known (spot gap) ≡ None) last_corner
    unknown zero d h = refl
    unknown (suc i) d h = absurd (omega (arith, h))

    all : (c : ℕ) → c < 8
        → (has_gap last_corner (further (point 0 0 0) c) || is_known (known_at seven_known (further (point 0 0 0) c)))
        ≡ true
    all zero h = refl
    all (suc zero) h = refl
    all (suc (suc zero)) h = refl
    all (suc (suc (suc zero))) h = refl
    all (suc (suc (suc (suc zero)))) h = refl
    all (suc (suc (suc (suc (suc zero))))) h = refl
    all (suc (suc (suc (suc (suc (suc zero)))))) h = refl
    all (suc (suc (suc (suc (suc (suc (suc zero))))))) h = refl
    all (suc (suc (suc (suc (suc (suc (suc (suc c)))))))) h = absurd (omega (arith, h))

last_corner_is_missing : AreGaps seven_known (point 0 0 0) [] → ⊥
unfolding known_at stand
last_corner_is_missing h = let found : false ≡ true = h.all 7 (omega arith) in (cc)

-- ---- what looking into a box needs

-- one list of three steps, and room for so many
abbrev desk : ℕ → Tracing
desk room = record { view = window 3; lattice = lattices.Grid; room = room; lists = lesser ∷ [] }

just_room : (t : Known) (b : Indices) → IsVisit (descent_of mesh (window 3)).boxes (visit b lesser)
    → SameSize t.n (cells 3) → AreRight (value_in mesh (window 3) lesser) b t → MayLook mesh (desk 3) b 0 t
just_room t b is same right = record {
  lattice = refl;
  visit_is = is;
  n = same;
  among = omega arith;
  room = omega arith;
  right = right;
}

room_for_two_steps : (t : Known) (b : Indices) → MayLook mesh (desk 2) b 0 t → ⊥
room_for_two_steps t b h = let room : 3 ≤ 2 = h.room in omega (arith, room)

no_second_list : (t : Known) (b : Indices) → MayLook mesh (desk 3) b 1 t → ⊥
no_second_list t b h = let among : 1 < 1 = h.among in omega (arith, among)

other_lattice : (t : Known) (b : Indices) → MayLook mesh (record (desk 3) { lattice = lattices.Height }) b 0 t → ⊥
other_lattice t b h = let lattice : lattices.Height ≡ lattices.Grid = h.lattice in (cc)
