-- The work and the pixels of images, computed on lists that were worked out by hand.
use Rattle.std.proofs.Common.{◌≡◌, ℕ, ◌≤◌, true, false, pos, negsuc, [], ◌∷◌, List, ap, refl, arith}
use Rattle.std.specs.Prelude.{None, Option, Some}
use Rattle.box_chains.specs.Chains.{chain_within}
use Rattle.box_chains.specs.Counts.{points_in, spans_in}
use Rattle.fixed_ops.specs.declared.operation.Op.TheVariants.{X, Y, Const, Neg}
use Rattle.live_clauses.specs.declared.step.Step.{Step}
use Rattle.view_places.specs.Window.{Window}
use Rattle.view_places.specs.Boxes.{Indices}
use Rattle.view_places.specs.declared.lattice.Lattice.TheVariants.{Raster}
use Rattle.quad_descent.specs.Adding.{IsDrawn}
use Rattle.quad_descent.specs.Drawn.{count_of}
use Rattle.quad_descent.specs.Nodes.{bits_of, kept_within, nodes_of}
use Rattle.quad_descent.specs.Painting.{covers, meets}
use Rattle.quad_descent.specs.Pixels.{pixels_of, rows_from}
use Rattle.quad_descent.specs.Raster.{Drawing, fresh_points, fresh_spans, raster, raster_root}
use Rattle.quad_descent.specs.Rows.{AreRows, IsOver, rows_at}
use Rattle.quad_descent.specs.Scans.{IsAtNext, IsTold}
use Rattle.quad_descent.specs.declared.band.Band.{Band}
use Rattle.quad_descent.specs.declared.boxes.Boxes.{Boxes}
use Rattle.quad_descent.specs.declared.node.Node.TheVariants.{Outside, Leaf, Split}
use Rattle.quad_descent.specs.declared.scan.Scan.{Scan}

-- from -1 to 1, at the height 0
abbrev window : ℕ → ℕ → Window
window w h = record {
  x0 = negsuc 4294967295;
  x1 = pos 4294967296;
  y0 = negsuc 4294967295;
  y1 = pos 4294967296;
  z0 = negsuc 4294967295;
  z1 = pos 4294967296;
  z = pos 0;
  w = w;
  h = h;
  d = 1;
  nx = 1;
  ny = 1;
  nz = 1;
}

-- the coordinate x
abbrev across : List Step
across = record { op = X; a = 0; b = 0; value = pos 0 } ∷ []

-- one leaf, which is undecided
leaf_points : fresh_points (window 8 1) across ≡ 8
unfolding points_in chain_within
leaf_points = refl

leaf_spans : fresh_spans (window 8 1) across ≡ 1
unfolding spans_in chain_within
leaf_spans = refl

-- both halves are decided, since no sample lies on the line
halves_points : fresh_points (window 16 1) across ≡ 0
unfolding points_in chain_within
halves_points = refl

halves_spans : fresh_spans (window 16 1) across ≡ 3
unfolding spans_in chain_within
halves_spans = refl

-- the lower half has the odd sample, which lies on the line
odd_points : fresh_points (window 9 1) across ≡ 5
unfolding points_in chain_within
odd_points = refl

odd_spans : fresh_spans (window 9 1) across ≡ 3
unfolding spans_in chain_within
odd_spans = refl

-- what is decided over all samples is evaluated at none
decided_points : fresh_points (window 8 8) (record { op = Const; a = 0; b = 0; value = negsuc 4294967295 } ∷ []) ≡ 0
unfolding points_in chain_within
decided_points = refl

decided_spans : fresh_spans (window 8 8) (record { op = Const; a = 0; b = 0; value = negsuc 4294967295 } ∷ []) ≡ 1
unfolding spans_in chain_within
decided_spans = refl

-- of three columns the left one alone is inside, in both rows
across_pixels : pixels_of (window 3 2) across ≡ 255 ∷ 0 ∷ 0 ∷ 255 ∷ 0 ∷ 0 ∷ []
across_pixels = refl

-- the coordinate y: of three rows the lowest one alone is inside
abbrev up : List Step
up = record { op = Y; a = 0; b = 0; value = pos 0 } ∷ []

up_rows : rows_from (window 2 3) up 1 2 ≡ 0 ∷ 0 ∷ 255 ∷ 255 ∷ []
up_rows = refl

-- the opposite of y: the upper half has the odd row, which lies on the line
abbrev down : List Step
down =
    record { op = Y; a = 0; b = 0; value = pos 0 }
    ∷ record { op = Neg; a = 0; b = 0; value = pos 0 }
    ∷ []

down_points : fresh_points (window 1 9) down ≡ 10
unfolding points_in chain_within
down_points = refl

-- ---- what is kept of boxes

digits : bits_of (true ∷ false ∷ true ∷ true ∷ []) ≡ 11
digits = refl

-- of nine columns the first four are inside: the lower half is a leaf of five samples, and the upper one is decided
odd_nodes :
    nodes_of (raster (window 9 1)) (raster_root (window 9 1) across) ≡ Split 2 ∷ Leaf (30 ∷ 0 ∷ 0 ∷ 0 ∷ 0 ∷ 0 ∷ 0 ∷ 0 ∷ []) ∷ Outside ∷ []
unfolding kept_within
odd_nodes = refl

-- of three rows of two samples the lowest one alone is inside
row_nodes : nodes_of (raster (window 2 3)) (raster_root (window 2 3) up) ≡ Leaf (0 ∷ 0 ∷ 3 ∷ 0 ∷ 0 ∷ 0 ∷ 0 ∷ 0 ∷ []) ∷ []
unfolding kept_within
row_nodes = refl

-- a node of a box that is split, and one of another
split_count : count_of (Split 5) ≡ 6
split_count = refl

outside_count : count_of Outside ≡ 1
outside_count = refl

-- ---- what is painted

-- rows 4 and 5
abbrev band : Band
band = record { row = 4; rows = 2 }

-- columns 1 and 2 of the rows from one on, below another
abbrev rows_of_box : ℕ → ℕ → Indices
rows_of_box low high = record { x0 = 1; x1 = 3; y0 = low; y1 = high; z0 = 0; z1 = 1 }

ends_above : meets band (rows_of_box 2 4) ≡ false
ends_above = refl

reaches_in : meets band (rows_of_box 2 5) ≡ true
reaches_in = refl

begins_below : meets band (rows_of_box 6 8) ≡ false
begins_below = refl

begins_within : meets band (rows_of_box 5 8) ≡ true
begins_within = refl

-- in rows of four columns from row 4 on, place 5 is column 1 of row 5
covered_place : covers 4 4 (rows_of_box 5 6) 5 ≡ true
covered_place = refl

place_beside : covers 4 4 (rows_of_box 5 6) 7 ≡ false
place_beside = refl

place_above : covers 4 4 (rows_of_box 5 6) 1 ≡ false
place_above = refl

-- ---- rows of an image that stands

-- three rows of two samples, of which the lowest one alone is inside
abbrev standing : Option Drawing
standing = Some (record { view = window 2 3; list = up })

stands_over_its_view : IsOver standing (window 2 3)
stands_over_its_view = refl

stands_over_no_other : IsOver standing (window 3 2) → ⊥
stands_over_no_other h =
    let same : window 2 3 ≡ window 3 2 = h in
    let columns : 2 ≡ 3 = ap (λ (view : Window). view.w) same in
    omega (arith, columns)

none_stands_over_a_view : IsOver None (window 2 3) → ⊥
none_stands_over_a_view h = h

-- four bytes are the last two rows, three are no whole rows, and two rows from the last one on are too many
last_two_rows : AreRows standing 1 4
last_two_rows = (refl, omega arith)

part_of_a_row : AreRows standing 1 3 → ⊥
part_of_a_row h = let left : 1 ≡ 0 = h.0 in omega (arith, left)

row_too_many : AreRows standing 2 4 → ⊥
row_too_many h = let within : 4 ≤ 3 = h.1 in omega (arith, within)

no_rows_of_no_image : AreRows None 0 0 → ⊥
no_rows_of_no_image h = h

bytes_of_two_rows : rows_at standing 1 4 ≡ 0 ∷ 0 ∷ 255 ∷ 255 ∷ []
bytes_of_two_rows = refl

bytes_of_no_image : rows_at None 1 4 ≡ []
bytes_of_no_image = refl

-- ---- boxes of a whole image

-- the box of all nine samples hands on its list, and neither of its halves hands on any
image_of_nine : (boxes : Boxes)
    → boxes.nodes.items ≡ Split 2 ∷ Leaf (30 ∷ 0 ∷ 0 ∷ 0 ∷ 0 ∷ 0 ∷ 0 ∷ 0 ∷ []) ∷ Outside ∷ []
    → boxes.lists.items ≡ Some across ∷ None ∷ None ∷ []
    → IsDrawn (window 9 1) across boxes
unfolding kept_within
image_of_nine boxes nodes lists = record { nodes = nodes; lists = λ keeps. lists }

-- where no lists are kept any may stand there
image_without_lists : (boxes : Boxes)
    → boxes.nodes.items ≡ Split 2 ∷ Leaf (30 ∷ 0 ∷ 0 ∷ 0 ∷ 0 ∷ 0 ∷ 0 ∷ 0 ∷ []) ∷ Outside ∷ []
    → boxes.keeps ≡ false → IsDrawn (window 9 1) across boxes
unfolding kept_within
image_without_lists boxes nodes none = record {
  nodes = nodes;
  lists = λ keeps. let kept : boxes.keeps ≡ true = keeps in absurd (cc);
}

-- ---- samples that are told one after another

-- of columns 3 to 5 in rows 5 and 6 four are told: the next one is the second of row 6
abbrev six : Indices
six = record { x0 = 3; x1 = 6; y0 = 5; y1 = 7; z0 = 0; z1 = 1 }

abbrev scan : ℕ → ℕ → Scan
scan i j = record { told = 4; i = i; j = j; bits = 9 }

fifth_is_next : IsAtNext six (scan 4 6)
fifth_is_next = record { column = refl; row = refl }

other_column : IsAtNext six (scan 3 6) → ⊥
other_column h = let column : 3 ≡ 4 = h.column in omega (arith, column)

other_row : IsAtNext six (scan 4 5) → ⊥
other_row h = let row : 5 ≡ 6 = h.row in omega (arith, row)

-- after two the next one is the last of row 5, and after three the first of row 6
third_is_next : IsAtNext six (record { told = 2; i = 5; j = 5; bits = 3 })
third_is_next = record { column = refl; row = refl }

fourth_is_next : IsAtNext six (record { told = 3; i = 3; j = 6; bits = 6 })
fourth_is_next = record { column = refl; row = refl }

-- of eight columns the first four are inside, so the first and the last one of those that are told
four_are_told : IsTold (window 8 8) Raster across six (scan 4 6)
four_are_told = record { next = fifth_is_next; bits = refl }

other_bits : IsTold (window 8 8) Raster across six (record (scan 4 6) { bits = 6 }) → ⊥
other_bits h = let bits : 6 ≡ 9 = h.bits in omega (arith, bits)
