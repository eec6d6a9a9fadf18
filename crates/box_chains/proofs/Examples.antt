-- The work of boxes that hand on less than they receive, computed on a list that was worked out by hand.
use Rattle.std.proofs.Common.{◌≡◌, ◌+◌, ◌*◌, ◌≤◌, ℕ, zero, suc, Bool, true, false, pos, negsuc, [], ◌∷◌, List, length, map, Some, None, ltb, arith, ap, refl, subst}
use Rattle.fixed_ops.specs.Counts.{Counts}
use Rattle.fixed_ops.specs.declared.operation.Op.{Op}
use Rattle.fixed_ops.specs.declared.operation.Op.TheVariants.{X, Y, Const, Neg, Sub, Max}
use Rattle.interval_ops.specs.Hulls.{between}
use Rattle.interval_ops.specs.declared.choice.Choice.TheVariants.{Left, Both}
use Rattle.live_clauses.specs.Steps.{tape_value}
use Rattle.live_clauses.specs.declared.step.Step.{Step}
use Rattle.view_places.specs.Window.{Window}
use Rattle.view_places.specs.Boxes.{Indices}
use Rattle.view_places.specs.declared.lattice.Axis.TheVariants as axes
use Rattle.view_places.specs.declared.lattice.Lattice.TheVariants.{Raster, Height, Grid}
use Rattle.box_chains.specs.Chains.{Descent, Visit, chain_end, chain_within, decision, handed_on, is_long, sum_over, visit}
use Rattle.box_chains.specs.Counts.{halves_points, halves_spans, open_points, open_spans, points_in, root_visit, spans_in}
use Rattle.box_chains.specs.Desks.{HasRoomFor, MayOpen, Tracing, list_of}
use Rattle.box_chains.specs.Laws.{IsTold}
use Rattle.box_chains.specs.Opened.{outcome_points, outcome_spans, sampling, spans_below}
use Rattle.box_chains.specs.Outcomes.{ChoosesNone, asked_decisions, asked_outcomes, decision_in, decision_of, is_shortened, traced_decisions, traced_outcomes}
use Rattle.box_chains.specs.Placing.{places_along}
use Rattle.box_chains.specs.Sums.{Sample, maximum}
use Rattle.box_chains.specs.Tallied.{CountsAtMost, CountsExactly}
use Rattle.box_chains.specs.Tested.{halves_points_where, halves_spans_where, open_points_where, open_spans_where, points_where, spans_where}
use Rattle.box_chains.specs.Visits.{sample_point}
use Rattle.box_chains.specs.declared.asked_box.AskedBox.{AskedBox}
use Rattle.box_chains.specs.declared.outcome.Outcome.TheVariants.{Inside, Outside, Open}
use Rattle.box_chains.specs.declared.traced_box.TracedBox.{TracedBox}

-- rasters from -1 to 1, at the height 0, by boxes with sides of at most 8
abbrev pub raster : ℕ → ℕ → Descent
raster w h = record {
  view = record {
    x0 = negsuc 4294967295;
    x1 = pos 4294967296;
    y0 = negsuc 4294967295;
    y1 = pos 4294967296;
    z0 = negsuc 4294967295;
    z1 = pos 4294967296;
    z = pos 0;
    w = w;
    h = h;
    d = 1;
    nx = 1;
    ny = 1;
    nz = 1;
  };
  lattice = Raster;
  leaf = 8;
}

-- the greater of a coordinate and its opposite, less a half, but no less than -3: seven steps
abbrev slab : Op → List Step
slab axis =
    record { op = axis; a = 0; b = 0; value = pos 0 }
    ∷ record { op = Neg; a = 0; b = 0; value = pos 0 }
    ∷ record { op = Max; a = 0; b = 1; value = pos 0 }
    ∷ record { op = Const; a = 0; b = 0; value = pos 2147483648 }
    ∷ record { op = Sub; a = 2; b = 3; value = pos 0 }
    ∷ record { op = Const; a = 0; b = 0; value = negsuc 12884901887 }
    ∷ record { op = Max; a = 4; b = 5; value = pos 0 }
    ∷ []

-- The root decides the last maximum and hands on five steps. Both halves are undecided leaves: four
-- steps are live in the left one, and three in the right one.
leaves_points : points_in (raster 16 1) (root_visit (raster 16 1) (slab X)) ≡ 56
unfolding points_in chain_within
leaves_points = refl

leaves_spans : spans_in (raster 16 1) (root_visit (raster 16 1) (slab X)) ≡ 17
unfolding spans_in chain_within
leaves_spans = refl

-- Of eleven rows six are in the upper half, down to 0, where three steps are live.
rows_points : points_in (raster 1 11) (root_visit (raster 1 11) (slab Y)) ≡ 38
unfolding points_in chain_within
rows_points = refl

-- One level more decides each box: two receive four steps, and two receive three.
quarters_points : points_in (raster 32 1) (root_visit (raster 32 1) (slab X)) ≡ 0
unfolding points_in chain_within
quarters_points = refl

quarters_spans : spans_in (raster 32 1) (root_visit (raster 32 1) (slab X)) ≡ 31
unfolding spans_in chain_within
quarters_spans = refl

-- ---- sides

-- from 2, 3 and 5 on, so long along x, y and z
abbrev box : ℕ → ℕ → ℕ → Indices
box w h d = record { x0 = 2; x1 = 2 + w; y0 = 3; y1 = 3 + h; z0 = 5; z1 = 5 + d }

sides_of_a_leaf : is_long 8 (box 8 8 8) ≡ false
sides_of_a_leaf = refl

long_along_x : is_long 8 (box 9 1 1) ≡ true
long_along_x = refl

long_along_y : is_long 8 (box 1 9 1) ≡ true
long_along_y = refl

long_along_z : is_long 8 (box 1 1 9) ≡ true
long_along_z = refl

-- ---- places

-- from -2 to 2 along x, from -1 to 1 along y and from 10 to 40 along z, in raw numbers, at the height 7
abbrev uneven : Window
uneven = record {
  x0 = negsuc 1;
  x1 = pos 2;
  y0 = negsuc 0;
  y1 = pos 1;
  z0 = pos 10;
  z1 = pos 40;
  z = pos 7;
  w = 5;
  h = 3;
  d = 4;
  nx = 2;
  ny = 2;
  nz = 2;
}

-- columns lie from the left on
columns : places_along uneven Raster axes.X ≡ negsuc 1 ∷ negsuc 0 ∷ pos 0 ∷ pos 1 ∷ pos 2 ∷ []
columns = refl

-- and rows from the top on
rows : places_along uneven Raster axes.Y ≡ pos 1 ∷ pos 0 ∷ negsuc 0 ∷ []
rows = refl

-- a raster has one height, and a height map has layers
height : places_along uneven Raster axes.Z ≡ pos 7 ∷ []
height = refl

layers : places_along uneven Height axes.Z ≡ pos 10 ∷ pos 20 ∷ pos 30 ∷ pos 40 ∷ []
layers = refl

-- a grid of two cells has three points along an axis, from below on
points : places_along uneven Grid axes.Y ≡ negsuc 0 ∷ pos 0 ∷ pos 1 ∷ []
points = refl

-- ---- tallies

abbrev counts : ℕ → ℕ → ℕ → Counts
counts points spans corners = record { points = points; spans = spans; corners = corners }

-- three evaluations and two hulls, with eight corners
exact_work : CountsExactly 3 2 (counts 10 20 30) (counts 13 22 38)
exact_work = record { corners = 8; few = omega arith; rises = refl }

exact_corners : (work : CountsExactly 3 2 (counts 10 20 30) (counts 13 22 38)) → work.corners ≤ 8
exact_corners work = work.few

-- no more than three evaluations and two hulls
bounded_work : CountsAtMost 3 2 (counts 10 20 30) (counts 12 22 38)
bounded_work = record {
  by = counts 2 2 8;
  few = record { points = omega arith; spans = omega arith; corners = omega arith };
  rises = refl;
}

bounded_corners : (work : CountsAtMost 3 2 (counts 10 20 30) (counts 12 22 38)) → work.by.corners ≤ 8
bounded_corners work = work.few.corners

-- ---- halves and open boxes

-- the slab along x but for its last maximum: five steps
abbrev bare : List Step
bare =
    record { op = X; a = 0; b = 0; value = pos 0 }
    ∷ record { op = Neg; a = 0; b = 0; value = pos 0 }
    ∷ record { op = Max; a = 0; b = 1; value = pos 0 }
    ∷ record { op = Const; a = 0; b = 0; value = pos 2147483648 }
    ∷ record { op = Sub; a = 2; b = 3; value = pos 0 }
    ∷ []

-- columns from one on, before another, of a raster of one row
abbrev columns_of_row : ℕ → ℕ → Indices
columns_of_row low high = record { x0 = low; x1 = high; y0 = 0; y1 = 1; z0 = 0; z1 = 1 }

abbrev halves : List Indices
halves = columns_of_row 0 8 ∷ columns_of_row 8 16 ∷ []

-- a box with the list that it receives, and a sum over two of them: 100 times where they end, and five steps each
received : visit (box 1 2 3) bare ≡ record { box = box 1 2 3; list = bare }
received = refl

sum_of_two : sum_over (λ v. v.box.x1 * 100 + length v.list) bare halves ≡ 2410
sum_of_two = refl

-- Eight samples take four evaluations each in the left half, and eight take three each in the right one. Both are
-- traced over five steps.
points_of_halves : halves_points (raster 16 1) bare halves ≡ 56
unfolding points_in chain_within
points_of_halves = refl

spans_of_halves : halves_spans (raster 16 1) bare halves ≡ 10
unfolding spans_in chain_within
spans_of_halves = refl

-- An open box with these halves takes the same, and an open leaf takes all five steps at each of its three samples.
points_of_open : open_points (raster 16 1) (columns_of_row 0 16) bare ≡ 56
unfolding points_in chain_within
points_of_open = refl

spans_of_open : open_spans (raster 16 1) (columns_of_row 0 16) bare ≡ 10
unfolding spans_in chain_within
spans_of_open = refl

points_of_leaf : open_points (raster 16 1) (columns_of_row 4 7) bare ≡ 15
points_of_leaf = refl

spans_of_leaf : open_spans (raster 16 1) (columns_of_row 4 7) bare ≡ 0
spans_of_leaf = refl

-- a box that is open takes that, and one that is decided takes nothing
points_of_outcomes :
    map (outcome_points (raster 16 1) (columns_of_row 0 16)) (Inside ∷ Outside ∷ Open bare ∷ []) ≡ 0 ∷ 0 ∷ 56 ∷ []
unfolding points_in chain_within
points_of_outcomes = refl

spans_of_outcomes :
    map (outcome_spans (raster 16 1) (columns_of_row 0 16)) (Inside ∷ Outside ∷ Open bare ∷ []) ≡ 0 ∷ 0 ∷ 10 ∷ []
unfolding spans_in chain_within
spans_of_outcomes = refl

-- the box of all samples receives seven steps and hands on these five
spans_below_root : spans_below (raster 16 1) (slab X) (columns_of_row 0 16) ≡ 10
unfolding spans_in chain_within
spans_below_root = refl

-- of the samples from column 10 on all six lie in the right half, so the left one is not traced
abbrev late : Sample → Bool
late s = ltb 9 s.i

late_points : halves_points_where late (raster 16 1) bare halves ≡ 18
unfolding points_where chain_within
late_points = refl

late_spans : halves_spans_where late (raster 16 1) bare halves ≡ 5
unfolding spans_where chain_within
late_spans = refl

late_points_of_open : open_points_where late (raster 16 1) (columns_of_row 0 16) bare ≡ 18
unfolding points_where chain_within
late_points_of_open = refl

late_spans_of_open : open_spans_where late (raster 16 1) (columns_of_row 0 16) bare ≡ 5
unfolding spans_where chain_within
late_spans_of_open = refl

-- and two of them in an open leaf of four, which takes five steps at each
late_points_of_leaf : open_points_where late (raster 16 1) (columns_of_row 8 12) bare ≡ 10
late_points_of_leaf = refl

late_spans_of_leaf : open_spans_where late (raster 16 1) (columns_of_row 8 12) bare ≡ 0
late_spans_of_leaf = refl

greatest : maximum (3 ∷ 7 ∷ 5 ∷ []) ≡ 7
greatest = refl

greatest_of_none : maximum [] ≡ 0
greatest_of_none = refl

-- ---- desks

-- x, y and the negation of x, where nothing needs y
abbrev idle : List Step
idle =
    record { op = X; a = 0; b = 0; value = pos 0 }
    ∷ record { op = Y; a = 0; b = 0; value = pos 0 }
    ∷ record { op = Neg; a = 0; b = 0; value = pos 0 }
    ∷ []

-- three lists of three, seven and five steps, where a list may have five
abbrev desk : Tracing
desk = record { view = uneven; lattice = Raster; room = 5; lists = idle ∷ slab X ∷ bare ∷ [] }

list_of_one : list_of desk 1 ≡ slab X
list_of_one = refl

-- there is room for the last one, and not for one whose steps are not all needed, nor for a longer one, nor for
-- one that is not there
room_for_five : HasRoomFor desk 2
room_for_five = record { among = omega arith; room = omega arith; whole = refl }

no_room_for_idle : HasRoomFor desk 0 → ⊥
no_room_for_idle has = let fewer : 2 ≡ 3 = ap length has.whole in omega (arith, fewer)

no_room_for_seven : HasRoomFor desk 1 → ⊥
no_room_for_seven has = let few : 7 ≤ 5 = has.room in omega (arith, few)

no_room_for_none : HasRoomFor desk 3 → ⊥
no_room_for_none has = omega (arith, has.among)

-- all samples of five columns and three rows are a box that may hand that list on
abbrev all_samples : Indices
all_samples = record { x0 = 0; x1 = 5; y0 = 0; y1 = 3; z0 = 0; z1 = 1 }

opens_with_five : MayOpen Raster desk all_samples (Open 2)
opens_with_five = record {
  lattice = refl;
  box = record { x = omega arith; y = omega arith; z = omega arith };
  within = record { x = omega arith; y = omega arith; z = omega arith };
  hands = λ at is. let same : 2 ≡ at = cc in subst (HasRoomFor desk) same room_for_five;
}

-- and may be decided; it may not hand on the longer list, be a box of another lattice, have no sample, or have one
-- that is no sample of the desk's
may_be_outside : MayOpen Raster desk all_samples Outside
may_be_outside = record {
  lattice = refl;
  box = record { x = omega arith; y = omega arith; z = omega arith };
  within = record { x = omega arith; y = omega arith; z = omega arith };
  hands = λ at is. (cc);
}

opens_with_seven : MayOpen Raster desk all_samples (Open 1) → ⊥
opens_with_seven may = no_room_for_seven (may.hands 1 refl)

another_lattice : MayOpen Height desk all_samples Outside → ⊥
another_lattice may = let same : Raster ≡ Height = may.lattice in (cc)

no_sample : MayOpen Raster desk (record all_samples { y0 = 3 }) Outside → ⊥
no_sample may = omega (arith, may.box.y)

too_many_columns : MayOpen Raster desk (record all_samples { x1 = 6 }) Outside → ⊥
too_many_columns may = omega (arith, may.within.x)

-- ---- outcomes

-- of two steps neither chooses an operand, or the second one does
chooses_none : ChoosesNone (Both ∷ Both ∷ [])
chooses_none zero = refl
chooses_none (suc zero) = refl
chooses_none (suc (suc place)) = refl

chooses_some : ChoosesNone (Both ∷ Left ∷ []) → ⊥
chooses_some none = let choice : Left ≡ Both = none 1 in (cc)

-- A box hands on a shorter list where it is undecided and some step chooses, and where it is held open though it is
-- inside; and not where no step chooses, or where it is inside and not held.
abbrev asked : Bool → AskedBox
asked held = record { range = all_samples; held = held }

shortened_lanes : map
    (is_shortened (asked false ∷ asked false ∷ asked true ∷ asked false ∷ [])
    (between (negsuc 0) (pos 1) ∷ between (negsuc 0) (pos 1) ∷ between (negsuc 1) (negsuc 0) ∷ between (negsuc 1) (negsuc 0) ∷ [])
    (true ∷ false ∷ true ∷ true ∷ []))
    (0 ∷ 1 ∷ 2 ∷ 3 ∷ []) ≡ true ∷ false ∷ true ∷ false ∷ []
shortened_lanes = refl

-- a box that is split even where it is decided, and one that is not
abbrev held_box : Indices → AskedBox
held_box b = record { range = b; held = true }

abbrev plain_box : Indices → AskedBox
plain_box b = record { range = b; held = false }

-- Of the columns of the slab along x those from 4 to 11 are inside, from -7/15 to 7/15, and those up to 3 are outside,
-- up to -3/5. The first eight are not decided.
abbrev columns_traced : List Indices
columns_traced = columns_of_row 4 12 ∷ columns_of_row 0 4 ∷ columns_of_row 0 8 ∷ []

columns_decided : map (decision_of (sampling (raster 16 1)) (slab X)) columns_traced ≡ Some true ∷ Some false ∷ None ∷ []
columns_decided = refl

-- Where boxes are split even where they are decided, the first prunes the last maximum, and the last one the maximum
-- of x and its opposite as well: their decisions tell them apart.
columns_pruned : asked_outcomes (sampling (raster 16 1)) (slab X) (map held_box columns_traced) ≡
    Open bare
    ∷ Outside
    ∷ Open (record { op = X; a = 0; b = 0; value = pos 0 }
    ∷ record { op = Neg; a = 0; b = 0; value = pos 0 }
    ∷ record { op = Const; a = 0; b = 0; value = pos 2147483648 }
    ∷ record { op = Sub; a = 1; b = 2; value = pos 0 }
    ∷ [])
    ∷ []
columns_pruned = refl

-- the hull decides the same of a box that is split and of one that is not
inside_either_way : asked_decisions (sampling (raster 16 1)) (slab X) (plain_box (columns_of_row 4 12) ∷ held_box (columns_of_row 4 12) ∷ [])
    ≡ Some true ∷ Some true ∷ []
inside_either_way = refl

-- it is the decision of the box with the tape that it receives
decided_alike : (d : Descent) (v : Visit) → decision_of (sampling d) v.list v.box ≡ decision d v
decided_alike d v = refl

lanes_decided : map (decision_in (between (negsuc 0) (pos 1) ∷ between (negsuc 1) (negsuc 0) ∷ between (pos 1) (pos 2) ∷ [])) (0 ∷ 1 ∷ 2 ∷ [])
    ≡ None ∷ Some true ∷ Some false ∷ []
lanes_decided = refl

-- three boxes that were traced, two of them with a child tape
abbrev traced : List TracedBox
traced =
    record { decision = Some true; outcome = Open 3 }
    ∷ record { decision = Some false; outcome = Outside }
    ∷ record { decision = None; outcome = Open 4 }
    ∷ []

decisions_traced : traced_decisions traced ≡ Some true ∷ Some false ∷ None ∷ []
decisions_traced = refl

outcomes_traced : traced_outcomes traced ≡ Open 3 ∷ Outside ∷ Open 4 ∷ []
outcomes_traced = refl

-- where the last box on a way is undecided, whatever the first one is, the list that it hands on has the value
last_box_hands_on : (d : Descent) (v : Visit) (s : Sample) → IsTold d v s → decision d (chain_end d v s) ≡ None
    → tape_value (sample_point d s) (handed_on d (chain_end d v s)) ≡ tape_value (sample_point d s) v.list
last_box_hands_on d v s told = told.handed
