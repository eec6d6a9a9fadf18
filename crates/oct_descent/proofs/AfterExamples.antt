-- The work of meshes that come after others, computed on lists that were worked out by hand.
use Rattle.std.proofs.Common.{◌≡◌, ℤ, pos, negsuc, [], ◌∷◌, List, refl}
use Rattle.std.specs.Prelude.{Some, None}
use Rattle.fixed_ops.specs.declared.operation.Op.TheVariants.{X, Add, Const, Min, Sub}
use Rattle.live_clauses.specs.declared.step.Step.{Step}
use Rattle.oct_descent.specs.After.{cell_spans_after, long_spans_after, mesh_least_after, mesh_long_spans_after, mesh_points_after, mesh_spans_after}
use Rattle.oct_descent.specs.Ways.{way_within}
use Rattle.oct_descent.proofs.Examples.{empty, full, step, window}

abbrev const : ℤ → Step
const value = record { op = Const; a = 0; b = 0; value = value }

-- The lesser of x - x and a number that is greater than that everywhere: the box of all cells chooses
-- the first in each mesh, so what is below it receives the same two steps.
abbrev chosen : ℤ → List Step
chosen k = step X 0 0 ∷ step Sub 0 0 ∷ const k ∷ step Min 1 2 ∷ []

-- 9, and 8
abbrev nine : List Step
nine = chosen (pos 38654705664)

abbrev eight : List Step
eight = chosen (pos 34359738368)

nine_points : mesh_points_after (window 3) None nine ≡ 128
unfolding mesh_points_after way_within
nine_points = refl

nine_spans : mesh_spans_after (window 3) None nine ≡ 72
unfolding cell_spans_after way_within
nine_spans = refl

eight_points : mesh_points_after (window 3) (Some nine) eight ≡ 0
unfolding mesh_points_after way_within
eight_points = refl

eight_least : mesh_least_after (window 3) (Some nine) eight ≡ 0
unfolding mesh_least_after way_within
eight_least = refl

eight_spans : mesh_spans_after (window 3) (Some nine) eight ≡ 4
unfolding cell_spans_after way_within
eight_spans = refl

eight_long : mesh_long_spans_after (window 3) (Some nine) eight ≡ 4
unfolding long_spans_after way_within
eight_long = refl

-- One cell alone receives the whole list.
one_cell_points : mesh_points_after (window 1) (Some nine) eight ≡ 32
unfolding mesh_points_after way_within
one_cell_points = refl

one_cell_least : mesh_least_after (window 1) (Some nine) eight ≡ 32
unfolding mesh_least_after way_within
one_cell_least = refl

one_cell_spans : mesh_spans_after (window 1) (Some nine) eight ≡ 4
unfolding cell_spans_after way_within
one_cell_spans = refl

one_cell_long : mesh_long_spans_after (window 1) (Some nine) eight ≡ 0
unfolding long_spans_after way_within
one_cell_long = refl

-- The same list takes nothing once more, and what is shut or was shut has nothing below it.
same_points : mesh_points_after (window 2) (Some nine) nine ≡ 0
unfolding mesh_points_after way_within
same_points = refl

same_spans : mesh_spans_after (window 2) (Some nine) nine ≡ 0
unfolding cell_spans_after way_within
same_spans = refl

emptied_points : mesh_points_after (window 2) (Some full) empty ≡ 0
unfolding mesh_points_after way_within
emptied_points = refl

emptied_spans : mesh_spans_after (window 2) (Some full) empty ≡ 1
unfolding cell_spans_after way_within
emptied_spans = refl

filled_points : mesh_points_after (window 2) (Some empty) full ≡ 27
unfolding mesh_points_after way_within
filled_points = refl

filled_least : mesh_least_after (window 2) (Some empty) full ≡ 27
unfolding mesh_least_after way_within
filled_least = refl

filled_spans : mesh_spans_after (window 2) (Some empty) full ≡ 9
unfolding cell_spans_after way_within
filled_spans = refl

-- The lesser of a number and -1, over two cells along each axis: the box of all cells is decided
-- inside, and the outermost layer holds it open, so its cells are old.
abbrev held : ℤ → List Step
held k = const k ∷ const (negsuc 4294967295) ∷ step Min 0 1 ∷ []

held_first : mesh_spans_after (window 2) None (held (pos 5)) ≡ 11
unfolding cell_spans_after way_within
held_first = refl

held_points : mesh_points_after (window 2) (Some (held (pos 5))) (held (pos 6)) ≡ 0
unfolding mesh_points_after way_within
held_points = refl

held_spans : mesh_spans_after (window 2) (Some (held (pos 5))) (held (pos 6)) ≡ 3
unfolding cell_spans_after way_within
held_spans = refl

-- The least of x + p, of x - x and of q - 2x, over three cells along each axis. Boxes below a third drop
-- the last, so cells there receive five steps. Boxes from a third on drop the first, so cells there
-- receive six, but for the one that is a half of the box of all cells and receives all nine. A point
-- between them takes the longest list of the new cells alone.
abbrev least_of : ℤ → ℤ → List Step
least_of p q =
    step X 0 0 ∷ const p ∷ step Add 0 1 ∷ step Sub 0 0 ∷ const q ∷ step Add 0 0 ∷ step Sub 4 5 ∷ step Min 3 6
    ∷ step Min 2 7 ∷ []

-- p at 1.5 and q at 2.25; p moved to 1.75; q moved to 2.375
abbrev both_sides : List Step
both_sides = least_of (pos 6442450944) (pos 9663676416)

abbrev left_moved : List Step
left_moved = least_of (pos 7516192768) (pos 9663676416)

abbrev right_moved : List Step
right_moved = least_of (pos 6442450944) (pos 10200547328)

both_points : mesh_points_after (window 3) None both_sides ≡ 376
unfolding mesh_points_after way_within
both_points = refl

both_spans : mesh_spans_after (window 3) None both_sides ≡ 219
unfolding cell_spans_after way_within
both_spans = refl

left_points : mesh_points_after (window 3) (Some both_sides) left_moved ≡ 292
unfolding mesh_points_after way_within
left_points = refl

left_spans : mesh_spans_after (window 3) (Some both_sides) left_moved ≡ 171
unfolding cell_spans_after way_within
left_spans = refl

right_points : mesh_points_after (window 3) (Some both_sides) right_moved ≡ 216
unfolding mesh_points_after way_within
right_points = refl

right_spans : mesh_spans_after (window 3) (Some both_sides) right_moved ≡ 129
unfolding cell_spans_after way_within
right_spans = refl

-- The lesser of x and p - 2x, over three cells along each axis. Below a third x is the lesser, so cells
-- there receive that one step and are old, though the boxes above them are new. Boxes from a third on
-- are decided outside with p at 2.75, and undecided with p at 1.5.
abbrev closing : ℤ → List Step
closing p = step X 0 0 ∷ const p ∷ step Add 0 0 ∷ step Sub 1 2 ∷ step Min 0 3 ∷ []

abbrev shut : List Step
shut = closing (pos 11811160064)

abbrev opened : List Step
opened = closing (pos 6442450944)

opened_first : mesh_points_after (window 3) None opened ≡ 192
unfolding mesh_points_after way_within
opened_first = refl

opened_points : mesh_points_after (window 3) (Some shut) opened ≡ 160
unfolding mesh_points_after way_within
opened_points = refl

-- of the 32 corners of new working cells half are corners of old cells too, and may be known from before
opened_least : mesh_least_after (window 3) (Some shut) opened ≡ 80
unfolding mesh_least_after way_within
opened_least = refl

opened_spans : mesh_spans_after (window 3) (Some shut) opened ≡ 85
unfolding cell_spans_after way_within
opened_spans = refl

-- seven boxes of more than one cell below the box of all cells, of five steps each
opened_long : mesh_long_spans_after (window 3) (Some shut) opened ≡ 40
unfolding long_spans_after way_within
opened_long = refl

shut_points : mesh_points_after (window 3) (Some opened) shut ≡ 0
unfolding mesh_points_after way_within
shut_points = refl

shut_spans : mesh_spans_after (window 3) (Some opened) shut ≡ 45
unfolding cell_spans_after way_within
shut_spans = refl
