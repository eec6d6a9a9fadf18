-- What is traced at least while boxes are looked into.
use Rattle.std.proofs.Common.{◌≡◌, ℕ, ◌+◌, ◌*◌, ◌<◌, ◌≤◌, Bool, true, false, cond, List, [], ◌∷◌, length, get_or, sum_by, take, refl, ap, ◌∙◌, arith}
use Rattle.std.specs.Prelude.{◌&&◌}
use Rattle.std.specs.List.Sorted.{IsPermutation}
use Rattle.std.proofs.lemmas.List.{take_all}
use Rattle.std.proofs.lemmas.List.Sorted.{sum_by-IsPermutation}
use Rattle.std.proofs.lemmas.List.Sums.{sum_by-cons, sum_by_more}
use Rattle.box_chains.specs.Chains.{Visit, handed_on, is_long, sum_over, visit}
use Rattle.box_chains.specs.Laws.{Lawful}
use Rattle.box_chains.specs.Visits.{IsVisit}
use Rattle.fixed_ops.specs.Counts.{Counts}
use Rattle.interval_ops.specs.HullCounts.{CountsHulls}
use Rattle.kuhn_cells.specs.declared.grid_size.GridSize.{GridSize}
use Rattle.live_clauses.specs.declared.step.Step.{Step}
use Rattle.oct_descent.specs.Asked.{longer}
use Rattle.oct_descent.specs.Bound.{CountsHullsAtLeast, long_spans_in}
use Rattle.oct_descent.specs.Desks.{own_spans}
use Rattle.oct_descent.specs.Halves.{owned}
use Rattle.oct_descent.specs.Known.{Known, PaysBox}
use Rattle.oct_descent.specs.Ways.{CellDescent, is_cut, is_open}
use Rattle.oct_descent.proofs.Halves.{longer-owned}
use Rattle.oct_descent.proofs.Looks.{hulls-least, hulls-then, own-long, traced-none}
use Rattle.oct_descent.proofs.WayLaws.{long-end, long-split}
use Rattle.view_places.specs.Boxes.{Indices, IsBox, halves_of}
use Rattle.view_places.specs.Window.{Window}
use Rattle.contour_lines.specs.Traced.{long_spans_below}
use Rattle.contour_lines.specs.Ways.{planar, plane}

-- ---- a box

-- what is traced over a box before it is looked into and while it is
pub below-traced : (laws : Lawful) (d : CellDescent) (v : Visit) (told since now : Counts) → is_long 1 v.box ≡ true
    → CountsHulls (length v.list) told since → CountsHullsAtLeast (long_spans_below d v) since now → CountsHullsAtLeast (long_spans_in d v) told now
below-traced laws d v told since now long hulls below =
    hulls-then laws told since now (length v.list) (long_spans_below d v) (long_spans_in d v) (omega (arith, own-long v long))
    (hulls-least told since (length v.list) hulls) below

closed-and : (t : Bool) → (t && false) ≡ false
closed-and true = refl
closed-and false = refl

-- a cell need not be traced
pub cell-traced : (laws : Lawful) (view : Window) (v : Visit) (before after : Known) (told now : Counts) → IsBox v.box
    → is_long 1 v.box ≡ false → PaysBox (planar view) v before after told now → CountsHullsAtLeast (long_spans_in (planar view) v) told now
cell-traced laws view v before after told now is short pays =
    let paid = pays (λ p. 0) (λ s lies works p covers. omega arith) in
    let uncut : is_cut (planar view) v ≡ false = ap (λ l. is_open (planar view) v && l) short ∙ closed-and (is_open (planar view) v) in
    let none = long-end laws (planar view) v is uncut ∙ ap (λ t. cond {A = ℕ} t (length v.list) 0) short in
    record { by = paid.counts.by; many = omega (arith, none); rises = paid.counts.rises }

-- it is traced no more
pub cell-traced_below : (d : CellDescent) (v : Visit) (told now : Counts) → CountsHullsAtLeast (long_spans_in d v) told now
    → CountsHullsAtLeast (long_spans_below d v) told now
cell-traced_below d v told now least = record { by = least.by; many = omega (arith, least.many); rises = least.rises }

-- nor is a box of more cells that does not stay open
pub closed-traced : (laws : Lawful) (view : Window) (v : Visit) (told : Counts) → IsBox v.box → is_open (planar view) v ≡ false
    → CountsHullsAtLeast (long_spans_below (planar view) v) told told
closed-traced laws view v told is closed =
    let uncut : is_cut (planar view) v ≡ false = rw closed refl in
    let none = traced-none laws told in
    record { by = none.by; many = omega (arith, long-end laws (planar view) v is uncut); rises = none.rises }

-- the steps that are traced over the boxes of more than one cell of some halves, which receive a list
abbrev halves_long_spans : CellDescent → List Step → List Indices → ℕ
halves_long_spans d list halves = sum_over (long_spans_in d) list halves

-- but the halves of one that is split are
pub halves-traced : (laws : Lawful) (view : Window) (v : Visit) (live : List Step) (told now : Counts) → IsVisit (planar view).boxes v
    → is_open (planar view) v ≡ true → is_long 1 v.box ≡ true → live ≡ handed_on (planar view).boxes v
    → CountsHullsAtLeast (halves_long_spans (planar view) live (halves_of 1 v.box)) told now → CountsHullsAtLeast (long_spans_below (planar view) v) told now
halves-traced laws view v live told now is open' long same halves = record {
  by = halves.by;
  many = omega (
    arith,
    halves.many,
    own-long v long,
    long-split laws d v (omega arith) is.box cut,
    ap (λ l. halves_long_spans d l (halves_of 1 v.box)) same,
  );
  rises = halves.rises;
}
  where
    d : CellDescent
    d = planar view

    cut : is_cut d v ≡ true
    cut = rw (open', long) refl

-- ---- its halves, one after another

-- what is traced of halves while they are looked into
abbrev pub halves_long_below : CellDescent → List Step → List Indices → ℕ
halves_long_below d list halves = sum_by (λ h. long_spans_below d (visit h list)) halves

owned-long_below : (d : CellDescent) (list : List Step) (halves : List Indices) → halves_long_spans d list halves ≤ owned list halves + halves_long_below d list halves
owned-long_below d list [] = omega arith
owned-long_below d list (h ∷ hs) = omega (
  arith,
  sum_by-cons (λ b. own_spans (visit b list)) h hs,
  sum_by-cons (λ b. long_spans_below d (visit b list)) h hs,
  sum_by-cons (λ b. long_spans_in d (visit b list)) h hs,
  owned-long_below d list hs,
)

-- before any is looked into
pub first-traced : (d : CellDescent) (list : List Step) (halves : List Indices) (n : GridSize) (told now : Counts)
    → CountsHulls (length (longer plane n halves) * length list) told now → CountsHullsAtLeast (owned list halves + halves_long_below d list (take 0 halves)) told now
first-traced d list halves n told now hulls =
    let least = hulls-least told now (length (longer plane n halves) * length list) hulls in
    record { by = least.by; many = omega (arith, least.many, longer-owned plane n list halves); rises = least.rises }

-- one more half is traced
pub next-traced : (laws : Lawful) (d : CellDescent) (list : List Step) (half : Indices) (halves : List Indices) (i own : ℕ) (told since now : Counts) → i < length halves → half ≡ get_or halves i half → CountsHullsAtLeast (own + halves_long_below d list (take i halves)) told since
    → CountsHullsAtLeast (long_spans_below d (visit half list)) since now → CountsHullsAtLeast (own + halves_long_below d list (take (i + 1) halves)) told now
next-traced laws d list half halves i own told since now within read earlier here =
    hulls-then laws told since now (own + halves_long_below d list (take i halves)) (below half) (own + halves_long_below d list (take (i + 1) halves))
    (omega (arith, sum_by_more below halves i half within, ap below read)) earlier here
  where
    below : Indices → ℕ
    below h = long_spans_below d (visit h list)

-- once all are, in whatever order
pub all-traced : (d : CellDescent) (list : List Step) (halves turned : List Indices) (i : ℕ) (told now : Counts) → IsPermutation halves turned → length turned ≤ i
    → CountsHullsAtLeast (owned list turned + halves_long_below d list (take i turned)) told now → CountsHullsAtLeast (halves_long_spans d list halves) told now
all-traced d list halves turned i told now shuffled all least = record {
  by = least.by;
  many = omega (
    arith,
    least.many,
    ap (halves_long_below d list) (take_all i turned all),
    owned-long_below d list turned,
    sum_by-IsPermutation (λ h. long_spans_in d (visit h list)) halves turned shuffled,
  );
  rises = least.rises;
}
