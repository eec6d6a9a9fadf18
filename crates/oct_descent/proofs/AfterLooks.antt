-- What looking into a box of cells takes after another mesh.
use Rattle.std.proofs.Common.{◌≡◌, ◌≢◌, ℕ, ◌+◌, ◌*◌, ◌<◌, ◌≤◌, Bool, true, false, cond, List, [], ◌∷◌, length, get_or, sum_by, take, refl, sym, ap, subst, ◌∙◌, arith}
use Rattle.std.specs.Prelude.{Option, Some, None, ◌&&◌, is_some, unwrap_or}
use Rattle.std.specs.List.{All}
use Rattle.std.proofs.lemmas.Bool.{false≢true}
use Rattle.std.proofs.lemmas.List.{take_all}
use Rattle.std.proofs.lemmas.List.Elements.{All-get_or, All-head, All-tail}
use Rattle.std.proofs.lemmas.List.Sums.{sum_by-cons, sum_by-take-le, sum_by_more}
use Rattle.box_chains.specs.Chains.{Visit, handed_on, is_long, visit}
use Rattle.box_chains.specs.Laws.{Lawful}
use Rattle.box_chains.specs.Redrawn.{IsNew}
use Rattle.box_chains.specs.Sums.{Sample, sum_in}
use Rattle.box_chains.specs.Tallied.{CountsAtMost}
use Rattle.box_chains.specs.Visits.{IsVisit}
use Rattle.fixed_ops.specs.Counts.{Counts}
use Rattle.interval_ops.specs.HullCounts.{CountsHulls}
use Rattle.kuhn_cells.specs.Triangles.{GridPoint, point}
use Rattle.kuhn_cells.specs.declared.grid_size.GridSize.{GridSize}
use Rattle.live_clauses.specs.declared.step.Step.{Step}
use Rattle.view_places.specs.Boxes.{Indices, IsBox, halves_of}
use Rattle.view_places.specs.Window.{Window}
use Rattle.oct_descent.specs.After.{cell_spans_after, handed_before, long_spans_after, received_half}
use Rattle.oct_descent.specs.AfterDesks.{ChargesBelowAfter, ChargesBoxAfter, ChargesHalvesAfter, IsEnoughAfter, IsEnoughHalvesAfter, halves_long_spans_after, halves_spans_after, long_spans_below_after, spans_below_after}
use Rattle.oct_descent.specs.Bound.{CountsHullsAtLeast}
use Rattle.oct_descent.specs.Desks.{own_spans}
use Rattle.oct_descent.specs.Tables.{is_known}
use Rattle.oct_descent.specs.Ways.{CellDescent, gridded, is_cut, is_open}
use Rattle.oct_descent.proofs.AfterWork.{halves-enough_after, long-end_after, long-old, long-split_after, spans-end_after, spans-old, spans-split_after, sum_in-below}
use Rattle.oct_descent.proofs.Looks.{hulls-least, hulls-then, own-long, own-short, traced-none}
use Rattle.oct_descent.proofs.TableLaws.{charges-hulls, charges-more, charges-most, charges-then}
use Rattle.oct_descent.specs.Known.{Charges, Known, PaysBox, left}
use Rattle.oct_descent.proofs.Halves.{longer-owned}
use Rattle.oct_descent.specs.Asked.{longer}
use Rattle.oct_descent.specs.Halves.{owned}
use Rattle.oct_descent.specs.Kinds.{mesh}

-- ---- what the mesh before handed on

-- a list was not handed on before
abbrev pub IsOther : Option (List Step) → List Step → Type 0
IsOther old list = (was : List Step) → old ≡ Some was → was ≢ list

-- halves that receive a list which was not handed on before are new
pub half-is_new : (old : Option (List Step)) (list : List Step) (half : Indices) → IsOther old list
    → IsNew (received_half old half) (visit half list)
half-is_new None list half other u e = absurd (false≢true (ap is_some e))
half-is_new (Some was) list half other u e =
    let same : visit half was ≡ u = ap (λ o. unwrap_or o u) e in
    (sym (ap (λ (w : Visit). w.box) same), subst (λ (w : Visit). w.list ≢ list) same (other was refl))

-- ---- what is taken over

-- where no less is known, no more is left
left-fewer : (laws : Lawful) (f : GridPoint → ℕ) (before after : Known) → after.points ≡ before.points
    → ((p : GridPoint) → is_known (before.at p) ≡ true → is_known (after.at p) ≡ true)
    → left f after ≤ left f before
left-fewer laws f before after same stays =
    subst (λ (b : Indices). sum_in b (weight after) ≤ left f before) (sym same)
    (sum_in-below laws before.points (weight after) (weight before)
    (λ s lies. by (point s.i s.j s.k) (is_known (before.at (point s.i s.j s.k)))
    (is_known (after.at (point s.i s.j s.k))) (stays (point s.i s.j s.k))))
  where
    weight : Known → Sample → ℕ
    weight t s = cond (is_known (t.at (point s.i s.j s.k))) 0 (f (point s.i s.j s.k))

    by : (p : GridPoint) (was now : Bool) → (was ≡ true → now ≡ true)
        → cond {A = ℕ} now 0 (f p) ≤ cond was 0 (f p)
    by p false true h = omega arith
    by p false false h = omega arith
    by p true true h = omega arith
    by p true false h = absurd (false≢true (h refl))

-- what is taken over is not charged
pub taken-charged : (laws : Lawful) (f : GridPoint → ℕ) (spans : ℕ) (before after : Known)
    (now : Counts) → after.points ≡ before.points
    → ((p : GridPoint) → is_known (before.at p) ≡ true → is_known (after.at p) ≡ true)
    → Charges f spans before after now now
taken-charged laws f spans before after now same stays = record {
  points = 0;
  enough = omega (arith, left-fewer laws f before after same stays);
  counts = laws.bounds.none now 0 spans;
}

-- nothing is traced below halves that receive what they received before
pub halves-long_old : (laws : Lawful) (d : CellDescent) (list : List Step) (halves : List Indices)
    → halves_long_spans_after d (Some list) list halves ≡ 0
halves-long_old laws d list [] = refl
halves-long_old laws d list (h ∷ hs) = omega (
  arith,
  sum_by-cons (λ b. long_spans_after d (received_half (Some list) b) (visit b list)) h hs,
  long-old laws d (visit h list),
  halves-long_old laws d list hs,
)

pub halves-spans_old : (laws : Lawful) (d : CellDescent) (list : List Step) (halves : List Indices)
    → halves_spans_after d (Some list) list halves ≡ 0
halves-spans_old laws d list [] = refl
halves-spans_old laws d list (h ∷ hs) = omega (
  arith,
  sum_by-cons (λ b. cell_spans_after d (received_half (Some list) b) (visit b list)) h hs,
  spans-old laws d (visit h list),
  halves-spans_old laws d list hs,
)

pub halves-untraced : (laws : Lawful) (d : CellDescent) (list : List Step) (halves : List Indices)
    (now : Counts) → CountsHullsAtLeast (halves_long_spans_after d (Some list) list halves) now now
halves-untraced laws d list halves now =
    let none = traced-none laws now in
    record { by = none.by; many = omega (arith, halves-long_old laws d list halves); rises = none.rises }

-- ---- a box that is new

-- a new box takes at least its own trace
pub spans-some_after : (laws : Lawful) (d : CellDescent) (before : Option Visit) (v : Visit)
    → 0 < d.boxes.leaf → IsBox v.box → IsNew before v → length v.list ≤ cell_spans_after d before v
spans-some_after laws d before v some is new = by (is_cut d v) refl
  where
    by : (t : Bool) → is_cut d v ≡ t → length v.list ≤ cell_spans_after d before v
    by false e = omega (arith, spans-end_after laws d before v some is new e)
    by true e = omega (arith, spans-split_after laws d before v some is new e)

pub own-among_after : (laws : Lawful) (d : CellDescent) (before : Option Visit) (v : Visit) → 0 < d.boxes.leaf
    → IsBox v.box → IsNew before v → own_spans v ≤ cell_spans_after d before v
own-among_after laws d before v some is new = by (is_long 1 v.box)
  where
    by : (long : Bool) → cond {A = ℕ} long (length v.list) 0 ≤ cell_spans_after d before v
    by true = spans-some_after laws d before v some is new
    by false = omega arith

pub look-charged_after : (laws : Lawful) (d : CellDescent) (old : Option Visit) (v : Visit) (t : Known)
    (told now : Counts) → 0 < d.boxes.leaf → IsBox v.box → IsNew old v
    → CountsAtMost 0 (length v.list) told now → ChargesBoxAfter d old v t t told now
look-charged_after laws d old v t told now some is new h f enough =
    charges-more laws f (length v.list) (cell_spans_after d old v) t t told now
    (spans-some_after laws d old v some is new) (charges-most f (length v.list) t told now h)

pub trace-charged_after : (laws : Lawful) (d : CellDescent) (old : Option Visit) (v : Visit) (t : Known)
    (told now : Counts) → 0 < d.boxes.leaf → IsBox v.box → IsNew old v → CountsHulls (length v.list) told now
    → ChargesBoxAfter d old v t t told now
trace-charged_after laws d old v t told now some is new h =
    look-charged_after laws d old v t told now some is new (laws.bounds.hulls told now (length v.list) h)

-- what a new box takes once it is traced, behind its trace
pub below-charged_after : (laws : Lawful) (view : Window) (old : Option Visit) (v : Visit)
    (before after : Known) (told since now : Counts) → IsBox v.box → IsNew old v → is_long 1 v.box
    ≡ true
    → CountsHulls (length v.list) told since → ChargesBelowAfter (gridded view) old v before after since now
    → ChargesBoxAfter (gridded view) old v before after told now
below-charged_after laws view old v before after told since now is new long hulls below f enough =
    charges-then laws f (length v.list) (spans_below_after (gridded view) old v)
    (cell_spans_after (gridded view) old v) before before after told since now
    (omega (arith, own-among_after laws (gridded view) old v (omega arith) is new, own-long v long))
    (charges-hulls laws f (length v.list) before told since hulls) (below f enough)

-- a cell takes as much
pub cell-below_after : (laws : Lawful) (d : CellDescent) (old : Option Visit) (v : Visit)
    (before after : Known) (told now : Counts) → is_long 1 v.box ≡ false
    → ChargesBoxAfter d old v before after told now → ChargesBelowAfter d old v before after told now
cell-below_after laws d old v before after told now short charged f enough =
    charges-more laws f (cell_spans_after d old v) (spans_below_after d old v) before after told now
    (omega (arith, own-short v short)) (charged f enough)

-- a box that is split takes what its halves take, beside its own trace
pub halves-charged_after : (laws : Lawful) (view : Window) (old : Option Visit) (was : Option (List Step))
    (v : Visit) (live : List Step) (before after : Known) (told now : Counts)
    → IsVisit (gridded view).boxes v → IsNew old v
    → is_open (gridded view) v ≡ true → is_long 1 v.box ≡ true → was ≡ handed_before (gridded view) old
    → live ≡ handed_on (gridded view).boxes v
    → ChargesHalvesAfter (gridded view) was live (halves_of 1 v.box) before after told now
    → ChargesBelowAfter (gridded view) old v before after told now
halves-charged_after laws view old was v live before after told now is new open' long e same h f enough =
    charges-more laws f (halves_spans_after d was live (halves_of 1 v.box))
    (spans_below_after d old v) before after told now
    (omega (
      arith,
      spans-split_after laws d old v (omega arith) is.box new cut,
      ap (λ o. halves_spans_after d o live (halves_of 1 v.box)) e,
      ap (λ l. halves_spans_after d (handed_before d old) l (halves_of 1 v.box)) same,
      own-long v long,
    ))
    (h f (subst (λ o. IsEnoughHalvesAfter f d o live (halves_of 1 v.box)) (sym e)
    (subst (λ l. IsEnoughHalvesAfter f d (handed_before d old) l (halves_of 1 v.box)) (sym same)
    (halves-enough_after laws f d old v (omega arith) is.box new cut enough))))
  where
    d : CellDescent
    d = gridded view

    cut : is_cut d v ≡ true
    cut = rw (open', long) refl

-- ---- halves, one after another

-- what is traced of new halves while they are looked into
abbrev pub halves_below_after : CellDescent → Option (List Step) → List Step → List Indices → ℕ
halves_below_after d old list halves =
    sum_by (λ h. spans_below_after d (received_half old h) (visit h list)) halves

abbrev pub halves_long_below_after : CellDescent → Option (List Step) → List Step → List Indices → ℕ
halves_long_below_after d old list halves =
    sum_by (λ h. long_spans_below_after d (received_half old h) (visit h list)) halves

-- with what is traced before, it is among what the halves take
pub owned-below_after : (laws : Lawful) (view : Window) (old : Option (List Step)) (list : List Step)
    (halves : List Indices) → IsOther old list → All IsBox halves
    → owned list halves + halves_below_after (gridded view) old list halves
    ≤ halves_spans_after (gridded view) old list halves
owned-below_after laws view old list [] other each = omega arith
owned-below_after laws view old list (h ∷ hs) other each = omega (
  arith,
  sum_by-cons (λ b. own_spans (visit b list)) h hs,
  sum_by-cons (λ b. spans_below_after (gridded view) (received_half old b) (visit b list)) h hs,
  sum_by-cons (λ b. cell_spans_after (gridded view) (received_half old b) (visit b list)) h hs,
  own-among_after laws (gridded view) (received_half old h) (visit h list) (omega arith)
      (All-head IsBox h hs each) (half-is_new old list h other),
  owned-below_after laws view old list hs other (All-tail IsBox h hs each),
)

pub owned-long_below_after : (d : CellDescent) (old : Option (List Step)) (list : List Step)
    (halves : List Indices)
    → halves_long_spans_after d old list halves
    ≤ owned list halves + halves_long_below_after d old list halves
owned-long_below_after d old list [] = omega arith
owned-long_below_after d old list (h ∷ hs) = omega (
  arith,
  sum_by-cons (λ b. own_spans (visit b list)) h hs,
  sum_by-cons (λ b. long_spans_below_after d (received_half old b) (visit b list)) h hs,
  sum_by-cons (λ b. long_spans_after d (received_half old b) (visit b list)) h hs,
  owned-long_below_after d old list hs,
)

-- the traces of new halves, whole or begun, are among what the halves take
pub begun-charged_after : (laws : Lawful) (view : Window) (old : Option (List Step)) (list : List Step)
    (halves : List Indices) (n : GridSize) (t : Known) (told now : Counts) → IsOther old list
    → All IsBox halves
    → CountsAtMost 0 (length (longer mesh n halves) * length list) told now
    → ChargesHalvesAfter (gridded view) old list halves t t told now
begun-charged_after laws view old list halves n t told now other each begun f enough =
    charges-more laws f (length (longer mesh n halves) * length list)
    (halves_spans_after (gridded view) old list halves) t t told now
    (omega (arith, longer-owned mesh n list halves, owned-below_after laws view old list halves other each))
    (charges-most f (length (longer mesh n halves) * length list) t told now begun)

-- what holds once halves are traced, and before any is looked into
pub first-charged_after : (laws : Lawful) (d : CellDescent) (old : Option (List Step)) (list : List Step)
    (halves : List Indices) (n : GridSize) (t : Known) (told now : Counts)
    → CountsHulls (length (longer mesh n halves) * length list) told now
    → (f : GridPoint → ℕ) → IsEnoughHalvesAfter f d old list halves
    → Charges f (owned list halves + halves_below_after d old list (take 0 halves)) t t told now
first-charged_after laws d old list halves n t told now hulls f enough =
    charges-more laws f (length (longer mesh n halves) * length list)
    (owned list halves + halves_below_after d old list (take 0 halves)) t t told now
    (omega (arith, longer-owned mesh n list halves))
    (charges-hulls laws f (length (longer mesh n halves) * length list) t told now hulls)

-- one more half is charged, behind what was traced of all halves before
pub next-charged_after : (laws : Lawful) (view other : Window) (old : Option (List Step)) (list : List Step)
    (half : Indices) (halves : List Indices) (i own : ℕ) (before mid after : Known)
    (told since now : Counts) → other ≡ view → i < length halves → half ≡ get_or halves i half
    → ((f : GridPoint → ℕ) → IsEnoughHalvesAfter f (gridded view) old list halves
    → Charges f (own + halves_below_after (gridded view) old list (take i halves)) before mid told since)
    → ChargesBelowAfter (gridded other) (received_half old half) (visit half list) mid after since now
    → (f : GridPoint → ℕ) → IsEnoughHalvesAfter f (gridded view) old list halves
    → Charges f (own + halves_below_after (gridded view) old list (take (i + 1) halves)) before after told now
next-charged_after laws view other old list half halves i own before mid after told since now same within read
    earlier here f enough =
    charges-then laws f (own + halves_below_after d old list (take i halves)) (below half)
    (own + halves_below_after d old list (take (i + 1) halves)) before mid after told since now
    (omega (arith, sum_by_more below halves i half within, ap below read))
    (earlier f enough)
    (subst (λ v. ChargesBelowAfter (gridded v) (received_half old half) (visit half list) mid after since now)
    same here f
    (subst (λ h. IsEnoughAfter f d (received_half old h) (visit h list)) (sym read)
    (All-get_or (λ h. IsEnoughAfter f d (received_half old h) (visit h list)) halves i half within enough)))
  where
    d : CellDescent
    d = gridded view

    below : Indices → ℕ
    below h = spans_below_after d (received_half old h) (visit h list)

-- the work of some of the halves, behind what was traced of all, is among that of all
pub some-charged_after : (laws : Lawful) (view : Window) (old : Option (List Step)) (list : List Step)
    (halves : List Indices) (i : ℕ) (before after : Known) (told now : Counts)
    → IsOther old list → All IsBox halves
    → ((f : GridPoint → ℕ) → IsEnoughHalvesAfter f (gridded view) old list halves
    → Charges f
    (owned list halves + halves_below_after (gridded view) old list (take i halves)) before after told now)
    → ChargesHalvesAfter (gridded view) old list halves before after told now
some-charged_after laws view old list halves i before after told now other each h f enough =
    charges-more laws f (owned list halves + halves_below_after (gridded view) old list (take i halves))
    (halves_spans_after (gridded view) old list halves) before after told now
    (omega (
      arith,
      sum_by-take-le (λ b. spans_below_after (gridded view) (received_half old b) (visit b list))
          halves i,
      owned-below_after laws view old list halves other each,
    )) (h f enough)

-- ---- what is traced at least

pub first-traced_after : (d : CellDescent) (old : Option (List Step)) (list : List Step)
    (halves : List Indices) (n : GridSize) (told now : Counts)
    → CountsHulls (length (longer mesh n halves) * length list) told now
    → CountsHullsAtLeast (owned list halves + halves_long_below_after d old list (take 0 halves)) told now
first-traced_after d old list halves n told now hulls =
    let least = hulls-least told now (length (longer mesh n halves) * length list) hulls in
    record {
      by = least.by;
      many = omega
          (arith, least.many, longer-owned mesh n list halves);
      rises = least.rises;
    }

-- a new cell need not be traced
pub cell-traced_after : (laws : Lawful) (d : CellDescent) (old : Option Visit) (v : Visit)
    (before after : Known) (told now : Counts) → 0 < d.boxes.leaf → IsBox v.box → IsNew old v
    → is_long d.boxes.leaf v.box ≡ false → PaysBox d v before after told now
    → CountsHullsAtLeast (long_spans_after d old v) told now
cell-traced_after laws d old v before after told now some is new short pays =
    let paid = pays (λ p. 0) (λ s lies works p covers. omega arith) in
    let none = long-end_after laws d old v some is new uncut
    ∙ ap (λ t. cond {A = ℕ} t (length v.list) 0) short in
    record { by = paid.counts.by; many = omega (arith, none); rises = paid.counts.rises }
  where
    closed : (t : Bool) → (t && false) ≡ false
    closed true = refl
    closed false = refl

    uncut : is_cut d v ≡ false
    uncut = ap (λ l. is_open d v && l) short ∙ closed (is_open d v)

-- what is traced over a new box before it is looked into and while it is
pub below-traced_after : (laws : Lawful) (view : Window) (old : Option Visit) (v : Visit)
    (told since now : Counts) → is_long 1 v.box ≡ true → CountsHulls (length v.list) told since
    → CountsHullsAtLeast (long_spans_below_after (gridded view) old v) since now
    → CountsHullsAtLeast (long_spans_after (gridded view) old v) told now
below-traced_after laws view old v told since now long hulls below =
    hulls-then laws told since now (length v.list) (long_spans_below_after (gridded view) old v)
    (long_spans_after (gridded view) old v) (omega (arith, own-long v long))
    (hulls-least told since (length v.list) hulls) below

-- a cell is traced no more
pub cell-traced_below_after : (d : CellDescent) (old : Option Visit) (v : Visit) (told now : Counts)
    → CountsHullsAtLeast (long_spans_after d old v) told now
    → CountsHullsAtLeast (long_spans_below_after d old v) told now
cell-traced_below_after d old v told now least =
    record { by = least.by; many = omega (arith, least.many); rises = least.rises }

-- nor a new box of more cells that does not stay open
pub closed-traced_after : (laws : Lawful) (view : Window) (old : Option Visit) (v : Visit) (told : Counts)
    → IsBox v.box → IsNew old v → is_open (gridded view) v ≡ false
    → CountsHullsAtLeast (long_spans_below_after (gridded view) old v) told told
closed-traced_after laws view old v told is new closed =
    let uncut : is_cut (gridded view) v ≡ false = rw closed refl in
    let none = traced-none laws told in
    record {
      by = none.by;
      many = omega
          (arith, long-end_after laws (gridded view) old v (omega arith) is new uncut);
      rises = none.rises;
    }

-- but the halves of one that is split are
pub halves-traced_after : (laws : Lawful) (view : Window) (old : Option Visit) (handed : Option (List Step))
    (v : Visit) (live : List Step) (told now : Counts) → IsVisit (gridded view).boxes v → IsNew old v
    → is_open (gridded view) v ≡ true → is_long 1 v.box ≡ true
    → handed ≡ handed_before (gridded view) old → live ≡ handed_on (gridded view).boxes v
    → CountsHullsAtLeast (halves_long_spans_after (gridded view) handed live (halves_of 1 v.box)) told now
    → CountsHullsAtLeast (long_spans_below_after (gridded view) old v) told now
halves-traced_after laws view old handed v live told now is new open' long was same halves = record {
  by = halves.by;
  many = omega (
    arith,
    halves.many,
    own-long v long,
    long-split_after laws d old v (omega arith) is.box new cut,
    ap (λ o. halves_long_spans_after d o live (halves_of 1 v.box)) was,
    ap (λ l. halves_long_spans_after d (handed_before d old) l (halves_of 1 v.box)) same,
  );
  rises = halves.rises;
}
  where
    d : CellDescent
    d = gridded view

    cut : is_cut d v ≡ true
    cut = rw (open', long) refl

-- one more half is traced
pub next-traced_after : (laws : Lawful) (view other : Window) (old : Option (List Step)) (list : List Step)
    (half : Indices) (halves : List Indices) (i own : ℕ) (told since now : Counts) → other ≡ view
    → i < length halves → half ≡ get_or halves i half
    → CountsHullsAtLeast (own + halves_long_below_after (gridded view) old list (take i halves)) told since
    → CountsHullsAtLeast
    (long_spans_below_after (gridded other) (received_half old half) (visit half list)) since now
    → CountsHullsAtLeast
    (own + halves_long_below_after (gridded view) old list (take (i + 1) halves)) told now
next-traced_after laws view other old list half halves i own told since now same within read earlier here =
    hulls-then laws told since now (own + halves_long_below_after d old list (take i halves)) (below half)
    (own + halves_long_below_after d old list (take (i + 1) halves))
    (omega (arith, sum_by_more below halves i half within, ap below read))
    earlier (subst (λ v. CountsHullsAtLeast
    (long_spans_below_after (gridded v) (received_half old half) (visit half list)) since now) same here)
  where
    d : CellDescent
    d = gridded view

    below : Indices → ℕ
    below h = long_spans_below_after d (received_half old h) (visit h list)

-- once all are
pub all-traced_after : (d : CellDescent) (old : Option (List Step)) (list : List Step) (halves : List Indices)
    (i : ℕ) (told now : Counts) → length halves ≤ i
    → CountsHullsAtLeast (owned list halves + halves_long_below_after d old list (take i halves)) told now
    → CountsHullsAtLeast (halves_long_spans_after d old list halves) told now
all-traced_after d old list halves i told now all least = record {
  by = least.by;
  many =
      omega (
        arith,
        least.many,
        ap (halves_long_below_after d old list)
            (take_all i halves all),
        owned-long_below_after d old list halves,
      );
  rises = least.rises;
}
