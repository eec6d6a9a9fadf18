-- What looking into a box leaves.
use Rattle.std.proofs.Common.{◌≡◌, ℕ, ◌+◌, ◌<◌, ◌≤◌, ℤ, Bool, true, false, cond, List, length, refl, sym, ap, subst, ◌∙◌, Result, Ok, Err, inl, inr, arith}
use Rattle.std.specs.Prelude.{Option, Some, None, ◌&&◌, not, unwrap_or, OnOk}
use Rattle.std.specs.List.{All, Contains}
use Rattle.std.proofs.lemmas.Bool.{false≢true}
use Rattle.std.proofs.lemmas.List.Elements.{All-contains, All-contains_itself, All-weaker}
use Rattle.box_chains.specs.Chains.{Visit, decision, half_with, handed_on, is_long, sides, visit}
use Rattle.box_chains.specs.Parts.{IsPart}
use Rattle.box_chains.specs.Sums.{LiesIn, Sample}
use Rattle.box_chains.specs.Visits.{IsVisit}
use Rattle.box_chains.specs.Laws.{Lawful}
use Rattle.box_chains.specs.Tallied.{CountsAtMost}
use Rattle.choice_trace.specs.Hulls.{choices_over}
use Rattle.fixed_ops.specs.Counts.{Counts, no_counts, plus}
use Rattle.interval_ops.specs.HullCounts.{CountsHulls, hulls_of}
use Rattle.fixed_ops.specs.Raw.{is_inside}
use Rattle.kuhn_cells.specs.Triangles.{GridPoint, further, point}
use Rattle.live_clauses.specs.Steps.{IsTape}
use Rattle.live_clauses.specs.declared.step.Step.{Step}
use Rattle.view_places.specs.Boxes.{Indices, IsBox, halves_of}
use Rattle.view_places.specs.Spans.{region_of}
use Rattle.view_places.specs.Window.{Window, size_of}
use Rattle.oct_descent.specs.Bound.{CountsHullsAtLeast, CountsNoHull, cell_spans_in}
use Rattle.oct_descent.specs.Corners.{AllShow, IsSeen, IsShown, ShowsCorner}
use Rattle.oct_descent.specs.Desks.{halves_spans, own_spans, spans_below}
use Rattle.oct_descent.specs.GridValues.{list_grid_value}
use Rattle.oct_descent.specs.Tables.{IsDue, IsEnough, IsUniform, PointValues, is_known}
use Rattle.oct_descent.specs.Ways.{CellDescent, Covers, cell_box, gridded, is_cut, is_open, is_open_by, is_working, way_end}
use Rattle.oct_descent.specs.declared.seen.Seen.{Seen}
use Rattle.oct_descent.proofs.Corners.{mask-covered, short-one}
use Rattle.oct_descent.proofs.Covered.{inside-uniform, outside-uniform, handed-value, mesh_holds}
use Rattle.oct_descent.proofs.TableLaws.{charges-hulls, charges-more, charges-most, charges-then, grows-wider, pays-most, pays-then, right-same, settled-same}
use Rattle.oct_descent.proofs.WayLaws.{end-ends, end-of_half, spans-end, spans-some, spans-split}
use Rattle.oct_descent.specs.Known.{AllKnown, AreRight, AreSettled, AreWorked, ChargesBox, ChargesCorners, Grows, Known, PaysBox, PaysCorners}
use Rattle.oct_descent.specs.Kinds.{BordersHold, GridKind, descent_of, known_of, low_cell, mesh, value_in}
use Rattle.oct_descent.specs.Halves.{ChargesBelow, ChargesHalves, PaysHalves}
use Rattle.view_places.specs.declared.lattice.Lattice.TheVariants as lattices

pub on_ok-then : {T E : Type 0} (r : Result T E) (P Q : Type 0) → (P → Q) → OnOk r P → OnOk r Q
on_ok-then (Ok x) P Q f p = f p
on_ok-then (Err e) P Q f p = tt

pub on_ok : {T E : Type 0} (r : Result T E) (P : Type 0) → P → OnOk r P
on_ok (Ok x) P p = p
on_ok (Err e) P p = tt

-- the cell at the lower end of a box lies in it
pub low-lies : (b : Indices) → IsBox b → LiesIn b (low_cell b)
low-lies b is = record { x = (omega arith, omega (arith, is.x)); y = (omega arith, omega (arith, is.y)); z = (omega arith, omega (arith, is.z)) }

-- each cell of a box that does not stay open has all corners on one side
closed-uniform : (laws : Lawful) (k : GridKind) → BordersHold k → (view : Window) (v : Visit) (s : Sample) → IsVisit (descent_of k view).boxes v → is_open (descent_of k view) v ≡ false → LiesIn v.box s → IsUniform (value_in k view v.list) (k.cell s)
closed-uniform laws k holds view v s is e lies = by (decision (descent_of k view).boxes v) refl
  where
    by : (o : Option Bool) → decision (descent_of k view).boxes v ≡ o → IsUniform (value_in k view v.list) (k.cell s)
    by None h = absurd (false≢true (sym e ∙ ap (is_open_by (k.meets (size_of view)) v.box) h))
    by (Some false) h = outside-uniform laws k holds view v s is lies h
    by (Some true) h = inside-uniform laws k holds view v s is lies h (sym (ap (is_open_by (k.meets (size_of view)) v.box) h) ∙ e)

pub closed-settled : (laws : Lawful) (k : GridKind) → BordersHold k → (view : Window) (v : Visit) (t : Known) → IsVisit (descent_of k view).boxes v → is_open (descent_of k view) v ≡ false → AreSettled (descent_of k view) (value_in k view v.list) v.box t
closed-settled laws k holds view v t is e s lies = inr (closed-uniform laws k holds view v s is e lies)

-- and no working one
pub closed-worked : (k : GridKind) (view : Window) (v : Visit) (t : Known) → IsVisit (descent_of k view).boxes v → is_open (descent_of k view) v ≡ false → AreWorked (descent_of k view) v t
closed-worked k view v t is e s lies works = absurd (false≢true (sym idle ∙ works))
  where
    d : CellDescent
    d = descent_of k view

    uncut : is_cut d v ≡ false
    uncut = rw e refl

    idle : is_working d v s ≡ false
    idle = ap (λ w. is_open d w && not (is_long 1 w.box)) (end-ends d v s is.box uncut) ∙ (rw e refl)

-- a box takes at least its own trace
pub trace-charged : (laws : Lawful) (d : CellDescent) (v : Visit) (t : Known) (told now : Counts) → 0 < d.boxes.leaf → IsBox v.box → CountsHulls (length v.list) told now → ChargesBox d v t t told now
trace-charged laws d v t told now some is h f enough =
    charges-more laws f (length v.list) (cell_spans_in d v) t t told now (spans-some laws d v some is) (charges-hulls laws f (length v.list) t told now h)

-- and no more than that, where it is not looked into
pub look-charged : (laws : Lawful) (d : CellDescent) (v : Visit) (t : Known) (told now : Counts) → 0 < d.boxes.leaf → IsBox v.box → CountsAtMost 0 (length v.list) told now → ChargesBox d v t t told now
look-charged laws d v t told now some is h f enough =
    charges-more laws f (length v.list) (cell_spans_in d v) t t told now (spans-some laws d v some is) (charges-most f (length v.list) t told now h)

-- nothing is due for a box that is not looked into
pub look-paid : (d : CellDescent) (v : Visit) (t : Known) (told now : Counts) → CountsAtMost 0 (length v.list) told now → PaysBox d v t t told now
look-paid d v t told now h f due = pays-most f 0 (length v.list) t told now h

-- two known corners on either side show that a cell stays open
pub sides-open : (laws : Lawful) (k : GridKind) → BordersHold k → (view : Window) (v : Visit) (t : Known) (p q : GridPoint) (a c : ℤ) → IsVisit (descent_of k view).boxes v → is_long 1 v.box ≡ false
    → AreRight (value_in k view v.list) v.box t → Covers (k.cell (low_cell v.box)) p → Covers (k.cell (low_cell v.box)) q → t.at p ≡ Some a → is_inside a ≡ true → t.at q ≡ Some c → is_inside c ≡ false
    → is_open (descent_of k view) v ≡ true
sides-open laws k holds view v t p q a c is short right on_p on_q at_p inner at_q outer = by (is_open (descent_of k view) v) refl
  where
    s : Sample
    s = low_cell v.box

    lies : LiesIn v.box s
    lies = low-lies v.box is.box

    -- the side that a corner shows is that of its value
    shown : (r : GridPoint) (w : ℤ) (inside : Bool) → Covers (k.cell s) r → t.at r ≡ Some w → is_inside w ≡ inside → is_inside (value_in k view v.list r) ≡ inside
    shown r w inside covers known side =
        let told = right r (holds.covered v.box s r lies covers) (ap is_known known) in
        ap (λ o. is_inside (unwrap_or o w)) (sym told ∙ known) ∙ side

    by : (open' : Bool) → is_open (descent_of k view) v ≡ open' → is_open (descent_of k view) v ≡ true
    by true e = e
    by false e =
        let uniform = closed-uniform laws k holds view v s is e lies in
        absurd (false≢true (sym (shown q c false on_q at_q outer) ∙ uniform.each q on_q ∙ sym (uniform.each p on_p) ∙ shown p a true on_p at_p inner))

-- what holds of each corner of each working cell of a box, and of the list that the cell receives, holds of a cell that stays open
cell-corners : (k : GridKind) (view : Window) (v : Visit) (corners : Indices) (Q : ℕ → GridPoint → Type 0) → IsVisit (descent_of k view).boxes v → is_open (descent_of k view) v ≡ true → is_long 1 v.box ≡ false
    → ((p : GridPoint) → Covers corners p → Covers (k.cell (low_cell v.box)) p)
    → ((s : Sample) → LiesIn v.box s → is_working (descent_of k view) v s ≡ true → (p : GridPoint) → Covers (k.cell s) p → Q (length (way_end (descent_of k view) v s).list) p)
    → (p : GridPoint) → Covers corners p → Q (length v.list) p
cell-corners k view v corners Q is open' short within each p covers = subst (λ w. Q (length w.list) p) end (each s (low-lies v.box is.box) works p (within p covers))
  where
    d : CellDescent
    d = descent_of k view

    uncut : is_cut d v ≡ false
    uncut = rw (open', short) refl

    s : Sample
    s = low_cell v.box

    end : way_end d v s ≡ v
    end = end-ends d v s is.box uncut

    works : is_working d v s ≡ true
    works = ap (λ w. is_open d w && not (is_long 1 w.box)) end ∙ (rw (open', short) refl)

-- a working cell takes what its corners do
pub cell-charged : (laws : Lawful) (k : GridKind) (view : Window) (v : Visit) (corners : Indices) (before after : Known) (told since now : Counts) → IsVisit (descent_of k view).boxes v → is_open (descent_of k view) v ≡ true
    → is_long 1 v.box ≡ false → ((p : GridPoint) → Covers corners p → Covers (k.cell (low_cell v.box)) p)
    → CountsAtMost 0 (length v.list) told since → ChargesCorners corners (length v.list) before after since now → ChargesBox (descent_of k view) v before after told now
cell-charged laws k view v corners before after told since now is open' short within hulls charged f enough =
    let uncut : is_cut (descent_of k view) v ≡ false = rw (open', short) refl in
    charges-then laws f (length v.list) 0 (cell_spans_in (descent_of k view) v) before before after told since now (omega (arith, spans-end laws (descent_of k view) v is.box uncut))
    (charges-most f (length v.list) before told since hulls) (charged f (cell-corners k view v corners (λ n p. n ≤ f p) is open' short within enough))

-- and what it takes is paid
pub cell-paid : (laws : Lawful) (k : GridKind) (view : Window) (v : Visit) (corners : Indices) (before after : Known) (told since now : Counts) → IsVisit (descent_of k view).boxes v → is_open (descent_of k view) v ≡ true
    → is_long 1 v.box ≡ false → ((p : GridPoint) → Covers corners p → Covers (k.cell (low_cell v.box)) p)
    → CountsAtMost 0 (length v.list) told since → PaysCorners corners (length v.list) before after since now → PaysBox (descent_of k view) v before after told now
cell-paid laws k view v corners before after told since now is open' short within hulls paid f due =
    pays-then laws f before before after told since now (pays-most f 0 (length v.list) before told since hulls) (paid f (cell-corners k view v corners (λ n p. f p ≤ n) is open' short within due))

-- the corners of a cell of a box are known where all points that the box covers are
pub known-settled : (k : GridKind) → BordersHold k → (view : Window) (g : GridPoint → ℤ) (b : Indices) (t : Known) → AllKnown t b → AreSettled (descent_of k view) g b t
known-settled k holds view g b t known s lies = inl (λ p covers. known p (holds.covered b s p lies covers))

-- the list that a box hands on can be evaluated
pub handed-tape : (laws : Lawful) (view : Window) (v : Visit) (live : List Step) → IsVisit (gridded view).boxes v → live ≡ handed_on (gridded view).boxes v → IsTape live
handed-tape laws view v live is same =
    let region = region_of view lattices.Grid v.box in
    subst IsTape (sym same) (laws.layers.tapes v.list (choices_over region v.list) is.tape (laws.layers.choices region v.list)).0

-- what the halves of a box change by the list that it hands on, it changes by the one that it receives
pub handed-grows : (laws : Lawful) (k : GridKind) (view : Window) (v : Visit) (live : List Step) (before after : Known) → IsVisit (descent_of k view).boxes v → live ≡ handed_on (descent_of k view).boxes v
    → Grows (value_in k view live) v.box before after → Grows (value_in k view v.list) v.box before after
handed-grows laws k view v live before after is same grows =
    grows-wider (value_in k view live) (value_in k view v.list) v.box v.box before after (λ p covers. covers)
    (λ p covers. ap (λ l. value_in k view l p) same ∙ handed-value laws k view v p is covers) grows

pub handed-right : (laws : Lawful) (k : GridKind) (view : Window) (v : Visit) (live : List Step) (t : Known) → IsVisit (descent_of k view).boxes v → live ≡ handed_on (descent_of k view).boxes v
    → AreRight (value_in k view v.list) v.box t → AreRight (value_in k view live) v.box t
handed-right laws k view v live t is same right =
    right-same (value_in k view v.list) (value_in k view live) v.box t (λ p covers. sym (ap (λ l. value_in k view l p) same ∙ handed-value laws k view v p is covers)) right

pub handed-settled : (laws : Lawful) (k : GridKind) → BordersHold k → (view : Window) (v : Visit) (live : List Step) (t : Known) → IsVisit (descent_of k view).boxes v → live ≡ handed_on (descent_of k view).boxes v
    → AreSettled (descent_of k view) (value_in k view live) v.box t → AreSettled (descent_of k view) (value_in k view v.list) v.box t
handed-settled laws k holds view v live t is same settled =
    settled-same (descent_of k view) (value_in k view live) (value_in k view v.list) v.box t
    (λ s p lies covers. ap (λ l. value_in k view l p) same ∙ handed-value laws k view v p is (holds.covered v.box s p lies covers)) settled

-- a cell has no trace of its own, and a longer box one
pub own-short : (v : Visit) → is_long 1 v.box ≡ false → own_spans v ≡ 0
own-short v short = ap (λ t. cond {A = ℕ} t (length v.list) 0) short

pub own-long : (v : Visit) → is_long 1 v.box ≡ true → own_spans v ≡ length v.list
own-long v long = ap (λ t. cond {A = ℕ} t (length v.list) 0) long

-- that trace is among those of the box
pub own-among : (laws : Lawful) (d : CellDescent) (v : Visit) → 0 < d.boxes.leaf → IsBox v.box → own_spans v ≤ cell_spans_in d v
own-among laws d v some is = by (is_long 1 v.box)
  where
    by : (long : Bool) → cond {A = ℕ} long (length v.list) 0 ≤ cell_spans_in d v
    by true = spans-some laws d v some is
    by false = omega arith

-- what a box takes once it is traced, behind its trace
pub below-charged : (laws : Lawful) (k : GridKind) (view : Window) (v : Visit) (before after : Known) (told since now : Counts) → IsBox v.box → is_long 1 v.box ≡ true
    → CountsHulls (length v.list) told since → ChargesBelow (descent_of k view) v before after since now → ChargesBox (descent_of k view) v before after told now
below-charged laws k view v before after told since now is long hulls below f enough =
    charges-then laws f (length v.list) (spans_below (descent_of k view) v) (cell_spans_in (descent_of k view) v) before before after told since now
    (omega (arith, own-among laws (descent_of k view) v (omega arith) is, own-long v long)) (charges-hulls laws f (length v.list) before told since hulls) (below f enough)

pub below-paid : (laws : Lawful) (d : CellDescent) (v : Visit) (before after : Known) (told since now : Counts) → CountsHulls (length v.list) told since → PaysBox d v before after since now → PaysBox d v before after told now
below-paid laws d v before after told since now hulls paid f due =
    pays-then laws f before before after told since now (pays-most f 0 (length v.list) before told since (laws.bounds.hulls told since (length v.list) hulls)) (paid f due)

-- a cell takes as much
pub cell-below : (laws : Lawful) (d : CellDescent) (v : Visit) (before after : Known) (told now : Counts) → is_long 1 v.box ≡ false → ChargesBox d v before after told now → ChargesBelow d v before after told now
cell-below laws d v before after told now short charged f enough =
    charges-more laws f (cell_spans_in d v) (spans_below d v) before after told now (omega (arith, own-short v short)) (charged f enough)

-- the way to a cell of a half of a box that is split ends as that from the half on
half-works : (laws : Lawful) (k : GridKind) (view : Window) (v : Visit) (live : List Step) (half : Indices) (s : Sample) → IsVisit (descent_of k view).boxes v → is_cut (descent_of k view) v ≡ true → live ≡ handed_on (descent_of k view).boxes v
    → Contains (halves_of 1 v.box) half → LiesIn half s → way_end (descent_of k view) v s ≡ way_end (descent_of k view) (visit half live) s
half-works laws k view v live half s is cut same among lies =
    end-of_half laws (descent_of k view) v half s (omega arith) is.box cut among lies ∙ ap (λ l. way_end (descent_of k view) (visit half l) s) (sym same)

-- what is due for a box is due for its halves
halves-due : (laws : Lawful) (k : GridKind) (view : Window) (v : Visit) (live : List Step) (f : GridPoint → ℕ) → IsVisit (descent_of k view).boxes v → is_cut (descent_of k view) v ≡ true → live ≡ handed_on (descent_of k view).boxes v
    → IsDue f (descent_of k view) v → All (λ half. IsDue f (descent_of k view) (visit half live)) (halves_of 1 v.box)
halves-due laws k view v live f is cut same due =
    All-weaker (Contains (halves_of 1 v.box)) (λ half. IsDue f d (visit half live))
    (λ half among s lies works p covers.
    let part = All-contains (IsPart 1 v.box) (halves_of 1 v.box) half (laws.parts.all 1 v.box (omega arith) is.box) among in
    let end = half-works laws k view v live half s is cut same among lies in
    let worked : is_working d v s ≡ true = ap (λ w. is_open d w && not (is_long 1 w.box)) end ∙ works in
    subst (λ w. f p ≤ length w.list) end (due s (laws.parts.lies 1 v.box half s part lies) worked p covers))
    (halves_of 1 v.box) (All-contains_itself (halves_of 1 v.box))
  where
    d : CellDescent
    d = descent_of k view

-- what is enough for a box is enough for its halves
halves-enough : (laws : Lawful) (k : GridKind) (view : Window) (v : Visit) (live : List Step) (f : GridPoint → ℕ) → IsVisit (descent_of k view).boxes v → is_cut (descent_of k view) v ≡ true → live ≡ handed_on (descent_of k view).boxes v
    → IsEnough f (descent_of k view) v → All (λ half. IsEnough f (descent_of k view) (visit half live)) (halves_of 1 v.box)
halves-enough laws k view v live f is cut same enough =
    All-weaker (Contains (halves_of 1 v.box)) (λ half. IsEnough f d (visit half live))
    (λ half among s lies works p covers.
    let part = All-contains (IsPart 1 v.box) (halves_of 1 v.box) half (laws.parts.all 1 v.box (omega arith) is.box) among in
    let end : way_end d v s ≡ way_end d (visit half live) s = end-of_half laws d v half s (omega arith) is.box cut among lies ∙ ap (λ l. way_end d (visit half l) s) (sym same) in
    let worked : is_working d v s ≡ true = ap (λ w. is_open d w && not (is_long 1 w.box)) end ∙ works in
    subst (λ w. length w.list ≤ f p) end (enough s (laws.parts.lies 1 v.box half s part lies) worked p covers))
    (halves_of 1 v.box) (All-contains_itself (halves_of 1 v.box))
  where
    d : CellDescent
    d = descent_of k view

-- a box that is split takes what its halves take, beside its own trace
pub halves-charged : (laws : Lawful) (k : GridKind) (view : Window) (v : Visit) (live : List Step) (before after : Known) (told now : Counts) → IsVisit (descent_of k view).boxes v → is_open (descent_of k view) v ≡ true
    → is_long 1 v.box ≡ true → live ≡ handed_on (descent_of k view).boxes v → ChargesHalves (descent_of k view) live (halves_of 1 v.box) before after told now
    → ChargesBelow (descent_of k view) v before after told now
halves-charged laws k view v live before after told now is open' long same halves f enough =
    charges-more laws f (halves_spans d live (halves_of 1 v.box)) (spans_below d v) before after told now
    (omega (arith, spans-split laws d v (omega arith) is.box cut, ap (λ l. halves_spans d l (halves_of 1 v.box)) same, own-long v long))
    (halves f (halves-enough laws k view v live f is cut same enough))
  where
    d : CellDescent
    d = descent_of k view

    cut : is_cut d v ≡ true
    cut = rw (open', long) refl

-- and pays what its halves pay
pub halves-paid : (laws : Lawful) (k : GridKind) (view : Window) (v : Visit) (live : List Step) (before after : Known) (told now : Counts) → IsVisit (descent_of k view).boxes v → is_open (descent_of k view) v ≡ true
    → is_long 1 v.box ≡ true → live ≡ handed_on (descent_of k view).boxes v → PaysHalves (descent_of k view) live (halves_of 1 v.box) before after told now
    → PaysBox (descent_of k view) v before after told now
halves-paid laws k view v live before after told now is open' long same halves f due = halves f (halves-due laws k view v live f is cut same due)
  where
    cut : is_cut (descent_of k view) v ≡ true
    cut = rw (open', long) refl

-- its working cells are those of its halves
pub halves-worked : (laws : Lawful) (k : GridKind) (view : Window) (v : Visit) (live : List Step) (t : Known) → IsVisit (descent_of k view).boxes v → is_open (descent_of k view) v ≡ true
    → is_long 1 v.box ≡ true → live ≡ handed_on (descent_of k view).boxes v → All (λ half. AreWorked (descent_of k view) (visit half live) t) (halves_of 1 v.box) → AreWorked (descent_of k view) v t
halves-worked laws k view v live t is open' long same each s lies works =
    let half = laws.parts.among 1 v.box s lies in
    let end = half-works laws k view v live (half_with 1 v.box s) s is cut same half.0 half.1 in
    All-contains (λ h. AreWorked d (visit h live) t) (halves_of 1 v.box) (half_with 1 v.box s) each half.0 s half.1 (ap (λ w. is_open d w && not (is_long 1 w.box)) (sym end) ∙ works)
  where
    d : CellDescent
    d = descent_of k view

    cut : is_cut d v ≡ true
    cut = rw (open', long) refl

-- ---- what is traced at least

pub hulls-least : (told now : Counts) (n : ℕ) → CountsHulls n told now → CountsHullsAtLeast n told now
hulls-least told now n h = record { by = hulls_of n h.corners; many = omega arith; rises = h.rises }

pub hulls-then : (laws : Lawful) (told since now : Counts) (m n k : ℕ) → k ≤ m + n → CountsHullsAtLeast m told since → CountsHullsAtLeast n since now → CountsHullsAtLeast k told now
hulls-then laws told since now m n k enough first second = record {
  by = plus first.by second.by;
  many = omega (arith, enough, first.many, second.many);
  rises = laws.tallies.sum told since now first.by second.by first.rises second.rises;
}

-- before any half is looked into
pub traced-none : (laws : Lawful) (counts : Counts) → CountsHullsAtLeast 0 counts counts
traced-none laws counts = record { by = no_counts; many = omega arith; rises = laws.tallies.none counts }

-- evaluating at the corners of a cell traces nothing
pub corners-untraced : (b : Indices) (len : ℕ) (before after : Known) (told since now : Counts) → since ≡ told → ChargesCorners b len before after since now → CountsNoHull told now
corners-untraced b len before after told since now same corners =
    let charged = corners (λ p. len) (λ p covers. omega arith) in
    record { points = charged.points; counts = subst (λ c. CountsAtMost charged.points 0 c now) same charged.counts }

-- and so does leaving it as it is
pub left-untraced : (laws : Lawful) (told now : Counts) → now ≡ told → CountsNoHull told now
left-untraced laws told now same = record { points = 0; counts = subst (λ c. CountsAtMost 0 0 told c) (sym same) (laws.bounds.none told 0 0) }

-- ---- the grids of meshes

-- a box of one cell is that of its cell
pub box-cell : (b : Indices) → IsBox b → is_long 1 b ≡ false → (p : GridPoint) → Covers b p → Covers (cell_box (low_cell b)) p
box-cell b is short p covers =
    let one = short-one b is short in
    record { x = (covers.x.0, omega (arith, covers.x.1, one.x)); y = (covers.y.0, omega (arith, covers.y.1, one.y)); z = (covers.z.0, omega (arith, covers.z.1, one.z)) }

-- two known corners on either side show that a cell stays open
pub corners-open : (laws : Lawful) (view : Window) (v : Visit) (t : PointValues) → IsVisit (gridded view).boxes v → is_long 1 v.box ≡ false → AreRight (list_grid_value view v.list) v.box (known_of t)
    → ShowsCorner t (point v.box.x0 v.box.y0 v.box.z0) true → ShowsCorner t (point v.box.x0 v.box.y0 v.box.z0) false → is_open (gridded view) v ≡ true
corners-open laws view v t is short right inner outer =
    let corner : ℕ → GridPoint = λ c. further (point v.box.x0 v.box.y0 v.box.z0) c in
    let own : (c : ℕ) → Covers (cell_box (low_cell v.box)) (corner c) = λ c. mask-covered (cell_box (low_cell v.box)) c (record { x = refl; y = refl; z = refl }) in
    sides-open laws mesh mesh_holds view v (known_of t) (corner inner.corner) (corner outer.corner) inner.value outer.value is short right (own inner.corner) (own outer.corner) inner.known inner.side outer.known outer.side

-- where the known corners of a cell show how it lies, though some corner is not known, what is seen of them has both sides
pub shown-sides : (t : PointValues) (p : GridPoint) (seen : Seen) → IsSeen t p seen → seen.all ≡ false → IsShown t p → (seen.inside ≡ true) × (seen.outside ≡ true)
shown-sides t p seen is lacks (inl known) =
    let corner = is.lacks lacks in
    absurd (false≢true (sym corner.unknown ∙ known corner.corner corner.few))
shown-sides t p seen is lacks (inr sides) = (by true seen.inside seen.inside refl sides.0 is.none_inside, by false seen.outside seen.outside refl sides.1 is.none_outside)
  where
    unlike : (inside : Bool) → inside ≡ not inside → ⊥
    unlike true e = false≢true (sym e)
    unlike false e = false≢true e

    by : (inside told side : Bool) → told ≡ side → ShowsCorner t p inside → (told ≡ false → AllShow t p 8 (not inside)) → told ≡ true
    by inside told true e shows none = e
    by inside told false e shows none = absurd (unlike inside (sym shows.side ∙ none e shows.corner shows.value shows.few shows.known))
