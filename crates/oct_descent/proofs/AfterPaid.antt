-- What is paid for a box of cells after another mesh, and which of its corners are known then.
use Rattle.std.proofs.Common.{◌≡◌, ℕ, ◌+◌, ◌-◌, ◌<◌, ◌≤◌, Bool, true, false, cond, List, [], ◌∷◌, ◌++◌, ◌⊎◌, inl, inr, length, get_or, take, refl, sym, ap, subst, ◌∙◌, arith}
use Rattle.std.specs.Prelude.{Option, Some, None, ◌&&◌, min, not}
use Rattle.std.specs.List.{All, Contains}
use Rattle.std.specs.List.Sorted.{IsPermutation}
use Rattle.std.proofs.lemmas.Bool.{and_from, and_parts, false≢true, not-true}
use Rattle.std.proofs.lemmas.List.{take_more}
use Rattle.std.proofs.lemmas.List.Elements.{All-append, All-cons, All-contains, All-contains_itself, All-get_or, All-head, All-nil, All-tail, All-weaker}
use Rattle.std.proofs.lemmas.List.Sorted.{All-permutation}
use Rattle.box_chains.specs.Chains.{Visit, half_with, handed_on, is_long, visit}
use Rattle.box_chains.specs.Laws.{Lawful}
use Rattle.box_chains.specs.Redrawn.{IsNew, is_old}
use Rattle.box_chains.specs.Sums.{LiesIn, Sample, sum_in}
use Rattle.box_chains.specs.Tallied.{CountsAtMost}
use Rattle.box_chains.specs.Visits.{IsVisit}
use Rattle.fixed_ops.specs.Counts.{Counts}
use Rattle.interval_ops.specs.HullCounts.{CountsHulls}
use Rattle.kuhn_cells.specs.Grids.{over_block}
use Rattle.kuhn_cells.specs.Triangles.{GridPoint, point}
use Rattle.live_clauses.specs.declared.step.Step.{Step}
use Rattle.view_places.specs.Boxes.{Indices, IsBox, halves_of}
use Rattle.view_places.specs.Spans.{root_box_of}
use Rattle.view_places.specs.Window.{Window, size_of}
use Rattle.view_places.specs.declared.lattice.Lattice.TheVariants as lattices
use Rattle.oct_descent.specs.After.{handed_before, is_new_working, is_old_cell, least_at_corners, least_lengths_at, mesh_before, mesh_least_after, received_half, ways_before}
use Rattle.oct_descent.specs.AfterDesks.{AreWorkedAfter, IsDueAfter, IsDueHalvesAfter, PaysBoxAfter, PaysHalvesAfter}
use Rattle.oct_descent.specs.Bound.{CountsAtLeast, has_point, least, mesh_least, points_of_grid, sample_of, working_lengths}
use Rattle.oct_descent.specs.GridValues.{list_grid_value}
use Rattle.oct_descent.specs.Kinds.{known_of}
use Rattle.oct_descent.specs.Known.{AreWorked, Grows, Known, PaysBox, left}
use Rattle.oct_descent.specs.Tables.{PointValues, is_known, known_at}
use Rattle.oct_descent.specs.Taking.{IsTaken, TakesPart}
use Rattle.oct_descent.specs.Ways.{CellDescent, Covers, cell_box, grid_root, gridded, is_cut, is_open, is_working, way, way_end}
use Rattle.oct_descent.proofs.AfterOld.{end-stands, new-is_new, stands-old}
use Rattle.oct_descent.proofs.AfterWork.{new-below, old-below, sum_in-below, sum_in-nothing}
use Rattle.oct_descent.proofs.Bounds.{covers-has, has-covers, least-of}
use Rattle.oct_descent.proofs.Members.{all_in_block, in_block, in_head, not_in_none}
use Rattle.oct_descent.proofs.TableLaws.{pays-most, pays-then, stays-known}
use Rattle.oct_descent.proofs.WayLaws.{end-ends, end-of_half, half-lies}
use Rattle.oct_descent.proofs.Whole.{left-whole}

-- ---- old cells

-- each cell of a box that received an equal list is old
all-old : (laws : Lawful) (d : CellDescent) (v : Visit) (s : Sample) → IsBox v.box → is_old_cell d (Some v) v s ≡ true
all-old laws d v s is = stands-old laws (way d v s) (way_end d v s) (end-stands d v s is)

-- and none of them is a new working one
none-new : (laws : Lawful) (d : CellDescent) (v : Visit) (s : Sample) → IsBox v.box → is_new_working d (Some v) v s ≡ true → ⊥
none-new laws d v s is works =
    let parts = and_parts (is_working d v s) (not (is_old_cell d (Some v) v s)) works in
    false≢true (sym (ap not (all-old laws d v s is)) ∙ parts.1)

-- ---- a box that is new

-- what is due for it is due for its halves
halves-due_after : (laws : Lawful) (f : GridPoint → ℕ) (d : CellDescent) (before : Option Visit) (v : Visit) → 0 < d.boxes.leaf → IsBox v.box → IsNew before v → is_cut d v ≡ true
    → IsDueAfter f d before v → IsDueHalvesAfter f d (handed_before d before) (handed_on d.boxes v) (halves_of d.boxes.leaf v.box)
halves-due_after laws f d before v some is new e due =
    All-weaker (Contains (halves_of d.boxes.leaf v.box)) (λ half. IsDueAfter f d (received_half (handed_before d before) half) (visit half (handed_on d.boxes v)))
    (λ half among. record {
      new = λ s lies works p covers. subst (λ w. f p ≤ length w.list) (end-of_half laws d v half s some is e among lies)
          (due.new s (half-lies laws d v half s some is among lies) (new-below laws d before v half s some is new e among lies ∙ works) p covers);
      old = λ s lies kept p covers. due.old s (half-lies laws d v half s some is among lies) (old-below laws d before v half s some is new e among lies ∙ kept) p covers;
    })
    (halves_of d.boxes.leaf v.box) (All-contains_itself (halves_of d.boxes.leaf v.box))

-- and it pays what its halves pay
pub halves-paid_after : (laws : Lawful) (view : Window) (old : Option Visit) (was : Option (List Step)) (v : Visit) (live : List Step) (before after : Known) (told now : Counts)
    → IsVisit (gridded view).boxes v → IsNew old v → is_open (gridded view) v ≡ true → is_long 1 v.box ≡ true → was ≡ handed_before (gridded view) old → live ≡ handed_on (gridded view).boxes v
    → PaysHalvesAfter (gridded view) was live (halves_of 1 v.box) before after told now → PaysBoxAfter (gridded view) old v before after told now
halves-paid_after laws view old was v live before after told now is new open' long e same paid f due =
    paid f (subst (λ o. IsDueHalvesAfter f d o live (halves_of 1 v.box)) (sym e)
    (subst (λ l. IsDueHalvesAfter f d (handed_before d old) l (halves_of 1 v.box)) (sym same)
    (halves-due_after laws f d old v (omega arith) is.box new cut due)))
  where
    d : CellDescent
    d = gridded view

    cut : is_cut d v ≡ true
    cut = rw (open', long) refl

-- its new working cells are those of its halves
pub halves-worked_after : (laws : Lawful) (view : Window) (old : Option Visit) (was : Option (List Step)) (v : Visit) (live : List Step) (t : Known) → IsVisit (gridded view).boxes v → IsNew old v
    → is_open (gridded view) v ≡ true → is_long 1 v.box ≡ true → was ≡ handed_before (gridded view) old → live ≡ handed_on (gridded view).boxes v
    → All (λ half. AreWorkedAfter (gridded view) (received_half was half) (visit half live) t) (halves_of 1 v.box) → AreWorkedAfter (gridded view) old v t
halves-worked_after laws view old was v live t is new open' long e same each s lies works =
    let half = laws.parts.among 1 v.box s lies in
    All-contains (λ h. AreWorkedAfter d (received_half (handed_before d old) h) (visit h (handed_on d.boxes v)) t) (halves_of 1 v.box) (half_with 1 v.box s) there half.0 s half.1
    (sym (new-below laws d old v (half_with 1 v.box s) s (omega arith) is.box new cut half.0 half.1) ∙ works)
  where
    d : CellDescent
    d = gridded view

    cut : is_cut d v ≡ true
    cut = rw (open', long) refl

    there : All (λ h. AreWorkedAfter d (received_half (handed_before d old) h) (visit h (handed_on d.boxes v)) t) (halves_of 1 v.box)
    there =
        subst (λ o. All (λ h. AreWorkedAfter d (received_half o h) (visit h (handed_on d.boxes v)) t) (halves_of 1 v.box)) e
        (subst (λ l. All (λ h. AreWorkedAfter d (received_half was h) (visit h l) t) (halves_of 1 v.box)) same each)

-- all working cells are known, so the new ones are
pub worked-after : (d : CellDescent) (old : Option Visit) (v : Visit) (t : Known) → AreWorked d v t → AreWorkedAfter d old v t
worked-after d old v t worked s lies works = worked s lies (and_parts (is_working d v s) (not (is_old (ways_before d old s) (way_end d v s))) works).0

-- what is due for a new cell is due for the cell
pub cell-paid_after : (laws : Lawful) (d : CellDescent) (old : Option Visit) (v : Visit) (before after : Known) (told now : Counts) → 0 < d.boxes.leaf → IsBox v.box → IsNew old v
    → is_long d.boxes.leaf v.box ≡ false → PaysBox d v before after told now → PaysBoxAfter d old v before after told now
cell-paid_after laws d old v before after told now some is new short paid f due =
    paid f (λ s lies works p covers. due.new s lies
    (and_from (is_working d v s) (not (is_old (ways_before d old s) (way_end d v s))) works
    (ap (λ w. not (is_old (ways_before d old s) w)) (end-ends d v s is uncut) ∙ ap not (new-is_new laws d old v s some is lies new)))
    p covers)
  where
    closed : (t : Bool) → (t && false) ≡ false
    closed true = refl
    closed false = refl

    uncut : is_cut d v ≡ false
    uncut = ap (λ l. is_open d v && l) short ∙ closed (is_open d v)

-- its own trace pays for no point
pub below-paid_after : (laws : Lawful) (d : CellDescent) (old : Option Visit) (v : Visit) (before after : Known) (told since now : Counts) → CountsHulls (length v.list) told since
    → PaysBoxAfter d old v before after since now → PaysBoxAfter d old v before after told now
below-paid_after laws d old v before after told since now hulls paid f due =
    pays-then laws f before before after told since now (pays-most f 0 (length v.list) before told since (laws.bounds.hulls told since (length v.list) hulls)) (paid f due)

pub look-paid_after : (d : CellDescent) (old : Option Visit) (v : Visit) (t : Known) (told now : Counts) → CountsAtMost 0 (length v.list) told now → PaysBoxAfter d old v t t told now
look-paid_after d old v t told now h f due = pays-most f 0 (length v.list) t told now h

-- ---- halves, one after another

pub begun-paid_after : (d : CellDescent) (old : Option (List Step)) (list : List Step) (halves : List Indices) (n : ℕ) (t : Known) (told now : Counts) → CountsAtMost 0 n told now
    → PaysHalvesAfter d old list halves t t told now
begun-paid_after d old list halves n t told now begun f due = pays-most f 0 n t told now begun

pub next-paid_after : (laws : Lawful) (view other : Window) (old : Option (List Step)) (list : List Step) (half : Indices) (halves : List Indices) (i : ℕ) (before mid after : Known) (told since now : Counts)
    → other ≡ view → i < length halves → half ≡ get_or halves i half → PaysHalvesAfter (gridded view) old list halves before mid told since
    → PaysBoxAfter (gridded other) (received_half old half) (visit half list) mid after since now → PaysHalvesAfter (gridded view) old list halves before after told now
next-paid_after laws view other old list half halves i before mid after told since now same within read earlier here f due =
    pays-then laws f before mid after told since now (earlier f due)
    (subst (λ v. PaysBoxAfter (gridded v) (received_half old half) (visit half list) mid after since now) same here f
    (subst (λ h. IsDueAfter f (gridded view) (received_half old h) (visit h list)) (sym read)
    (All-get_or (λ h. IsDueAfter f (gridded view) (received_half old h) (visit h list)) halves i half within due)))

pub turned-paid_after : (d : CellDescent) (old : Option (List Step)) (list : List Step) (halves turned : List Indices) (before after : Known) (told now : Counts) → IsPermutation halves turned
    → PaysHalvesAfter d old list turned before after told now → PaysHalvesAfter d old list halves before after told now
turned-paid_after d old list halves turned before after told now is paid f due =
    paid f (All-permutation (λ h. IsDueAfter f d (received_half old h) (visit h list)) halves turned is due)

pub next-worked_after : (view other : Window) (old : Option (List Step)) (list : List Step) (b half : Indices) (halves : List Indices) (i : ℕ) (before after : Known) → other ≡ view → i < length halves
    → half ≡ get_or halves i half → Grows (list_grid_value view list) b before after → AreWorkedAfter (gridded other) (received_half old half) (visit half list) after
    → All (λ h. AreWorkedAfter (gridded view) (received_half old h) (visit h list) before) (take i halves)
    → All (λ h. AreWorkedAfter (gridded view) (received_half old h) (visit h list) after) (take (i + 1) halves)
next-worked_after view other old list b half halves i before after same within read grows here earlier =
    subst (λ hs. All P hs) (sym (take_more halves i half within ∙ ap (λ h. take i halves ++ h ∷ []) (sym read)))
    (All-append P (take i halves) (half ∷ [])
    (All-weaker (λ h. AreWorkedAfter (gridded view) (received_half old h) (visit h list) before) P
    (λ h worked s lies works p covers. stays-known (list_grid_value view list) b before after p grows (worked s lies works p covers)) (take i halves) earlier)
    (All-cons P half [] (subst (λ v. AreWorkedAfter (gridded v) (received_half old half) (visit half list) after) same here) (All-nil P)))
  where
    P : Indices → Type 0
    P h = AreWorkedAfter (gridded view) (received_half old h) (visit h list) after

-- ---- what is taken over

-- a point that a box covers is a corner of one of its cells
corner-of : (b : Indices) (p : GridPoint) → IsBox b → Covers b p → (s : Sample) × (LiesIn b s × Covers (cell_box s) p)
corner-of b p is covers = (
  record { i = min p.x (b.x1 - 1); j = min p.y (b.y1 - 1); k = min p.z (b.z1 - 1) },
  (
    record {
      x = (omega (arith, is.x, covers.x), omega (arith, is.x, covers.x));
      y = (omega (arith, is.y, covers.y), omega (arith, is.y, covers.y));
      z = (omega (arith, is.z, covers.z), omega (arith, is.z, covers.z));
    },
    record {
      x = (omega (arith, is.x, covers.x), omega (arith, is.x, covers.x));
      y = (omega (arith, is.y, covers.y), omega (arith, is.y, covers.y));
      z = (omega (arith, is.z, covers.z), omega (arith, is.z, covers.z));
    },
  ),
)

-- halves that receive what they received before have no new working cell
pub taken-worked : (laws : Lawful) (d : CellDescent) (list : List Step) (halves : List Indices) (t : Known) → All IsBox halves
    → All (λ h. AreWorkedAfter d (received_half (Some list) h) (visit h list) t) halves
taken-worked laws d list halves t each =
    All-weaker IsBox (λ h. AreWorkedAfter d (received_half (Some list) h) (visit h list) t)
    (λ h is s lies works. absurd (none-new laws d (visit h list) s is works)) halves each

-- and nothing is due for what is taken over of them
pub taken-paid : (laws : Lawful) (view : Window) (list : List Step) (b : Indices) (old before after : PointValues) (now : Counts) → IsBox b → All IsBox (halves_of 1 b)
    → points_of_grid after.n ≡ points_of_grid before.n → TakesPart b old before after
    → PaysHalvesAfter (gridded view) (Some list) list (halves_of 1 b) (known_of before) (known_of after) now now
taken-paid laws view list b old before after now is each same takes f due =
    let none = pays-most f 0 0 (known_of before) now now (laws.bounds.none now 0 0) in
    record { points = 0; due = omega (arith, fewer); counts = record { by = none.counts.by; many = omega arith; rises = none.counts.rises } }
  where
    nothing : (p : GridPoint) → Covers b p → f p ≡ 0
    nothing p covers =
        let at = corner-of b p is covers in
        let half = laws.parts.among 1 b at.0 at.1.0 in
        let here = All-contains (λ h. IsDueAfter f (gridded view) (received_half (Some list) h) (visit h list)) (halves_of 1 b) (half_with 1 b at.0) due half.0 in
        here.old at.0 half.1 (all-old laws (gridded view) (visit (half_with 1 b at.0) list) at.0 (All-contains IsBox (halves_of 1 b) (half_with 1 b at.0) each half.0)) p at.1.1

    weight : PointValues → GridPoint → ℕ
    weight t p = cond (is_known (known_at t p)) 0 (f p)

    empty : (t : Bool) (n : ℕ) → n ≡ 0 → cond {A = ℕ} t 0 n ≡ 0
    empty true n e = refl
    empty false n e = e

    by : (p : GridPoint) → (known_at after p ≡ known_at before p) ⊎ IsTaken (Covers b) old before after p → weight before p ≤ weight after p
    by p (inl stays) = omega (arith, ap (λ o. cond {A = ℕ} (is_known o) 0 (f p)) stays)
    by p (inr taken) = omega (arith, empty (is_known (known_at before p)) (f p) (nothing p taken.one))

    fewer : left f (known_of before) ≤ left f (known_of after)
    fewer =
        subst (λ (c : Indices). left f (known_of before) ≤ sum_in c (λ s. weight after (point s.i s.j s.k))) (sym same)
        (sum_in-below laws (points_of_grid before.n) (λ s. weight before (point s.i s.j s.k)) (λ s. weight after (point s.i s.j s.k))
        (λ s lies. by (point s.i s.j s.k) (takes.each (point s.i s.j s.k))))

-- ---- the box of all cells

-- what those cells take that have a point as a corner
abbrev taken_at : Window → Option (List Step) → List Step → GridPoint → GridPoint → List ℕ
taken_at view before list p cell =
    cond (has_point (cell_box (sample_of cell)) p) (least_at_corners (gridded view) (mesh_before view before) (grid_root view list) (sample_of cell)) []

-- what a grid's points take at least is due for the box of all cells
points-due_after : (view : Window) (before : Option (List Step)) (list : List Step)
    → IsDueAfter (λ p. least (least_lengths_at view before list p)) (gridded view) (mesh_before view before) (grid_root view list)
points-due_after view before list = record { new = new; old = old }
  where
    d : CellDescent
    d = gridded view

    v : Visit
    v = grid_root view list

    was : Option Visit
    was = mesh_before view before

    below : (s : Sample) (p : GridPoint) (n : ℕ) → LiesIn v.box s → Covers (d.cell s) p → least_at_corners d was v s ≡ n ∷ [] → least (least_lengths_at view before list p) ≤ n
    below s p n lies covers takes =
        let cell = point s.i s.j s.k in
        let here : taken_at view before list p cell ≡ n ∷ [] = ap (λ t. cond t (least_at_corners d was v s) []) (covers-has (d.cell s) p covers) ∙ takes in
        least-of (least_lengths_at view before list p) n
        (in_block view.nx view.ny view.nz (taken_at view before list p) cell n lies.x.1 lies.y.1 lies.z.1 (subst (λ (ns : List ℕ). Contains ns n) (sym here) (in_head [] n)))

    new : (s : Sample) → LiesIn v.box s → is_new_working d was v s ≡ true → (p : GridPoint) → Covers (d.cell s) p
        → least (least_lengths_at view before list p) ≤ length (way_end d v s).list
    new s lies works p covers =
        let parts = and_parts (is_working d v s) (not (is_old_cell d was v s)) works in
        below s p (length (way_end d v s).list) lies covers (rw (not-true (is_old_cell d was v s) parts.1, parts.0) refl)

    old : (s : Sample) → LiesIn v.box s → is_old_cell d was v s ≡ true → (p : GridPoint) → Covers (d.cell s) p → least (least_lengths_at view before list p) ≡ 0
    old s lies kept p covers = omega (arith, below s p 0 lies covers (rw kept refl))

-- numbers of which none is above 0 have no other least
least-nothing : (ns : List ℕ) → All (λ n. n ≡ 0) ns → least ns ≡ 0
least-nothing [] all = refl
least-nothing (n ∷ []) all = All-head (λ k. k ≡ 0) n [] all
least-nothing (n ∷ m ∷ ns) all = omega (arith, All-head (λ k. k ≡ 0) n (m ∷ ns) all)

-- and a point takes nothing that is a corner of no new working cell
nothing_at : (view : Window) (before : Option (List Step)) (list : List Step) (p : GridPoint)
    → ((s : Sample) → LiesIn (grid_root view list).box s → is_new_working (gridded view) (mesh_before view before) (grid_root view list) s ≡ true → Covers ((gridded view).cell s) p → ⊥)
    → least (least_lengths_at view before list p) ≡ 0
nothing_at view before list p none =
    least-nothing (least_lengths_at view before list p)
    (all_in_block (λ n. n ≡ 0) view.nx view.ny view.nz (taken_at view before list p)
    (λ cell x y z. by cell x y z (has_point (cell_box (sample_of cell)) p) (is_old_cell d was v (sample_of cell)) (is_working d v (sample_of cell)) refl refl refl))
  where
    d : CellDescent
    d = gridded view

    v : Visit
    v = grid_root view list

    was : Option Visit
    was = mesh_before view before

    by : (cell : GridPoint) → cell.x < view.nx → cell.y < view.ny → cell.z < view.nz → (has old works : Bool) → has_point (cell_box (sample_of cell)) p ≡ has → is_old_cell d was v (sample_of cell) ≡ old
        → is_working d v (sample_of cell) ≡ works → All (λ n. n ≡ 0) (cond has (cond old (0 ∷ []) (cond works (length (way_end d v (sample_of cell)).list ∷ []) [])) [])
    by cell x y z false old works h o w = All-nil (λ n. n ≡ 0)
    by cell x y z true true works h o w = All-cons (λ n. n ≡ 0) 0 [] refl (All-nil (λ n. n ≡ 0))
    by cell x y z true false false h o w = All-nil (λ n. n ≡ 0)
    by cell x y z true false true h o w =
        let lies : LiesIn v.box (sample_of cell) = record { x = (omega arith, x); y = (omega arith, y); z = (omega arith, z) } in
        let new = and_from (is_working d v (sample_of cell)) (not (is_old_cell d was v (sample_of cell))) w (ap not o) in
        absurd (none (sample_of cell) lies new (has-covers (cell_box (sample_of cell)) p h))

-- nor one that is not known once all new working cells are
none-due_after : (view : Window) (before : Option (List Step)) (list : List Step) (t : Known) (p : GridPoint) → AreWorkedAfter (gridded view) (mesh_before view before) (grid_root view list) t
    → is_known (t.at p) ≡ false → least (least_lengths_at view before list p) ≡ 0
none-due_after view before list t p worked unknown = nothing_at view before list p (λ s lies works covers. false≢true (sym unknown ∙ worked s lies works p covers))

none-left_after : (laws : Lawful) (view : Window) (before : Option (List Step)) (list : List Step) (t : Known) → AreWorkedAfter (gridded view) (mesh_before view before) (grid_root view list) t
    → left (λ p. least (least_lengths_at view before list p)) t ≡ 0
none-left_after laws view before list t worked =
    sum_in-nothing laws t.points (λ s. cond (is_known (t.at (point s.i s.j s.k))) 0 (least (least_lengths_at view before list (point s.i s.j s.k))))
    (λ s lies. by (point s.i s.j s.k) (is_known (t.at (point s.i s.j s.k))) refl)
  where
    by : (p : GridPoint) (b : Bool) → is_known (t.at p) ≡ b → cond b 0 (least (least_lengths_at view before list p)) ≡ 0
    by p true e = refl
    by p false e = none-due_after view before list t p worked e

-- no less work is counted than what is due
pub whole-paid_after : (laws : Lawful) (view other : Window) (old : Option (List Step)) (list : List Step) (b : Indices) (before after : PointValues) (told now : Counts) → other ≡ view
    → b ≡ root_box_of view lattices.Grid → before.n ≡ size_of view → ((p : GridPoint) → known_at before p ≡ None)
    → AreWorkedAfter (gridded other) (mesh_before view old) (visit b list) (known_of after)
    → PaysBoxAfter (gridded other) (mesh_before view old) (visit b list) (known_of before) (known_of after) told now → CountsAtLeast (mesh_least_after view old list) told now
unfolding mesh_least_after
whole-paid_after laws view other old list b before after told now same root n none worked pays =
    let f : GridPoint → ℕ = λ p. least (least_lengths_at view old list p) in
    let here = subst (λ v. PaysBoxAfter (gridded v) (mesh_before view old) (visit (root_box_of view lattices.Grid) list) (known_of before) (known_of after) told now) same
    (subst (λ c. PaysBoxAfter (gridded other) (mesh_before view old) (visit c list) (known_of before) (known_of after) told now) root pays) in
    let there = subst (λ v. AreWorkedAfter (gridded v) (mesh_before view old) (visit (root_box_of view lattices.Grid) list) (known_of after)) same
    (subst (λ c. AreWorkedAfter (gridded other) (mesh_before view old) (visit c list) (known_of after)) root worked) in
    let h = here f (points-due_after view old list) in
    record {
      by = h.counts.by;
      many = omega (arith, h.due, h.counts.many, left-whole laws f (known_of before) (points_of_grid (size_of view)) (ap points_of_grid n) none, none-left_after laws view old list (known_of after) there);
      rises = h.counts.rises;
    }

-- after a mesh of an equal list nothing is due
pub least-same : (laws : Lawful) (view : Window) (list : List Step) → mesh_least_after view (Some list) list ≡ 0
unfolding mesh_least_after
least-same laws view list =
    sum_in-nothing laws (points_of_grid (size_of view)) (λ s. least (least_lengths_at view (Some list) list (point s.i s.j s.k)))
    (λ s lies. nothing_at view (Some list) list (point s.i s.j s.k)
    (λ c inside works covers. none-new laws (gridded view) (grid_root view list) c (record { x = omega (arith, inside.x); y = omega (arith, inside.y); z = omega (arith, inside.z) }) works))

-- and without a mesh before, all is
pub least-fresh : (view : Window) (list : List Step) → mesh_least_after view None list ≡ mesh_least view list
unfolding mesh_least_after mesh_least
least-fresh view list = λ i. sum_in (points_of_grid (size_of view)) (λ s. least (at (point s.i s.j s.k) i))
  where
    works : GridPoint → Bool
    works cell = is_working (gridded view) (grid_root view list) (sample_of cell)

    len : GridPoint → ℕ
    len cell = length (way_end (gridded view) (grid_root view list) (sample_of cell)).list

    both : (has works : Bool) (n : ℕ) → cond has (cond works (n ∷ []) []) [] ≡ cond (has && works) (n ∷ []) []
    both true works n = refl
    both false works n = refl

    at : (p : GridPoint) → least_lengths_at view None list p ≡ working_lengths view list p
    at p = λ i. over_block view.nx view.ny view.nz (λ cell. both (has_point (cell_box (sample_of cell)) p) (works cell) (len cell) i)

-- what is at most each of some numbers is at most their least
least-above : (m : ℕ) (ns : List ℕ) → (ns ≡ [] → m ≡ 0) → All (λ n. m ≤ n) ns → m ≤ least ns
least-above m [] none each = omega (arith, none refl)
least-above m (n ∷ []) none each = All-head (λ k. m ≤ k) n [] each
least-above m (n ∷ k ∷ ns) none each =
    let rest = least-above m (k ∷ ns) (λ e. absurd (omega (arith, ap length e))) (All-tail (λ j. m ≤ j) n (k ∷ ns) each) in
    omega (arith, All-head (λ j. m ≤ j) n (k ∷ ns) each, rest)

-- never is more due than without one
pub least-less : (laws : Lawful) (view : Window) (before : Option (List Step)) (list : List Step) → mesh_least_after view before list ≤ mesh_least view list
unfolding mesh_least_after mesh_least
least-less laws view before list =
    sum_in-below laws (points_of_grid (size_of view)) (λ s. least (least_lengths_at view before list (point s.i s.j s.k))) (λ s. least (working_lengths view list (point s.i s.j s.k)))
    (λ s lies. least-above (least (least_lengths_at view before list (point s.i s.j s.k))) (working_lengths view list (point s.i s.j s.k)) (none (point s.i s.j s.k)) (each (point s.i s.j s.k)))
  where
    d : CellDescent
    d = gridded view

    v : Visit
    v = grid_root view list

    was : Option Visit
    was = mesh_before view before

    at : GridPoint → GridPoint → List ℕ
    at p cell = cond (has_point (cell_box (sample_of cell)) p && is_working d v (sample_of cell)) (length (way_end d v (sample_of cell)).list ∷ []) []

    none : (p : GridPoint) → working_lengths view list p ≡ [] → least (least_lengths_at view before list p) ≡ 0
    none p empty = nothing_at view before list p (λ s lies works covers.
        let cell = point s.i s.j s.k in
        let len = length (way_end d v s).list in
        let here : at p cell ≡ len ∷ [] =
        ap (λ t. cond t (len ∷ []) []) (and_from (has_point (d.cell s) p) (is_working d v s) (covers-has (d.cell s) p covers) (and_parts (is_working d v s) (not (is_old_cell d was v s)) works).0) in
        not_in_none len (subst (λ (ns : List ℕ). Contains ns len) empty
        (in_block view.nx view.ny view.nz (at p) cell len lies.x.1 lies.y.1 lies.z.1 (subst (λ (ns : List ℕ). Contains ns len) (sym here) (in_head [] len)))))

    one : (p : GridPoint) (s : Sample) → LiesIn v.box s → Covers (d.cell s) p → is_working d v s ≡ true → (old : Bool) → is_old_cell d was v s ≡ old
        → least (least_lengths_at view before list p) ≤ length (way_end d v s).list
    one p s lies covers works true e = omega (arith, (points-due_after view before list).old s lies e p covers)
    one p s lies covers works false e = (points-due_after view before list).new s lies (and_from (is_working d v s) (not (is_old_cell d was v s)) works (ap not e)) p covers

    each : (p : GridPoint) → All (λ n. least (least_lengths_at view before list p) ≤ n) (working_lengths view list p)
    each p =
        all_in_block (λ n. least (least_lengths_at view before list p) ≤ n) view.nx view.ny view.nz (at p)
        (λ cell x y z. by cell x y z (has_point (cell_box (sample_of cell)) p && is_working d v (sample_of cell)) refl)
      where
        by : (cell : GridPoint) → cell.x < view.nx → cell.y < view.ny → cell.z < view.nz → (b : Bool) → (has_point (cell_box (sample_of cell)) p && is_working d v (sample_of cell)) ≡ b
            → All (λ n. least (least_lengths_at view before list p) ≤ n) (cond b (length (way_end d v (sample_of cell)).list ∷ []) [])
        by cell x y z false e = All-nil (λ n. least (least_lengths_at view before list p) ≤ n)
        by cell x y z true e =
            let s = sample_of cell in
            let parts = and_parts (has_point (cell_box s) p) (is_working d v s) e in
            let lies : LiesIn v.box s = record { x = (omega arith, x); y = (omega arith, y); z = (omega arith, z) } in
            All-cons (λ n. least (least_lengths_at view before list p) ≤ n) (length (way_end d v s).list) []
            (one p s lies (has-covers (cell_box s) p parts.0) parts.1 (is_old_cell d was v s) refl) (All-nil (λ n. least (least_lengths_at view before list p) ≤ n))
