-- What a box of cells takes after another mesh, from what its halves take.
use Rattle.std.proofs.Common.{◌≡◌, ℕ, ◌+◌, ◌-◌, ◌<◌, ◌≤◌, Bool, true, false, cond, List, [], ◌∷◌, length, refl, sym, ap, subst, ◌∙◌, zero-add, arith}
use Rattle.std.specs.Prelude.{Option, Some, None, ◌&&◌, ◌↔◌, not}
use Rattle.std.specs.List.{All, Contains, sum_by}
use Rattle.std.proofs.lemmas.Bool.{and_from, and_parts, false≢true}
use Rattle.std.proofs.lemmas.List.Elements.{All-contains, All-contains_itself, All-head, All-tail, All-weaker}
use Rattle.std.proofs.lemmas.List.Sums.{sum_by-cons}
use Rattle.kuhn_cells.specs.Triangles.{GridPoint}
use Rattle.view_places.specs.Boxes.{Indices, IsBox, halves_of}
use Rattle.box_chains.specs.Chains.{Visit, half_with, handed_on, is_long, next_visit, sides, visit}
use Rattle.box_chains.specs.Counts.{is_first}
use Rattle.box_chains.specs.Laws.{Lawful}
use Rattle.box_chains.specs.Parts.{IsPart}
use Rattle.box_chains.specs.Redrawn.{IsNew, is_old}
use Rattle.box_chains.specs.Sums.{LiesIn, Sample, sum_in}
use Rattle.oct_descent.specs.After.{cell_spans_after, handed_before, is_new_working, is_old_cell, long_spans_after, received_half, ways_before}
use Rattle.oct_descent.specs.AfterDesks.{IsEnoughAfter, IsEnoughHalvesAfter, halves_long_spans_after, halves_spans_after}
use Rattle.oct_descent.specs.AfterLaws.{BoxesAfterAddUp}
use Rattle.oct_descent.specs.Bound.{cell_spans_in, long_spans_in}
use Rattle.oct_descent.specs.Tables.{IsEnough}
use Rattle.oct_descent.specs.Ways.{CellDescent, Covers, is_cut, is_open, is_working, way, way_end}
use Rattle.oct_descent.proofs.AfterOld.{below-same, end-stands, new-is_new, next-shorter, stands-old}
use Rattle.oct_descent.proofs.WayLaws.{cut-is_long, end-ends, end-of_half, half-lies, own-once, own_long-once, sum-over_halves, sum_by-equal, way-ends, way-goes_on}

-- ---- sums

-- sums of lesser numbers are less
pub sum_in-below : (laws : Lawful) (b : Indices) (f g : Sample → ℕ) → ((s : Sample) → LiesIn b s → f s ≤ g s)
    → sum_in b f ≤ sum_in b g
sum_in-below laws b f g less =
    omega (
      arith,
      laws.sums.plus b f (λ s. g s - f s),
      laws.sums.same b (λ s. f s + (g s - f s)) g
          (λ s lies. omega (arith, less s lies)),
    )

-- and sums of nothing are nothing
pub sum_in-nothing : (laws : Lawful) (b : Indices) (f : Sample → ℕ) → ((s : Sample) → LiesIn b s → f s ≡ 0)
    → sum_in b f ≡ 0
sum_in-nothing laws b f none = laws.sums.same b f (λ s. 0) none ∙ laws.sums.const b 0 ∙ omega arith

-- ---- what boxes on ways add that are not old

-- a number of each of those boxes, at a sample
abbrev added : (Visit → Sample → ℕ) → List Visit → Sample → List Visit → ℕ
added weigh old s visits = sum_by (λ w. cond (is_old old w) 0 (weigh w s)) visits

-- all that is added over a box
abbrev total : (Visit → Sample → ℕ) → CellDescent → Option Visit → Visit → ℕ
total weigh d before v = sum_in v.box (λ s. added weigh (ways_before d before s) s (way d v s))

-- where the same boxes are old, they add the same
added-same : (weigh : Visit → Sample → ℕ) (a b : List Visit) (s : Sample) (visits : List Visit)
    → All (λ w. is_old a w ≡ is_old b w) visits → added weigh a s visits ≡ added weigh b s visits
added-same weigh a b s visits same =
    sum_by-equal (λ w. cond (is_old a w) 0 (weigh w s)) (λ w. cond (is_old b w) 0 (weigh w s)) visits
    (All-weaker (λ w. is_old a w ≡ is_old b w)
    (λ w. cond {A = ℕ} (is_old a w) 0 (weigh w s) ≡ cond {A = ℕ} (is_old b w) 0 (weigh w s))
    (λ w h. ap (λ t. cond {A = ℕ} t 0 (weigh w s)) h) visits same)

-- a new box adds its own, and then what the half with the sample adds
added-next : (weigh : Visit → Sample → ℕ) (laws : Lawful) (d : CellDescent) (before : Option Visit)
    (v : Visit) (s : Sample) → 0 < d.boxes.leaf → IsBox v.box → LiesIn v.box s → IsNew before v
    → is_cut d v ≡ true
    → added weigh (ways_before d before s) s (way d v s)
    ≡ weigh v s + added weigh (ways_before d
    (received_half (handed_before d before) (half_with d.boxes.leaf v.box s)) s) s (way d
    (next_visit d.boxes v s) s)
added-next weigh laws d before v s some is lies new e =
    let rest = way d (next_visit d.boxes v s) s in
    let old = ways_before d before s in
    let half_old = ways_before d (received_half (handed_before d before) (half_with d.boxes.leaf v.box s))
    s in
    let whole = ap (added weigh old s) (way-goes_on laws d v s some is lies e)
    ∙ sum_by-cons (λ w. cond (is_old old w) 0 (weigh w s)) v rest in
    let own = ap (λ t. cond {A = ℕ} t 0 (weigh v s)) (new-is_new laws d before v s some is lies new) in
    let below = added-same weigh old half_old s rest
    (All-weaker (λ w. sides w.box < sides v.box) (λ w. is_old old w ≡ is_old half_old w)
    (λ w less. below-same laws d before v w s some is lies new less) rest
    (next-shorter laws d v s some is lies e)) in
    omega (arith, whole, own, below)

total-split : (weigh : Visit → Sample → ℕ) (laws : Lawful) (d : CellDescent) (before : Option Visit)
    (v : Visit) → 0 < d.boxes.leaf → IsBox v.box → IsNew before v → is_cut d v ≡ true
    → total weigh d before v
    ≡ sum_in v.box (weigh v) + sum_by
    (λ half. total weigh d (received_half (handed_before d before) half) (visit half (handed_on d.boxes v)))
    (halves_of d.boxes.leaf v.box)
total-split weigh laws d before v some is new e =
    let rest : Sample → ℕ = λ s. added weigh
    (ways_before d (received_half (handed_before d before) (half_with d.boxes.leaf v.box s)) s) s
    (way d (next_visit d.boxes v s) s) in
    let apart = laws.sums.same v.box (λ s. added weigh (ways_before d before s) s (way d v s))
    (λ s. weigh v s + rest s)
    (λ s lies. added-next weigh laws d before v s some is lies new e) in
    let below = sum-over_halves laws d v rest
    (λ half s. added weigh (ways_before d (received_half (handed_before d before) half) s) s
    (way d (visit half (handed_on d.boxes v)) s))
    (λ half s among lies.
    ap (λ b. added weigh (ways_before d (received_half (handed_before d before) b) s) s
    (way d (visit b (handed_on d.boxes v)) s)) (laws.parts.only d.boxes.leaf v.box half s among lies)) in
    omega (arith, apart, laws.sums.plus v.box (weigh v) rest, below)

total-end : (weigh : Visit → Sample → ℕ) (laws : Lawful) (d : CellDescent) (before : Option Visit) (v : Visit)
    → 0 < d.boxes.leaf → IsBox v.box → IsNew before v → is_cut d v ≡ false
    → total weigh d before v ≡ sum_in v.box (weigh v)
total-end weigh laws d before v some is new e =
    laws.sums.same v.box (λ s. added weigh (ways_before d before s) s (way d v s)) (weigh v)
    (λ s lies. alone s lies)
  where
    alone : (s : Sample) → LiesIn v.box s → added weigh (ways_before d before s) s (way d v s) ≡ weigh v s
    alone s lies =
        let old = ways_before d before s in
        ap (added weigh old s) (way-ends d v s is e) ∙ zero-add (cond (is_old old v) 0 (weigh v s))
        ∙ ap (λ t. cond {A = ℕ} t 0 (weigh v s)) (new-is_new laws d before v s some is lies new)

-- below a box that is old, all are
total-old : (weigh : Visit → Sample → ℕ) (laws : Lawful) (d : CellDescent) (v : Visit)
    → total weigh d (Some v) v ≡ 0
total-old weigh laws d v =
    sum_in-nothing laws v.box (λ s. added weigh (way d v s) s (way d v s))
    (λ s lies. nothing s (way d v s)
    (All-weaker (Contains (way d v s)) (λ w. is_old (way d v s) w ≡ true)
    (λ w inside. stands-old laws (way d v s) w inside) (way d v s) (All-contains_itself (way d v s))))
  where
    nothing : (s : Sample) (ws : List Visit) → All (λ w. is_old (way d v s) w ≡ true) ws
        → added weigh (way d v s) s ws ≡ 0
    nothing s [] old = refl
    nothing s (w ∷ ws) old =
        let own = ap (λ t. cond {A = ℕ} t 0 (weigh w s))
        (All-head (λ x. is_old (way d v s) x ≡ true) w ws old) in
        omega (
          arith,
          sum_by-cons (λ x. cond (is_old (way d v s) x) 0 (weigh x s)) w ws,
          own,
          nothing s ws (All-tail (λ x. is_old (way d v s) x ≡ true) w ws old),
        )

test-below : (t : Bool) (n : ℕ) → cond {A = ℕ} t 0 n ≤ n
test-below true n = omega arith
test-below false n = omega arith

-- never more is added than by all boxes
total-most : (weigh : Visit → Sample → ℕ) (laws : Lawful) (d : CellDescent) (before : Option Visit)
    (v : Visit) → total weigh d before v ≤ sum_in v.box (λ s. sum_by (λ w. weigh w s) (way d v s))
total-most weigh laws d before v =
    sum_in-below laws v.box (λ s. added weigh (ways_before d before s) s (way d v s))
    (λ s. sum_by (λ w. weigh w s) (way d v s))
    (λ s lies. fewer s (ways_before d before s) (way d v s))
  where
    fewer : (s : Sample) (old ws : List Visit) → added weigh old s ws ≤ sum_by (λ w. weigh w s) ws
    fewer s old [] = omega arith
    fewer s old (w ∷ ws) =
        omega (
          arith,
          sum_by-cons (λ x. cond (is_old old x) 0 (weigh x s)) w ws,
          sum_by-cons (λ x. weigh x s) w ws,
          test-below (is_old old w) (weigh w s),
          fewer s old ws,
        )

-- ---- the steps that are traced

-- what a box adds where a sample is its first
abbrev own_length : Visit → Sample → ℕ
own_length v s = cond (is_first v.box s) (length v.list) 0

-- and where it is more than a cell too
abbrev own_long : CellDescent → Visit → Sample → ℕ
own_long d v s = cond (is_long d.boxes.leaf v.box && is_first v.box s) (length v.list) 0

pub spans-split_after : (laws : Lawful) (d : CellDescent) (before : Option Visit) (v : Visit)
    → 0 < d.boxes.leaf → IsBox v.box → IsNew before v → is_cut d v ≡ true
    → cell_spans_after d before v
    ≡ length v.list + halves_spans_after d (handed_before d before) (handed_on d.boxes v)
    (halves_of d.boxes.leaf v.box)
unfolding cell_spans_after
spans-split_after laws d before v some is new e =
    omega (arith, total-split own_length laws d before v some is new e, own-once laws v is)

pub spans-end_after : (laws : Lawful) (d : CellDescent) (before : Option Visit) (v : Visit) → 0 < d.boxes.leaf
    → IsBox v.box → IsNew before v → is_cut d v ≡ false → cell_spans_after d before v ≡ length v.list
unfolding cell_spans_after
spans-end_after laws d before v some is new e =
    omega (arith, total-end own_length laws d before v some is new e, own-once laws v is)

pub long-split_after : (laws : Lawful) (d : CellDescent) (before : Option Visit) (v : Visit)
    → 0 < d.boxes.leaf → IsBox v.box → IsNew before v → is_cut d v ≡ true
    → long_spans_after d before v
    ≡ length v.list + halves_long_spans_after d (handed_before d before) (handed_on d.boxes v)
    (halves_of d.boxes.leaf v.box)
unfolding long_spans_after
long-split_after laws d before v some is new e =
    let once = own_long-once laws (is_long d.boxes.leaf v.box) v is
    ∙ ap (λ t. cond {A = ℕ} t (length v.list) 0) (cut-is_long d v e) in
    omega (arith, total-split (own_long d) laws d before v some is new e, once)

pub long-end_after : (laws : Lawful) (d : CellDescent) (before : Option Visit) (v : Visit) → 0 < d.boxes.leaf
    → IsBox v.box → IsNew before v → is_cut d v ≡ false
    → long_spans_after d before v ≡ cond (is_long d.boxes.leaf v.box) (length v.list) 0
unfolding long_spans_after
long-end_after laws d before v some is new e =
    total-end (own_long d) laws d before v some is new e
    ∙ own_long-once laws (is_long d.boxes.leaf v.box) v is

pub spans-old : (laws : Lawful) (d : CellDescent) (v : Visit) → cell_spans_after d (Some v) v ≡ 0
unfolding cell_spans_after
spans-old laws d v = total-old own_length laws d v

pub long-old : (laws : Lawful) (d : CellDescent) (v : Visit) → long_spans_after d (Some v) v ≡ 0
unfolding long_spans_after
long-old laws d v = total-old (own_long d) laws d v

pub spans-fresh : (d : CellDescent) (v : Visit) → cell_spans_after d None v ≡ cell_spans_in d v
unfolding cell_spans_after cell_spans_in
spans-fresh d v = refl

pub long-fresh : (d : CellDescent) (v : Visit) → long_spans_after d None v ≡ long_spans_in d v
unfolding long_spans_after long_spans_in
long-fresh d v = refl

pub spans-most : (laws : Lawful) (d : CellDescent) (before : Option Visit) (v : Visit)
    → cell_spans_after d before v ≤ cell_spans_in d v
unfolding cell_spans_after cell_spans_in
spans-most laws d before v = total-most own_length laws d before v

pub long-most : (laws : Lawful) (d : CellDescent) (before : Option Visit) (v : Visit)
    → long_spans_after d before v ≤ long_spans_in d v
unfolding long_spans_after long_spans_in
long-most laws d before v = total-most (own_long d) laws d before v

-- ---- what is enough

-- a cell that is old from a half on is old from the box on
pub old-below : (laws : Lawful) (d : CellDescent) (before : Option Visit) (v : Visit) (half : Indices)
    (s : Sample) → 0 < d.boxes.leaf → IsBox v.box → IsNew before v → is_cut d v ≡ true
    → Contains (halves_of d.boxes.leaf v.box) half → LiesIn half s
    → is_old_cell d before v s
    ≡ is_old_cell d (received_half (handed_before d before) half) (visit half (handed_on d.boxes v)) s
old-below laws d before v half s some is new e among lies =
    ap (is_old (ways_before d before s)) (end-of_half laws d v half s some is e among lies)
    ∙ below-same laws d before v last s some is inside new less
    ∙ ap (λ b. is_old (ways_before d (received_half (handed_before d before) b) s) last) only
  where
    next : Visit
    next = visit half (handed_on d.boxes v)

    last : Visit
    last = way_end d next s

    inside : LiesIn v.box s
    inside = half-lies laws d v half s some is among lies

    only : half_with d.boxes.leaf v.box s ≡ half
    only = laws.parts.only d.boxes.leaf v.box half s among lies

    box : IsBox half
    box =
        laws.parts.box d.boxes.leaf v.box half
        (subst (λ b. IsPart d.boxes.leaf v.box b) only
        (laws.parts.part d.boxes.leaf v.box s some is inside).0)

    less : sides last.box < sides v.box
    less = All-contains (λ w. sides w.box < sides v.box) (way d next s) last
        (subst (λ b. All (λ w. sides w.box < sides v.box) (way d (visit b (handed_on d.boxes v)) s)) only
        (next-shorter laws d v s some is inside e))
        (end-stands d next s box)

-- and a working cell that is new from a half on is new from the box on
pub new-below : (laws : Lawful) (d : CellDescent) (before : Option Visit) (v : Visit) (half : Indices)
    (s : Sample) → 0 < d.boxes.leaf → IsBox v.box → IsNew before v → is_cut d v ≡ true
    → Contains (halves_of d.boxes.leaf v.box) half → LiesIn half s
    → is_new_working d before v s
    ≡ is_new_working d (received_half (handed_before d before) half) (visit half (handed_on d.boxes v)) s
new-below laws d before v half s some is new e among lies =
    ap (λ w. is_open d w && not (is_long d.boxes.leaf w.box) && not (is_old_cell d before v s))
    (end-of_half laws d v half s some is e among lies)
    ∙ ap (λ t. is_working d (visit half (handed_on d.boxes v)) s && not t)
    (old-below laws d before v half s some is new e among lies)

-- what is enough for a box is enough for its halves
pub halves-enough_after : (laws : Lawful) (f : GridPoint → ℕ) (d : CellDescent) (before : Option Visit)
    (v : Visit) → 0 < d.boxes.leaf → IsBox v.box → IsNew before v → is_cut d v ≡ true
    → IsEnoughAfter f d before v
    → IsEnoughHalvesAfter f d (handed_before d before) (handed_on d.boxes v) (halves_of d.boxes.leaf v.box)
halves-enough_after laws f d before v some is new e enough =
    All-weaker (Contains (halves_of d.boxes.leaf v.box))
    (λ half. IsEnoughAfter f d (received_half (handed_before d before) half)
    (visit half (handed_on d.boxes v)))
    (λ half among s lies works p covers.
    subst (λ w. length w.list ≤ f p) (end-of_half laws d v half s some is e among lies)
    (enough s (half-lies laws d v half s some is among lies)
    (new-below laws d before v half s some is new e among lies ∙ works) p covers))
    (halves_of d.boxes.leaf v.box) (All-contains_itself (halves_of d.boxes.leaf v.box))

-- a new cell that stays open is a new working one
pub cell-enough_after : (laws : Lawful) (f : GridPoint → ℕ) (d : CellDescent) (before : Option Visit)
    (v : Visit) → 0 < d.boxes.leaf → IsBox v.box → IsNew before v → is_open d v ≡ true
    → is_long d.boxes.leaf v.box ≡ false → IsEnoughAfter f d before v
    → (s : Sample) → LiesIn v.box s → (p : GridPoint) → Covers (d.cell s) p → length v.list ≤ f p
cell-enough_after laws f d before v some is new open' short enough s lies p covers =
    subst (λ w. length w.list ≤ f p) end (enough s lies works p covers)
  where
    uncut : is_cut d v ≡ false
    uncut = rw (open', short) refl

    end : way_end d v s ≡ v
    end = end-ends d v s is uncut

    works : is_new_working d before v s ≡ true
    works =
        ap (λ w. is_open d w && not (is_long d.boxes.leaf w.box) && not (is_old (ways_before d before s) w))
        end
        ∙ (rw (open', short, new-is_new laws d before v s some is lies new) refl)

pub old-enough : (laws : Lawful) (f : GridPoint → ℕ) (d : CellDescent) (v : Visit) → 0 < d.boxes.leaf
    → IsBox v.box → IsEnoughAfter f d (Some v) v
old-enough laws f d v some is s lies works p covers =
    let parts = and_parts (is_working d v s) (not (is_old (way d v s) (way_end d v s))) works in
    let old = stands-old laws (way d v s) (way_end d v s) (end-stands d v s is) in
    absurd (false≢true (sym (ap not old) ∙ parts.1))

pub most-enough : (f : GridPoint → ℕ) (d : CellDescent) (before : Option Visit) (v : Visit) → IsEnough f d v
    → IsEnoughAfter f d before v
most-enough f d before v enough s lies works p covers =
    enough s lies ((and_parts (is_working d v s)
    (not (is_old (ways_before d before s) (way_end d v s))) works).0) p covers

pub fresh-enough : (f : GridPoint → ℕ) (d : CellDescent) (v : Visit)
    → IsEnoughAfter f d None v ↔ IsEnough f d v
fresh-enough f d v = (
  (λ enough s lies works p covers. enough s lies (and_from (is_working d v s) true works refl) p covers),
  (λ enough. most-enough f d None v enough),
)

pub boxes_after_add_up_is : Lawful → BoxesAfterAddUp
boxes_after_add_up_is laws = record {
  old_spans = λ d v some is. spans-old laws d v;
  old_long = λ d v some is. long-old laws d v;
  old_enough = old-enough laws;
  spans = spans;
  long = long;
  enough = halves-enough_after laws;
  cell = cell-enough_after laws;
  fresh_spans = spans-fresh;
  fresh_long = long-fresh;
  fresh_enough = fresh-enough;
  most_spans = spans-most laws;
  most_long = long-most laws;
  most_enough = most-enough;
}
  where
    spans : (d : CellDescent) (before : Option Visit) (v : Visit) → 0 < d.boxes.leaf → IsBox v.box
        → IsNew before v
        → cell_spans_after d before v
        ≡ length v.list + cond (is_cut d v)
        (halves_spans_after d (handed_before d before) (handed_on d.boxes v) (halves_of d.boxes.leaf v.box)) 0
    spans d before v some is new = by (is_cut d v) refl
      where
        by : (t : Bool) → is_cut d v ≡ t
            → cell_spans_after d before v
            ≡ length v.list + cond t
            (halves_spans_after d (handed_before d before) (handed_on d.boxes v)
            (halves_of d.boxes.leaf v.box)) 0
        by false e = omega (arith, spans-end_after laws d before v some is new e)
        by true e = spans-split_after laws d before v some is new e

    long : (d : CellDescent) (before : Option Visit) (v : Visit) → 0 < d.boxes.leaf → IsBox v.box
        → IsNew before v
        → long_spans_after d before v
        ≡ cond (is_long d.boxes.leaf v.box) (length v.list) 0
        + cond (is_cut d v) (halves_long_spans_after d (handed_before d before) (handed_on d.boxes v)
        (halves_of d.boxes.leaf v.box)) 0
    long d before v some is new = by (is_cut d v) refl
      where
        by : (t : Bool) → is_cut d v ≡ t
            → long_spans_after d before v
            ≡ cond (is_long d.boxes.leaf v.box) (length v.list) 0
            + cond t (halves_long_spans_after d (handed_before d before) (handed_on d.boxes v)
            (halves_of d.boxes.leaf v.box)) 0
        by false e = omega (arith, long-end_after laws d before v some is new e)
        by true e = rw (cut-is_long d v e) (long-split_after laws d before v some is new e)
