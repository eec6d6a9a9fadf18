-- The steps that are traced for a map are exactly those of the boxes that have a sample that does not lie behind a top.
use Rattle.std.proofs.Common.{◌≡◌, ℕ, ◌+◌, ◌-◌, ◌*◌, ◌/◌, ◌%◌, ◌<◌, ◌≤◌, Bool, true, false, cond, List, length, get_or, replicate, refl, sym, ap, subst, ◌∙◌, arith}
use Rattle.std.specs.Prelude.{Option, Some, None, nat_le, nat_lt, ◌==◌}
use Rattle.std.proofs.lemmas.Bool.{and_from, eq-eqb, le-leb, lt-ltb}
use Rattle.box_chains.specs.Chains.{Descent, Visit, decision, handed_on, is_long, is_split, visit}
use Rattle.box_chains.specs.Sums.{LiesIn, Sample, sum_along, sum_in}
use Rattle.box_chains.specs.Visits.{IsVisit}
use Rattle.box_chains.specs.Laws.{Lawful}
use Rattle.fixed_ops.specs.Counts.{Counts, RisesBy, points_of, risen}
use Rattle.interval_ops.specs.HullCounts.{CountsHulls}
use Rattle.live_clauses.specs.declared.step.Step.{Step}
use Rattle.view_places.specs.Boxes.{Indices, IsBox, halves_of}
use Rattle.view_places.specs.Spans.{root_box_of}
use Rattle.view_places.specs.Window.{Window}
use Rattle.view_places.specs.declared.lattice.Lattice.TheVariants.{Height}
use Rattle.box_chains.specs.Outcomes.{outcome_by, outcome_of}
use Rattle.box_chains.specs.Opened.{sampling}
use Rattle.height_map.specs.Opened.{outcome_traced}
use Rattle.height_map.specs.Bound.{CountsSpans, is_near, layered, near_spans, layers_root}
use Rattle.box_chains.specs.Tested.{halves_spans_where, has_some, open_spans_where, spans_where}
use Rattle.height_map.specs.Columns.{HasOpen, covers, is_open}
use Rattle.height_map.specs.Tops.{inside, top_among}
use Rattle.height_map.proofs.ChangeLaws.{IsCell, cell-of}
use Rattle.height_map.proofs.Evaluated.{handed-open, map-open}
use Rattle.height_map.proofs.Leaves.{along-one}
use Rattle.height_map.proofs.TopLaws.{best-le}
use Rattle.height_map.proofs.WorkLaws.{decided-split, open-split}

-- ---- the steps that are traced over a box, from those of its halves

-- a box that is not split
traced-end : (laws : Lawful) (test : Sample → Bool) (d : Descent) (v : Visit) → 0 < d.leaf → IsBox v.box → is_split d v ≡ false
    → spans_where test d v ≡ cond (has_some test v.box) (length v.list) 0 + 0
traced-end laws test d v some is e = rw e at (laws.tested.spans test d v some is)

-- and one that is
traced-split : (laws : Lawful) (test : Sample → Bool) (d : Descent) (v : Visit) → 0 < d.leaf → IsBox v.box → is_split d v ≡ true
    → spans_where test d v ≡ cond (has_some test v.box) (length v.list) 0 + halves_spans_where test d (handed_on d v) (halves_of d.leaf v.box)
traced-split laws test d v some is e = rw e at (laws.tested.spans test d v some is)

-- an undecided box takes its own trace and what lies open below it
traced-open : (laws : Lawful) (test : Sample → Bool) (d : Descent) (v : Visit) → 0 < d.leaf → IsBox v.box → decision d v ≡ None
    → spans_where test d v ≡ cond (has_some test v.box) (length v.list) 0 + open_spans_where test d v.box (handed_on d v)
traced-open laws test d v some is e = by (is_long d.leaf v.box) refl
  where
    by : (t : Bool) → is_long d.leaf v.box ≡ t
        → spans_where test d v ≡ cond (has_some test v.box) (length v.list) 0 + cond t (halves_spans_where test d (handed_on d v) (halves_of d.leaf v.box)) 0
    by true h = traced-split laws test d v some is (open-split d v e ∙ h)
    by false h = traced-end laws test d v some is (open-split d v e ∙ h)

-- ---- which samples pass

pub some-same : (laws : Lawful) (test other : Sample → Bool) (b : Indices) → ((s : Sample) → LiesIn b s → test s ≡ other s) → has_some test b ≡ has_some other b
some-same laws test other b same =
    ap (nat_lt 0) (laws.sums.same b (λ s. cond (test s) 1 0) (λ s. cond (other s) 1 0) (λ s lies. ap (λ t. cond {A = ℕ} t 1 0) (same s lies)))

-- where none passes
pub traced-closed : (laws : Lawful) (test : Sample → Bool) (d : Descent) (v : Visit) → 0 < d.leaf → IsBox v.box
    → ((s : Sample) → LiesIn v.box s → test s ≡ false) → spans_where test d v ≡ 0
traced-closed laws test d v some is none = laws.tested.spans_same test (λ s. false) d v some is none ∙ laws.tested.spans_none d v

-- ---- a sample that passes

along-above : (laws : Lawful) (low high i : ℕ) (f : ℕ → ℕ) → low ≤ i → i < high → f i ≤ sum_along low high f
along-above laws low high i f below above =
    omega (arith, laws.axes.parts low i high f below (omega (arith, above)), laws.axes.parts i (i + 1) high f (omega arith) (omega (arith, above)), along-one i f)

sum-above : (laws : Lawful) (b : Indices) (f : Sample → ℕ) (s : Sample) → LiesIn b s → f s ≤ sum_in b f
sum-above laws b f s lies =
    let x = along-above laws b.x0 b.x1 s.i (λ i. f (record { i = i; j = s.j; k = s.k })) lies.x.0 lies.x.1 in
    let y = along-above laws b.y0 b.y1 s.j (λ j. sum_along b.x0 b.x1 (λ i. f (record { i = i; j = j; k = s.k }))) lies.y.0 lies.y.1 in
    let z = along-above laws b.z0 b.z1 s.k (λ k. sum_along b.y0 b.y1 (λ j. sum_along b.x0 b.x1 (λ i. f (record { i = i; j = j; k = k })))) lies.z.0 lies.z.1 in
    omega (arith, x, y, z)

-- the nearest sample of a column that has no top is open
pub open-some : (laws : Lawful) (view : Window) (list : List Step) (b : Indices) (w : ℕ) (tops : List ℕ) → w ≡ view.w → IsBox b → HasOpen w b tops → has_some (is_open view list b tops) b ≡ true
open-some laws view list b w tops width is open' = lt-ltb 0 (sum_in b passed) (omega (arith, sum-above laws b passed s lies, one))
  where
    p : ℕ
    p = open'.place

    passed : Sample → ℕ
    passed s = cond (is_open view list b tops s) 1 0

    s : Sample
    s = record { i = p % view.w; j = p / view.w; k = b.z1 - 1 }

    cell : IsCell view.w b p
    cell = cell-of view.w p b (ap (λ n. covers n b p) (sym width) ∙ open'.covered)

    lies : LiesIn b s
    lies = record { x = cell.column; y = cell.row; z = (omega (arith, is.z), omega (arith, is.z)) }

    none : get_or tops (p / view.w * view.w + p % view.w) 0 ≡ 0
    none = ap (λ q. get_or tops q 0) cell.is ∙ open'.none

    near : top_among view list b.z0 b.z1 (p % view.w) (p / view.w) ≤ b.z1 - 1 + 1
    near = omega (arith, best-le (inside view list (p % view.w) (p / view.w)) b.z0 b.z1 (omega (arith, is.z)), is.z)

    passes : is_open view list b tops s ≡ true
    passes =
        and_from (get_or tops (p / view.w * view.w + p % view.w) 0 == 0) (nat_le (top_among view list b.z0 b.z1 (p % view.w) (p / view.w)) (b.z1 - 1 + 1))
        (eq-eqb (get_or tops (p / view.w * view.w + p % view.w) 0) 0 none) (le-leb (top_among view list b.z0 b.z1 (p % view.w) (p / view.w)) (b.z1 - 1 + 1) near)

    one : passed s ≡ 1
    one = ap (λ t. cond {A = ℕ} t 1 0) passes

-- ---- what is counted

-- no hull
pub spans-none : (counts : Counts) (n : ℕ) → n ≡ 0 → CountsSpans n counts counts
spans-none counts n none = omega (arith, none)

-- the same number of them
pub spans-are : (before after : Counts) (m n : ℕ) → m ≡ n → CountsSpans m before after → CountsSpans n before after
spans-are before after m n same h = h ∙ ap (risen before.spans) same

-- hulls after others
pub spans-then : (before mid after : Counts) (m n k : ℕ) → m + n ≡ k → CountsSpans m before mid → CountsSpans n mid after → CountsSpans k before after
spans-then before mid after m n k same first second = omega (arith, same, first, second)

pub spans-hulls : (before after : Counts) (n : ℕ) → CountsHulls n before after → CountsSpans n before after
spans-hulls before after n h = ap (λ (c : Counts). c.spans) h.rises

-- another one takes its own trace, and those below it
pub traced-outcome : (laws : Lawful) (view : Window) (list : List Step) (b : Indices) (tops : List ℕ) → IsVisit (layered view) (visit b list) → has_some (is_open view list b tops) b ≡ true
    → spans_where (is_open view list b tops) (layered view) (visit b list) ≡ length list + outcome_traced view tops b (outcome_of (sampling (layered view)) list b)
traced-outcome laws view list b tops is some = by (decision d v) refl
  where
    d : Descent
    d = layered view

    v : Visit
    v = visit b list

    test : Sample → Bool
    test = is_open view list b tops

    live : List Step
    live = handed_on d v

    opened : (s : Sample) → LiesIn b s → is_open view live b tops s ≡ test s
    opened = handed-open laws view list live b tops is refl

    own : (passes : Sample → Bool) → has_some passes b ≡ true → cond {A = ℕ} (has_some passes b) (length list) 0 ≡ length list
    own passes e = ap (λ t. cond {A = ℕ} t (length list) 0) e

    by : (t : Option Bool) → decision d v ≡ t → spans_where test d v ≡ length list + outcome_traced view tops b (outcome_by t live)
    by (Some true) e = omega (arith, traced-end laws test d v (omega arith) is.box (decided-split d v true e), own test some)
    by (Some false) e = omega (arith, traced-end laws test d v (omega arith) is.box (decided-split d v false e), own test some)
    by None e =
        omega (
          arith,
          traced-open laws (is_open view live b tops) d v (omega arith) is.box e,
          laws.tested.spans_same (is_open view live b tops) test d v (omega arith) is.box opened,
          own (is_open view live b tops) (some-same laws (is_open view live b tops) test b opened ∙ some),
        )

-- a leaf is evaluated without a hull
pub traced-leaf : (view : Window) (list : List Step) (b : Indices) (tops : List ℕ) (n : ℕ) (before after : Counts) → is_long 8 b ≡ false → RisesBy before after (points_of n)
    → CountsSpans (open_spans_where (is_open view list b tops) (layered view) b list) before after
traced-leaf view list b tops n before after short h = rw short (ap (λ (c : Counts). c.spans) h)

pub traced-halves : (view : Window) (list : List Step) (b : Indices) (tops : List ℕ) (before after : Counts) → is_long 8 b ≡ true
    → CountsSpans (halves_spans_where (is_open view list b tops) (layered view) list (halves_of 8 b)) before after
    → CountsSpans (open_spans_where (is_open view list b tops) (layered view) b list) before after
traced-halves view list b tops before after long h = rw long h

-- the box of all samples, over no tops
pub map-traced : (laws : Lawful) (view : Window) (list : List Step) (b : Indices) (n : ℕ) (tops : List ℕ) (before after : Counts) → b ≡ root_box_of view Height → IsBox (root_box_of view Height) → tops ≡ replicate n 0
    → CountsSpans (spans_where (is_open view list b tops) (layered view) (visit b list)) before after → CountsSpans (near_spans view list) before after
map-traced laws view list b n tops before after is box empty h =
    spans-are before after _ (near_spans view list)
    (laws.tested.spans_same (is_open view list (root_box_of view Height) tops) (is_near view list) (layered view) (layers_root view list) (omega arith) box (λ s lies. map-open view list n tops empty s))
    (subst (λ c. CountsSpans (spans_where (is_open view list c tops) (layered view) (visit c list)) before after) is h)
