-- The work of samples that pass a test, from that of the halves of a box.
use Rattle.std.proofs.Common.{◌≡◌, ℕ, zero, suc, ◌+◌, ◌-◌, ◌<◌, ◌≤◌, Bool, true, false, cond, List, [], ◌∷◌, length, refl, sym, ap, ◌∙◌, mul-zero, zero-add, arith}
use Rattle.std.specs.Prelude.{nat_lt, ◌&&◌}
use Rattle.std.specs.List.{sum_by}
use Rattle.std.proofs.lemmas.List.Elements.{All-weaker}
use Rattle.std.proofs.lemmas.List.Sums.{sum_by-cons}
use Rattle.view_places.specs.Boxes.{Indices, IsBox, halves_of}
use Rattle.view_places.specs.Laws.{HalvesPart}
use Rattle.box_chains.specs.Chains.{Descent, Visit, chain, chain_end, half_visit, is_split, next_visit, sides}
use Rattle.box_chains.specs.Counts.{cost, end_cost, is_first, points_in}
use Rattle.box_chains.specs.Laws.{LayersHold, TestedWorkAddsUp}
use Rattle.box_chains.specs.Parts.{IsPart}
use Rattle.box_chains.specs.Sums.{LiesIn, Sample, size, sum_in}
use Rattle.box_chains.specs.Tested.{has_some, lengths_where, points_where, spans_where}
use Rattle.box_chains.proofs.ChainLaws.{box-has_sides, chain-ends, chain-goes_on, end-ends, end-goes_on, half-lies, next-is_half, split-is_long, sum-over_halves}
use Rattle.box_chains.proofs.HalfLaws.{halves-are_parts, part-is_box, part-is_shorter, part-lies}
use Rattle.box_chains.proofs.SumLaws.{sum_by-equal, sum_in-const, sum_in-first, sum_in-plus, sum_in-same}

-- a sum of nothing
pub sum-nothing : (b : Indices) (f : Sample → ℕ) → ((s : Sample) → LiesIn b s → f s ≡ 0)
    → sum_in b f ≡ 0
sum-nothing b f none =
    sum_in-same b f (λ s. 0) none ∙ sum_in-const b 0 ∙ mul-zero (size b)

-- A box that is split takes the evaluations of its halves.
points-split : (test : Sample → Bool) (d : Descent) (v : Visit) → 0 < d.leaf → IsBox v.box
    → HalvesPart → is_split d v ≡ true
    → points_where test d v
    ≡ sum_by (λ half. points_where test d (half_visit d v half)) (halves_of d.leaf v.box)
unfolding points_where
points-split test d v some is law e =
    sum-over_halves d v (λ s. cond (test s) (cost d v s) 0)
    (λ half s. cond (test s) (cost d (half_visit d v half) s) 0) law
    (λ half s among lies.
    ap (λ n. cond (test s) n 0)
    (ap (end_cost d) (end-goes_on d v s some is (half-lies d v half s some is among lies) law e
    ∙ ap (λ next. chain_end d next s) (next-is_half d v half s law among lies))))

-- and another those of its samples
points-end : (test : Sample → Bool) (d : Descent) (v : Visit) → IsBox v.box → is_split d v ≡ false
    → points_where test d v ≡ sum_in v.box (λ s. cond (test s) (end_cost d v) 0)
unfolding points_where
points-end test d v is e =
    sum_in-same v.box (λ s. cond (test s) (cost d v s) 0)
    (λ s. cond (test s) (end_cost d v) 0)
    (λ s lies. ap (λ end. cond (test s) (end_cost d end) 0) (end-ends d v s is e))

-- what a box adds where a sample is its first
abbrev own_where : (Sample → Bool) → Visit → Sample → ℕ
own_where test v s = cond (has_some test v.box && is_first v.box s) (length v.list) 0

own-once : (t : Bool) (v : Visit) → IsBox v.box
    → sum_in v.box (λ s. cond (t && is_first v.box s) (length v.list) 0) ≡ cond t (length v.list) 0
own-once true v is = sum_in-first v.box (length v.list) is
own-once false v is = sum-nothing v.box (λ s. 0) (λ s lies. refl)

-- The steps traced over a box that is split are its own list's and those of its halves.
spans-split : (test : Sample → Bool) (d : Descent) (v : Visit) → 0 < d.leaf → IsBox v.box
    → HalvesPart → is_split d v ≡ true
    → spans_where test d v
    ≡ cond (has_some test v.box) (length v.list) 0
    + sum_by (λ half. spans_where test d (half_visit d v half)) (halves_of d.leaf v.box)
unfolding spans_where
spans-split test d v some is law e =
    let rest : Sample → ℕ = λ s. lengths_where test s (chain d (next_visit d v s) s) in
    let apart = sum_in-same v.box (λ s. lengths_where test s (chain d v s))
    (λ s. own_where test v s + rest s)
    (λ s lies. ap (lengths_where test s) (chain-goes_on d v s some is lies law e)
    ∙ sum_by-cons (λ w. cond (has_some test w.box && is_first w.box s) (length w.list) 0) v
    (chain d (next_visit d v s) s)) in
    let below = sum-over_halves d v rest
    (λ half s. lengths_where test s (chain d (half_visit d v half) s)) law
    (λ half s among lies. ap (λ next. lengths_where test s (chain d next s))
    (next-is_half d v half s law among lies)) in
    omega (
      arith,
      apart,
      sum_in-plus v.box (own_where test v) rest,
      own-once (has_some test v.box) v is,
      below,
    )

-- Those of a box that is not are its own list's.
spans-end : (test : Sample → Bool) (d : Descent) (v : Visit) → IsBox v.box → is_split d v ≡ false
    → spans_where test d v ≡ cond (has_some test v.box) (length v.list) 0
unfolding spans_where
spans-end test d v is e =
    let apart = sum_in-same v.box (λ s. lengths_where test s (chain d v s)) (own_where test v)
    (λ s lies. ap (lengths_where test s) (chain-ends d v s is e) ∙ zero-add (own_where test v s)) in
    omega (arith, apart, own-once (has_some test v.box) v is)

some-same : (test other : Sample → Bool) (b : Indices)
    → ((s : Sample) → LiesIn b s → test s ≡ other s) → has_some test b ≡ has_some other b
some-same test other b same =
    ap (nat_lt 0) (sum_in-same b (λ s. cond (test s) 1 0) (λ s. cond (other s) 1 0)
    (λ s lies. ap (λ t. cond {A = ℕ} t 1 0) (same s lies)))

-- Where the same samples pass, the same steps are traced.
spans-same_within : (n : ℕ) (test other : Sample → Bool) (d : Descent) (v : Visit) → 0 < d.leaf
    → IsBox v.box → HalvesPart → sides v.box ≤ n
    → ((s : Sample) → LiesIn v.box s → test s ≡ other s)
    → spans_where test d v ≡ spans_where other d v
spans-same_within zero test other d v some is law few same =
    absurd (omega (arith, box-has_sides v.box is, few))
spans-same_within (suc n) test other d v some is law few same =
    by (is_split d v) refl
    (λ half part less. spans-same_within n test other d (half_visit d v half) some
    (part-is_box d.leaf v.box half part) law (omega (arith, less, few))
    (λ s lies. same s (part-lies d.leaf v.box half s part lies)))
  where
    own : cond {A = ℕ} (has_some test v.box) (length v.list) 0
        ≡ cond {A = ℕ} (has_some other v.box) (length v.list) 0
    own = ap (λ t. cond {A = ℕ} t (length v.list) 0) (some-same test other v.box same)

    by : (t : Bool) → is_split d v ≡ t
        → ((half : Indices) → IsPart d.leaf v.box half → sides half < sides v.box
        → spans_where test d (half_visit d v half) ≡ spans_where other d (half_visit d v half))
        → spans_where test d v ≡ spans_where other d v
    by false e below = spans-end test d v is e ∙ own ∙ sym (spans-end other d v is e)
    by true e below =
        let halves = sum_by-equal (λ half. spans_where test d (half_visit d v half))
        (λ half. spans_where other d (half_visit d v half)) (halves_of d.leaf v.box)
        (All-weaker (IsPart d.leaf v.box)
        (λ half. spans_where test d (half_visit d v half)
        ≡ spans_where other d (half_visit d v half))
        (λ half part. below half part
        (part-is_shorter d.leaf v.box half (split-is_long d v e) part))
        (halves_of d.leaf v.box) (halves-are_parts d.leaf v.box some is)) in
        omega (
          arith,
          spans-split test d v some is law e,
          spans-split other d v some is law e,
          own,
          halves,
        )

-- where no sample passes, none takes work
points-none : (d : Descent) (v : Visit) → points_where (λ s. false) d v ≡ 0
unfolding points_where
points-none d v = sum-nothing v.box (λ s. 0) (λ s lies. refl)

spans-none : (d : Descent) (v : Visit) → spans_where (λ s. false) d v ≡ 0
unfolding spans_where
spans-none d v =
    sum-nothing v.box (λ s. lengths_where (λ t. false) s (chain d v s))
    (λ s lies. nothing s (chain d v s))
  where
    closed : (b : Indices) → has_some (λ t. false) b ≡ false
    closed b = ap (nat_lt 0) (sum-nothing b (λ s. 0) (λ s lies. refl))

    nothing : (s : Sample) (ws : List Visit) → lengths_where (λ t. false) s ws ≡ 0
    nothing s [] = refl
    nothing s (w ∷ ws) =
        let own = ap (λ t. cond {A = ℕ} (t && is_first w.box s) (length w.list) 0) (closed w.box) in
        omega (
          arith,
          sum_by-cons
              (λ v. cond (has_some (λ t. false) v.box && is_first v.box s) (length v.list) 0) w ws,
          own,
          nothing s ws,
        )

points-same : (test other : Sample → Bool) (d : Descent) (v : Visit)
    → ((s : Sample) → LiesIn v.box s → test s ≡ other s)
    → points_where test d v ≡ points_where other d v
unfolding points_where
points-same test other d v same =
    sum_in-same v.box (λ s. cond (test s) (cost d v s) 0) (λ s. cond (other s) (cost d v s) 0)
    (λ s lies. ap (λ t. cond t (cost d v s) 0) (same s lies))

-- smaller numbers have smaller sums
pub sum_in-below : (b : Indices) (f g : Sample → ℕ) → ((s : Sample) → LiesIn b s → f s ≤ g s)
    → sum_in b f ≤ sum_in b g
sum_in-below b f g below =
    let apart = sum_in-same b g (λ s. f s + (g s - f s))
    (λ s lies. let less = below s lies in omega (arith, less)) in
    omega (arith, apart, sum_in-plus b f (λ s. g s - f s))

test-below : (s t : Bool) (n : ℕ) → (s ≡ true → t ≡ true)
    → cond {A = ℕ} s n 0 ≤ cond {A = ℕ} t n 0
test-below true t n h = rw (h refl) (omega arith)
test-below false t n h = omega arith

-- where more samples pass, no fewer evaluations are taken
points-below : (test more : Sample → Bool) (d : Descent) (v : Visit)
    → ((s : Sample) → LiesIn v.box s → test s ≡ true → more s ≡ true)
    → points_where test d v ≤ points_where more d v
unfolding points_where
points-below test more d v h =
    sum_in-below v.box (λ s. cond (test s) (cost d v s) 0) (λ s. cond (more s) (cost d v s) 0)
    (λ s lies. test-below (test s) (more s) (cost d v s) (h s lies))

-- and all samples take those of the box
points-all : (d : Descent) (v : Visit) → points_where (λ s. true) d v ≡ points_in d v
unfolding points_where points_in
points-all d v = refl

pub tested_work_adds_up_is : LayersHold → TestedWorkAddsUp
tested_work_adds_up_is laws = record {
  points = points;
  spans = spans;
  points_same = points-same;
  spans_same = λ test other d v some is. spans-same_within (sides v.box) test other d v some is
      laws.halves (omega arith);
  points_none = points-none;
  spans_none = spans-none;
  points_more = points-below;
  points_all = points-all;
}
  where
    points : (test : Sample → Bool) (d : Descent) (v : Visit) → 0 < d.leaf → IsBox v.box
        → points_where test d v
        ≡ cond (is_split d v)
        (sum_by (λ half. points_where test d (half_visit d v half)) (halves_of d.leaf v.box))
        (sum_in v.box (λ s. cond (test s) (end_cost d v) 0))
    points test d v some is = by (is_split d v) refl
      where
        by : (t : Bool) → is_split d v ≡ t
            → points_where test d v
            ≡ cond t
            (sum_by (λ half. points_where test d (half_visit d v half)) (halves_of d.leaf v.box))
            (sum_in v.box (λ s. cond (test s) (end_cost d v) 0))
        by false e = points-end test d v is e
        by true e = points-split test d v some is laws.halves e

    spans : (test : Sample → Bool) (d : Descent) (v : Visit) → 0 < d.leaf → IsBox v.box
        → spans_where test d v
        ≡ cond (has_some test v.box) (length v.list) 0 + cond (is_split d v)
        (sum_by (λ half. spans_where test d (half_visit d v half)) (halves_of d.leaf v.box)) 0
    spans test d v some is = by (is_split d v) refl
      where
        by : (t : Bool) → is_split d v ≡ t
            → spans_where test d v
            ≡ cond (has_some test v.box) (length v.list) 0 + cond t
            (sum_by (λ half. spans_where test d (half_visit d v half)) (halves_of d.leaf v.box)) 0
        by false e = omega (arith, spans-end test d v is e)
        by true e = spans-split test d v some is laws.halves e
