-- The work of a frame that comes after another, from that of the halves of a box.
use Rattle.std.proofs.Common.{◌≡◌, ◌≢◌, ℕ, zero, suc, ◌+◌, ◌*◌, ◌<◌, ◌≤◌, Bool, true, false, ◌&&◌, ◌||◌, cond, List, [], ◌∷◌, length, ◌⊎◌, inl, inr, refl, sym, ap, subst, ◌∙◌, zero-add, arith}
use Rattle.std.specs.Prelude.{Option, Some, None, unwrap_or}
use Rattle.std.specs.List.{All, Contains, last_or, sum_by}
use Rattle.std.proofs.lemmas.Bool.{false≢true}
use Rattle.std.proofs.lemmas.Bool.Decides.{Decides-eqb}
use Rattle.std.proofs.lemmas.List.Elements.{All-contains, All-contains_itself, All-weaker}
use Rattle.std.proofs.lemmas.List.Sums.{sum_by-cons}
use Rattle.live_clauses.specs.Equality.{same_list}
use Rattle.live_clauses.specs.Laws.{ListsAreToldApart}
use Rattle.view_places.specs.Boxes.{Indices, IsBox, halves_of}
use Rattle.view_places.specs.Laws.{HalvesPart}
use Rattle.box_chains.specs.Chains.{Descent, Visit, chain, chain_end, chain_within, half_visit, half_with, is_split, next_visit, sides}
use Rattle.box_chains.specs.Counts.{cost, end_cost, first_lengths, is_first, points_in, spans_in}
use Rattle.box_chains.specs.Laws.{LayersHold, RedrawnWorkAddsUp}
use Rattle.box_chains.specs.Parts.{IsPart}
use Rattle.box_chains.specs.Redrawn.{IsNew, half_before, is_old, new_lengths, points_after, same_box, same_visit, spans_after, ways_before}
use Rattle.box_chains.specs.Sums.{LiesIn, Sample, size}
use Rattle.box_chains.proofs.Paths.{head-or-tail}
use Rattle.box_chains.proofs.ChainLaws.{box-has_sides, chain-ends, chain-goes_on, end-ends, end-goes_on, half-lies, next-is_half, split-is_long, sum-over_halves}
use Rattle.box_chains.proofs.HalfLaws.{half_with-part, part-is_box, part-is_shorter}
use Rattle.box_chains.proofs.SumLaws.{sum_by-equal, sum_in-const, sum_in-first, sum_in-plus, sum_in-same}
use Rattle.box_chains.proofs.TestedLaws.{sum-nothing, sum_in-below}

-- tests of boxes

pub both : (x y : Bool) → x && y ≡ true → (x ≡ true) × (y ≡ true)
both true y h = (refl, h)
both false y h = absurd (false≢true h)

joined : (x y : Bool) → x ≡ true → y ≡ true → x && y ≡ true
joined true y h k = k
joined false y h k = absurd (false≢true h)

either : (x y : Bool) → y ≡ true → x || y ≡ true
either true y h = refl
either false y h = h

-- a test that would tell something false is false
refuted : (t : Bool) → (t ≡ true → ⊥) → t ≡ false
refuted true h = absurd (h refl)
refuted false h = refl

same_sides : (a b : Indices) → same_box a b ≡ true → sides a ≡ sides b
same_sides a b h =
    let x0 = both _ _ h in
    let x1 = both _ _ x0.1 in
    let y0 = both _ _ x1.1 in
    let y1 = both _ _ y0.1 in
    let z0 = both _ _ y1.1 in
    omega (
      arith,
      (Decides-eqb a.x0 b.x0).0 x0.0,
      (Decides-eqb a.x1 b.x1).0 x1.0,
      (Decides-eqb a.y0 b.y0).0 y0.0,
      (Decides-eqb a.y1 b.y1).0 y1.0,
      (Decides-eqb a.z0 b.z0).0 z0.0,
      (Decides-eqb a.z1 b.z1).0 z0.1,
    )

itself : (b : Indices) → same_box b b ≡ true
itself b =
    joined _ _ ((Decides-eqb b.x0 b.x0).1 refl) (joined _ _ ((Decides-eqb b.x1 b.x1).1 refl)
    (joined _ _ ((Decides-eqb b.y0 b.y0).1 refl) (joined _ _ ((Decides-eqb b.y1 b.y1).1 refl)
    (joined _ _ ((Decides-eqb b.z0 b.z0).1 refl) ((Decides-eqb b.z1 b.z1).1 refl)))))

same_itself : ListsAreToldApart → (v : Visit) → same_visit v v ≡ true
same_itself apart v =
    joined (same_box v.box v.box) (same_list v.list v.list) (itself v.box)
    ((apart v.list v.list).1 refl)

-- boxes with other sides are others
other_sides : (v w : Visit) → sides v.box < sides w.box → same_visit v w ≡ false
other_sides v w less =
    refuted (same_visit v w) (λ h. absurd (omega (
      arith,
      same_sides v.box w.box ((both (same_box v.box w.box) (same_list v.list w.list) h).0),
      less,
    )))

longer_sides : (v w : Visit) → sides w.box < sides v.box → same_visit v w ≡ false
longer_sides v w less =
    refuted (same_visit v w) (λ h. absurd (omega (
      arith,
      same_sides v.box w.box ((both (same_box v.box w.box) (same_list v.list w.list) h).0),
      less,
    )))

-- and so are those with other lists
other_list : ListsAreToldApart → (v w : Visit) → w.list ≢ v.list → same_visit v w ≡ false
other_list apart v w differs =
    refuted (same_visit v w)
    (λ h. differs (sym ((apart v.list w.list).0
    ((both (same_box v.box w.box) (same_list v.list w.list) h).1))))

-- a box that stands among others is old
pub stands-old : ListsAreToldApart → (visits : List Visit) (w : Visit) → Contains visits w
    → is_old visits w ≡ true
stands-old apart [] w (k, h, is) = absurd (omega (arith, h))
stands-old apart (v ∷ vs) w inside = by (head-or-tail v vs w inside) (stands-old apart vs w)
  where
    by : (v ≡ w) ⊎ Contains vs w → (Contains vs w → is_old vs w ≡ true)
        → same_visit w v || is_old vs w ≡ true
    by (inl here) later =
        let one = subst (λ x. same_visit w x ≡ true) (sym here) (same_itself apart w) in
        rw one refl
    by (inr there) later = either (same_visit w v) (is_old vs w) (later there)

-- one with longer sides than all others is not
longer-new : (visits : List Visit) (v : Visit) → All (λ w. sides w.box < sides v.box) visits
    → is_old visits v ≡ false
longer-new [] v shorter = refl
longer-new (w ∷ ws) v shorter =
    let first = longer_sides v w (shorter zero w (omega arith)) in
    let rest = longer-new ws v (λ k d h. shorter (suc k) d (omega (arith, h))) in
    rw first rest

-- the boxes on a way have no longer sides than its first, and behind that shorter ones
way-within : (n : ℕ) (d : Descent) (v : Visit) (s : Sample) → 0 < d.leaf → IsBox v.box
    → LiesIn v.box s → HalvesPart → All (λ w. sides w.box ≤ sides v.box) (chain_within n d v s)
unfolding chain_within
way-within zero d v s some is lies law = λ k e h. absurd (omega (arith, h))
way-within (suc n) d v s some is lies law = by (is_split d v) refl
    (λ part inside. way-within n d (next_visit d v s) s some
    (part-is_box d.leaf v.box (half_with d.leaf v.box s) part) inside law)
  where
    by : (t : Bool) → is_split d v ≡ t
        → (IsPart d.leaf v.box (half_with d.leaf v.box s) → LiesIn (half_with d.leaf v.box s) s
        → All (λ w. sides w.box ≤ sides (half_with d.leaf v.box s))
        (chain_within n d (next_visit d v s) s))
        → All (λ w. sides w.box ≤ sides v.box)
        (v ∷ cond t (chain_within n d (next_visit d v s) s) [])
    by t e below zero x h = omega arith
    by false e below (suc k) x h = absurd (omega (arith, h))
    by true e below (suc k) x h =
        let half = half_with-part law d.leaf v.box s some is lies in
        omega (
          arith,
          below half.0 half.1 k x (omega (arith, h)),
          part-is_shorter d.leaf v.box (half_with d.leaf v.box s) (split-is_long d v e) half.0,
        )

next-shorter : (d : Descent) (v : Visit) (s : Sample) → 0 < d.leaf → IsBox v.box → LiesIn v.box s
    → HalvesPart → is_split d v ≡ true
    → All (λ w. sides w.box < sides v.box) (chain d (next_visit d v s) s)
next-shorter d v s some is lies law e k x h =
    let half = half_with-part law d.leaf v.box s some is lies in
    omega (
      arith,
      way-within (sides (half_with d.leaf v.box s)) d (next_visit d v s) s some
          (part-is_box d.leaf v.box (half_with d.leaf v.box s) half.0) half.1 law k x h,
      part-is_shorter d.leaf v.box (half_with d.leaf v.box s) (split-is_long d v e) half.0,
    )

-- the last box on a way stands on it
pub last-stands : (first : Visit) (rest : List Visit) (other : Visit)
    → Contains (first ∷ rest) (unwrap_or (last_or (Some first) rest) other)
last-stands first [] other = (zero, omega arith, refl)
last-stands first (x ∷ rest) other =
    let later = last-stands x rest other in (suc later.0, omega (arith, later.1), later.2)

end-stands : (d : Descent) (v : Visit) (s : Sample) → IsBox v.box
    → Contains (chain d v s) (chain_end d v s)
unfolding chain_within
end-stands d v s is = by (sides v.box) (box-has_sides v.box is)
  where
    by : (n : ℕ) → 0 < n → Contains (chain_within n d v s)
        (unwrap_or (last_or None (chain_within n d v s)) v)
    by zero h = absurd (omega (arith, h))
    by (suc n) h = last-stands v (cond (is_split d v)
        (chain_within n d (next_visit d v s) s) []) v

-- What was drawn before.

-- a box that is new is not old
new-is_new : LayersHold → (d : Descent) (before : Option Visit) (v : Visit) (s : Sample)
    → 0 < d.leaf → IsBox v.box → LiesIn v.box s → IsNew before v
    → is_old (ways_before d before s) v ≡ false
new-is_new laws d None v s some is lies new = refl
new-is_new laws d (Some u) v s some is lies new = by (is_split d u) refl
  where
    apart : (u.box ≡ v.box) × (u.list ≢ v.list)
    apart = new u refl

    first : same_visit v u ≡ false
    first = other_list laws.equal v u apart.1

    box : IsBox u.box
    box = subst IsBox (sym apart.0) is

    inside : LiesIn u.box s
    inside = subst (λ b. LiesIn b s) (sym apart.0) lies

    by : (t : Bool) → is_split d u ≡ t → is_old (chain d u s) v ≡ false
    by false e = rw (chain-ends d u s box e) (rw first refl)
    by true e =
        let below = subst (λ b. All (λ w. sides w.box < sides b) (chain d (next_visit d u s) s))
        apart.0 (next-shorter d u s some box inside laws.halves e) in
        rw (chain-goes_on d u s some box inside laws.halves e) (rw first
        (longer-new (chain d (next_visit d u s) s) v below))

-- a box with shorter sides is old where it is so from the half on
below-same : LayersHold → (d : Descent) (before : Option Visit) (v w : Visit) (s : Sample)
    → 0 < d.leaf → IsBox v.box → LiesIn v.box s → IsNew before v → sides w.box < sides v.box
    → is_old (ways_before d before s) w
    ≡ is_old (ways_before d (half_before d before (half_with d.leaf v.box s)) s) w
below-same laws d None v w s some is lies new less = refl
below-same laws d (Some u) v w s some is lies new less = by (is_split d u) refl
  where
    apart : (u.box ≡ v.box) × (u.list ≢ v.list)
    apart = new u refl

    box : IsBox u.box
    box = subst IsBox (sym apart.0) is

    inside : LiesIn u.box s
    inside = subst (λ b. LiesIn b s) (sym apart.0) lies

    first : same_visit w u ≡ false
    first = other_sides w u (subst (λ b. sides w.box < sides b) (sym apart.0) less)

    next : next_visit d u s ≡ half_visit d u (half_with d.leaf v.box s)
    next = ap (λ b. half_visit d u (half_with d.leaf b s)) apart.0

    by : (t : Bool) → is_split d u ≡ t → is_old (chain d u s) w
        ≡ is_old (ways_before d (cond t (Some (half_visit d u (half_with d.leaf v.box s))) None) s) w
    by false e = rw (chain-ends d u s box e) (rw first refl)
    by true e = rw (chain-goes_on d u s some box inside laws.halves e) (rw first
        (ap (λ x. is_old (chain d x s) w) next))

-- The evaluations.

-- what a sample takes
abbrev sample_points : Descent → Option Visit → Visit → Sample → ℕ
sample_points d before v s =
    cond (is_old (ways_before d before s) (chain_end d v s)) 0 (cost d v s)

-- what it takes in a box that is split is what it takes in its half
points-next : LayersHold → (d : Descent) (before : Option Visit) (v : Visit) (s : Sample)
    → 0 < d.leaf → IsBox v.box → LiesIn v.box s → IsNew before v → is_split d v ≡ true
    → sample_points d before v s
    ≡ sample_points d (half_before d before (half_with d.leaf v.box s)) (next_visit d v s) s
points-next laws d before v s some is lies new e =
    let half = half_with-part laws.halves d.leaf v.box s some is lies in
    let end = chain_end d (next_visit d v s) s in
    let box = part-is_box d.leaf v.box (half_with d.leaf v.box s) half.0 in
    let less = All-contains (λ w. sides w.box < sides v.box) (chain d (next_visit d v s) s) end
    (next-shorter d v s some is lies laws.halves e) (end-stands d (next_visit d v s) s box) in
    rw (end-goes_on d v s some is lies laws.halves e)
    (ap (λ t. cond {A = ℕ} t 0 (end_cost d end))
    (below-same laws d before v end s some is lies new less))

points-split : LayersHold → (d : Descent) (before : Option Visit) (v : Visit) → 0 < d.leaf
    → IsBox v.box → IsNew before v → is_split d v ≡ true
    → points_after d before v ≡ sum_by
    (λ half. points_after d (half_before d before half) (half_visit d v half))
    (halves_of d.leaf v.box)
unfolding points_after
points-split laws d before v some is new e =
    sum-over_halves d v (sample_points d before v)
    (λ half. sample_points d (half_before d before half) (half_visit d v half)) laws.halves
    (λ half s among lies.
    points-next laws d before v s some is (half-lies d v half s some is among lies) new e
    ∙ ap (λ b. sample_points d (half_before d before b) (half_visit d v b) s)
    (half-is d v half s laws.halves among lies))
  where
    half-is : (d : Descent) (v : Visit) (half : Indices) (s : Sample) → HalvesPart
        → Contains (halves_of d.leaf v.box) half → LiesIn half s → half_with d.leaf v.box s ≡ half
    half-is d v half s law among lies = ap (λ w. w.box) (next-is_half d v half s law among lies)

points-end : LayersHold → (d : Descent) (before : Option Visit) (v : Visit) → 0 < d.leaf
    → IsBox v.box → IsNew before v → is_split d v ≡ false
    → points_after d before v ≡ size v.box * end_cost d v
unfolding points_after
points-end laws d before v some is new e =
    sum_in-same v.box (sample_points d before v) (λ s. end_cost d v)
    (λ s lies. rw (end-ends d v s is e) (rw (new-is_new laws d before v s some is lies new) refl))
    ∙ sum_in-const v.box (end_cost d v)

-- The traces.

-- what a box adds where a sample is its first
abbrev own_length : Visit → Sample → ℕ
own_length v s = cond (is_first v.box s) (length v.list) 0

-- what the boxes on a way add, where some are old
abbrev sample_spans : Descent → Option Visit → Visit → Sample → ℕ
sample_spans d before v s = new_lengths (ways_before d before s) s (chain d v s)

-- where the same boxes are old, they add the same
lengths-same : (a b : List Visit) (s : Sample) (visits : List Visit)
    → All (λ w. is_old a w ≡ is_old b w) visits → new_lengths a s visits ≡ new_lengths b s visits
lengths-same a b s visits same =
    sum_by-equal (λ w. cond (is_old a w) 0 (own_length w s))
    (λ w. cond (is_old b w) 0 (own_length w s)) visits
    (All-weaker (λ w. is_old a w ≡ is_old b w)
    (λ w. cond {A = ℕ} (is_old a w) 0 (own_length w s)
    ≡ cond {A = ℕ} (is_old b w) 0 (own_length w s))
    (λ w h. ap (λ t. cond {A = ℕ} t 0 (own_length w s)) h) visits same)

spans-next : LayersHold → (d : Descent) (before : Option Visit) (v : Visit) (s : Sample)
    → 0 < d.leaf → IsBox v.box → LiesIn v.box s → IsNew before v → is_split d v ≡ true
    → sample_spans d before v s
    ≡ own_length v s
    + sample_spans d (half_before d before (half_with d.leaf v.box s)) (next_visit d v s) s
spans-next laws d before v s some is lies new e =
    let rest = chain d (next_visit d v s) s in
    let old = ways_before d before s in
    let whole = ap (new_lengths old s) (chain-goes_on d v s some is lies laws.halves e)
    ∙ sum_by-cons (λ w. cond (is_old old w) 0 (own_length w s)) v rest in
    let own = ap (λ t. cond {A = ℕ} t 0 (own_length v s))
    (new-is_new laws d before v s some is lies new) in
    let below = lengths-same old
    (ways_before d (half_before d before (half_with d.leaf v.box s)) s) s rest
    (All-weaker (λ w. sides w.box < sides v.box)
    (λ w. is_old old w
    ≡ is_old (ways_before d (half_before d before (half_with d.leaf v.box s)) s) w)
    (λ w less. below-same laws d before v w s some is lies new less) rest
    (next-shorter d v s some is lies laws.halves e)) in
    omega (arith, whole, own, below)

spans-split : LayersHold → (d : Descent) (before : Option Visit) (v : Visit) → 0 < d.leaf
    → IsBox v.box → IsNew before v → is_split d v ≡ true
    → spans_after d before v ≡ length v.list + sum_by
    (λ half. spans_after d (half_before d before half) (half_visit d v half))
    (halves_of d.leaf v.box)
unfolding spans_after
spans-split laws d before v some is new e =
    let rest : Sample → ℕ = λ s. sample_spans d
    (half_before d before (half_with d.leaf v.box s)) (next_visit d v s) s in
    let apart = sum_in-same v.box (sample_spans d before v) (λ s. own_length v s + rest s)
    (λ s lies. spans-next laws d before v s some is lies new e) in
    let below = sum-over_halves d v rest
    (λ half. sample_spans d (half_before d before half) (half_visit d v half)) laws.halves
    (λ half s among lies.
    ap (λ b. sample_spans d (half_before d before b) (half_visit d v b) s)
    (ap (λ w. w.box) (next-is_half d v half s laws.halves among lies))) in
    omega (
      arith,
      apart,
      sum_in-plus v.box (own_length v) rest,
      sum_in-first v.box (length v.list) is,
      below,
    )

spans-end : LayersHold → (d : Descent) (before : Option Visit) (v : Visit) → 0 < d.leaf
    → IsBox v.box → IsNew before v → is_split d v ≡ false
    → spans_after d before v ≡ length v.list
unfolding spans_after
spans-end laws d before v some is new e =
    let apart = sum_in-same v.box (sample_spans d before v) (own_length v)
    (λ s lies. alone s lies) in
    omega (arith, apart, sum_in-first v.box (length v.list) is)
  where
    alone : (s : Sample) → LiesIn v.box s → sample_spans d before v s ≡ own_length v s
    alone s lies =
        let old = ways_before d before s in
        let whole = ap (new_lengths old s) (chain-ends d v s is e) in
        let own = ap (λ t. cond {A = ℕ} t 0 (own_length v s))
        (new-is_new laws d before v s some is lies new) in
        whole ∙ zero-add (cond (is_old old v) 0 (own_length v s)) ∙ own

-- An equal list.

old-points : LayersHold → (d : Descent) (v : Visit) → 0 < d.leaf → IsBox v.box
    → points_after d (Some v) v ≡ 0
unfolding points_after
old-points laws d v some is =
    sum-nothing v.box (sample_points d (Some v) v)
    (λ s lies. ap (λ t. cond {A = ℕ} t 0 (cost d v s))
    (stands-old laws.equal (chain d v s) (chain_end d v s) (end-stands d v s is)))

old-spans : LayersHold → (d : Descent) (v : Visit) → 0 < d.leaf → IsBox v.box
    → spans_after d (Some v) v ≡ 0
unfolding spans_after
old-spans laws d v some is =
    sum-nothing v.box (sample_spans d (Some v) v) (λ s lies. nothing s (chain d v s)
    (All-weaker (Contains (chain d v s)) (λ w. is_old (chain d v s) w ≡ true)
    (λ w inside. stands-old laws.equal (chain d v s) w inside) (chain d v s)
    (All-contains_itself (chain d v s))))
  where
    nothing : (s : Sample) (ws : List Visit) → All (λ w. is_old (chain d v s) w ≡ true) ws
        → new_lengths (chain d v s) s ws ≡ 0
    nothing s [] old = refl
    nothing s (w ∷ ws) old =
        let own = ap (λ t. cond {A = ℕ} t 0 (own_length w s)) (old zero w (omega arith)) in
        omega (
          arith,
          sum_by-cons (λ x. cond (is_old (chain d v s) x) 0 (own_length x s)) w ws,
          own,
          nothing s ws (λ k x h. old (suc k) x (omega (arith, h))),
        )

-- Never more than without a frame before.

test-below : (t : Bool) (n : ℕ) → cond {A = ℕ} t 0 n ≤ n
test-below true n = omega arith
test-below false n = omega arith

most-points : (d : Descent) (before : Option Visit) (v : Visit)
    → points_after d before v ≤ points_in d v
unfolding points_after points_in
most-points d before v =
    sum_in-below v.box (sample_points d before v) (cost d v)
    (λ s lies. test-below (is_old (ways_before d before s) (chain_end d v s)) (cost d v s))

most-spans : (d : Descent) (before : Option Visit) (v : Visit)
    → spans_after d before v ≤ spans_in d v
unfolding spans_after spans_in
most-spans d before v =
    sum_in-below v.box (sample_spans d before v) (λ s. first_lengths s (chain d v s))
    (λ s lies. fewer s (ways_before d before s) (chain d v s))
  where
    fewer : (s : Sample) (old ws : List Visit) → new_lengths old s ws ≤ first_lengths s ws
    fewer s old [] = omega arith
    fewer s old (w ∷ ws) =
        omega (
          arith,
          sum_by-cons (λ x. cond (is_old old x) 0 (own_length x s)) w ws,
          sum_by-cons (λ x. own_length x s) w ws,
          test-below (is_old old w) (own_length w s),
          fewer s old ws,
        )

fresh-points : (d : Descent) (v : Visit) → points_after d None v ≡ points_in d v
unfolding points_after points_in
fresh-points d v = refl

fresh-spans : (d : Descent) (v : Visit) → spans_after d None v ≡ spans_in d v
unfolding spans_after spans_in
fresh-spans d v = refl

pub redrawn_work_adds_up_is : LayersHold → RedrawnWorkAddsUp
redrawn_work_adds_up_is laws = record {
  old_points = old-points laws;
  old_spans = old-spans laws;
  points = points;
  spans = spans;
  fresh_points = fresh-points;
  fresh_spans = fresh-spans;
  most_points = most-points;
  most_spans = most-spans;
}
  where
    points : (d : Descent) (before : Option Visit) (v : Visit) → 0 < d.leaf → IsBox v.box
        → IsNew before v
        → points_after d before v ≡ cond (is_split d v) (sum_by
        (λ half. points_after d (half_before d before half) (half_visit d v half))
        (halves_of d.leaf v.box)) (size v.box * end_cost d v)
    points d before v some is new = by (is_split d v) refl
      where
        by : (t : Bool) → is_split d v ≡ t
            → points_after d before v ≡ cond t (sum_by
            (λ half. points_after d (half_before d before half) (half_visit d v half))
            (halves_of d.leaf v.box)) (size v.box * end_cost d v)
        by false e = points-end laws d before v some is new e
        by true e = points-split laws d before v some is new e

    spans : (d : Descent) (before : Option Visit) (v : Visit) → 0 < d.leaf → IsBox v.box
        → IsNew before v
        → spans_after d before v ≡ length v.list + cond (is_split d v) (sum_by
        (λ half. spans_after d (half_before d before half) (half_visit d v half))
        (halves_of d.leaf v.box)) 0
    spans d before v some is new = by (is_split d v) refl
      where
        by : (t : Bool) → is_split d v ≡ t
            → spans_after d before v ≡ length v.list + cond t (sum_by
            (λ half. spans_after d (half_before d before half) (half_visit d v half))
            (halves_of d.leaf v.box)) 0
        by false e = omega (arith, spans-end laws d before v some is new e)
        by true e = spans-split laws d before v some is new e
