-- The work of a box is bounded, and each sample is told at the end of its chain.
use Rattle.std.proofs.Common.{◌≡◌, ℕ, zero, suc, ◌+◌, ◌-◌, ◌*◌, ◌<◌, ◌≤◌, Bool, true, false, List, [], ◌∷◌, length, refl, ◌∙◌, arith}
use Rattle.std.specs.Prelude.{Option, Some, None}
use Rattle.std.specs.List.{All, Contains, sum_by}
use Rattle.std.proofs.Math.Nat.{mul-le-mul, mul-le-mul_left, mul-le-mul_right}
use Rattle.std.proofs.lemmas.List.Elements.{All-contains, All-contains_itself, All-head, All-tail, All-weaker}
use Rattle.std.proofs.lemmas.List.Sums.{sum_by-cons}
use Rattle.live_clauses.specs.Steps.{tape_value}
use Rattle.view_places.specs.Boxes.{Indices, IsBox, halves_of}
use Rattle.box_chains.proofs.ChainLaws.{box-has_sides, end-ends, end-goes_on, points-end, points-split, spans-end, spans-split, split-is_long}
use Rattle.box_chains.specs.Chains.{Descent, Visit, chain_end, decision, half_visit, half_with, handed_on, is_split, next_visit, sides}
use Rattle.box_chains.specs.Counts.{end_cost, points_in, spans_in}
use Rattle.box_chains.specs.Parts.{IsPart}
use Rattle.box_chains.proofs.HalfLaws.{half_with-among, halves-are_parts, part-is_box, part-is_shorter}
use Rattle.box_chains.specs.Sums.{LiesIn, Sample, size, sum_in}
use Rattle.box_chains.proofs.SumLaws.{sum_in-const, sum_in-halves}
use Rattle.box_chains.specs.Visits.{IsVisit, sample_point}
use Rattle.box_chains.specs.Laws.{LayersHold}
use Rattle.box_chains.proofs.ValueLaws.{handed-is, handed-value}

-- a half of a box, with the list that it receives, is such a box again
pub half-is_visit : (laws : LayersHold) (d : Descent) (v : Visit) (half : Indices) → 0 < d.leaf
    → IsVisit d v → Contains (halves_of d.leaf v.box) half
    → IsVisit d (half_visit d v half)
half-is_visit laws d v half some is among =
    let part = All-contains (IsPart d.leaf v.box) (halves_of d.leaf v.box) half
    (halves-are_parts d.leaf v.box some is.box) among in
    record {
      window = is.window;
      box = part-is_box d.leaf v.box half part;
      within = record {
        x = omega (arith, part.x.below, is.within.x);
        y = omega (arith, part.y.below, is.within.y);
        z =
            omega (arith, part.z.below, is.within.z);
      };
      tape = (handed-is laws d v is).0;
    }

-- and has shorter sides
pub half-is_shorter : (d : Descent) (v : Visit) (half : Indices) → 0 < d.leaf → IsBox v.box
    → is_split d v ≡ true → Contains (halves_of d.leaf v.box) half
    → sides half < sides v.box
half-is_shorter d v half some is e among =
    part-is_shorter d.leaf v.box half (split-is_long d v e)
    (All-contains (IsPart d.leaf v.box) (halves_of d.leaf v.box) half
    (halves-are_parts d.leaf v.box some is) among)

-- what holds of a list, of its elements one by one
sum_by-below : {X : Type 0} (f g : X → ℕ) (xs : List X) → All (λ x. f x ≤ g x) xs
    → sum_by f xs ≤ sum_by g xs
sum_by-below f g [] below = omega arith
sum_by-below f g (x ∷ xs) below =
    omega (
      arith,
      sum_by-cons f x xs,
      sum_by-cons g x xs,
      All-head (λ y. f y ≤ g y) x xs below,
      sum_by-below f g xs (All-tail (λ y. f y ≤ g y) x xs below),
    )

-- what all samples of the halves of a box take, each the same
halves-const : (d : Descent) (b : Indices) (c : ℕ) → sum_by (λ half. size half * c)
    (halves_of d.leaf b) ≡ size b * c
halves-const d b c =
    sums (halves_of d.leaf b) ∙ sum_in-halves d.leaf b (λ s. c) ∙ sum_in-const b c
  where
    sums : (bs : List Indices) → sum_by (λ half. size half * c) bs ≡ sum_by
        (λ half. sum_in half (λ s. c)) bs
    sums [] = refl
    sums (h ∷ bs) =
        omega (
          arith,
          sum_by-cons (λ half. size half * c) h bs,
          sum_by-cons (λ half. sum_in half (λ s. c)) h bs,
          sum_in-const h c,
          sums bs,
        )

end-below : (laws : LayersHold) (d : Descent) (v : Visit) → IsVisit d v → end_cost d v ≤ length v.list
end-below laws d v is = by (decision d v) refl
  where
    by : (o : Option Bool) → decision d v ≡ o → end_cost d v ≤ length v.list
    by None e = rw e (handed-is laws d v is).1
    by (Some inside) e = rw e (omega arith)

-- The points of a box are at most those of evaluating its list at each of its samples.
points-below-within : (n : ℕ) (laws : LayersHold) (d : Descent) (v : Visit) → 0 < d.leaf → IsVisit d v
    → sides v.box ≤ n → points_in d v ≤ size v.box * length v.list
points-below-within zero laws d v some is few =
    absurd (omega (arith, box-has_sides v.box is.box, few))
points-below-within (suc n) laws d v some is few =
    by (is_split d v) refl (λ half among less. points-below-within n laws d
    (half_visit d v half) some (half-is_visit laws d v half some is among)
    (omega (arith, less, few)))
  where
    by : (t : Bool) → is_split d v ≡ t
        → ((half : Indices) → Contains (halves_of d.leaf v.box) half → sides half < sides v.box
        → points_in d (half_visit d v half) ≤ size half * length (handed_on d v))
        → points_in d v ≤ size v.box * length v.list
    by false e below =
        let products : size v.box * end_cost d v ≤ size v.box * length v.list = mul-le-mul_left
        (size v.box) (end-below laws d v is) in
        omega (arith, points-end d v is.box e, products)
    by true e below =
        let each = All-weaker (Contains (halves_of d.leaf v.box))
        (λ half. points_in d (half_visit d v half) ≤ size half * length (handed_on d v))
        (λ half among. below half among (half-is_shorter d v half some is.box e among))
        (halves_of d.leaf v.box) (All-contains_itself (halves_of d.leaf v.box)) in
        let sums = sum_by-below (λ half. points_in d (half_visit d v half))
        (λ half. size half * length (handed_on d v)) (halves_of d.leaf v.box) each in
        let products : size v.box * length
        (handed_on d v) ≤ size v.box * length v.list = mul-le-mul_left (size v.box)
        (handed-is laws d v is).1 in
        omega (
          arith,
          points-split d v some is.box laws.halves e,
          sums,
          halves-const d v.box (length (handed_on d v)),
          products,
        )

pub points-below : (laws : LayersHold) (d : Descent) (v : Visit) → 0 < d.leaf → IsVisit d v
    → points_in d v ≤ size v.box * length v.list
points-below laws d v some is = points-below-within (sides v.box) laws d v some is (omega arith)

-- what the end of a sample's chain is: a box with the sample that is not split, whose list has the
-- sample's value
pub record IsEnd (d : Descent) (v : Visit) (s : Sample) (end : Visit) : Type 0 where
  pub visit : IsVisit d end
  pub lies : LiesIn end.box s
  pub last : is_split d end ≡ false
  pub value : tape_value (sample_point d s) end.list ≡ tape_value (sample_point d s) v.list

end-is-within : (n : ℕ) (laws : LayersHold) (d : Descent) (v : Visit) (s : Sample) → 0 < d.leaf
    → IsVisit d v → LiesIn v.box s → sides v.box ≤ n → IsEnd d v s (chain_end d v s)
end-is-within zero laws d v s some is lies few =
    absurd (omega (arith, box-has_sides v.box is.box, few))
end-is-within (suc n) laws d v s some is lies few =
    by (is_split d v) refl (λ less. end-is-within n laws d (next_visit d v s) s some
    (half-is_visit laws d v (half_with d.leaf v.box s) some is among.0) among.1
    (omega (arith, less, few)))
  where
    among : Contains (halves_of d.leaf v.box) (half_with d.leaf v.box s)
        × LiesIn (half_with d.leaf v.box s) s
    among = half_with-among laws.halves d.leaf v.box s lies

    by : (t : Bool) → is_split d v ≡ t → (sides (half_with d.leaf v.box s) < sides v.box
        → IsEnd d (next_visit d v s) s (chain_end d (next_visit d v s) s))
        → IsEnd d v s (chain_end d v s)
    by false e below =
        rw (end-ends d v s is.box e) (record { visit = is; lies = lies; last = e; value = refl })
    by true e below =
        let rest = below (half-is_shorter d v (half_with d.leaf v.box s) some is.box e among.0) in
        rw (end-goes_on d v s some is.box lies laws.halves e)
        (record {
          visit = rest.visit;
          lies = rest.lies;
          last = rest.last;
          value = rest.value
              ∙ handed-value laws d v s is lies;
        })

pub end-is : (laws : LayersHold) (d : Descent) (v : Visit) (s : Sample) → 0 < d.leaf → IsVisit d v
    → LiesIn v.box s → IsEnd d v s (chain_end d v s)
end-is laws d v s some is lies = end-is-within (sides v.box) laws d v s some is lies (omega arith)

-- a box has a sample
size-some : (b : Indices) → IsBox b → 1 ≤ size b
size-some b is =
    let x : 1 ≤ b.x1 - b.x0 = omega (arith, is.x) in
    let y : 1 ≤ b.y1 - b.y0 = omega (arith, is.y) in
    let z : 1 ≤ b.z1 - b.z0 = omega (arith, is.z) in
    let rows : 1 * 1 ≤ (b.y1 - b.y0) * (b.x1 - b.x0) = mul-le-mul y x in
    let row : 1 ≤ (b.y1 - b.y0) * (b.x1 - b.x0) = omega (arith, rows) in
    let all : 1 * 1 ≤ (b.z1 - b.z0) * ((b.y1 - b.y0) * (b.x1 - b.x0)) = mul-le-mul z row in
    omega (arith, all)

-- one list more than those of shorter boxes
one-more : (s t u n : ℕ) → 1 ≤ s → u ≡ suc t → n + s * (t * n) ≤ s * (u * n)
one-more s t u n some is =
    let once : 1 * n ≤ s * n = mul-le-mul_right n some in
    let all : s * (suc t * n) ≡ s * n + s * (t * n) = grind arith in
    rw is (omega (arith, once, all))

-- The steps that are traced over a box and those below it are bounded: each sample lies in fewer
-- boxes than there are sides.
spans-below-within : (n : ℕ) (laws : LayersHold) (d : Descent) (v : Visit) → 0 < d.leaf → IsVisit d v
    → sides v.box ≤ n → spans_in d v ≤ size v.box * (sides v.box * length v.list)
spans-below-within zero laws d v some is few =
    absurd (omega (arith, box-has_sides v.box is.box, few))
spans-below-within (suc n) laws d v some is few =
    by (is_split d v) refl (λ half among less. spans-below-within n laws d
    (half_visit d v half) some (half-is_visit laws d v half some is among)
    (omega (arith, less, few)))
  where
    t : ℕ
    t = sides v.box - 1

    whole : sides v.box ≡ suc t
    whole = omega (arith, box-has_sides v.box is.box)

    more : length v.list + size v.box * (t * length v.list) ≤ size v.box *
        (sides v.box * length v.list)
    more = one-more (size v.box) t (sides v.box) (length v.list) (size-some v.box is.box) whole

    by : (b : Bool) → is_split d v ≡ b
        → ((half : Indices) → Contains (halves_of d.leaf v.box) half → sides half < sides v.box
        → spans_in d (half_visit d v half) ≤ size half * (sides half * length (handed_on d v)))
        → spans_in d v ≤ size v.box * (sides v.box * length v.list)
    by false e below = omega (arith, spans-end d v is.box e, more)
    by true e below =
        let shorter : (half : Indices) → sides half < sides v.box
        → sides half * length (handed_on d v) ≤ t * length v.list =
        λ half less. let sides_fewer : sides half ≤ t =
        omega (arith, less, whole) in mul-le-mul sides_fewer ((handed-is laws d v is).1) in
        let each = All-weaker (Contains (halves_of d.leaf v.box))
        (λ half. spans_in d (half_visit d v half) ≤ size half * (t * length v.list))
        (λ half among.
        let less = half-is_shorter d v half some is.box e among in
        let products : size half * (sides half * length (handed_on d v)) ≤ size half *
        (t * length v.list) = mul-le-mul_left (size half) (shorter half less) in
        omega (arith, below half among less, products))
        (halves_of d.leaf v.box) (All-contains_itself (halves_of d.leaf v.box)) in
        let sums = sum_by-below (λ half. spans_in d (half_visit d v half))
        (λ half. size half * (t * length v.list)) (halves_of d.leaf v.box) each in
        omega (
          arith,
          spans-split d v some is.box laws.halves e,
          sums,
          halves-const d v.box (t * length v.list),
          more,
        )

pub spans-below : (laws : LayersHold) (d : Descent) (v : Visit) → 0 < d.leaf → IsVisit d v
    → spans_in d v ≤ size v.box * (sides v.box * length v.list)
spans-below laws d v some is = spans-below-within (sides v.box) laws d v some is (omega arith)
