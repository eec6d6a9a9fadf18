-- Chains of boxes, and the work of a box, from those of its halves.
use Rattle.std.proofs.Common.{◌≡◌, ℕ, zero, suc, ◌+◌, ◌*◌, ◌<◌, ◌≤◌, Bool, true, false, cond, List, [], ◌∷◌, refl, sym, ap, ◌∙◌, zero-add, arith}
use Rattle.std.specs.Prelude.{Option, Some, None, length, unwrap_or}
use Rattle.std.specs.List.{Contains, last_or, sum_by}
use Rattle.std.proofs.lemmas.Bool.{false≢true}
use Rattle.std.proofs.lemmas.List.Elements.{All-contains_itself, All-contains, All-weaker}
use Rattle.std.proofs.lemmas.List.Sums.{sum_by-cons}
use Rattle.view_places.specs.Boxes.{Indices, IsBox, halves_of}
use Rattle.view_places.specs.Laws.{HalvesPart}
use Rattle.box_chains.specs.Chains.{Descent, Visit, chain, chain_end, chain_within, decision, half_visit, half_with, is_long, is_split, next_visit, sides}
use Rattle.box_chains.specs.Counts.{cost, end_cost, first_lengths, is_first, points_in, spans_in}
use Rattle.box_chains.specs.Parts.{IsPart}
use Rattle.box_chains.proofs.HalfLaws.{half_with-is, half_with-part, halves-are_parts, part-is_box, part-is_shorter, part-lies}
use Rattle.box_chains.specs.Sums.{LiesIn, Sample, size, sum_in}
use Rattle.box_chains.proofs.SumLaws.{sum_by-equal, sum_in-const, sum_in-first, sum_in-halves, sum_in-plus, sum_in-same}

-- only a box with a long side is split
pub split-is_long : (d : Descent) (v : Visit) → is_split d v ≡ true → is_long d.leaf v.box ≡ true
split-is_long d v e = by (decision d v) refl
  where
    by : (o : Option Bool) → decision d v ≡ o → is_long d.leaf v.box ≡ true
    by None h = rw h at e
    by (Some inside) h = absurd (false≢true (rw h at e))

pub box-has_sides : (b : Indices) → IsBox b → 0 < sides b
box-has_sides b is = omega (arith, is.x)

-- more turns than there are sides change nothing
chain-enough : (n m : ℕ) (d : Descent) (v : Visit) (s : Sample) → 0 < d.leaf → IsBox v.box
    → LiesIn v.box s → HalvesPart → sides v.box ≤ n → sides v.box ≤ m
    → chain_within n d v s ≡ chain_within m d v s
unfolding chain_within
chain-enough zero m d v s some is lies law few more =
    absurd (omega (arith, box-has_sides v.box is, few))
chain-enough (suc n) zero d v s some is lies law few more =
    absurd (omega (arith, box-has_sides v.box is, more))
chain-enough (suc n) (suc m) d v s some is lies law few more =
    by (is_split d v) refl (λ part inside less. chain-enough n m d (next_visit d v s) s some
    (part-is_box d.leaf v.box (half_with d.leaf v.box s) part) inside law
    (omega (arith, less, few)) (omega (arith, less, more)))
  where
    by : (t : Bool) → is_split d v ≡ t
        → (IsPart d.leaf v.box (half_with d.leaf v.box s) → LiesIn (half_with d.leaf v.box s) s
        → sides (half_with d.leaf v.box s) < sides v.box
        → chain_within n d (next_visit d v s) s ≡ chain_within m d (next_visit d v s) s)
        → v ∷ cond t (chain_within n d (next_visit d v s) s) [] ≡ v ∷ cond t
        (chain_within m d (next_visit d v s) s) []
    by false e others = refl
    by true e others =
        let half = half_with-part law d.leaf v.box s some is lies in
        ap (λ c. v ∷ c) (others half.0 half.1 (part-is_shorter d.leaf v.box
        (half_with d.leaf v.box s) (split-is_long d v e) half.0))

-- a box that is not split ends the chain
pub chain-ends : (d : Descent) (v : Visit) (s : Sample) → IsBox v.box → is_split d v ≡ false
    → chain d v s ≡ v ∷ []
unfolding chain_within
chain-ends d v s is e = by (sides v.box) (box-has_sides v.box is)
  where
    by : (n : ℕ) → 0 < n → chain_within n d v s ≡ v ∷ []
    by zero h = absurd (omega (arith, h))
    by (suc n) h = rw e refl

-- a box that is split has the chain of the half with the sample after it
pub chain-goes_on : (d : Descent) (v : Visit) (s : Sample) → 0 < d.leaf → IsBox v.box
    → LiesIn v.box s → HalvesPart → is_split d v ≡ true
    → chain d v s ≡ v ∷ chain d (next_visit d v s) s
unfolding chain_within
chain-goes_on d v s some is lies law e = by (sides v.box) refl (box-has_sides v.box is)
  where
    half : IsPart d.leaf v.box (half_with d.leaf v.box s) × LiesIn (half_with d.leaf v.box s) s
    half = half_with-part law d.leaf v.box s some is lies

    less : sides (half_with d.leaf v.box s) < sides v.box
    less = part-is_shorter d.leaf v.box (half_with d.leaf v.box s) (split-is_long d v e) half.0

    by : (n : ℕ) → n ≡ sides v.box → 0 < n → chain_within n d v s ≡ v ∷ chain d (next_visit d v s) s
    by zero same h = absurd (omega (arith, h))
    by (suc n) same h = rw e (ap (λ c. v ∷ c) (chain-enough n (sides (half_with d.leaf v.box s)) d
        (next_visit d v s) s some (part-is_box d.leaf v.box
        (half_with d.leaf v.box s) half.0) half.1 law (omega (arith, same, less)) (omega arith)))

-- a chain begins with its box
pub chain-begins : (d : Descent) (v : Visit) (s : Sample) → IsBox v.box
    → (rest : List Visit) × (chain d v s ≡ v ∷ rest)
unfolding chain_within
chain-begins d v s is = by (sides v.box) (box-has_sides v.box is)
  where
    by : (n : ℕ) → 0 < n → (rest : List Visit) × (chain_within n d v s ≡ v ∷ rest)
    by zero h = absurd (omega (arith, h))
    by (suc n) h = (cond (is_split d v) (chain_within n d (next_visit d v s) s) [], refl)

-- the last item of what has one does not hang on the default
pub last-given : (first : Visit) (rest : List Visit) (a b : Visit)
    → unwrap_or (last_or (Some first) rest) a ≡ unwrap_or (last_or (Some first) rest) b
last-given first [] a b = refl
last-given first (x ∷ rest) a b = last-given x rest a b

-- the end of a chain is that of the half's
pub end-goes_on : (d : Descent) (v : Visit) (s : Sample) → 0 < d.leaf → IsBox v.box → LiesIn v.box s
    → HalvesPart → is_split d v ≡ true → chain_end d v s ≡ chain_end d (next_visit d v s) s
end-goes_on d v s some is lies law e =
    let half = half_with-part law d.leaf v.box s some is lies in
    let begins = chain-begins d (next_visit d v s) s (part-is_box d.leaf v.box
    (half_with d.leaf v.box s) half.0) in
    rw (chain-goes_on d v s some is lies law e) (rw (begins.1)
    (last-given (next_visit d v s) begins.0 v (next_visit d v s)))

-- a box that is not split is its own end
pub end-ends : (d : Descent) (v : Visit) (s : Sample) → IsBox v.box → is_split d v ≡ false
    → chain_end d v s ≡ v
end-ends d v s is e = rw (chain-ends d v s is e) refl

-- sums over the samples of a box, from those over its halves, where the sums of the halves are
-- equal to it at their samples
pub sum-over_halves : (d : Descent) (v : Visit) (f : Sample → ℕ) (g : Indices → Sample → ℕ) → HalvesPart
    → ((half : Indices) (s : Sample) → Contains (halves_of d.leaf v.box) half → LiesIn half s
    → f s ≡ g half s)
    → sum_in v.box f ≡ sum_by (λ half. sum_in half (g half)) (halves_of d.leaf v.box)
sum-over_halves d v f g law same =
    sym (sum_in-halves d.leaf v.box f)
    ∙ sum_by-equal (λ half. sum_in half f) (λ half. sum_in half (g half)) (halves_of d.leaf v.box)
    (All-weaker (Contains (halves_of d.leaf v.box)) (λ half. sum_in half f ≡ sum_in half (g half))
    (λ half among. sum_in-same half f (g half) (λ s lies. same half s among lies))
    (halves_of d.leaf v.box) (All-contains_itself (halves_of d.leaf v.box)))

-- a sample of a half lies in the box
pub half-lies : (d : Descent) (v : Visit) (half : Indices) (s : Sample) → 0 < d.leaf → IsBox v.box
    → Contains (halves_of d.leaf v.box) half → LiesIn half s → LiesIn v.box s
half-lies d v half s some is among lies =
    part-lies d.leaf v.box half s (All-contains (IsPart d.leaf v.box) (halves_of d.leaf v.box) half
    (halves-are_parts d.leaf v.box some is) among) lies

-- the next box of a sample of a half is that half
pub next-is_half : (d : Descent) (v : Visit) (half : Indices) (s : Sample) → HalvesPart
    → Contains (halves_of d.leaf v.box) half → LiesIn half s
    → next_visit d v s ≡ half_visit d v half
next-is_half d v half s law among lies =
    ap (λ b. half_visit d v b) (half_with-is law d.leaf v.box half s among lies)

-- The points of a box that is split are those of its halves.
pub points-split : (d : Descent) (v : Visit) → 0 < d.leaf → IsBox v.box → HalvesPart
    → is_split d v ≡ true
    → points_in d v ≡ sum_by (λ half. points_in d (half_visit d v half)) (halves_of d.leaf v.box)
unfolding points_in
points-split d v some is law e =
    sum-over_halves d v (cost d v) (λ half. cost d (half_visit d v half)) law
    (λ half s among lies.
    ap (end_cost d) (end-goes_on d v s some is (half-lies d v half s some is among lies) law e
    ∙ ap (λ next. chain_end d next s) (next-is_half d v half s law among lies)))

-- Those of a box that is not are its cost at each sample.
pub points-end : (d : Descent) (v : Visit) → IsBox v.box → is_split d v ≡ false
    → points_in d v ≡ size v.box * end_cost d v
unfolding points_in
points-end d v is e =
    sum_in-same v.box (cost d v) (λ s. end_cost d v) (λ s lies. ap (end_cost d)
    (end-ends d v s is e)) ∙ sum_in-const v.box (end_cost d v)

-- what a box adds where a sample is its first
abbrev own_length : Visit → Sample → ℕ
own_length v s = cond (is_first v.box s) (length v.list) 0

own-once : (v : Visit) → IsBox v.box → sum_in v.box (own_length v) ≡ length v.list
own-once v is = sum_in-first v.box (length v.list) is

-- The steps traced over a box that is split are its own list's and those of its halves.
pub spans-split : (d : Descent) (v : Visit) → 0 < d.leaf → IsBox v.box → HalvesPart
    → is_split d v ≡ true
    → spans_in d v ≡ length v.list + sum_by (λ half. spans_in d (half_visit d v half))
    (halves_of d.leaf v.box)
unfolding spans_in
spans-split d v some is law e =
    let rest : Sample → ℕ = λ s. first_lengths s (chain d (next_visit d v s) s) in
    let apart = sum_in-same v.box (λ s. first_lengths s (chain d v s))
    (λ s. own_length v s + rest s)
    (λ s lies. ap (first_lengths s) (chain-goes_on d v s some is lies law e)
    ∙ sum_by-cons (λ w. cond (is_first w.box s) (length w.list) 0) v
    (chain d (next_visit d v s) s)) in
    let below = sum-over_halves d v rest (λ half s. first_lengths s
    (chain d (half_visit d v half) s)) law
    (λ half s among lies. ap (λ next. first_lengths s (chain d next s))
    (next-is_half d v half s law among lies)) in
    omega (arith, apart, sum_in-plus v.box (own_length v) rest, own-once v is, below)

-- Those of a box that is not are its own list's.
pub spans-end : (d : Descent) (v : Visit) → IsBox v.box → is_split d v ≡ false
    → spans_in d v ≡ length v.list
unfolding spans_in
spans-end d v is e =
    let apart = sum_in-same v.box (λ s. first_lengths s (chain d v s)) (own_length v)
    (λ s lies. ap (first_lengths s) (chain-ends d v s is e) ∙ zero-add (own_length v s)) in
    omega (arith, apart, own-once v is)
