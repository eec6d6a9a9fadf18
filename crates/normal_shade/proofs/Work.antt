-- The work of shading a box, from that of its halves.
use Rattle.std.proofs.Common.{◌≡◌, ℕ, suc, ◌+◌, ◌*◌, ◌<◌, Bool, true, false, cond, List, [], ◌∷◌, length, get_or, take, refl, sym, ap, subst, ◌∙◌, arith}
use Rattle.std.specs.List.{All, Contains, filter, sum_by}
use Rattle.std.proofs.Math.Nat.{mul-zero}
use Rattle.std.proofs.lemmas.List.{take_all}
use Rattle.std.proofs.lemmas.List.Elements.{All-contains, All-contains_itself, All-head, All-tail, All-weaker}
use Rattle.std.proofs.lemmas.List.Sums.{sum_by-cons, sum_by-take-le, sum_by_more}
use Rattle.box_chains.specs.Chains.{Descent, Visit, chain_end, half_visit, handed_on, is_split, visit}
use Rattle.box_chains.specs.Laws.{Lawful}
use Rattle.box_chains.specs.Parts.{IsPart}
use Rattle.box_chains.specs.Sums.{LiesIn, Sample, size, sum_in}
use Rattle.box_chains.specs.Tallied.{CountsAtMost, CountsExactly}
use Rattle.box_chains.specs.Tested.{halves_spans_where, has_some, spans_where}
use Rattle.box_chains.specs.Visits.{sample_point}
use Rattle.fixed_ops.specs.Counts.{Counts, RisesBy, points_of}
use Rattle.live_clauses.specs.declared.step.Step.{Step}
use Rattle.view_places.specs.Boxes.{Indices, IsBox, halves_of}
use Rattle.normal_shade.specs.DualWork.{dual_points}
use Rattle.normal_shade.specs.Lit.{lit_in, lit_where, pruned}
use Rattle.normal_shade.specs.Shading.{boxes_points, spans_below}
use Rattle.normal_shade.proofs.Sums.{none-of}
use Rattle.normal_shade.proofs.Visits.{split-pruned}

-- work that is told by equal numbers
pub same-work : (Counted : ℕ → ℕ → Type 0) (p s q t : ℕ) → p ≡ q → s ≡ t → Counted p s → Counted q t
same-work Counted p s q t points spans counted = subst (λ n. Counted q n) spans (subst (λ n. Counted n s) points counted)

-- ---- the lists that the last boxes prune

-- a box that is not split is the last one on the ways to its samples
lit-end : (laws : Lawful) (test : Sample → Bool) (d : Descent) (v : Visit) → 0 < d.leaf → IsBox v.box → is_split d v ≡ false → lit_where test d v ≡ lit_in test d v.box (pruned d v)
unfolding lit_where
lit-end laws test d v some is e =
    laws.sums.same v.box (λ s. cond (test s) (dual_points (sample_point d s) (pruned d (chain_end d v s))) 0) (λ s. cond (test s) (dual_points (sample_point d s) (pruned d v)) 0)
    (λ s lies. ap (λ (w : Visit). cond (test s) (dual_points (sample_point d s) (pruned d w)) 0) (rw e at (laws.ends d v s some is lies)))

sum-equal : {X : Type 0} (f g : X → ℕ) (xs : List X) → All (λ x. f x ≡ g x) xs → sum_by f xs ≡ sum_by g xs
sum-equal f g [] same = refl
sum-equal f g (x ∷ xs) same =
    omega (arith, sum_by-cons f x xs, sum_by-cons g x xs, All-head (λ y. f y ≡ g y) x xs same, sum-equal f g xs (All-tail (λ y. f y ≡ g y) x xs same))

-- and where one is split, they are those of its halves
lit-split : (laws : Lawful) (test : Sample → Bool) (d : Descent) (v : Visit) → 0 < d.leaf → IsBox v.box → is_split d v ≡ true
    → lit_where test d v ≡ boxes_points test d (handed_on d v) (halves_of d.leaf v.box)
unfolding lit_where
lit-split laws test d v some is e =
    sym (laws.sums.halves d.leaf v.box f)
    ∙ sum-equal (λ half. sum_in half f) (λ half. sum_in half (g half)) (halves_of d.leaf v.box)
    (All-weaker (Contains (halves_of d.leaf v.box)) (λ half. sum_in half f ≡ sum_in half (g half))
    (λ half among. laws.sums.same half f (g half) (λ s lies. each half s among lies))
    (halves_of d.leaf v.box) (All-contains_itself (halves_of d.leaf v.box)))
  where
    at : Sample → Visit → ℕ
    at s w = cond (test s) (dual_points (sample_point d s) (pruned d w)) 0

    f : Sample → ℕ
    f s = at s (chain_end d v s)

    g : Indices → Sample → ℕ
    g half s = at s (chain_end d (half_visit d v half) s)

    each : (half : Indices) (s : Sample) → Contains (halves_of d.leaf v.box) half → LiesIn half s → f s ≡ g half s
    each half s among lies =
        let part = All-contains (IsPart d.leaf v.box) (halves_of d.leaf v.box) half (laws.parts.all d.leaf v.box some is) among in
        let within = laws.parts.lies d.leaf v.box half s part lies in
        ap (at s)
        (rw e at (laws.ends d v s some is within)
        ∙ ap (λ b. chain_end d (record { box = b; list = handed_on d v }) s) (laws.parts.only d.leaf v.box half s among lies))

-- where no sample passes, none is lit
lit-nothing : (laws : Lawful) (test : Sample → Bool) (d : Descent) (v : Visit) → has_some test v.box ≡ false → lit_where test d v ≡ 0
unfolding lit_where
lit-nothing laws test d v e =
    laws.sums.same v.box (λ s. cond (test s) (dual_points (sample_point d s) (pruned d (chain_end d v s))) 0) (λ s. 0)
    (λ s lies. ap (λ t. cond t (dual_points (sample_point d s) (pruned d (chain_end d v s))) 0) (none-of laws test v.box s lies e))
    ∙ laws.sums.const v.box 0 ∙ mul-zero (size v.box)

-- ---- the work of one box that was traced

-- one that is not split is lit by the list that it prunes
pub end-counted : (laws : Lawful) (test : Sample → Bool) (d : Descent) (v : Visit) (list : List Step) (before after : Counts) → 0 < d.leaf → IsBox v.box → is_split d v ≡ false → list ≡ pruned d v
    → RisesBy before after (points_of (lit_in test d v.box list)) → CountsExactly (lit_where test d v) (spans_below test d v) before after
end-counted laws test d v list before after some is e prunes h =
    same-work (λ p s. CountsExactly p s before after) (lit_in test d v.box list) 0 (lit_where test d v) (spans_below test d v)
    (ap (lit_in test d v.box) prunes ∙ sym (lit-end laws test d v some is e)) none (laws.work.points before after (lit_in test d v.box list) h)
  where
    none : 0 ≡ spans_below test d v
    none = rw e refl

-- and one that is split takes the work of its halves
pub split-work : (laws : Lawful) (Counted : ℕ → ℕ → Type 0) (test : Sample → Bool) (d : Descent) (v : Visit) (list : List Step) → 0 < d.leaf → IsBox v.box → is_split d v ≡ true → list ≡ pruned d v
    → Counted (boxes_points test d list (halves_of d.leaf v.box)) (halves_spans_where test d list (halves_of d.leaf v.box)) → Counted (lit_where test d v) (spans_below test d v)
split-work laws Counted test d v list some is e prunes h =
    let handed = prunes ∙ split-pruned d v e in
    same-work Counted (boxes_points test d list (halves_of d.leaf v.box)) (halves_spans_where test d list (halves_of d.leaf v.box)) (lit_where test d v) (spans_below test d v)
    (ap (λ l. boxes_points test d l (halves_of d.leaf v.box)) handed ∙ sym (lit-split laws test d v some is e))
    (ap (λ l. halves_spans_where test d l (halves_of d.leaf v.box)) handed ∙ below) h
  where
    below : halves_spans_where test d (handed_on d v) (halves_of d.leaf v.box) ≡ spans_below test d v
    below = rw e refl

-- ---- boxes with their traces

-- a box in which some sample passes takes its own trace, and what is traced below it
traced-own : (laws : Lawful) (test : Sample → Bool) (d : Descent) (v : Visit) → 0 < d.leaf → IsBox v.box → has_some test v.box ≡ true
    → spans_where test d v ≡ length v.list + spans_below test d v
traced-own laws test d v some is e = rw e at (laws.tested.spans test d v some is)

-- and one in which none does takes none
traced-none : (laws : Lawful) (test : Sample → Bool) (d : Descent) (v : Visit) → 0 < d.leaf → IsBox v.box → has_some test v.box ≡ false → spans_where test d v ≡ 0
traced-none laws test d v some is e =
    laws.tested.spans_same test (λ s. false) d v some is (λ s lies. none-of laws test v.box s lies e) ∙ laws.tested.spans_none d v

-- ---- some boxes, traced together

abbrev pub below : (Sample → Bool) → Descent → List Step → Indices → ℕ
below test d list b = spans_below test d (visit b list)

-- all of them traced, and the first so many of them shaded
unfoldable pub begun_spans : (Sample → Bool) → Descent → List Step → List Indices → ℕ → ℕ
begun_spans test d list boxes n = length boxes * length list + sum_by (below test d list) (take n boxes)

abbrev pub begun_points : (Sample → Bool) → Descent → List Step → List Indices → ℕ → ℕ
begun_points test d list boxes n = boxes_points test d list (take n boxes)

traced-all : (laws : Lawful) (test : Sample → Bool) (d : Descent) (list : List Step) (boxes : List Indices) → 0 < d.leaf → All IsBox boxes → All (λ b. has_some test b ≡ true) boxes
    → halves_spans_where test d list boxes ≡ length boxes * length list + sum_by (below test d list) boxes
traced-all laws test d list [] some are have = omega arith
traced-all laws test d list (b ∷ bs) some are have =
    let once : suc (length bs) * length list ≡ length list + length bs * length list = grind arith in
    omega (
      arith,
      once,
      sum_by-cons (λ h. spans_where test d (visit h list)) b bs,
      sum_by-cons (below test d list) b bs,
      traced-own laws test d (visit b list) some (All-head IsBox b bs are) (All-head (λ h. has_some test h ≡ true) b bs have),
      traced-all laws test d list bs some (All-tail IsBox b bs are) (All-tail (λ h. has_some test h ≡ true) b bs have),
    )

-- all of them
pub all-counted : (laws : Lawful) (test : Sample → Bool) (d : Descent) (list : List Step) (boxes : List Indices) (n : ℕ) (start end : Counts) → 0 < d.leaf → All IsBox boxes → All (λ b. has_some test b ≡ true) boxes → n ≡ length boxes
    → CountsExactly (begun_points test d list boxes n) (begun_spans test d list boxes n) start end
    → CountsExactly (boxes_points test d list boxes) (halves_spans_where test d list boxes) start end
unfolding begun_spans
all-counted laws test d list boxes n start end some are have all h =
    let whole = take_all n boxes (omega (arith, all)) in
    same-work (λ p s. CountsExactly p s start end) (begun_points test d list boxes n) (begun_spans test d list boxes n) (boxes_points test d list boxes) (halves_spans_where test d list boxes)
    (ap (boxes_points test d list) whole)
    (ap (λ bs. length boxes * length list + sum_by (below test d list) bs) whole ∙ sym (traced-all laws test d list boxes some are have)) h

pub traces-bounded : (laws : Lawful) (test : Sample → Bool) (d : Descent) (list : List Step) (boxes : List Indices) (start end : Counts) → 0 < d.leaf → All IsBox boxes → All (λ b. has_some test b ≡ true) boxes
    → CountsAtMost 0 (length boxes * length list) start end → CountsAtMost (boxes_points test d list boxes) (halves_spans_where test d list boxes) start end
traces-bounded laws test d list boxes start end some are have h =
    laws.bounds.more start end 0 (length boxes * length list) (boxes_points test d list boxes) (halves_spans_where test d list boxes) (omega arith)
    (omega (arith, traced-all laws test d list boxes some are have)) h

pub next-bounded : (laws : Lawful) (test : Sample → Bool) (d : Descent) (list : List Step) (boxes : List Indices) (n : ℕ) (b : Indices) (start between end : Counts) → 0 < d.leaf → All IsBox boxes
    → All (λ b. has_some test b ≡ true) boxes → n < length boxes → b ≡ get_or boxes n b
    → CountsExactly (begun_points test d list boxes n) (begun_spans test d list boxes n) start between
    → CountsAtMost (lit_where test d (visit b list)) (spans_below test d (visit b list)) between end
    → CountsAtMost (boxes_points test d list boxes) (halves_spans_where test d list boxes) start end
unfolding begun_spans
next-bounded laws test d list boxes n b start between end some are have within read first second =
    laws.bounds.after start between end (begun_points test d list boxes n) (begun_spans test d list boxes n) (lit_where test d (visit b list)) (spans_below test d (visit b list))
    (boxes_points test d list boxes) (halves_spans_where test d list boxes)
    (omega (
      arith,
      sum_by_more (λ h. lit_where test d (visit h list)) boxes n b within,
      ap (λ h. lit_where test d (visit h list)) read,
      sum_by-take-le (λ h. lit_where test d (visit h list)) boxes (n + 1),
    ))
    (omega (
      arith,
      sum_by_more (below test d list) boxes n b within,
      ap (below test d list) read,
      sum_by-take-le (below test d list) boxes (n + 1),
      traced-all laws test d list boxes some are have,
    ))
    first second

-- ---- the halves in which some sample passes, alone

sum-kept : {X : Type 0} (f : X → ℕ) (test : X → Bool) (xs : List X) → All (λ x. test x ≡ false → f x ≡ 0) xs → sum_by f (filter test xs) ≡ sum_by f xs
sum-kept f test [] none = refl
sum-kept {X = X} f test (x ∷ xs) none = by (test x) (All-head P x xs none) (sum-kept f test xs (All-tail P x xs none)) ∙ sym (sum_by-cons f x xs)
  where
    P : X → Type 0
    P y = test y ≡ false → f y ≡ 0

    by : (t : Bool) → (t ≡ false → f x ≡ 0) → sum_by f (filter test xs) ≡ sum_by f xs → sum_by f (cond t (x ∷ filter test xs) (filter test xs)) ≡ f x + sum_by f xs
    by true free rest = sum_by-cons f x (filter test xs) ∙ ap (λ n. f x + n) rest
    by false free rest = omega (arith, rest, free refl)

kept-points : (laws : Lawful) (test : Sample → Bool) (d : Descent) (list : List Step) (boxes : List Indices) → All IsBox boxes
    → boxes_points test d list (filter (has_some test) boxes) ≡ boxes_points test d list boxes
kept-points laws test d list boxes are =
    sum-kept (λ h. lit_where test d (visit h list)) (has_some test) boxes
    (All-weaker IsBox (λ h. has_some test h ≡ false → lit_where test d (visit h list) ≡ 0) (λ h is e. lit-nothing laws test d (visit h list) e) boxes are)

kept-traced : (laws : Lawful) (test : Sample → Bool) (d : Descent) (list : List Step) (boxes : List Indices) → 0 < d.leaf → All IsBox boxes
    → halves_spans_where test d list (filter (has_some test) boxes) ≡ halves_spans_where test d list boxes
kept-traced laws test d list boxes some are =
    sum-kept (λ h. spans_where test d (visit h list)) (has_some test) boxes
    (All-weaker IsBox (λ h. has_some test h ≡ false → spans_where test d (visit h list) ≡ 0) (λ h is e. traced-none laws test d (visit h list) some is e) boxes are)

pub group-work : (laws : Lawful) (Counted : ℕ → ℕ → Type 0) (test : Sample → Bool) (d : Descent) (list : List Step) (boxes kept : List Indices) → 0 < d.leaf → All IsBox boxes → kept ≡ filter (has_some test) boxes
    → Counted (boxes_points test d list kept) (halves_spans_where test d list kept) → Counted (boxes_points test d list boxes) (halves_spans_where test d list boxes)
group-work laws Counted test d list boxes kept some are is h =
    same-work Counted (boxes_points test d list kept) (halves_spans_where test d list kept) (boxes_points test d list boxes) (halves_spans_where test d list boxes)
    (ap (boxes_points test d list) is ∙ kept-points laws test d list boxes are) (ap (halves_spans_where test d list) is ∙ kept-traced laws test d list boxes some are) h

-- ---- one box with its trace
