-- The evaluations of samples that pass a test, from those of the halves of a box.
use Rattle.std.proofs.Common.{◌≡◌, ℕ, zero, suc, ◌+◌, ◌<◌, ◌≤◌, Bool, true, false, cond, List, [], ◌∷◌, length, drop, refl, ap, ◌∙◌, arith}
use Rattle.std.specs.Prelude.{Some, None}
use Rattle.std.specs.List.{sum_by}
use Rattle.std.proofs.lemmas.List.Sums.{sum_by-cons}
use Rattle.box_chains.specs.Chains.{Descent, Visit, decision, handed_on, is_long, is_split}
use Rattle.box_chains.specs.Counts.{end_cost, halves_spans, open_spans, spans_in}
use Rattle.box_chains.specs.Laws.{Lawful}
use Rattle.box_chains.specs.Sums.{Sample, sum_in}
use Rattle.box_chains.specs.Tested.{halves_points_where, open_points_where, points_where}
use Rattle.view_places.specs.Boxes.{IsBox, halves_of}

-- A box that is split takes the evaluations of its halves.
points-split : (laws : Lawful) (test : Sample → Bool) (d : Descent) (v : Visit) → 0 < d.leaf → IsBox v.box → is_split d v ≡ true
    → points_where test d v ≡ halves_points_where test d (handed_on d v) (halves_of d.leaf v.box)
points-split laws test d v some is e = rw e at (laws.tested.points test d v some is)

-- and another those of its samples
pub points-end : (laws : Lawful) (test : Sample → Bool) (d : Descent) (v : Visit) → 0 < d.leaf → IsBox v.box → is_split d v ≡ false
    → points_where test d v ≡ sum_in v.box (λ s. cond (test s) (end_cost d v) 0)
points-end laws test d v some is e = rw e at (laws.tested.points test d v some is)

spans-split : (laws : Lawful) (d : Descent) (v : Visit) → 0 < d.leaf → IsBox v.box → is_split d v ≡ true → spans_in d v ≡ length v.list + halves_spans d (handed_on d v) (halves_of d.leaf v.box)
spans-split laws d v some is e = rw e at (laws.spans d v some is)

spans-end : (laws : Lawful) (d : Descent) (v : Visit) → 0 < d.leaf → IsBox v.box → is_split d v ≡ false → spans_in d v ≡ length v.list + 0
spans-end laws d v some is e = rw e at (laws.spans d v some is)

pub open-split : (d : Descent) (v : Visit) → decision d v ≡ None → is_split d v ≡ is_long d.leaf v.box
open-split d v e = rw e refl

pub decided-split : (d : Descent) (v : Visit) (inside : Bool) → decision d v ≡ Some inside → is_split d v ≡ false
decided-split d v inside e = rw e refl

-- What an undecided box takes is what lies open below it, and its trace.
pub points-open : (laws : Lawful) (test : Sample → Bool) (d : Descent) (v : Visit) → 0 < d.leaf → IsBox v.box → decision d v ≡ None → points_where test d v ≡ open_points_where test d v.box (handed_on d v)
points-open laws test d v some is e = by (is_long d.leaf v.box) refl
  where
    by : (t : Bool) → is_long d.leaf v.box ≡ t
        → points_where test d v ≡ cond t (halves_points_where test d (handed_on d v) (halves_of d.leaf v.box)) (sum_in v.box (λ s. cond (test s) (length (handed_on d v)) 0))
    by true h = points-split laws test d v some is (open-split d v e ∙ h)
    by false h = points-end laws test d v some is (open-split d v e ∙ h) ∙ ap (λ n. sum_in v.box (λ s. cond (test s) n 0)) (each e)
      where
        each : decision d v ≡ None → end_cost d v ≡ length (handed_on d v)
        each e = rw e refl

pub spans-open : (laws : Lawful) (d : Descent) (v : Visit) → 0 < d.leaf → IsBox v.box → decision d v ≡ None → spans_in d v ≡ length v.list + open_spans d v.box (handed_on d v)
spans-open laws d v some is e = by (is_long d.leaf v.box) refl
  where
    by : (t : Bool) → is_long d.leaf v.box ≡ t → spans_in d v ≡ length v.list + cond t (halves_spans d (handed_on d v) (halves_of d.leaf v.box)) 0
    by true h = spans-split laws d v some is (open-split d v e ∙ h)
    by false h = spans-end laws d v some is (open-split d v e ∙ h)

-- What a decided box takes is its trace.
pub spans-decided : (laws : Lawful) (d : Descent) (v : Visit) (inside : Bool) → 0 < d.leaf → IsBox v.box → decision d v ≡ Some inside → spans_in d v ≡ length v.list
spans-decided laws d v inside some is e = omega (arith, spans-end laws d v some is (decided-split d v inside e))

pub sum-drop_below : {X : Type 0} (f : X → ℕ) (xs : List X) (i : ℕ) → sum_by f (drop i xs) ≤ sum_by f xs
sum-drop_below f [] zero = omega arith
sum-drop_below f [] (suc i) = omega arith
sum-drop_below f (x ∷ xs) zero = omega arith
sum-drop_below f (x ∷ xs) (suc i) = omega (arith, sum-drop_below f xs i, sum_by-cons f x xs)
