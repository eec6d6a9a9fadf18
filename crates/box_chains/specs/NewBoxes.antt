-- The boxes of a frame that comes after another of the same samples: which of them are old, and the others as a list.
use Rattle.std.specs.Prelude.{◌≡◌, ◌≢◌, ◌*◌, ◌<◌, true, List, length, Option, Some, None, ◌↔◌, if◌then◌else◌}
use Rattle.std.specs.List.{AllPairs, Contains, sum_by}
use Rattle.view_places.specs.Boxes.{IsBox}
use Rattle.box_chains.specs.Chains.{Descent, Visit, is_split}
use Rattle.box_chains.specs.Counts.{end_cost}
use Rattle.box_chains.specs.Laws.{IsOnWay}
use Rattle.box_chains.specs.Redrawn.{is_old, points_after, spans_after, ways_before}
use Rattle.box_chains.specs.Sums.{LiesIn, Sample, size}

-- the frame before, where there is one, had the same samples
abbrev pub HasTheBox : Option Visit → Visit → Type 0
HasTheBox before v = (old : Visit) → before ≡ Some old → old.box ≡ v.box

-- a box was on the way to some sample in the frame before, and received an equal list there
abbrev pub WasOnWay : Descent → Option Visit → Visit → Type 0
WasOnWay d None w = ⊥
WasOnWay d (Some old) w = IsOnWay d old w

-- So old boxes are a set: whether a box is old does not depend on the sample by whose way it is reached.
abbrev pub OldBoxesAreASet : Type 0
OldBoxesAreASet = (d : Descent) (before : Option Visit) (v w : Visit) (s : Sample) → 0 < d.leaf
    → IsBox v.box → HasTheBox before v → LiesIn v.box s → LiesIn w.box s
    → (is_old (ways_before d before s) w ≡ true) ↔ WasOnWay d before w

-- a box is new: it is on the way to some sample, and was on none in the frame before
pub record IsNewOnWay (d : Descent) (before : Option Visit) (v w : Visit) : Type 0 where
  pub on : IsOnWay d v w
  pub new : ¬ (WasOnWay d before w)

-- There is a list of exactly the new boxes, none of them twice. The lists that they receive are together
-- as long as the steps that are traced, and the evaluations are those of the samples of the new boxes
-- that are not split.
pub record CountsNewBoxesOnce (d : Descent) (before : Option Visit) (v : Visit) : Type 0 where
  pub boxes : List Visit
  pub different : AllPairs (λ a b. a.box ≢ b.box) boxes
  pub each : (w : Visit) → Contains boxes w → IsNewOnWay d before v w
  pub all : (w : Visit) → IsNewOnWay d before v w → Contains boxes w
  pub spans : spans_after d before v ≡ sum_by (λ w. length w.list) boxes
  pub points : points_after d before v
      ≡ sum_by (λ w. if is_split d w then 0 else size w.box * end_cost d w) boxes

abbrev pub NewBoxesAreCountedOnce : Type 0
NewBoxesAreCountedOnce = (d : Descent) (before : Option Visit) (v : Visit) → 0 < d.leaf → IsBox v.box
    → HasTheBox before v → CountsNewBoxesOnce d before v
