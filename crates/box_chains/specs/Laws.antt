-- What always holds of chains of boxes and of the work that boxes take.
use Rattle.std.specs.Prelude.{◌≡◌, ◌≢◌, ℕ, List, ◌+◌, ◌*◌, ◌<◌, ◌≤◌, Bool, true, false, [], ◌∷◌, length, Option, Some, None, if◌then◌else◌}
use Rattle.std.specs.List.{All, AllPairs, Contains, range_with_len, sum_by}
use Rattle.choice_trace.specs.Laws.{AreRanges}
use Rattle.choice_trace.specs.PointLaws.{ChoicesAreOfSteps, ChoicesAreRight, ValuesAreHeld}
use Rattle.fixed_ops.specs.Counts.{Counts, RisesBy, points_of}
use Rattle.fixed_ops.specs.Laws.{TalliesAddUp}
use Rattle.fixed_ops.specs.Raw.{is_inside}
use Rattle.interval_ops.specs.HullCounts.{CountsHulls}
use Rattle.live_clauses.specs.Laws.{ChoicesKeepTheValue, ListsAreToldApart, LiveListsAreTapes}
use Rattle.live_clauses.specs.Steps.{IsTape, tape_value}
use Rattle.view_places.specs.Boxes.{Indices, IsBox, halves_of, has_sample}
use Rattle.view_places.specs.Laws.{HalvesPart, RangesAreSpans, RangesHold}
use Rattle.view_places.specs.Spans.{region_of}
use Rattle.box_chains.specs.Chains.{Descent, Visit, chain, chain_end, decision, half_visit, half_with, handed_on, is_long, is_split, next_visit, sides}
use Rattle.box_chains.specs.Counts.{end_cost, is_first, points_in, spans_in}
use Rattle.box_chains.specs.Parts.{IsPart}
use Rattle.box_chains.specs.Redrawn.{IsNew, half_before, points_after, spans_after}
use Rattle.box_chains.specs.Sums.{LiesIn, Sample, size, sum_along, sum_in}
use Rattle.box_chains.specs.Tallied.{CountsAtMost, CountsExactly}
use Rattle.box_chains.specs.Tested.{has_some, points_where, spans_where}
use Rattle.box_chains.specs.Visits.{IsVisit, sample_point}

-- what the layers below promise of boxes, lists and points
pub record LayersHold : Type 0 where
  pub equal : ListsAreToldApart
  pub halves : HalvesPart
  pub ranges : RangesHold
  pub spans : RangesAreSpans
  pub tapes : LiveListsAreTapes
  pub kept : ChoicesKeepTheValue
  pub held : ValuesAreHeld
  pub choices : ChoicesAreOfSteps
  pub right : ChoicesAreRight

-- the way to a sample goes on from a box that is split into the half that holds the sample, and
-- ends elsewhere
abbrev pub ChainsGoOn : Type 0
ChainsGoOn = (d : Descent) (v : Visit) (s : Sample) → 0 < d.leaf → IsBox v.box → LiesIn v.box s
    → chain d v s ≡ v ∷ (if is_split d v then chain d (next_visit d v s) s else [])

-- and so it ends where the way from that half ends
abbrev pub EndsGoOn : Type 0
EndsGoOn = (d : Descent) (v : Visit) (s : Sample) → 0 < d.leaf → IsBox v.box → LiesIn v.box s
    → chain_end d v s ≡ (if is_split d v then chain_end d (next_visit d v s) s else v)

-- the evaluations of a box that is split are those of its halves, and those of another are its cost
-- at each sample
abbrev pub PointsAddUp : Type 0
PointsAddUp = (d : Descent) (v : Visit) → 0 < d.leaf → IsBox v.box
    → points_in d v ≡ (if is_split d v then sum_by (λ half. points_in d (half_visit d v half))
    (halves_of d.leaf v.box) else size v.box * end_cost d v)

-- the steps traced over a box are those of its own list, and where it is split those of its halves too
abbrev pub SpansAddUp : Type 0
SpansAddUp = (d : Descent) (v : Visit) → 0 < d.leaf → IsBox v.box
    → spans_in d v ≡ length v.list + (if is_split d v then sum_by
    (λ half. spans_in d (half_visit d v half)) (halves_of d.leaf v.box) else 0)

-- a box takes no more evaluations than its list has steps, at each of its samples
abbrev pub PointsAreBounded : Type 0
PointsAreBounded = (d : Descent) (v : Visit) → 0 < d.leaf → IsVisit d v
    → points_in d v ≤ size v.box * length v.list

-- and no more steps are traced over it and the boxes below it than its list has, once a sample and side
abbrev pub SpansAreBounded : Type 0
SpansAreBounded = (d : Descent) (v : Visit) → 0 < d.leaf → IsVisit d v
    → spans_in d v ≤ size v.box * (sides v.box * length v.list)

-- The last box on the way to a sample tells whether the sample is inside: by its decision, or by
-- the value of the list that it hands on, which is the value of the list that the first box
-- receives.
pub record IsTold (d : Descent) (v : Visit) (s : Sample) : Type 0 where
  pub decided : (inside : Bool) → decision d (chain_end d v s) ≡ Some inside
      → is_inside (tape_value (sample_point d s) v.list) ≡ inside
  pub handed : decision d (chain_end d v s) ≡ None → tape_value (sample_point d s)
      (handed_on d (chain_end d v s)) ≡ tape_value (sample_point d s) v.list

abbrev pub SamplesAreTold : Type 0
SamplesAreTold = (d : Descent) (v : Visit) (s : Sample) → 0 < d.leaf → IsVisit d v → LiesIn v.box s
    → IsTold d v s

-- a box is on the way to some sample
pub record IsOnWay (d : Descent) (v w : Visit) : Type 0 where
  pub sample : Sample
  pub lies : LiesIn v.box sample
  pub on : Contains (chain d v sample) w

-- There is a list of exactly the boxes on the ways to the samples, none of them twice, and the
-- lists that they receive are together as long as the steps that are traced.
pub record CountsBoxesOnce (d : Descent) (v : Visit) : Type 0 where
  pub boxes : List Visit
  pub different : AllPairs (λ a b. a.box ≢ b.box) boxes
  pub each : (w : Visit) → Contains boxes w → IsOnWay d v w
  pub all : (w : Visit) → IsOnWay d v w → Contains boxes w
  pub sum : spans_in d v ≡ sum_by (λ w. length w.list) boxes

abbrev pub BoxesAreCountedOnce : Type 0
BoxesAreCountedOnce = (d : Descent) (v : Visit) → 0 < d.leaf → IsBox v.box → CountsBoxesOnce d v

-- What the halves of a box are: parts of it, each a box, with shorter sides where the box is long.
-- A sample of the box lies in exactly one of them, which is the half with that sample.
pub record HalvesAreParts : Type 0 where
  pub has : (b : Indices) (s : Sample) → LiesIn b s → has_sample s.i s.j s.k b ≡ true
  pub told : (b : Indices) (s : Sample) → has_sample s.i s.j s.k b ≡ true → LiesIn b s
  pub all : (leaf : ℕ) (b : Indices) → 0 < leaf → IsBox b → All (IsPart leaf b) (halves_of leaf b)
  pub box : (leaf : ℕ) (b part : Indices) → IsPart leaf b part → IsBox part
  pub shorter : (leaf : ℕ) (b part : Indices) → is_long leaf b ≡ true → IsPart leaf b part
      → sides part < sides b
  pub lies : (leaf : ℕ) (b part : Indices) (s : Sample) → IsPart leaf b part → LiesIn part s
      → LiesIn b s
  pub among : (leaf : ℕ) (b : Indices) (s : Sample) → LiesIn b s
      → Contains (halves_of leaf b) (half_with leaf b s) × LiesIn (half_with leaf b s) s
  pub only : (leaf : ℕ) (b half : Indices) (s : Sample) → Contains (halves_of leaf b) half
      → LiesIn half s → half_with leaf b s ≡ half
  pub part : (leaf : ℕ) (b : Indices) (s : Sample) → 0 < leaf → IsBox b → LiesIn b s
      → IsPart leaf b (half_with leaf b s) × LiesIn (half_with leaf b s) s

-- How sums over the samples of a box go: they are the sums over its halves, and equal where what is
-- added up is equal; the sum of sums, of one number, and of what only the first sample adds.
pub record SumsAddUp : Type 0 where
  pub halves : (leaf : ℕ) (b : Indices) (f : Sample → ℕ)
      → sum_by (λ h. sum_in h f) (halves_of leaf b) ≡ sum_in b f
  pub same : (b : Indices) (f g : Sample → ℕ) → ((s : Sample) → LiesIn b s → f s ≡ g s)
      → sum_in b f ≡ sum_in b g
  pub plus : (b : Indices) (f g : Sample → ℕ)
      → sum_in b (λ s. f s + g s) ≡ sum_in b f + sum_in b g
  pub const : (b : Indices) (c : ℕ) → sum_in b (λ s. c) ≡ size b * c
  pub first : (b : Indices) (c : ℕ) → IsBox b
      → sum_in b (λ s. if is_first b s then c else 0) ≡ c

-- and sums along one axis
pub record AxesAddUp : Type 0 where
  pub same : (low high : ℕ) (f g : ℕ → ℕ) → ((i : ℕ) → low ≤ i → i < high → f i ≡ g i)
      → sum_along low high f ≡ sum_along low high g
  pub parts : (low mid high : ℕ) (f : ℕ → ℕ) → low ≤ mid → mid ≤ high
      → sum_along low mid f + sum_along mid high f ≡ sum_along low high f
  pub const : (low n c : ℕ) → sum_by (λ i. c) (range_with_len low n) ≡ n * c

-- How the work of those samples adds up that pass a test. The evaluations of a box that is split are
-- those of its halves, and those of another are its cost at each such sample. Over a box its own list
-- is traced where some sample passes, and where it is split, what is traced over its halves. Tests
-- that say the same of each sample of the box take the same work, and where none passes there is
-- none. Where more samples pass there are no fewer evaluations, and all samples take those of the box.
pub record TestedWorkAddsUp : Type 0 where
  pub points : (test : Sample → Bool) (d : Descent) (v : Visit) → 0 < d.leaf → IsBox v.box
      → points_where test d v ≡ (if is_split d v
      then sum_by (λ half. points_where test d (half_visit d v half)) (halves_of d.leaf v.box)
      else sum_in v.box (λ s. if test s then end_cost d v else 0))
  pub spans : (test : Sample → Bool) (d : Descent) (v : Visit) → 0 < d.leaf → IsBox v.box
      → spans_where test d v ≡ (if has_some test v.box then length v.list else 0)
      + (if is_split d v
      then sum_by (λ half. spans_where test d (half_visit d v half)) (halves_of d.leaf v.box) else 0)
  pub points_same : (test other : Sample → Bool) (d : Descent) (v : Visit)
      → ((s : Sample) → LiesIn v.box s → test s ≡ other s)
      → points_where test d v ≡ points_where other d v
  pub spans_same : (test other : Sample → Bool) (d : Descent) (v : Visit) → 0 < d.leaf
      → IsBox v.box → ((s : Sample) → LiesIn v.box s → test s ≡ other s)
      → spans_where test d v ≡ spans_where other d v
  pub points_none : (d : Descent) (v : Visit) → points_where (λ s. false) d v ≡ 0
  pub spans_none : (d : Descent) (v : Visit) → spans_where (λ s. false) d v ≡ 0
  pub points_more : (test more : Sample → Bool) (d : Descent) (v : Visit)
      → ((s : Sample) → LiesIn v.box s → test s ≡ true → more s ≡ true)
      → points_where test d v ≤ points_where more d v
  pub points_all : (d : Descent) (v : Visit) → points_where (λ s. true) d v ≡ points_in d v

-- How the work of a frame adds up that comes after another. From a box that received an equal list in
-- the frame before, nothing is taken. A box that is new takes its own trace; and where it is split, what
-- its halves take beside those of the frame before, which are new as well where that frame did not split
-- the box; and where it is not, its cost at each sample. Without a frame before, all is taken, and never
-- more than that.
pub record RedrawnWorkAddsUp : Type 0 where
  pub old_points : (d : Descent) (v : Visit) → 0 < d.leaf → IsBox v.box
      → points_after d (Some v) v ≡ 0
  pub old_spans : (d : Descent) (v : Visit) → 0 < d.leaf → IsBox v.box
      → spans_after d (Some v) v ≡ 0
  pub points : (d : Descent) (before : Option Visit) (v : Visit) → 0 < d.leaf → IsBox v.box
      → IsNew before v
      → points_after d before v ≡ (if is_split d v then sum_by
      (λ half. points_after d (half_before d before half) (half_visit d v half))
      (halves_of d.leaf v.box) else size v.box * end_cost d v)
  pub spans : (d : Descent) (before : Option Visit) (v : Visit) → 0 < d.leaf → IsBox v.box
      → IsNew before v
      → spans_after d before v ≡ length v.list + (if is_split d v then sum_by
      (λ half. spans_after d (half_before d before half) (half_visit d v half))
      (halves_of d.leaf v.box) else 0)
  pub fresh_points : (d : Descent) (v : Visit) → points_after d None v ≡ points_in d v
  pub fresh_spans : (d : Descent) (v : Visit) → spans_after d None v ≡ spans_in d v
  pub most_points : (d : Descent) (before : Option Visit) (v : Visit)
      → points_after d before v ≤ points_in d v
  pub most_spans : (d : Descent) (before : Option Visit) (v : Visit)
      → spans_after d before v ≤ spans_in d v

-- What a box shows of its samples: its ranges are spans; the list that it hands on can be
-- evaluated, is no longer than the one that it receives, and has the same values; a decision is
-- right; and its halves are such boxes again.
pub record VisitsHold : Type 0 where
  pub ranges : (d : Descent) (v : Visit) → IsVisit d v → AreRanges (region_of d.view d.lattice v.box)
  pub handed : (d : Descent) (v : Visit) → IsVisit d v
      → IsTape (handed_on d v) × (length (handed_on d v) ≤ length v.list)
  pub values : (d : Descent) (v : Visit) (s : Sample) → IsVisit d v → LiesIn v.box s
      → tape_value (sample_point d s) (handed_on d v) ≡ tape_value (sample_point d s) v.list
  pub decided : (d : Descent) (v : Visit) (s : Sample) (inside : Bool) → IsVisit d v
      → LiesIn v.box s → decision d v ≡ Some inside
      → is_inside (tape_value (sample_point d s) v.list) ≡ inside
  pub halves : (d : Descent) (v : Visit) (half : Indices) → 0 < d.leaf → IsVisit d v
      → Contains (halves_of d.leaf v.box) half → IsVisit d (half_visit d v half)

-- How exact work adds up: no work, work after other work, hulls alone, and evaluations alone.
pub record WorkAddsUp : Type 0 where
  pub none : (counts : Counts) → CountsExactly 0 0 counts counts
  pub sum : (before mid after : Counts) (p s q t : ℕ) → CountsExactly p s before mid
      → CountsExactly q t mid after → CountsExactly (p + q) (s + t) before after
  pub hulls : (before after : Counts) (n : ℕ) → CountsHulls n before after
      → CountsExactly 0 n before after
  pub points : (before after : Counts) (n : ℕ) → RisesBy before after (points_of n)
      → CountsExactly n 0 before after

-- And how bounded work does: exact and bounded work are within greater bounds, and bounded work may
-- come after other work.
pub record BoundsAddUp : Type 0 where
  pub none : (counts : Counts) (p s : ℕ) → CountsAtMost p s counts counts
  pub exact : (before after : Counts) (p s q t : ℕ) → p ≤ q → s ≤ t → CountsExactly p s before after
      → CountsAtMost q t before after
  pub more : (before after : Counts) (p s q t : ℕ) → p ≤ q → s ≤ t → CountsAtMost p s before after
      → CountsAtMost q t before after
  pub sum : (before mid after : Counts) (p s q t r u : ℕ) → p + q ≤ r → s + t ≤ u
      → CountsAtMost p s before mid → CountsAtMost q t mid after → CountsAtMost r u before after
  pub after : (before mid after : Counts) (p s q t r u : ℕ) → p + q ≤ r → s + t ≤ u
      → CountsExactly p s before mid → CountsAtMost q t mid after → CountsAtMost r u before after
  pub hulls : (before after : Counts) (n : ℕ) → CountsHulls n before after
      → CountsAtMost 0 n before after
  pub points : (before after : Counts) (n : ℕ) → RisesBy before after (points_of n)
      → CountsAtMost n 0 before after

-- All of these, in one place.
pub record Lawful : Type 0 where
  pub layers : LayersHold
  pub parts : HalvesAreParts
  pub sums : SumsAddUp
  pub axes : AxesAddUp
  pub visits : VisitsHold
  pub chains : ChainsGoOn
  pub ends : EndsGoOn
  pub points : PointsAddUp
  pub spans : SpansAddUp
  pub tested : TestedWorkAddsUp
  pub redrawn : RedrawnWorkAddsUp
  pub work : WorkAddsUp
  pub bounds : BoundsAddUp
  pub tallies : TalliesAddUp
