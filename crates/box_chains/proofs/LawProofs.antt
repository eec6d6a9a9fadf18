-- The laws of chains, from those of the layers below.
use Rattle.std.proofs.Common.{◌≡◌, ◌+◌, ◌*◌, Bool, true, false, cond, [], ◌∷◌, length, refl, sym, ap, ◌∙◌, arith}
use Rattle.std.specs.List.{sum_by}
use Rattle.fixed_ops.specs.Laws.{TalliesAddUp}
use Rattle.fixed_ops.specs.Raw.{is_inside}
use Rattle.view_places.specs.Boxes.{halves_of}
use Rattle.view_places.specs.Laws.{HalvesPart}
use Rattle.box_chains.proofs.HalfLaws.{half_with-among, half_with-is, half_with-part, halves-are_parts, has-lies, lies-has, part-is_box, part-is_shorter, part-lies}
use Rattle.box_chains.proofs.SumLaws.{along-parts, along-same, sum_in-const, sum_in-first, sum_in-halves, sum_in-plus, sum_in-same, upto-const}
use Rattle.box_chains.proofs.TallyLaws.{exactly-hulls, exactly-none, exactly-points, exactly-then, most-after, most-exactly, most-hulls, most-more, most-none, most-points, most-then}
use Rattle.box_chains.proofs.ChainLaws.{chain-ends, chain-goes_on, end-ends, end-goes_on, points-end, points-split, spans-end, spans-split}
use Rattle.box_chains.specs.Chains.{chain, chain_end, half_visit, is_split, next_visit}
use Rattle.box_chains.specs.Counts.{end_cost, points_in, spans_in}
use Rattle.box_chains.specs.Laws.{AxesAddUp, BoundsAddUp, ChainsGoOn, EndsGoOn, HalvesAreParts, Lawful, LayersHold, PointsAddUp, PointsAreBounded, SamplesAreTold, SpansAddUp, SpansAreBounded, SumsAddUp, VisitsHold, WorkAddsUp}
use Rattle.box_chains.specs.Sums.{size}
use Rattle.box_chains.proofs.RedrawnLaws.{redrawn_work_adds_up_is}
use Rattle.box_chains.proofs.TestedLaws.{tested_work_adds_up_is}
use Rattle.box_chains.proofs.ValueLaws.{decision-right, handed-is, handed-value, region-is}
use Rattle.box_chains.proofs.WorkLaws.{end-is, half-is_visit, points-below, spans-below}

pub chains_go_on_is : LayersHold → ChainsGoOn
chains_go_on_is laws d v s some is lies = by (is_split d v) refl
  where
    by : (t : Bool) → is_split d v ≡ t → chain d v s ≡ v ∷ cond t (chain d (next_visit d v s) s) []
    by false e = chain-ends d v s is e
    by true e = chain-goes_on d v s some is lies laws.halves e

ends_go_on_is : LayersHold → EndsGoOn
ends_go_on_is laws d v s some is lies = by (is_split d v) refl
  where
    by : (t : Bool) → is_split d v ≡ t
        → chain_end d v s ≡ cond t (chain_end d (next_visit d v s) s) v
    by false e = end-ends d v s is e
    by true e = end-goes_on d v s some is lies laws.halves e

pub points_add_up_is : LayersHold → PointsAddUp
points_add_up_is laws d v some is = by (is_split d v) refl
  where
    by : (t : Bool) → is_split d v ≡ t
        → points_in d v
        ≡ cond t (sum_by (λ half. points_in d (half_visit d v half)) (halves_of d.leaf v.box))
        (size v.box * end_cost d v)
    by false e = points-end d v is e
    by true e = points-split d v some is laws.halves e

pub spans_add_up_is : LayersHold → SpansAddUp
spans_add_up_is laws d v some is = by (is_split d v) refl
  where
    by : (t : Bool) → is_split d v ≡ t
        → spans_in d v
        ≡ length v.list
        + cond t (sum_by (λ half. spans_in d (half_visit d v half)) (halves_of d.leaf v.box)) 0
    by false e = omega (arith, spans-end d v is e)
    by true e = spans-split d v some is laws.halves e

pub points_are_bounded_is : LayersHold → PointsAreBounded
points_are_bounded_is laws d v some is = points-below laws d v some is

pub spans_are_bounded_is : LayersHold → SpansAreBounded
spans_are_bounded_is laws d v some is = spans-below laws d v some is

pub samples_are_told_is : LayersHold → SamplesAreTold
samples_are_told_is laws d v s some is lies =
    let end = end-is laws d v s some is lies in
    record {
      decided = λ inside e. ap is_inside (sym end.value)
          ∙ decision-right laws d (chain_end d v s) s inside end.visit end.lies e;
      handed = λ e. handed-value laws d (chain_end d v s) s end.visit end.lies ∙ end.value;
    }

halves_are_parts_is : HalvesPart → HalvesAreParts
halves_are_parts_is law = record {
  has = lies-has;
  told = has-lies;
  all = halves-are_parts;
  box = part-is_box;
  shorter = part-is_shorter;
  lies = part-lies;
  among = half_with-among law;
  only = half_with-is law;
  part = half_with-part law;
}

sums_add_up_is : SumsAddUp
sums_add_up_is = record {
  halves = sum_in-halves;
  same = sum_in-same;
  plus = sum_in-plus;
  const = sum_in-const;
  first = sum_in-first;
}

axes_add_up_is : AxesAddUp
axes_add_up_is = record { same = along-same; parts = along-parts; const = upto-const }

visits_hold_is : LayersHold → VisitsHold
visits_hold_is laws = record {
  ranges = region-is laws;
  handed = handed-is laws;
  values = handed-value laws;
  decided = decision-right laws;
  halves = half-is_visit laws;
}

work_adds_up_is : TalliesAddUp → WorkAddsUp
work_adds_up_is tallies = record {
  none = exactly-none tallies;
  sum = exactly-then tallies;
  hulls = exactly-hulls;
  points = exactly-points;
}

bounds_add_up_is : TalliesAddUp → BoundsAddUp
bounds_add_up_is tallies = record {
  none = most-none tallies;
  exact = most-exactly;
  more = most-more;
  sum = most-then tallies;
  after = most-after tallies;
  hulls = most-hulls;
  points = most-points;
}

-- all laws, from those of the layers below
pub lawful : TalliesAddUp → LayersHold → Lawful
lawful tallies laws = record {
  layers = laws;
  parts = halves_are_parts_is laws.halves;
  sums = sums_add_up_is;
  axes = axes_add_up_is;
  visits = visits_hold_is laws;
  chains = chains_go_on_is laws;
  ends = ends_go_on_is laws;
  points = points_add_up_is laws;
  spans = spans_add_up_is laws;
  tested = tested_work_adds_up_is laws;
  redrawn = redrawn_work_adds_up_is laws;
  work = work_adds_up_is tallies;
  bounds = bounds_add_up_is tallies;
  tallies = tallies;
}
