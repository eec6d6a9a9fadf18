-- One place more.
use Rattle.std.proofs.Common.{◌≡◌, ◌≢◌, ◌<◌, ◌∙◌, ap, length, length-set, w64, to_z, of_z, arith, below_more, get_or-set_other, get_or-set_same}
use Rattle.std.proofs.lemmas.Int.{ints}
use Rattle.view_places.specs.Samples.{place_on}
use Rattle.view_places.specs.declared.axis_samples.AxisSamples.{AxisSamples}
use Rattle.tetra_mesh.proofs.PointLaws.{few_points}
use Rattle.tetra_mesh.proofs.grid_places.table.Goals as goal

pub bounds-places-i : goal.bounds-places-i
bounds-places-i c =
    let steps = ap (λ (s : AxisSamples). s.steps) c.samples_along-samples.ensures.samples in
    let few = few_points c.args.view.now c.args.axis c.grid-size.ensures.window in
    omega (arith, c.loop-i-test.true, steps, few)

pub loop-i-preserved : goal.loop-i-preserved
loop-i-preserved c =
    let same : to_z w64 (of_z w64 c.place.result) ≡ c.place.result = omega (arith, ints, c.place.ensures.raw) in
    let place = c.place.ensures.place ∙ ap (λ s. place_on s c.loop-i.i) c.samples_along-samples.ensures.samples in
    let steps = ap (λ (s : AxisSamples). s.steps) c.samples_along-samples.ensures.samples in
    let few = few_points c.args.view.now c.args.axis c.grid-size.ensures.window in
    let lt : c.loop-i.i < length c.loop-i.places = omega (arith, c.loop-i.invariant.0, c.loop-i-test.true, steps, few) in (
      length-set c.loop-i.places c.loop-i.i _ ∙ c.loop-i.invariant.0,
      below_more _ _
          (λ k h. let ne : k ≢ c.loop-i.i = omega arith in rw get_or-set_other (c.loop-i.invariant.1 k h))
          (rw (get_or-set_same, same) (record { is = place; raw = c.place.ensures.raw })),
    )

pub returns : goal.returns
returns c =
    let steps = ap (λ (s : AxisSamples). s.steps) c.samples_along-samples.ensures.samples in
    let few = few_points c.args.view.now c.args.axis c.grid-size.ensures.window in
    record {
      few = few;
      holds = λ i within. c.loop-i.invariant.1 i (omega (arith, within, c.loop-i-test.false, steps));
    }
