use Rattle.std.proofs.Common.{◌<◌, length, ap, arith, refl, rules, subst, sym, ◌∙◌}
use Rattle.std.proofs.lemmas.List.{get_or_read}
use Rattle.std.proofs.lemmas.List.Elements.{All-get_or}
use Rattle.choice_trace.specs.Lanes.{point_in}
use Rattle.fixed_ops.specs.Counts.{RisesBy, points_of}
use Rattle.fixed_ops.specs.Slopes.{flat}
use Rattle.live_clauses.specs.Meanings.{sloped_at, tape_meaning}
use Rattle.normal_shade.specs.Marks.{shade_at}
use Rattle.normal_shade.specs.Shades.{lit}
use Rattle.normal_shade.specs.TopSamples.{HasTop, IsSample, nth}
use Rattle.normal_shade.specs.declared.top_sample.TopSample.{TopSample}
use Rattle.normal_shade.proofs.TopSamples.{lane-lit, lanes-lit, sample-light}
use Rattle.normal_shade.proofs.lighting.light_together.Goals as goal

pub loop-lane-preserved : goal.loop-lane-preserved
loop-lane-preserved g c = λ tops have.
    let view = c.args.places.now.view in
    let list = c.args.list.now in
    let samples = c.args.samples.now in
    let lane = c.loop-lane.lane in
    let sample = nth samples lane in
    let none : TopSample = record { i = 0; j = 0; k = 0; place = 0 } in
    let within : lane < length samples = omega (arith, c.loop-lane-test.true, c.requires.many) in
    let is : IsSample view (length c.args.pixels.now) sample = All-get_or (IsSample view (length c.args.pixels.now)) samples lane none within c.requires.samples in
    let top : HasTop tops sample = All-get_or (HasTop tops) samples lane none within have in
    let told = get_or_read c.gradient_lanes-duals.result lane c.index-duals-lane.result (search rules) c.index-duals-lane.is flat
    ∙ c.gradient_lanes-duals.ensures.duals lane c.loop-lane-test.true
    ∙ ap (λ p. tape_meaning (sloped_at p) list) (c.gather-inputs.ensures lane c.loop-lane-test.true) in
    lane-lit samples lane sample.place c.light.result (shade_at view list tops) c.args.pixels.now c.loop-lane.pixels within refl (omega (arith, is.there, c.loop-lane.auto.pixels))
    (c.light.ensures ∙ ap lit (c.dual.view_is ∙ sym c.index-duals-lane.is) ∙ sample-light view list tops (length c.args.pixels.now) sample c.index-duals-lane.result is top told) (c.loop-lane.invariant tops have)

pub returns-clause-counted : goal.returns-clause-counted
returns-clause-counted g c =
    subst (λ n. RisesBy c.args.tally.now c.gradient_lanes-duals.new.tally (points_of n))
    (lanes-lit c.args.places.now.view c.args.list.now c.args.samples.now _ (λ lane. point_in lane c.gather-inputs.result) c.requires.many c.gather-inputs.ensures) c.gradient_lanes-duals.ensures.counted
