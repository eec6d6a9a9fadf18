-- One text more.
use Rattle.std.proofs.Common.{◌≡◌, [], ◌∷◌, ◌∙◌, ap, arith, length, length-append, of_z, subst, to_z, w64}
use Rattle.std.proofs.lemmas.Int.{ints}
use Rattle.fixed_ops.specs.NumberTexts.{number_text}
use Rattle.view_places.specs.Places.{sample_place}
use Rattle.view_places.specs.Samples.{place_on}
use Rattle.view_places.specs.declared.axis_samples.AxisSamples.{AxisSamples}
use Rattle.view_places.specs.declared.lattice.Lattice.TheVariants.{Grid}
use Rattle.ply_writer.specs.PointTexts.{IsTextOf}
use Rattle.ply_writer.proofs.TextLaws.{texts_more}
use Rattle.ply_writer.proofs.point_texts.texts_along.Goals as goal

pub loop-i-preserved : goal.loop-i-preserved
loop-i-preserved c =
    let inv = c.loop-i.invariant in
    let same : to_z w64 (of_z w64 c.place.result) ≡ c.place.result = omega (arith, ints, c.place.ensures.raw) in
    let place = c.place.ensures.place ∙ ap (λ s. place_on s c.loop-i.i) c.samples_along-samples.ensures.samples in
    let own = subst (λ v. IsTextOf (number_text v) c.new.result) (same ∙ place) c.new.ensures in
    record {
      room = omega (arith, inv.room, ap length c.in_ok-push.ensures.items, length-append c.loop-i.texts.items (c.new.result ∷ []));
      each = texts_more (λ k. number_text (sample_place c.args.view.now Grid c.args.axis k)) c.loop-i.i c.loop-i.texts.items c.push.new.self.items c.new.result inv.room inv.each c.in_ok-push.ensures.items own;
    }

pub returns : goal.returns
returns c =
    let inv = c.loop-i.invariant in
    let steps = ap (λ (s : AxisSamples). s.steps) c.samples_along-samples.ensures.samples in
    record {
      room = omega (arith, inv.room, c.loop-i-test.false, steps);
      each = λ k d within. inv.each k d (omega (arith, within, c.loop-i-test.false, steps));
    }
