use Rattle.std.proofs.Common.{length, take, ap, arith, subst, sym, ◌∙◌}
use Rattle.std.specs.List.{All}
use Rattle.std.proofs.lemmas.List.{length-drop}
use Rattle.std.proofs.lemmas.List.Elements.{All-drop, All-take}
use Rattle.box_chains.proofs.Lanes.{rest-is}
use Rattle.fixed_ops.proofs.CountLaws.{tallies_add_up_is}
use Rattle.fixed_ops.specs.Counts.{RisesBy, points_of}
use Rattle.normal_shade.specs.Marks.{shade_at}
use Rattle.normal_shade.specs.TopSamples.{HasTop, lit_samples, stand_at}
use Rattle.normal_shade.proofs.Lit.{Becomes}
use Rattle.normal_shade.proofs.TopSamples.{samples-counted, samples-lit}
use Rattle.normal_shade.proofs.lighting.light_samples.Goals as goal

pub loop-at-preserved : goal.loop-at-preserved
loop-at-preserved c =
    let samples = c.args.samples.now in
    let at = c.loop-at.at in
    let more = c.light_some-at.result in
    let view = c.args.places.now.view in
    let list = c.args.list.now in
    let was = c.loop-at.invariant in
    let rest = rest-is samples at in
    record {
      within = omega (arith, was.within, c.light_some-at.ensures.few, ap length rest, length-drop at samples);
      room = c.light_some-at.ensures.room ∙ was.room;
      same = c.light_some-at.auto.pixels ∙ was.same;
      pixels = λ tops have.
          samples-lit samples at more (shade_at view list tops) c.args.pixels.now c.loop-at.pixels c.light_some-at.new.pixels (was.pixels tops have)
          (subst (λ l. Becomes (stand_at (take more l)) (shade_at view list tops) c.loop-at.pixels c.light_some-at.new.pixels) rest
          (c.light_some-at.ensures.pixels tops
          (All-take (HasTop tops) more _ (subst (All (HasTop tops)) (sym rest) (All-drop (HasTop tops) at samples have)))));
      counted = samples-counted tallies_add_up_is view list samples at more c.args.tally.now c.loop-at.tally c.light_some-at.new.tally was.counted
          (subst (λ l. RisesBy c.loop-at.tally c.light_some-at.new.tally (points_of (lit_samples view list (take more l)))) rest c.light_some-at.ensures.counted);
    }
