-- Those that wait are lit together, and none waits then.
use Rattle.std.proofs.Common.{length, subst, sym}
use Rattle.std.specs.List.{All}
use Rattle.fixed_ops.specs.Counts.{RisesBy, points_of}
use Rattle.normal_shade.specs.Marks.{shade_at}
use Rattle.normal_shade.specs.TopSamples.{AllButWaiting, HasTop, IsSample, lit_samples, stand_at}
use Rattle.normal_shade.proofs.Lit.{Becomes}
use Rattle.normal_shade.proofs.Waiting.{waits-lit}
use Rattle.normal_shade.proofs.lighting.light_full.Goals as goal

pub light_together-requires-clause-samples : goal.light_together-requires-clause-samples
light_together-requires-clause-samples c = subst (All (IsSample c.args.places.now.view (length c.args.pixels.now))) (sym c.as_slice.ensures.value) c.requires.samples

pub returns-clause-lit : goal.returns-clause-lit
returns-clause-lit c = λ tops columns points old before was.
    let view = c.args.places.now.view in
    let list = c.args.list.now in
    let slice = c.as_slice.ensures.value in
    let lit = c.light_together.ensures.pixels tops (subst (All (HasTop tops)) (sym slice) was.have) in
    subst (λ ws. AllButWaiting view list tops columns points ws old c.light_together.new.pixels before c.light_together.new.tally) (sym c.clear.ensures)
    (waits-lit view list tops old before columns points c.args.waiting.now.items c.args.pixels.now c.light_together.new.pixels c.args.tally.now c.light_together.new.tally
    (subst (λ s. Becomes (stand_at s) (shade_at view list tops) c.args.pixels.now c.light_together.new.pixels) slice lit)
    (subst (λ s. RisesBy c.args.tally.now c.light_together.new.tally (points_of (lit_samples view list s))) slice c.light_together.ensures.counted) was)
