-- One more top sample waits, and then those that wait may be lit.
use Rattle.std.proofs.Common.{[], ◌∷◌, length, subst, sym}
use Rattle.std.specs.Prelude.{◌+◌, ◌==◌, ◌||◌}
use Rattle.std.specs.List.{All}
use Rattle.std.proofs.lemmas.List.Elements.{All-append, All-cons, All-nil}
use Rattle.normal_shade.specs.DualWork.{dual_points}
use Rattle.normal_shade.specs.TopSamples.{AllButWaiting, IsSample, point_at}
use Rattle.normal_shade.proofs.Waiting.{waits-more}
use Rattle.normal_shade.proofs.lighting.light_soon.Goals as goal

pub light_full-requires-clause-samples : goal.light_full-requires-clause-samples
light_full-requires-clause-samples c =
    let P = IsSample c.args.places.now.view (length c.args.pixels.now) in
    subst (All P) (sym c.push.ensures.items)
    (All-append P c.args.waiting.now.items (c.args.sample ∷ []) c.requires.samples (All-cons P c.args.sample [] c.requires.sample (All-nil P)))

pub returns-clause-lit : goal.returns-clause-lit
returns-clause-lit c = λ tops columns points old before top was.
    let view = c.args.places.now.view in
    let list = c.args.list.now in
    let sample = c.args.sample in
    c.light_full.ensures.lit tops (λ p. columns p || p == sample.place) (points + dual_points (point_at view sample) list) old before
    (subst (λ ws. AllButWaiting view list tops (λ p. columns p || p == sample.place) (points + dual_points (point_at view sample) list) ws old c.args.pixels.now before c.args.tally.now) (sym c.push.ensures.items)
    (waits-more view list tops old before columns points c.args.waiting.now.items sample c.args.pixels.now c.args.tally.now top was))
