-- The coordinates stand before the steps of the solid.
use Rattle.std.proofs.Common.{refl}
use Rattle.solid_lang.specs.Compiled.{coordinates, first_axes}
use Rattle.solid_lang.specs.Solids.{tree}
use Rattle.solid_lang.proofs.Joining.{before_solid}
use Rattle.solid_lang.proofs.compiler.put_all.Goals as goal

pub returns : goal.returns
returns g c =
    before_solid g.S.StepSink.grows g.met.S.StepSink.adds_up (tree c.args.solid.now) 0 3 c.in_ok-place.place c.first_axes.result first_axes c.coordinates.result coordinates _ _ _ refl c.coordinates.ensures c.first_axes.ensures c.in_ok-place.ensures.grows c.in_ok-place.ensures.end c.in_ok-put_solid.ensures.grows
