use Rattle.std.proofs.Common.{List, ℕ, take}
use Rattle.std.specs.List.{All}
use Rattle.height_map.specs.Columns.{Changes}
use Rattle.normal_shade.specs.Marks.{shade_at}
use Rattle.normal_shade.specs.TopSamples.{HasTop, stand_at}
use Rattle.normal_shade.proofs.lighting.light_together.Given as goal

abbrev pub invariant-loop-lane : goal.invariant-loop-lane
invariant-loop-lane g l = (tops : List ℕ) → All (HasTop tops) l.samples
    → Changes (stand_at (take l.lane l.samples)) (λ p old. shade_at l.places.view l.list tops p) l.fn.pixels l.pixels
