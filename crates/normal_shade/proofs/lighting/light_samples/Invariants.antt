use Rattle.std.proofs.Common.{◌≡◌, ◌-◌, ◌≤◌, List, ℕ, length, take}
use Rattle.std.specs.List.{All}
use Rattle.fixed_ops.specs.Counts.{RisesBy, points_of}
use Rattle.height_map.specs.Columns.{Changes}
use Rattle.normal_shade.specs.Marks.{shade_at}
use Rattle.normal_shade.specs.TopSamples.{HasTop, lit_samples, stand_at}
use Rattle.normal_shade.proofs.lighting.light_samples.Given as goal

abbrev pub invariant-loop-at : goal.invariant-loop-at
invariant-loop-at l = record {
  within : l.at ≤ length l.samples;
  room : l.scratch ≡ l.fn.scratch;
  same : length l.pixels ≡ length l.fn.pixels;
  pixels : (tops : List ℕ) → All (HasTop tops) l.samples
      → Changes (stand_at (take l.at l.samples)) (λ p old. shade_at l.places.view l.list tops p) l.fn.pixels l.pixels;
  counted : RisesBy l.fn.tally l.tally (points_of (lit_samples l.places.view l.list (take l.at l.samples)));
}

abbrev pub decreases-loop-at : goal.decreases-loop-at
decreases-loop-at l = length l.samples - l.at
