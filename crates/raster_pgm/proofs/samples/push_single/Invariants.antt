use Rattle.std.proofs.Common.{◌≡◌, ◌++◌, take}
use Rattle.std.specs.List.{flat_map}
use Rattle.raster_pgm.specs.Samples.{one_byte}
use Rattle.raster_pgm.proofs.samples.push_single.Given as goal

abbrev pub invariant-loop-sample : goal.invariant-loop-sample
invariant-loop-sample l = l.text.items ≡ l.fn.text.items ++ flat_map one_byte (take l.sample-index l.samples)
