use Rattle.std.proofs.Common.{◌≡◌, ◌++◌, take}
use Rattle.std.specs.List.{flat_map}
use Rattle.raster_pgm.specs.Samples.{two_bytes}
use Rattle.raster_pgm.proofs.samples.push_double.Given as goal

abbrev pub invariant-loop-sample : goal.invariant-loop-sample
invariant-loop-sample l = l.text.items ≡ l.fn.text.items ++ flat_map two_bytes (take l.sample-index l.samples)
