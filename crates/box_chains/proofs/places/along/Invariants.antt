use Rattle.std.proofs.Common.{◌≡◌, map}
use Rattle.std.specs.List.{range_with_len}
use Rattle.view_places.specs.Samples.{place_on}
use Rattle.box_chains.proofs.places.along.Given as goal

abbrev pub invariant-loop-i : goal.invariant-loop-i
invariant-loop-i l = l.places.items ≡ map (place_on l.samples) (range_with_len 0 l.i)
