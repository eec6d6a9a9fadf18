use Rattle.std.proofs.Common.{◌≡◌, length, map, take}
use Rattle.view_places.specs.Spans.{region_of}
use Rattle.box_chains.proofs.rows.regions_of.Given as goal

abbrev pub invariant-loop-l : goal.invariant-loop-l
invariant-loop-l g l = record {
  count : length l.regions ≡ g.row.L;
  done : take l.l l.regions ≡ map (λ a. region_of l.places.view l.places.lattice a.range) (take l.l l.asked);
}
