use Rattle.std.proofs.Common.{◌≡◌, ◌≤◌, length, map, take}
use Rattle.live_clauses.specs.Packed.{unpacked}
use Rattle.live_clauses.specs.Steps.{steps_of}
use Rattle.live_clauses.proofs.roots.pack_clauses.Given as goal

abbrev pub invariant-loop-at : goal.invariant-loop-at
invariant-loop-at l = record {
  kept : map (unpacked l.constants.items) l.steps.items ≡ steps_of (take l.at l.model);
  table : length l.constants.items ≤ length l.steps.items;
  many : length l.steps.items ≡ l.at;
}
