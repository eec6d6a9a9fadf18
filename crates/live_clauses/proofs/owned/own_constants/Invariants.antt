use Rattle.std.proofs.Common.{◌≡◌, ◌≤◌, drop, length, map, take}
use Rattle.live_clauses.specs.Packed.{unpacked}
use Rattle.live_clauses.proofs.owned.own_constants.Given as goal

-- the steps before a place have their numbers in the new table, and those behind it in the old one
abbrev pub invariant-loop-at : goal.invariant-loop-at
invariant-loop-at l = record {
  front : map (unpacked l.constants.items) (take l.at l.steps) ≡ take l.at (map (unpacked l.table) l.initial.steps);
  behind : drop l.at l.steps ≡ drop l.at l.initial.steps;
  long : length l.steps ≡ length l.initial.steps;
  few : length l.constants.items ≤ l.at;
}
