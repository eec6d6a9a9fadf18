use Rattle.std.proofs.Common.{◌≡◌, ◌++◌, drop, take}
use Rattle.oct_descent.proofs.old_boxes.OldBoxes.move_to.Given as goal

abbrev pub invariant-loop : goal.invariant-loop
invariant-loop l = record {
  left : l.self-inside.places.items ≡ drop l.counter l.initial.self-inside.places.items;
  moved : l.kept.items ≡ l.initial.kept.items ++ take l.counter l.initial.self-inside.places.items;
}
