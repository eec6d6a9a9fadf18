use Rattle.std.proofs.Common.{◌≡◌, drop}
use Rattle.oct_descent.proofs.old_boxes.OldBoxes.give_up.Given as goal

abbrev pub invariant-loop : goal.invariant-loop
invariant-loop l = l.self-inside.places.items ≡ drop l.counter l.initial.self-inside.places.items
