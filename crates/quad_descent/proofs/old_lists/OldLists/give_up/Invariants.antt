use Rattle.std.proofs.Common.{◌≡◌, drop}
use Rattle.quad_descent.proofs.old_lists.OldLists.give_up.Given as goal

abbrev pub invariant-loop : goal.invariant-loop
invariant-loop l = l.self-inside.lists.items ≡ drop l.counter l.initial.self-inside.lists.items
