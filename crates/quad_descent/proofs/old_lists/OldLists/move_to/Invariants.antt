use Rattle.std.proofs.Common.{◌≡◌, ◌++◌, drop, take}
use Rattle.quad_descent.proofs.old_lists.OldLists.move_to.Given as goal

abbrev pub invariant-loop : goal.invariant-loop
invariant-loop l = record {
  left : l.self-inside.lists.items ≡ drop l.counter l.initial.self-inside.lists.items;
  moved : l.kept.items ≡ l.initial.kept.items ++ take l.counter l.initial.self-inside.lists.items;
}
