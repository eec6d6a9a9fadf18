use Rattle.std.proofs.Common.{◌≡◌, ◌+◌, ◌++◌, length}
use Rattle.std.specs.List.{concat}
use Rattle.plane_loops.specs.Contours.{ends_from}
use Rattle.plane_loops.specs.Following.{rest_from, unmarked}
use Rattle.plane_loops.proofs.following.push_loops.Given as goal

abbrev pub invariant-loop-start : goal.invariant-loop-start
invariant-loop-start l = record {
  size : length l.marks ≡ length l.next;
  order : l.order.items ++ concat (rest_from l.next l.marks l.start) ≡ l.initial.order.items ++ concat (rest_from l.next l.initial.marks 0);
  ends : l.ends.items ++ ends_from (length l.order.items) (rest_from l.next l.marks l.start) ≡ l.initial.ends.items ++ ends_from (length l.initial.order.items) (rest_from l.next l.initial.marks 0);
  count : length l.order.items + unmarked l.marks ≡ length l.next;
}
