use Rattle.std.proofs.Common.{◌≡◌, ◌<◌, ◌+◌, ◌++◌, length}
use Rattle.plane_loops.specs.Following.{mark_all, unmarked, walk}
use Rattle.plane_loops.proofs.following.push_loop.Given as goal

abbrev pub invariant-loop-marks : goal.invariant-loop-marks
invariant-loop-marks l = record {
  within : l.at < length l.next;
  size : length l.marks ≡ length l.next;
  order : l.order.items ++ walk (unmarked l.marks) l.next l.marks l.at ≡ l.initial.order.items ++ walk (unmarked l.initial.marks) l.next l.initial.marks l.start;
  marks : mark_all l.marks (walk (unmarked l.marks) l.next l.marks l.at) ≡ mark_all l.initial.marks (walk (unmarked l.initial.marks) l.next l.initial.marks l.start);
  count : length l.order.items + unmarked l.marks ≡ length l.initial.order.items + unmarked l.initial.marks;
}

abbrev pub decreases-loop-marks : goal.decreases-loop-marks
decreases-loop-marks l = unmarked l.marks
