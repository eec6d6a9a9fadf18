-- The commands so far were replayed, the session is the one that stands after them, and what the last of them write
-- waits.
use Rattle.std.proofs.Common.{length}
use Rattle.modeller_cmd.proofs.Waiting.{Passed}
use Rattle.modeller_cmd.proofs.replay.play_commands.Given as goal

abbrev pub invariant-loop-command : goal.invariant-loop-command
invariant-loop-command g l = Passed g.K.Sink.held g.K.Sink.faults l.fn.out l.out l.fn.tally l.tally l.fn.session l.session l.fn.commands l.commands l.lines

abbrev pub decreases-loop-command : goal.decreases-loop-command
decreases-loop-command g l = length l.commands
