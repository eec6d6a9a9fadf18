use Rattle.std.proofs.Common.{refl, sym, subst}
use Rattle.modeller_cmd.specs.Endings.{IsHalt}
use Rattle.modeller_cmd.specs.Halting.{HaltsAt}
use Rattle.modeller_cmd.specs.Replays.{replayed}
use Rattle.modeller_cmd.specs.Writing.{Halted}
use Rattle.modeller_cmd.specs.declared.stop.Stop.TheVariants.{WriteFault}
use Rattle.modeller_cmd.proofs.Waiting.{Passed, halted-at, halts-at-is, halts-next, halts-waiting, passed-all, passed-none, passed-played, passed-sent}
use Rattle.modeller_cmd.proofs.Writing.{ends-with}
use Rattle.modeller_cmd.proofs.replay.play_commands.Goals as goal

pub loop-command-init : goal.loop-command-init
loop-command-init g c =
    subst (Passed g.K.Sink.held g.K.Sink.faults c.args.out.now c.args.out.now c.args.tally.now c.args.tally.now c.args.session.now c.args.session.now c.args.commands c.args.commands) (sym c.requires)
    (passed-none g.K.Sink.held g.K.Sink.faults c.args.out.now c.args.tally.now c.args.session.now c.args.commands)

pub loop-command-preserved : goal.loop-command-preserved
loop-command-preserved g c =
    passed-played g.K.Sink.held g.K.Sink.faults c.args.out.now c.args.tally.now c.args.session.now c.args.commands c.make_way.new.out c.step.new.out c.loop-command.tally c.step.new.tally c.loop-command.session c.loop-command.commands c.make_way.new.lines
    (passed-sent g.K.Sink.held g.K.Sink.faults c.args.out.now c.args.tally.now c.args.session.now c.args.commands c.loop-command.out c.make_way.new.out c.loop-command.tally c.loop-command.tally c.loop-command.session c.loop-command.commands c.loop-command.lines c.loop-command.invariant c.make_way.new.lines c.in_ok-make_way.ensures.sent) c.step.new.session c.in-Some.command c.next.new.self c.step.new.lines
    c.in-Some.ensures.next c.in_ok-step.ensures.stands c.in_ok-step.ensures.played

pub returns-in_err-make_way-clause-ends : goal.returns-in_err-make_way-clause-ends
returns-in_err-make_way-clause-ends g c =
    ends-with c.from_residual.result WriteFault (HaltsAt g.K.Sink.held g.K.Sink.faults c.args.out.now c.make_way.new.out c.args.tally.now c.loop-command.tally c.args.session.now c.args.commands)
    c.from_residual.ensures.1
    (halts-waiting g.K.Sink.held g.K.Sink.faults c.args.out.now c.args.tally.now c.args.session.now c.args.commands c.loop-command.out c.make_way.new.out c.loop-command.tally c.loop-command.tally c.loop-command.session c.loop-command.commands c.loop-command.lines c.loop-command.invariant c.in_err-make_way.ensures.failed refl)

pub returns-in_err-make_way-clause-halted : goal.returns-in_err-make_way-clause-halted
returns-in_err-make_way-clause-halted g c =
    ends-with c.from_residual.result WriteFault (Halted g.K.Sink.held g.K.Sink.faults c.args.out.now c.make_way.new.out c.args.tally.now c.loop-command.tally (replayed c.args.session.now c.args.commands))
    c.from_residual.ensures.1
    (halted-at g.K.Sink.held g.K.Sink.faults c.args.out.now c.make_way.new.out c.args.tally.now c.loop-command.tally c.args.session.now c.args.commands WriteFault
    (halts-waiting g.K.Sink.held g.K.Sink.faults c.args.out.now c.args.tally.now c.args.session.now c.args.commands c.loop-command.out c.make_way.new.out c.loop-command.tally c.loop-command.tally c.loop-command.session c.loop-command.commands c.loop-command.lines c.loop-command.invariant c.in_err-make_way.ensures.failed refl))

pub returns-in_err-make_way-clause-stop : goal.returns-in_err-make_way-clause-stop
returns-in_err-make_way-clause-stop g c =
    ends-with c.from_residual.result WriteFault IsHalt c.from_residual.ensures.1
    tt

pub returns-in_err-step-clause-ends : goal.returns-in_err-step-clause-ends
returns-in_err-step-clause-ends g c =
    ends-with c.from_residual-in_err-step.result c.in_err-step.field-0.0 (HaltsAt g.K.Sink.held g.K.Sink.faults c.args.out.now c.step.new.out c.args.tally.now c.step.new.tally c.args.session.now c.args.commands)
    c.from_residual-in_err-step.ensures.1
    (halts-next g.K.Sink.held g.K.Sink.faults c.args.out.now c.args.tally.now c.args.session.now c.args.commands c.make_way.new.out c.step.new.out c.loop-command.tally c.step.new.tally c.loop-command.session c.loop-command.commands c.make_way.new.lines (passed-sent g.K.Sink.held g.K.Sink.faults c.args.out.now c.args.tally.now c.args.session.now c.args.commands c.loop-command.out c.make_way.new.out c.loop-command.tally c.loop-command.tally c.loop-command.session c.loop-command.commands c.loop-command.lines c.loop-command.invariant c.make_way.new.lines c.in_ok-make_way.ensures.sent) c.in-Some.command c.next.new.self c.in_err-step.field-0.0 c.in-Some.ensures.next c.in_err-step.ensures.halted)

pub returns-in_err-step-clause-halted : goal.returns-in_err-step-clause-halted
returns-in_err-step-clause-halted g c =
    ends-with c.from_residual-in_err-step.result c.in_err-step.field-0.0 (Halted g.K.Sink.held g.K.Sink.faults c.args.out.now c.step.new.out c.args.tally.now c.step.new.tally (replayed c.args.session.now c.args.commands))
    c.from_residual-in_err-step.ensures.1
    (halted-at g.K.Sink.held g.K.Sink.faults c.args.out.now c.step.new.out c.args.tally.now c.step.new.tally c.args.session.now c.args.commands c.in_err-step.field-0.0
    (halts-next g.K.Sink.held g.K.Sink.faults c.args.out.now c.args.tally.now c.args.session.now c.args.commands c.make_way.new.out c.step.new.out c.loop-command.tally c.step.new.tally c.loop-command.session c.loop-command.commands c.make_way.new.lines (passed-sent g.K.Sink.held g.K.Sink.faults c.args.out.now c.args.tally.now c.args.session.now c.args.commands c.loop-command.out c.make_way.new.out c.loop-command.tally c.loop-command.tally c.loop-command.session c.loop-command.commands c.loop-command.lines c.loop-command.invariant c.make_way.new.lines c.in_ok-make_way.ensures.sent) c.in-Some.command c.next.new.self c.in_err-step.field-0.0 c.in-Some.ensures.next c.in_err-step.ensures.halted))

pub returns-in_err-step-clause-stop : goal.returns-in_err-step-clause-stop
returns-in_err-step-clause-stop g c =
    ends-with c.from_residual-in_err-step.result c.in_err-step.field-0.0 IsHalt c.from_residual-in_err-step.ensures.1
    (halts-at-is g.K.Sink.held g.K.Sink.faults c.args.out.now c.step.new.out c.args.tally.now c.step.new.tally c.args.session.now c.args.commands c.in_err-step.field-0.0
    (halts-next g.K.Sink.held g.K.Sink.faults c.args.out.now c.args.tally.now c.args.session.now c.args.commands c.make_way.new.out c.step.new.out c.loop-command.tally c.step.new.tally c.loop-command.session c.loop-command.commands c.make_way.new.lines (passed-sent g.K.Sink.held g.K.Sink.faults c.args.out.now c.args.tally.now c.args.session.now c.args.commands c.loop-command.out c.make_way.new.out c.loop-command.tally c.loop-command.tally c.loop-command.session c.loop-command.commands c.loop-command.lines c.loop-command.invariant c.make_way.new.lines c.in_ok-make_way.ensures.sent) c.in-Some.command c.next.new.self c.in_err-step.field-0.0 c.in-Some.ensures.next c.in_err-step.ensures.halted))

pub returns-in_err-write-clause-ends : goal.returns-in_err-write-clause-ends
returns-in_err-write-clause-ends g c =
    ends-with c.from_residual-in_err-write.result WriteFault (HaltsAt g.K.Sink.held g.K.Sink.faults c.args.out.now c.write.new.out c.args.tally.now c.loop-command.tally c.args.session.now c.args.commands)
    c.from_residual-in_err-write.ensures.1
    (halts-waiting g.K.Sink.held g.K.Sink.faults c.args.out.now c.args.tally.now c.args.session.now c.args.commands c.loop-command.out c.write.new.out c.loop-command.tally c.loop-command.tally c.loop-command.session c.loop-command.commands c.loop-command.lines c.loop-command.invariant c.in_err-write.ensures.failed refl)

pub returns-in_err-write-clause-halted : goal.returns-in_err-write-clause-halted
returns-in_err-write-clause-halted g c =
    ends-with c.from_residual-in_err-write.result WriteFault (Halted g.K.Sink.held g.K.Sink.faults c.args.out.now c.write.new.out c.args.tally.now c.loop-command.tally (replayed c.args.session.now c.args.commands))
    c.from_residual-in_err-write.ensures.1
    (halted-at g.K.Sink.held g.K.Sink.faults c.args.out.now c.write.new.out c.args.tally.now c.loop-command.tally c.args.session.now c.args.commands WriteFault
    (halts-waiting g.K.Sink.held g.K.Sink.faults c.args.out.now c.args.tally.now c.args.session.now c.args.commands c.loop-command.out c.write.new.out c.loop-command.tally c.loop-command.tally c.loop-command.session c.loop-command.commands c.loop-command.lines c.loop-command.invariant c.in_err-write.ensures.failed refl))

pub returns-in_err-write-clause-stop : goal.returns-in_err-write-clause-stop
returns-in_err-write-clause-stop g c =
    ends-with c.from_residual-in_err-write.result WriteFault IsHalt c.from_residual-in_err-write.ensures.1
    tt

pub returns-clause-written : goal.returns-clause-written
returns-clause-written g c =
    passed-all g.K.Sink.held g.K.Sink.faults c.args.out.now c.args.tally.now c.args.session.now c.args.commands c.loop-command.out c.write.new.out c.loop-command.tally c.loop-command.tally c.loop-command.session c.loop-command.commands c.loop-command.lines c.loop-command.invariant c.in_default.ensures.next.0 c.in_ok-write.ensures.sent c.in_ok-write.ensures.no_fault
