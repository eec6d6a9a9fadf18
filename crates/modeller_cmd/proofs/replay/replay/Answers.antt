use Rattle.std.proofs.Common.{sym, ap, subst, ◌∙◌}
use Rattle.std.specs.Prelude.{IfErr}
use Rattle.clause_reader.specs.Reading.{text_read}
use Rattle.view_settings.specs.declared.job.Job.TheVariants.{Replay}
use Rattle.modeller_cmd.specs.Output.{made, output_as}
use Rattle.modeller_cmd.specs.Writing.{Halted}
use Rattle.modeller_cmd.specs.Stops.{stop_of_script, stop_of_text}
use Rattle.modeller_cmd.proofs.ReplayLaws.{script-other, text-other}
use Rattle.modeller_cmd.specs.Halting.{HaltsAt, HaltsScript}
use Rattle.modeller_cmd.proofs.Writing.{halted-at-once, ends-with}
use Rattle.modeller_cmd.proofs.Halting.{halts-script, without-script, without-solid}
use Rattle.modeller_cmd.proofs.replay.replay.Goals as goal

pub returns-in_err-model-clause-halted : goal.returns-in_err-model-clause-halted
returns-in_err-model-clause-halted g c =
    let fault = c.in_err-model.field-0.0 in
    ends-with c.from_residual.result (stop_of_text fault)
    (Halted g.K.Sink.held g.K.Sink.faults c.args.out.now c.args.out.now c.args.tally.now c.args.tally.now (output_as (made Replay c.args.input.now)).parts) c.from_residual.ensures.1
    (halted-at-once g.K.Sink.held g.K.Sink.faults c.args.out.now c.args.tally.now (output_as (made Replay c.args.input.now)).parts (stop_of_text fault) (text-other fault.line fault.reason))

pub returns-in_err-commands-clause-halted : goal.returns-in_err-commands-clause-halted
returns-in_err-commands-clause-halted g c =
    let fault = c.in_err-commands.field-0.0 in
    ends-with c.from_residual-in_err-commands.result (stop_of_script fault)
    (Halted g.K.Sink.held g.K.Sink.faults c.args.out.now c.args.out.now c.args.tally.now c.args.tally.now (output_as (made Replay c.args.input.now)).parts) c.from_residual-in_err-commands.ensures.1
    (halted-at-once g.K.Sink.held g.K.Sink.faults c.args.out.now c.args.tally.now (output_as (made Replay c.args.input.now)).parts (stop_of_script fault) (script-other fault.line fault.reason))

pub returns-in_err-model-clause-halts : goal.returns-in_err-model-clause-halts
returns-in_err-model-clause-halts g c =
    let fault = c.in_err-model.field-0.0 in
    ends-with c.from_residual.result (stop_of_text fault)
    (HaltsScript g.K.Sink.held g.K.Sink.faults c.args.out.now c.args.out.now c.args.tally.now c.args.tally.now c.args.input.now) c.from_residual.ensures.1
    (without-solid g.K.Sink.held g.K.Sink.faults c.args.input.now c.args.out.now c.args.tally.now fault.line fault.reason)

pub returns-in_err-commands-clause-halts : goal.returns-in_err-commands-clause-halts
returns-in_err-commands-clause-halts g c =
    let fault = c.in_err-commands.field-0.0 in
    ends-with c.from_residual-in_err-commands.result (stop_of_script fault)
    (HaltsScript g.K.Sink.held g.K.Sink.faults c.args.out.now c.args.out.now c.args.tally.now c.args.tally.now c.args.input.now) c.from_residual-in_err-commands.ensures.1
    (without-script g.K.Sink.held g.K.Sink.faults c.args.input.now c.args.out.now c.args.tally.now fault.line fault.reason)

pub returns-clause-halts : goal.returns-clause-halts
returns-clause-halts g c =
    halts-script g.K.Sink.held g.K.Sink.faults c.args.input.now c.args.out.now c.replay_commands.new.out c.args.tally.now c.replay_commands.new.tally c.replay_commands.result c.in_ok-model.model c.in_ok-commands.commands
    (ap text_read (sym c.model_text.ensures) ∙ c.in_ok-model.ensures) c.in_ok-commands.ensures.script
    (subst (λ state. IfErr c.replay_commands.result (HaltsAt g.K.Sink.held g.K.Sink.faults c.args.out.now c.replay_commands.new.out c.args.tally.now c.replay_commands.new.tally state c.in_ok-commands.commands))
    c.start-session.ensures c.replay_commands.ensures.ends)
