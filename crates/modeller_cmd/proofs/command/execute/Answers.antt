use Rattle.std.proofs.Common.{refl, subst, sym, ◌∙◌}
use Rattle.modeller_cmd.specs.Execution.{Executed}
use Rattle.modeller_cmd.specs.declared.task.Task.TheVariants as tasks
use Rattle.modeller_cmd.proofs.AtOnce.{executed-at-once}
use Rattle.modeller_cmd.proofs.Tasks.{replay-asked}
use Rattle.modeller_cmd.proofs.command.execute.Goals as goal

pub returns-in-Draw : goal.returns-in-Draw
returns-in-Draw g c =
    executed-at-once g.K.Sink.held g.K.Sink.faults c.args.out.now c.draw.new.out c.args.tally.now c.draw.new.tally c.args.job.now (tasks.Draw c.in-Draw.frame) c.args.input.now c.draw.result
    (sym c.in-Draw.is ∙ c.of.ensures.task) (λ is. cc) c.draw.ensures

pub returns-in-Count : goal.returns-in-Count
returns-in-Count g c =
    executed-at-once g.K.Sink.held g.K.Sink.faults c.args.out.now c.count.new.out c.args.tally.now c.count.new.tally c.args.job.now (tasks.Count c.in-Count.view) c.args.input.now c.count.result
    (sym c.in-Count.is ∙ c.of.ensures.task) (λ is. cc) c.count.ensures

pub returns-in-Forge : goal.returns-in-Forge
returns-in-Forge g c =
    executed-at-once g.K.Sink.held g.K.Sink.faults c.args.out.now c.forge.new.out c.args.tally.now c.forge.new.tally c.args.job.now (tasks.Forge c.in-Forge.wanted) c.args.input.now c.forge.result
    (sym c.in-Forge.is ∙ c.of.ensures.task) (λ is. cc) c.forge.ensures

pub returns-in-Solid : goal.returns-in-Solid
returns-in-Solid g c =
    executed-at-once g.K.Sink.held g.K.Sink.faults c.args.out.now c.solid.new.out c.args.tally.now c.args.tally.now c.args.job.now tasks.Solid c.args.input.now c.solid.result
    (sym c.in-Solid.is ∙ c.of.ensures.task) (λ is. cc) (c.solid.ensures c.args.tally.now)

pub returns-in-Check : goal.returns-in-Check
returns-in-Check g c =
    executed-at-once g.K.Sink.held g.K.Sink.faults c.args.out.now c.check.new.out c.args.tally.now c.args.tally.now c.args.job.now tasks.Check c.args.input.now c.check.result
    (sym c.in-Check.is ∙ c.of.ensures.task) (λ is. cc) (c.check.ensures c.args.tally.now)

pub returns-in-Replay : goal.returns-in-Replay
returns-in-Replay g c =
    let r = c.replay.ensures in
    subst (λ job. Executed g.K.Sink.held g.K.Sink.faults c.args.out.now c.replay.new.out c.args.tally.now c.replay.new.tally job c.args.input.now c.replay.result)
    (sym (replay-asked c.args.job.now (sym c.in-Replay.is ∙ c.of.ensures.task))) (record {
      ends = r.ends;
      stop = r.stop;
      written = r.written;
      halted = r.halted;
      refused = r.refused;
      script = λ is. refl;
      unwritten = λ other. absurd (other refl);
      counted = λ other. absurd (other refl);
      halts = λ is. r.halts;
    })
