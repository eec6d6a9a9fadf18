-- A run ends as its work does, whose line the notes take.
use Rattle.std.proofs.Common.{[], refl, subst, sym, arith}
use Rattle.view_settings.specs.Words.{bytes_of}
use Rattle.modeller_cmd.specs.Notes.{line_of}
use Rattle.modeller_cmd.specs.Promises.{IsRun}
use Rattle.modeller_cmd.specs.Runs.{run_of}
use Rattle.modeller_cmd.specs.Stops.{status_at}
use Rattle.modeller_cmd.specs.declared.status.Status.TheVariants.{Done}
use Rattle.modeller_cmd.proofs.Outcomes.{not_done}
use Rattle.modeller_cmd.proofs.Running.{noted, takes-once}
use Rattle.modeller_cmd.proofs.command.run_and_report.Goals as goal

pub returns-in-Ok-clause-run : goal.returns-in-Ok-clause-run
returns-in-Ok-clause-run g c =
    noted g.S.Source.rest g.S.Source.taken g.S.Source.faults g.K.Sink.held g.K.Sink.faults g.N.Sink.held g.N.Sink.faults (bytes_of c.args.words.now)
    c.args.source.now c.work.new.source c.args.out.now c.work.new.out c.args.notes.now c.args.notes.now c.args.tally.now c.work.new.tally [] Done
    (λ done. refl) (λ other. absurd (other refl)) (record { by = 0; within = omega arith; rose = omega arith }) c.in-Ok.ensures.run

pub returns-in-Err-clause-run : goal.returns-in-Err-clause-run
returns-in-Err-clause-run g c =
    let stop = c.in-Err.stop in
    let words = bytes_of c.args.words.now in
    subst (λ status. IsRun (run_of g.S.Source.rest g.S.Source.taken g.S.Source.faults g.K.Sink.held g.K.Sink.faults g.N.Sink.held g.N.Sink.faults words
    c.args.source.now c.work.new.source c.args.out.now c.work.new.out c.args.notes.now c.tell.new.notes c.args.tally.now c.work.new.tally status)) (sym c.status.ensures)
    (noted g.S.Source.rest g.S.Source.taken g.S.Source.faults g.K.Sink.held g.K.Sink.faults g.N.Sink.held g.N.Sink.faults words
    c.args.source.now c.work.new.source c.args.out.now c.work.new.out c.args.notes.now c.tell.new.notes c.args.tally.now c.work.new.tally (line_of stop) (status_at stop)
    (λ done. absurd (not_done stop done)) (λ other. c.tell.ensures) (takes-once g.N.Sink.held g.N.Sink.faults c.args.notes.now c.tell.new.notes (line_of stop) c.tell.ensures) c.in-Err.ensures.run)
