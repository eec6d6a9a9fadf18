-- What is so of the run is so of the program's end.
use Rattle.std.proofs.Common.{◌≡◌, drop, subst, arith}
use Rattle.view_settings.specs.Words.{bytes_of}
use Rattle.modeller_cmd.specs.Laws.{Laws}
use Rattle.modeller_cmd.specs.Promises.{IsRun}
use Rattle.modeller_cmd.specs.Runs.{run_of}
use Rattle.modeller.proofs.end_on.Goals as goal

pub returns-in-Ok-clause-ran : goal.returns-in-Ok-clause-ran
returns-in-Ok-clause-ran g c =
    let r = c.run.ensures in
    let words : c.after_name.result.now ≡ drop 1 c.in-Ok.line.items =
    grind (arith, c.after_name.ensures, c.deref.ensures.value) in
    rw c.in-Ok.is (subst (λ words. IsRun (run_of g.S.Source.rest g.S.Source.taken g.S.Source.faults g.K.Sink.held g.K.Sink.faults g.N.Sink.held g.N.Sink.faults (bytes_of words)
    c.args.streams.now.source c.run.new.source c.args.streams.now.out c.run.new.out c.args.streams.now.notes c.run.new.notes c.args.tally.now c.run.new.tally c.run.result)) words
    (record {
      done = r.done;
      refused = r.refused;
      read_fault = r.read_fault;
      write_fault = r.write_fault;
      out_of_memory = r.out_of_memory;
      always = r.always;
    }))

pub returns-in-Ok-clause-laws : goal.returns-in-Ok-clause-laws
returns-in-Ok-clause-laws g c =
    let words : c.after_name.result.now ≡ drop 1 c.in-Ok.line.items =
    grind (arith, c.after_name.ensures, c.deref.ensures.value) in
    rw c.in-Ok.is (λ input. subst (λ words. Laws (bytes_of words) input) words (c.run.ensures.laws input))
