-- The run that is made is that of the call, and what its sinks hold is handed over.
use Rattle.std.proofs.Common.{◌≡◌, ap, subst, ◌∙◌, rules}
use Rattle.view_settings.specs.Words.{bytes_of}
use Rattle.modeller_cmd.specs.Laws.{Laws}
use Rattle.modeller_c.specs.Calls.{source_of}
use Rattle.modeller_c.specs.Rooms.{IsHandedOver}
use Rattle.modeller_c.specs.Words.{words_in}
use Rattle.modeller_c.proofs.CallLemmas.{begun}
use Rattle.modeller_c.proofs.run.run_on.Goals as goal

pub returns-clause-run : goal.returns-clause-run
returns-clause-run c =
    let words_is : bytes_of c.deref.result.now ≡ words_in c.args.line.now = ap bytes_of c.deref.ensures.value ∙ c.in_ok-words.ensures in
    let source_is : c.new-source.result ≡ source_of c.args.input.now = search rules in
    record {
      source = c.run-status.new.source;
      written = c.run-status.new.out;
      noted = c.run-status.new.notes;
      last = c.run-status.new.tally;
      status = c.run-status.result;
      run = begun c.args.line.now c.args.input.now c.run-status.new.source c.run-status.new.out c.run-status.new.notes c.run-status.new.tally
          c.run-status.result (bytes_of c.deref.result.now) c.new-source.result c.in_ok-written.written c.in_ok-noted.noted c.new-3.result words_is source_is
          c.in_ok-written.ensures c.in_ok-noted.ensures c.new-3.ensures (
          record {
            done = c.run-status.ensures.done;
            refused = c.run-status.ensures.refused;
            read_fault = c.run-status.ensures.read_fault;
            write_fault = c.run-status.ensures.write_fault;
            out_of_memory = c.run-status.ensures.out_of_memory;
            always = c.run-status.ensures.always;
          }
          );
      laws = subst (λ words. Laws words c.args.input.now) words_is (c.run-status.ensures.laws c.args.input.now);
      unfailing = (c.in_ok-output.ensures.whole.1, c.in_ok-line_noted.ensures.whole.1);
      number = c.number.ensures;
      output = subst (λ held. IsHandedOver held c.args.out.now c.hand_over.new.room c.hand_over.result) c.in_ok-output.ensures.whole.0 c.hand_over.ensures;
      line_noted = subst (λ held. IsHandedOver held c.args.note.now c.hand_over-2.new.room c.hand_over-2.result) c.in_ok-line_noted.ensures.whole.0
          c.hand_over-2.ensures;
    }
