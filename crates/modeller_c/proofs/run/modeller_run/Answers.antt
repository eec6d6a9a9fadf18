-- What a run has handed over.
use Rattle.modeller_c.proofs.CallLemmas.{answer, done, refused}
use Rattle.modeller_c.proofs.run.modeller_run.Goals as goal

pub returns-in-Ok-clause-answer : goal.returns-in-Ok-clause-answer
returns-in-Ok-clause-answer c =
    answer c.args.line.now c.args.input.now c.args.out.now c.run_on.new.out c.args.note.now c.run_on.new.note c.in-Ok.ended c.in-Ok.ensures.run

pub returns-in-Ok-clause-done : goal.returns-in-Ok-clause-done
returns-in-Ok-clause-done c =
    done c.args.line.now c.args.input.now c.args.out.now c.run_on.new.out c.args.note.now c.run_on.new.note c.in-Ok.ended c.in-Ok.ensures.run

pub returns-in-Ok-clause-refused : goal.returns-in-Ok-clause-refused
returns-in-Ok-clause-refused c =
    refused c.args.line.now c.args.input.now c.args.out.now c.run_on.new.out c.args.note.now c.run_on.new.note c.in-Ok.ended c.in-Ok.ensures.run
