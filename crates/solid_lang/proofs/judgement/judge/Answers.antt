-- What is told of the tokens is the judgement, with the clauses held against the most that there may be.
use Rattle.std.proofs.Common.{arith}
use Rattle.solid_lang.proofs.Giving.{judges-fault, judges-few, judges-many}
use Rattle.solid_lang.proofs.judgement.judge.Goals as goal

pub returns-in-Ok : goal.returns-in-Ok
returns-in-Ok c = judges-many c.args.text.now _ c.in-Ok.ensures (omega arith)

pub returns-in-Ok-2 : goal.returns-in-Ok-2
returns-in-Ok-2 c = judges-few c.args.text.now _ c.in-Ok.ensures (omega arith)

pub returns-in-Err : goal.returns-in-Err
returns-in-Err c = judges-fault c.args.text.now _ c.in-Err.ensures
