-- A byte with more bits is one more mark.
use Rattle.live_clauses.proofs.Bits.{marked-in}
use Rattle.live_clauses.proofs.marking.mark_in.Goals as goal

pub returns : goal.returns
returns c = λ l within. marked-in l c.args.marks.now c.args.place c.args.lanes c.requires
