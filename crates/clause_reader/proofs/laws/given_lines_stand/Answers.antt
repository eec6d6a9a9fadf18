-- The law is a lemma.
use Rattle.clause_reader.proofs.LineWalk.{given-lines-stand}
use Rattle.clause_reader.proofs.laws.given_lines_stand.Goals as goal

pub returns : goal.returns
returns c = given-lines-stand
