-- The law is a lemma.
use Rattle.clause_reader.proofs.LineSplits.{texts-begin-with-lines}
use Rattle.clause_reader.proofs.laws.texts_begin_with_lines.Goals as goal

pub returns : goal.returns
returns c = texts-begin-with-lines
