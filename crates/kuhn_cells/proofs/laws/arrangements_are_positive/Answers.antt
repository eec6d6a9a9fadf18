-- The law is a lemma.
use Rattle.kuhn_cells.proofs.ArrangementLaws.{arrangements_are_positive}
use Rattle.kuhn_cells.proofs.laws.arrangements_are_positive.Goals as goal

pub returns : goal.returns
returns c = arrangements_are_positive
