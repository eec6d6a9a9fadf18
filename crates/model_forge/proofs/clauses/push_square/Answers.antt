-- Each letter is later than the one before it.
use Rattle.model_forge.proofs.clauses.push_square.Goals as goal

pub returns-clause-later : goal.returns-clause-later
returns-clause-later c = rw (c.new-3.ensures.letter, c.new-3.ensures.disc) at c.push_unary.ensures.later
