-- Each letter is later than the one before it.
use Rattle.std.proofs.Common.{arith}
use Rattle.model_forge.proofs.clauses.push_edge.Goals as goal

pub push_binary-requires-clause-next : goal.push_binary-requires-clause-next
push_binary-requires-clause-next c = rw (c.new.ensures.letter, c.new.ensures.disc) (c.requires.next 103 (omega arith))

pub returns-clause-later : goal.returns-clause-later
returns-clause-later c = rw (c.new-4.ensures.letter, c.new-4.ensures.disc) at c.push_binary-2.ensures.later
