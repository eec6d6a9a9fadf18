-- Each letter is later than the one before it.
use Rattle.std.proofs.Common.{arith}
use Rattle.model_forge.proofs.clauses.push_joined.Goals as goal

pub push_binary-requires-clause-next : goal.push_binary-requires-clause-next
push_binary-requires-clause-next c = rw (c.new-union.ensures.letter, c.new-union.ensures.disc) (c.requires.next 117 (omega arith))

pub push_unary-requires-clause-next : goal.push_unary-requires-clause-next
push_unary-requires-clause-next c = rw (c.new.ensures.letter, c.new.ensures.disc) (c.requires.next 110 (omega arith))
