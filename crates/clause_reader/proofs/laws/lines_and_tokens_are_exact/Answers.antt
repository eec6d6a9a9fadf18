-- The laws of lines and tokens are lemmas.
use Rattle.clause_reader.proofs.LineLemmas.{lines_exactly}
use Rattle.clause_reader.proofs.TokenLemmas.{tokens_exactly}
use Rattle.clause_reader.proofs.laws.lines_and_tokens_are_exact.Goals as goal

pub returns-clause-lines : goal.returns-clause-lines
returns-clause-lines c = lines_exactly

pub returns-clause-tokens : goal.returns-clause-tokens
returns-clause-tokens c = tokens_exactly
