-- The laws of whole numbers are lemmas.
use Rattle.fixed_ops.proofs.WholeLaws.{only_whole, whole_holds}
use Rattle.fixed_ops.proofs.laws.whole_numbers.Goals as goal

pub returns-clause-hold : goal.returns-clause-hold
returns-clause-hold c = whole_holds

pub returns-clause-only : goal.returns-clause-only
returns-clause-only c = only_whole
