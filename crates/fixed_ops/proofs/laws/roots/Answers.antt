-- The laws of roots are lemmas.
use Rattle.fixed_ops.proofs.ResultLaws.{floor_root_is_root, root_is}
use Rattle.fixed_ops.proofs.laws.roots.Goals as goal

pub returns-clause-hold : goal.returns-clause-hold
returns-clause-hold c = floor_root_is_root

pub returns-clause-only : goal.returns-clause-only
returns-clause-only c = root_is
