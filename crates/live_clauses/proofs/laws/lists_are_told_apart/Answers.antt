use Rattle.live_clauses.proofs.EqualityLaws.{lists_are_told_apart_is}
use Rattle.live_clauses.proofs.laws.lists_are_told_apart.Goals as goal

pub returns : goal.returns
returns c = lists_are_told_apart_is
