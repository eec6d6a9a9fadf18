-- The laws are lemmas on spans.
use Rattle.interval_laws.proofs.LawProofs.{choice_keeps, chosen_wins, ends_attained, included, shrinks}
use Rattle.interval_laws.proofs.laws.laws_of_spans.Goals as goal

pub returns-clause-inclusion : goal.returns-clause-inclusion
returns-clause-inclusion c = included

pub returns-clause-attained : goal.returns-clause-attained
returns-clause-attained c = ends_attained

pub returns-clause-shrinking : goal.returns-clause-shrinking
returns-clause-shrinking c = shrinks

pub returns-clause-kept : goal.returns-clause-kept
returns-clause-kept c = choice_keeps

pub returns-clause-wins : goal.returns-clause-wins
returns-clause-wins c = chosen_wins
