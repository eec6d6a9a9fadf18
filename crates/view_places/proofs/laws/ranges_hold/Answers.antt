-- The laws of ranges are lemmas.
use Rattle.view_places.proofs.SpanLaws.{ranges, spans}
use Rattle.view_places.proofs.laws.ranges_hold.Goals as goal

pub returns-clause-ends : goal.returns-clause-ends
returns-clause-ends c = ranges

pub returns-clause-spans : goal.returns-clause-spans
returns-clause-spans c = spans
