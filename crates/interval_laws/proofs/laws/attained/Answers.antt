-- The law is a lemma on spans.
use Rattle.interval_laws.proofs.LawProofs.{ends_attained}
use Rattle.interval_laws.proofs.laws.attained.Goals as goal

pub returns : goal.returns
returns c = ends_attained c.args.op c.args.a c.args.b c.lo.ensures.span c.lo-2.ensures.span
