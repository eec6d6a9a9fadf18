-- The law is a lemma on spans.
use Rattle.interval_laws.proofs.LawProofs.{included}
use Rattle.interval_laws.proofs.laws.inclusion.Goals as goal

pub returns : goal.returns
returns c =
    included c.args.op c.args.a c.args.b c.args.u c.args.v c.lo.ensures.span c.lo-2.ensures.span
