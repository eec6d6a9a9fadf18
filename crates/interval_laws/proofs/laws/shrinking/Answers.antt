-- The law is a lemma on spans.
use Rattle.interval_laws.proofs.LawProofs.{shrinks}
use Rattle.interval_laws.proofs.laws.shrinking.Goals as goal

pub returns : goal.returns
returns c =
    shrinks c.args.op c.args.a c.args.b c.args.c c.args.d
    c.lo.ensures.span c.lo-2.ensures.span c.lo-3.ensures.span c.lo-4.ensures.span
