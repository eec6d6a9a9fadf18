use Rattle.interval_laws.proofs.LawProofs.{included}
use Rattle.choice_trace.proofs.domain.SpanDomain.apply.Goals as goal

pub returns-clause-stands : goal.returns-clause-stands
returns-clause-stands c = λ u v h k.
    included c.args.op c.args.a c.args.b u v c.lo.ensures.span c.lo-2.ensures.span c.span_apply.result c.span_apply.ensures.hull h k
