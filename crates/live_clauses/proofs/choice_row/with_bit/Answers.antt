-- A byte with one more bit has that bit and its own.
use Rattle.live_clauses.proofs.Bits.{with-here, with-others}
use Rattle.live_clauses.proofs.choice_row.with_bit.Goals as goal

pub returns-clause-here : goal.returns-clause-here
returns-clause-here c = with-here c.args.byte c.args.lane c.requires c.lowest_if.result c.args.asked c.lowest_if.ensures

pub returns-clause-others : goal.returns-clause-others
returns-clause-others c = λ other not. with-others c.args.byte c.args.lane c.requires c.lowest_if.result c.args.asked c.lowest_if.ensures other not
