-- Where the sign is negative the last two are exchanged.
use Rattle.std.proofs.Common.{◌∙◌}
use Rattle.kuhn_cells.specs.Patterns.{listed}
use Rattle.kuhn_cells.proofs.ArrangementLaws.{negative_is_turned, turned_four}
use Rattle.kuhn_cells.proofs.pattern.Pattern.arrange.Goals as goal

pub returns-then-negative-clause-positions : goal.returns-then-negative-clause-positions
returns-then-negative-clause-positions c =
    rw c.if-negative.true (turned_four c.evenly.result (search c.evenly.type_inv) ∙ rw c.evenly.ensures.positions (negative_is_turned (listed c.args.self)))
