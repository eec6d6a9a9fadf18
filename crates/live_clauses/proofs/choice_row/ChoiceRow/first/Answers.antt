-- The first operand is needed in each lane where it is chosen, or where the second is not.
use Rattle.std.proofs.Common.{true, false, ap, ◌∙◌, ◌||◌, sym}
use Rattle.live_clauses.specs.Choices.{choice_in, has_bit}
use Rattle.live_clauses.specs.Live.{chosen}
use Rattle.live_clauses.proofs.Bits.{has_bit-or, picked-first}
use Rattle.live_clauses.proofs.choice_row.ChoiceRow.first.Goals as goal

pub returns-then-has : goal.returns-then-has
returns-then-has c = λ lane within.
    has_bit-or c.args.self.left c.others.result lane ∙ ap (λ b. has_bit c.args.self.left lane || b) (c.others.ensures lane within)
    ∙ picked-first (has_bit c.args.self.left lane) (has_bit c.args.self.right lane) ∙ ap (chosen (choice_in c.args.self lane) true false) (sym c.if-has.true)
