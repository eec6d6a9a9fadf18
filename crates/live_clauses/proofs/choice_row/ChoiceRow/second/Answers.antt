-- The second operand is needed in each lane where the first is not chosen.
use Rattle.std.proofs.Common.{true, false, ap, ◌∙◌, ◌&&◌, sym}
use Rattle.live_clauses.specs.Choices.{choice_in, has_bit}
use Rattle.live_clauses.specs.Live.{chosen}
use Rattle.live_clauses.proofs.Bits.{has_bit-and, picked-second, picked-second-none}
use Rattle.live_clauses.proofs.choice_row.ChoiceRow.second.Goals as goal

pub returns-then-has : goal.returns-then-has
returns-then-has c = λ lane within.
    c.others.ensures lane within ∙ picked-second (has_bit c.args.self.left lane) (has_bit c.args.self.right lane) ∙ ap (chosen (choice_in c.args.self lane) false true) (sym c.if-has.true)

pub returns-else-has : goal.returns-else-has
returns-else-has c = λ lane within.
    has_bit-and c.args.self.right c.others-else-has.result lane ∙ ap (λ b. has_bit c.args.self.right lane && b) (c.others-else-has.ensures lane within)
    ∙ picked-second-none (has_bit c.args.self.left lane) (has_bit c.args.self.right lane) ∙ ap (chosen (choice_in c.args.self lane) false true) (sym c.if-has.false)
