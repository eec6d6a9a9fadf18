-- A byte of ones has each bit, and one of zeros none.
use Rattle.std.proofs.Common.{cond, ap, ◌∙◌, sym}
use Rattle.interval_ops.specs.declared.choice.Choice.TheVariants.{Left, Right, Both}
use Rattle.live_clauses.specs.Choices.{has_bit}
use Rattle.live_clauses.proofs.Bits.{has_bit-all, has_bit-zero}
use Rattle.live_clauses.proofs.choice_row.ChoiceRow.all.Goals as goal

pub returns-in-Left : goal.returns-in-Left
returns-in-Left c = λ lane within. ap (λ b. cond b Left (cond (has_bit 0 lane) Right Both)) (has_bit-all lane within) ∙ sym c.in-Left.is

pub returns-in-Right : goal.returns-in-Right
returns-in-Right c = λ lane within. ap (λ b. cond b Left (cond (has_bit 255 lane) Right Both)) (has_bit-zero lane) ∙ ap (λ b. cond b Right Both) (has_bit-all lane within) ∙ sym c.in-Right.is
