-- A row without a bit makes no choice in any lane.
use Rattle.std.proofs.Common.{◌≡◌, Bool, true, false, ◌||◌, refl, ap, sym, ◌∙◌}
use Rattle.std.proofs.lemmas.Bool.{false≢true}
use Rattle.interval_ops.specs.declared.choice.Choice.TheVariants.{Both}
use Rattle.live_clauses.specs.Choices.{has_bit}
use Rattle.live_clauses.proofs.Bits.{has_bit-or, has_bit-zero, picked}
use Rattle.live_clauses.proofs.choice_row.ChoiceRow.choice.Goals as goal

-- neither of two bits is set where one of them would show
none-picked : (left right : Bool) → (left || right) ≡ false → Both ≡ picked left right
none-picked false false none = refl
none-picked true right none = absurd (false≢true (sym none))
none-picked false true none = absurd (false≢true (sym none))

pub returns-then-self-eq0 : goal.returns-then-self-eq0
returns-then-self-eq0 c =
    let row = c.args.self in
    none-picked (has_bit row.left c.args.lane) (has_bit row.right c.args.lane)
    (sym (has_bit-or row.left row.right c.args.lane) ∙ ap (λ n. has_bit n c.args.lane) c.if-self-eq0.true ∙ has_bit-zero c.args.lane)
