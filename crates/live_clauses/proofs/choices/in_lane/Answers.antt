-- What stands in the lane of a row is the choice of the row's place in the lane.
use Rattle.std.proofs.Common.{sym, ◌∙◌}
use Rattle.std.proofs.lemmas.List.{get_or-map}
use Rattle.interval_ops.specs.declared.choice.Choice.TheVariants.{Both}
use Rattle.live_clauses.specs.Choices.{choice_in}
use Rattle.live_clauses.proofs.choices.in_lane.Goals as goal

pub returns : goal.returns
returns c = c.choice.ensures ∙ sym (get_or-map (λ row. choice_in row c.args.l) c.args.rows.now c.args.place (record { left = 0; right = 0 }) Both c.requires.place)
