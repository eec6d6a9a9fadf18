-- The law of slopes is a lemma, over the laws of the layers below.
use Rattle.normal_shade.proofs.Choices.{slopes_are_kept}
use Rattle.normal_shade.proofs.laws.live_lists_keep_slopes.Goals as goal

pub returns : goal.returns
returns c =
    slopes_are_kept c.values_have_slopes.ensures.operands c.values_have_slopes.ensures.values
    c.live_lists_keep_meanings.ensures.steps c.traces_are_right.ensures.wins c.live_lists_keep_meanings.ensures.live
    c.traces_are_right.ensures.choices
