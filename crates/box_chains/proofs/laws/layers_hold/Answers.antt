use Rattle.box_chains.proofs.LawProofs.{lawful}
use Rattle.box_chains.proofs.laws.layers_hold.Goals as goal

pub returns : goal.returns
returns c = lawful c.tallies_add_up.ensures (record {
  equal = c.lists_are_told_apart.ensures;
  halves = c.halves_part.ensures;
  ranges = c.ranges_hold.ensures.ends;
  spans = c.ranges_hold.ensures.spans;
  tapes = c.live_steps_are_the_least.ensures.lists;
  kept = c.choices_keep_the_value.ensures;
  held = c.traces_are_right.ensures.held;
  choices = c.traces_are_right.ensures.choices;
  right = c.traces_are_right.ensures.right;
})
