-- Theorems for the crates above: what always holds of boxes, of chains and of work.
use Rattle.fixed_ops.proofs.CountLaws.{tallies_add_up_is}
use Rattle.choice_trace.proofs.Traces.{choices_are_of_steps, choices_are_right, last_held}
use Rattle.live_clauses.proofs.EqualityLaws.{lists_are_told_apart_is}
use Rattle.live_clauses.proofs.Theorems.{choices_keep_the_value, live_lists_are_tapes}
use Rattle.view_places.proofs.BoxLaws.{halves_part_is}
use Rattle.view_places.proofs.SpanLaws.{ranges, spans}
use Rattle.box_chains.proofs.LawProofs.{lawful}
use Rattle.box_chains.specs.Laws.{Lawful, LayersHold}

-- what the layers below promise of boxes, lists and points
pub layers : LayersHold
layers = record {
  equal = lists_are_told_apart_is;
  halves = halves_part_is;
  ranges = ranges;
  spans = spans;
  tapes = live_lists_are_tapes;
  kept = choices_keep_the_value;
  held = last_held;
  choices = choices_are_of_steps;
  right = choices_are_right;
}

-- what follows from it of boxes and their children, of chains and of work
pub laws : Lawful
laws = lawful tallies_add_up_is layers
