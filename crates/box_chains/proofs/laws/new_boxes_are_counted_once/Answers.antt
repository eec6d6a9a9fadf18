use Rattle.box_chains.proofs.NewLaws.{new_boxes_are_counted_once_is, old_boxes_are_a_set_is}
use Rattle.box_chains.proofs.laws.new_boxes_are_counted_once.Goals as goal

pub returns-clause-old : goal.returns-clause-old
returns-clause-old c = old_boxes_are_a_set_is c.lists_are_told_apart.ensures c.halves_part.ensures

pub returns-clause-new : goal.returns-clause-new
returns-clause-new c = new_boxes_are_counted_once_is c.lists_are_told_apart.ensures c.halves_part.ensures
