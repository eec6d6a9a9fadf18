use Rattle.box_chains.proofs.LawProofs.{points_add_up_is, points_are_bounded_is, spans_add_up_is, spans_are_bounded_is}
use Rattle.box_chains.proofs.laws.work_adds_up.Goals as goal

pub returns-clause-points : goal.returns-clause-points
returns-clause-points c = points_add_up_is c.layers_hold.ensures.layers

pub returns-clause-spans : goal.returns-clause-spans
returns-clause-spans c = spans_add_up_is c.layers_hold.ensures.layers

pub returns-clause-points_bounded : goal.returns-clause-points_bounded
returns-clause-points_bounded c = points_are_bounded_is c.layers_hold.ensures.layers

pub returns-clause-spans_bounded : goal.returns-clause-spans_bounded
returns-clause-spans_bounded c = spans_are_bounded_is c.layers_hold.ensures.layers
