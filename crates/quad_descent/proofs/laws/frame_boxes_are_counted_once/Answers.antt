use Rattle.quad_descent.proofs.Bounds.{new_boxes_are}
use Rattle.quad_descent.proofs.laws.frame_boxes_are_counted_once.Goals as goal

pub returns : goal.returns
returns c = new_boxes_are c.new_boxes_are_counted_once.ensures.new
