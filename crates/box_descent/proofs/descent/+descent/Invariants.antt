use Rattle.std.proofs.Common.{◌≡◌, ◌+◌, ◌*◌, drop, length, take}
use Rattle.std.specs.List.{filter}
use Rattle.box_chains.specs.Chains.{sides}
use Rattle.box_chains.specs.Desks.{HasMore, list_of}
use Rattle.box_descent.specs.Looked.{looked}
use Rattle.box_descent.specs.Plans.{is_traced}
use Rattle.box_descent.specs.Runs.{Group}
use Rattle.box_descent.proofs.Longest.{longest}
use Rattle.box_descent.proofs.Traced.{AreTold}
use Rattle.box_descent.proofs.descent.+descent.Given as goal

abbrev pub decreases-descend : goal.decreases-descend
decreases-descend g l = 4 * longest l.boxes.now + 3

abbrev pub decreases-visit_boxes : goal.decreases-visit_boxes
decreases-visit_boxes g l = 4 * longest l.boxes.now + 2

abbrev pub decreases-visit_box : goal.decreases-visit_box
decreases-visit_box g l = 4 * sides l.b + 1

abbrev pub decreases-visit_children : goal.decreases-visit_children
decreases-visit_children g l = 4 * sides l.b

abbrev pub invariant-visit_boxes-loop-n : goal.invariant-visit_boxes-loop-n
invariant-visit_boxes-loop-n g l =
    let m = g.V.Visitor.meaning in
    let tape = list_of l.fn.desk l.tape in
    record {
      more : HasMore l.fn.desk l.desk;
      told : AreTold m.plan l.fn.desk l.desk.lists l.tape l.fn.boxes l.traced;
      at : l.at ≡ length (filter (is_traced m.plan) (take l.n l.fn.boxes));
      fit : m.fits (looked m.plan l.fn.desk) l.visitor tape (drop l.n l.fn.boxes);
      drawn : Group m (looked m.plan l.fn.desk) tape l.fn.boxes l.fn.visitor l.visitor (take l.n l.fn.boxes) l.fn.tally l.tally;
    }
