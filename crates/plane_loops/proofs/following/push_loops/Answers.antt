-- One start after another.
use Rattle.std.proofs.Common.{◌++◌, ap, sym, length, ◌∙◌}
use Rattle.std.specs.List.{concat}
use Rattle.std.proofs.lemmas.List.{append-nil}
use Rattle.plane_loops.specs.Contours.{ends_from}
use Rattle.plane_loops.proofs.WalkLaws.{rest_none}
use Rattle.plane_loops.proofs.following.push_loops.Goals as goal

pub returns-clause-order : goal.returns-clause-order
returns-clause-order c =
    let order = c.loop-start.order.items in
    let none = rest_none c.args.next.now c.loop-start.marks c.loop-start.start c.loop-start-test.false in
    sym (append-nil order) ∙ ap (λ l. order ++ concat l) (sym none) ∙ c.loop-start.invariant.order

pub returns-clause-ends : goal.returns-clause-ends
returns-clause-ends c =
    let ends = c.loop-start.ends.items in
    let none = rest_none c.args.next.now c.loop-start.marks c.loop-start.start c.loop-start-test.false in
    sym (append-nil ends) ∙ ap (λ l. ends ++ ends_from (length c.loop-start.order.items) l) (sym none) ∙ c.loop-start.invariant.ends
