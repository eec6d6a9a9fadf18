-- A start that is marked is passed over, and another has its loop.
use Rattle.std.proofs.Common.{◌≡◌, ◌++◌, [], ◌∷◌, arith, ap, sym, length, ◌∙◌, refl}
use Rattle.std.specs.List.{concat}
use Rattle.plane_loops.specs.Contours.{ends_from}
use Rattle.plane_loops.proofs.WalkLaws.{rest_by, rest_skip, take_ends, take_order}
use Rattle.plane_loops.proofs.following.push_from.Goals as goal

pub returns-then-marks-start-clause-order : goal.returns-then-marks-start-clause-order
returns-then-marks-start-clause-order c =
    ap (λ l. c.args.order.now.items ++ concat l) (sym (rest_skip c.args.next.now c.args.marks.now c.args.start _ c.requires.marks c.requires.start c.if-marks-start.true))

pub returns-then-marks-start-clause-ends : goal.returns-then-marks-start-clause-ends
returns-then-marks-start-clause-ends c =
    ap (λ l. c.args.ends.now.items ++ ends_from (length c.args.order.now.items) l) (sym (rest_skip c.args.next.now c.args.marks.now c.args.start _ c.requires.marks c.requires.start c.if-marks-start.true))

pub returns-clause-order : goal.returns-clause-order
returns-clause-order c =
    let rest = rest_by c.args.next.now c.args.marks.now c.push_loop.new.marks c.args.start _ c.requires.marks c.requires.start c.if-marks-start.false c.in_ok-push_loop.ensures.marks in
    take_order _ _ _ c.args.order.now.items c.push_loop.new.order.items _ rest c.in_ok-push_loop.ensures.order refl

pub returns-clause-ends : goal.returns-clause-ends
returns-clause-ends c =
    let rest = rest_by c.args.next.now c.args.marks.now c.push_loop.new.marks c.args.start _ c.requires.marks c.requires.start c.if-marks-start.false c.in_ok-push_loop.ensures.marks in
    let long : c.len.result ≡ length c.push_loop.new.order.items = omega arith in
    let items = c.in_ok-push.ensures.items ∙ ap (λ n. c.args.ends.now.items ++ n ∷ []) long in
    take_ends _ _ _ c.args.order.now.items c.push_loop.new.order.items c.args.ends.now.items c.push.new.self.items _ rest c.in_ok-push_loop.ensures.order items refl
