use Rattle.std.proofs.Common.{◌+◌, arith, subst, sym, ◌∙◌}
use Rattle.contour_lines.specs.Signs.{AreRows, signs_by}
use Rattle.contour_lines.proofs.RowLaws.{rows-more, rows-next, signs-is}
use Rattle.oct_descent.proofs.Together.{byte-is}
use Rattle.contour_lines.proofs.sides.push_signs.Goals as goal

pub loop-x-preserved : goal.loop-x-preserved
loop-x-preserved c =
    let n = c.args.nx in
    let sides = c.args.sides.now in
    subst (AreRows n (signs_by n sides) 0 c.args.y (c.loop-x.x + 1)) (sym c.in_ok-push.ensures.items)
    (rows-more n (signs_by n sides) 0 _ c.args.y c.loop-x.x c.loop-x.signs.items
    (signs-is n sides c.loop-x.x c.args.y _ _ _ _ (c.from.ensures ∙ byte-is _) (c.from-in-loop-x.ensures ∙ byte-is _) (c.from-in-loop-x-2.ensures ∙ byte-is _) (c.from-in-loop-x-3.ensures ∙ byte-is _)) c.loop-x.invariant)

pub returns : goal.returns
returns c = rows-next c.args.nx (signs_by c.args.nx c.args.sides.now) 0 c.args.y c.loop-x.x c.loop-x.signs.items (omega (arith, c.loop-x-test.false, c.loop-x.auto.x-end)) c.loop-x.invariant
