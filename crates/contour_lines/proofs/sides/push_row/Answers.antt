use Rattle.std.proofs.Common.{◌≡◌, ◌+◌, ◌≤◌, ap, arith, false, subst, sym, ◌∙◌}
use Rattle.contour_lines.specs.Signs.{AreRows, side_after, side_of}
use Rattle.contour_lines.specs.Tables.{known_of}
use Rattle.contour_lines.proofs.RowLaws.{rows-more, rows-next}
use Rattle.contour_lines.proofs.SideLaws.{before-first, before-next, next-side}
use Rattle.contour_lines.proofs.sides.push_row.Goals as goal

pub loop-x-init : goal.loop-x-init
loop-x-init c = λ view list window told rows. record { before = before-first view list c.args.y; rows = rows }

pub loop-x-preserved : goal.loop-x-preserved
loop-x-preserved c =
    λ view list window told rows.
    let t = known_of c.args.values.now in
    let x = c.loop-x.x in
    let y = c.args.y in
    let was = c.loop-x.invariant view list window told rows in
    let side = c.side_after-side.result in
    let wide : x ≤ t.n.x = omega (arith, c.loop-x-test.true, c.loop-x.auto.x-end, c.nx-x-end.ensures.value) in
    let is : side ≡ side_of view list x y = c.side_after-side.ensures ∙ ap (λ o. side_after o c.loop-x.side) c.get.ensures ∙ next-side view list t x y c.loop-x.side window told wide c.requires was.before in
    record {
      before = before-next view list x y side is;
      rows = subst (AreRows (t.n.x + 1) (side_of view list) false y (x + 1)) (sym c.in_ok-push.ensures.items) (rows-more (t.n.x + 1) (side_of view list) false side y x c.loop-x.sides.items is was.rows);
    }

pub get-requires : goal.get-requires
get-requires c = record { x = omega (arith, c.loop-x-test.true, c.loop-x.auto.x-end, c.nx-x-end.ensures.value); y = c.requires }

pub returns : goal.returns
returns c =
    λ view list window told rows.
    rows-next (c.args.values.now.n.x + 1) (side_of view list) false c.args.y c.loop-x.x c.loop-x.sides.items (omega (arith, c.loop-x-test.false, c.loop-x.auto.x-end, c.nx-x-end.ensures.value))
    (c.loop-x.invariant view list window told rows).rows
