use Rattle.std.proofs.Common.{◌+◌, ◌<◌, ap, arith, subst, sym, ◌∙◌}
use Rattle.kuhn_cells.specs.Triangles.{point}
use Rattle.contour_lines.specs.Tables.{known_of}
use Rattle.contour_lines.proofs.Corners.{IsSeenTo, corner-is, seen-all, seen-more, seen-none}
use Rattle.contour_lines.proofs.corner_values.seen.Goals as goal

pub loop-c-init : goal.loop-c-init
loop-c-init c = seen-none (known_of c.args.values.now) (point c.args.x c.args.y 0)

pub loop-c-preserved : goal.loop-c-preserved
loop-c-preserved c =
    let p = point c.args.x c.args.y 0 in
    let n = c.loop-c.c in
    let t = known_of c.args.values.now in
    let few : n < 4 = omega (arith, c.loop-c-test.true, c.loop-c.auto.c-end) in
    subst (IsSeenTo t p (n + 1)) (sym c.with_corner-seen.ensures)
    (seen-more t p n c.loop-c.seen c.get.result few (c.get.ensures ∙ ap t.at (corner-is c.args.x c.args.y n few)) c.loop-c.invariant)

pub returns : goal.returns
returns c =
    seen-all (known_of c.args.values.now) (point c.args.x c.args.y 0) c.loop-c.c c.loop-c.seen (omega (arith, c.loop-c-test.false)) c.loop-c.invariant
