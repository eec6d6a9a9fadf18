use Rattle.std.proofs.Common.{◌≡◌, ◌+◌, [], arith, false, rules, subst, sym}
use Rattle.contour_lines.specs.Signs.{AreRows, side_of}
use Rattle.contour_lines.proofs.RowLaws.{rows-none}
use Rattle.contour_lines.proofs.sides.sides_of.Goals as goal

pub loop-y-init : goal.loop-y-init
loop-y-init c =
    λ view list window told.
    let none : c.new-sides.result.items ≡ [] = search rules in
    subst (AreRows (c.args.values.now.n.x + 1) (side_of view list) false 0 0) (sym none) (rows-none (c.args.values.now.n.x + 1) (side_of view list) false)

pub loop-y-preserved : goal.loop-y-preserved
loop-y-preserved c = λ view list window told. c.in_ok-push_row.ensures view list window told (c.loop-y.invariant view list window told)

pub returns : goal.returns
returns c =
    λ view list window told.
    let all : c.loop-y.y ≡ c.args.values.now.n.y + 1 = omega (arith, c.loop-y-test.false, c.loop-y.auto.y-end, c.ny-y-end.ensures.value) in
    subst (λ k. AreRows (c.args.values.now.n.x + 1) (side_of view list) false k 0 c.loop-y.sides.items) all (c.loop-y.invariant view list window told)
