use Rattle.std.proofs.Common.{◌≤◌, ap, arith, subst, sym}
use Rattle.view_places.specs.Places.{steps_of}
use Rattle.view_places.specs.declared.lattice.Axis.TheVariants.{Y}
use Rattle.quad_descent.proofs.Scans.{row-within}
use Rattle.quad_descent.proofs.leaf.gather.Goals as goal

pub y-requires : goal.y-requires
y-requires g c =
    let places = c.args.places.now in
    let x0 = ap (λ b. b.x0) c.b.view_is in
    let x1 = ap (λ b. b.x1) c.b.view_is in
    subst (λ j. j ≤ steps_of places.view places.lattice Y) (sym c.loop-lane.invariant.next.row)
    (row-within places.view places.lattice c.args.b c.loop-lane.scan.told c.requires.within (omega (arith, x0, x1, c.b.invariant.x))
    (omega (arith, c.requires.left, c.loop-lane.invariant.told, c.loop-lane-test.true)))
