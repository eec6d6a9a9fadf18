use Rattle.std.proofs.Common.{◌≡◌, [], rules, subst, sym}
use Rattle.contour_lines.specs.Signs.{AreRows, signs_by}
use Rattle.contour_lines.proofs.RowLaws.{rows-none}
use Rattle.contour_lines.proofs.sides.signs_of.Goals as goal

pub loop-y-init : goal.loop-y-init
loop-y-init c =
    let none : c.new-signs.result.items ≡ [] = search rules in
    subst (AreRows c.args.nx (signs_by c.args.nx c.args.sides.now) 0 0 0) (sym none) (rows-none c.args.nx (signs_by c.args.nx c.args.sides.now) 0)
