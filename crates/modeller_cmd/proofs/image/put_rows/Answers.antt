use Rattle.std.proofs.Common.{◌*◌, ◌<◌, arith, ap, sym, subst, ◌∙◌}
use Rattle.quad_descent.specs.Rows.{AreRows}
use Rattle.modeller_cmd.proofs.Bands.{are-rows, part-length}
use Rattle.modeller_cmd.proofs.image.put_rows.Goals as goal

pub paint-requires : goal.paint-requires
paint-requires g c =
    let view = c.args.view.now in
    let w = ap (λ v. v.w) c.view.view_is in
    let bytes = ap (λ n. c.args.rows * n) w in
    let some : 0 < view.w = omega (arith, w, c.view.invariant.w.some) in
    subst (AreRows (g.R.RowSource.image c.args.image.now) c.args.row)
    (sym (part-length c.args.buffer.now c.args.start (c.args.rows * c.view.inside.w) (omega (arith, bytes, c.requires.room)) ∙ bytes))
    (are-rows (g.R.RowSource.image c.args.image.now) view c.args.row c.args.rows c.requires.over some c.requires.within)
