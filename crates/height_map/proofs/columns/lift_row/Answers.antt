use Rattle.std.proofs.Common.{◌+◌, ◌*◌, arith, ap, length, refl, subst, sym}
use Rattle.std.specs.Prelude.{◌==◌}
use Rattle.height_map.specs.Columns.{Changes, lifted}
use Rattle.height_map.proofs.ChangeLaws.{column-changed, column-kept, column-set, place-within}
use Rattle.height_map.proofs.columns.lift_row.Goals.{then-tops-at-eq0, else-tops-at-eq0}
use Rattle.height_map.proofs.columns.lift_row.Goals as goal

pub loop-i-preserved : goal.loop-i-preserved
loop-i-preserved c =
    let b = c.args.b in
    let x0 = ap (λ b. b.x0) c.b.view_is in
    let x1 = ap (λ b. b.x1) c.b.view_is in
    let z1 = ap (λ b. b.z1) c.b.view_is in
    let i = c.loop-i.i in
    let j = c.args.j in
    let w = c.args.w in
    column-changed w i j b (λ p. lifted b.z1) c.args.tops.now c.loop-i.tops c.if-tops-at-eq0.tops
    (omega (arith, x1, c.loop-i-test.true, c.requires.among.columns)) (omega (arith, x0, c.loop-i.auto.i)) c.loop-i.invariant
    (elim c.if-tops-at-eq0.branch [
      | then-tops-at-eq0 w ↦ subst (λ l. Changes (λ p. p == c.args.j * c.args.w + c.loop-i.i) (λ p. lifted c.args.b.z1) c.loop-i.tops l) (sym w.tops-is)
          (column-set (λ p. c.args.b.z1) c.loop-i.tops (c.args.j * c.args.w + c.loop-i.i) (c.args.j * c.args.w + c.loop-i.i) c.b.inside.z1 refl
          (place-within c.args.w (length c.loop-i.tops) c.loop-i.i c.args.j c.args.b
          (record { columns = c.requires.among.columns; rows = omega (arith, c.requires.among.rows, c.loop-i.auto.tops); few = c.requires.among.few }) (omega (arith, x1, c.loop-i-test.true)) c.requires.row) w.if-tops-at-eq0.true z1)
      | else-tops-at-eq0 w ↦ subst (λ l. Changes (λ p. p == c.args.j * c.args.w + c.loop-i.i) (λ p. lifted c.args.b.z1) c.loop-i.tops l) (sym w.tops-is)
          (column-kept (λ p. c.args.b.z1) c.loop-i.tops (c.args.j * c.args.w + c.loop-i.i) (c.args.j * c.args.w + c.loop-i.i) refl w.if-tops-at-eq0.false)
    ])
