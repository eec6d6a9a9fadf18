use Rattle.std.proofs.Common.{ap, arith, sym, ◌∙◌}
use Rattle.box_chains.proofs.Theorems.{laws}
use Rattle.normal_shade.proofs.Rows.{column-stays, column-tells, columns-none}
use Rattle.normal_shade.proofs.tops.has_top_in_row.Goals as goal

pub loop-i-init : goal.loop-i-init
loop-i-init c = columns-none c.args.w c.args.tops.now c.args.b c.args.j c.b.inside.x0 (ap (λ b. b.x0) c.b.view_is)

pub loop-i-preserved : goal.loop-i-preserved
loop-i-preserved c =
    let x0 = ap (λ b. b.x0) c.b.view_is in
    column-stays laws c.args.w c.args.tops.now c.args.b c.args.j c.loop-i.i (omega (arith, x0, c.loop-i.auto.i)) (sym c.is_within.ensures ∙ c.if-is_within.false) ∙ c.loop-i.invariant

pub returns-then-is_within : goal.returns-then-is_within
returns-then-is_within c =
    let x0 = ap (λ b. b.x0) c.b.view_is in
    let x1 = ap (λ b. b.x1) c.b.view_is in
    sym (column-tells laws c.args.w c.args.tops.now c.args.b c.args.j c.loop-i.i (omega (arith, x0, c.loop-i.auto.i)) (omega (arith, x1, c.loop-i-test.true)) (sym c.is_within.ensures ∙ c.if-is_within.true))
