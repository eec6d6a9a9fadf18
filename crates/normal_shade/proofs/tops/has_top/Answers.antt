use Rattle.std.proofs.Common.{ap, arith, refl, subst, sym, ◌∙◌}
use Rattle.view_places.specs.Boxes.{IsBox}
use Rattle.box_chains.proofs.Theorems.{laws}
use Rattle.normal_shade.proofs.Rows.{row-more, row-tells, rows-none, rows-tell, zero-of}
use Rattle.normal_shade.proofs.tops.has_top.Goals as goal

pub loop-j-init : goal.loop-j-init
loop-j-init c = record {
  same = refl {a = c.args.b};
  none = rows-none c.args.w c.args.tops.now c.args.b c.b.inside.y0 (ap (λ b. b.y0) c.b.view_is);
}

pub loop-j-preserved : goal.loop-j-preserved
loop-j-preserved c =
    let y0 = ap (λ b. b.y0) c.b.view_is in
    record {
      same = c.loop-j.invariant.same;
      none = omega (
        arith,
        row-more laws c.args.w c.args.tops.now c.args.b c.loop-j.j (omega (arith, y0, c.loop-j.auto.j)),
        c.loop-j.invariant.none,
        zero-of _ (sym c.has_top_in_row.ensures ∙ c.if-has_top_in_row.false),
      );
    }

pub returns-then-has_top_in_row : goal.returns-then-has_top_in_row
returns-then-has_top_in_row c =
    let y0 = ap (λ b. b.y0) c.b.view_is in
    let y1 = ap (λ b. b.y1) c.b.view_is in
    sym (row-tells laws c.args.w c.args.tops.now c.args.b c.loop-j.j (subst IsBox c.b.view_is c.b.invariant) (omega (arith, y0, c.loop-j.auto.j)) (omega (arith, y1, c.loop-j-test.true))
    (sym c.has_top_in_row.ensures ∙ c.if-has_top_in_row.true))

pub returns : goal.returns
returns c =
    let y1 = ap (λ b. b.y1) c.b.view_is in
    sym (rows-tell c.args.w c.args.tops.now c.args.b c.loop-j.j (subst IsBox c.b.view_is c.b.invariant) (omega (arith, y1, c.loop-j-test.false, c.loop-j.auto.j-end)) c.loop-j.invariant.none)
