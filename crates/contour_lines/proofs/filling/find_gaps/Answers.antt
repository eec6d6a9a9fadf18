use Rattle.std.proofs.Common.{◌≡◌, ◌+◌, ◌/◌, ◌%◌, ◌<◌, ap, arith, length, subst, sym, true, ◌∙◌}
use Rattle.std.specs.Prelude.{None}
use Rattle.std.proofs.lemmas.List.{length_push}
use Rattle.kuhn_cells.specs.Triangles.{further, point}
use Rattle.oct_descent.specs.Tables.{is_known}
use Rattle.contour_lines.specs.Gaps.{AreGapsBelow, StandsIn}
use Rattle.contour_lines.specs.Tables.{known_of}
use Rattle.contour_lines.specs.declared.gap.Gap.{Gap}
use Rattle.contour_lines.proofs.Corners.{corner-is}
use Rattle.contour_lines.proofs.GapLaws.{gaps-known, gaps-more}
use Rattle.contour_lines.proofs.filling.find_gaps.Goals.{then-is_none, else-is_none}
use Rattle.oct_descent.proofs.Corners.{known-is, none-is}
use Rattle.contour_lines.proofs.Theorems.{planes}
use Rattle.contour_lines.proofs.filling.find_gaps.Goals as goal

pub loop-c-preserved : goal.loop-c-preserved
loop-c-preserved c =
    let p = point c.args.x c.args.y 0 in
    let n = c.loop-c.c in
    let t = known_of c.args.values.now in
    let was = c.loop-c.invariant in
    let few : n < 4 = omega (arith, c.loop-c-test.true, c.loop-c.auto.c-end) in
    let is = corner-is c.args.x c.args.y n few in
    elim c.if-is_none.branch [
      | then-is_none w ↦
          let gap : Gap = record { x = c.args.x + n % 2; y = c.args.y + n / 2 } in
          let none : t.at (further p n) ≡ None = ap t.at (sym is) ∙ sym c.get.ensures ∙ none-is c.get.result c.is_none.result c.is_none.ensures w.if-is_none.true in
          let stands : StandsIn t gap = record { x = omega (arith, c.requires.x); y = omega (arith, c.requires.y, few) } in
          let more = gaps-more planes t p n c.loop-c.gaps.items gap few is stands none was.gaps in
          record {
            few = omega (arith, ap (λ (g : _). length g.items) w.gaps-is, ap length w.push.ensures.items, length_push c.loop-c.gaps.items gap, was.few);
            gaps = subst (AreGapsBelow (n + 1) t p) (sym (ap (λ g. g.items) w.gaps-is ∙ w.push.ensures.items)) more;
          }
      | else-is_none w ↦
          let known : is_known (t.at (further p n)) ≡ true = ap (λ q. is_known (t.at q)) (sym is) ∙ ap is_known (sym c.get.ensures) ∙ known-is c.get.result c.is_none.result c.is_none.ensures w.if-is_none.false in
          record {
            few = omega (arith, ap (λ (g : _). length g.items) w.gaps-is, was.few);
            gaps = subst (AreGapsBelow (n + 1) t p) (sym (ap (λ g. g.items) w.gaps-is)) (gaps-known t p n c.loop-c.gaps.items known was.gaps);
          }
    ]
