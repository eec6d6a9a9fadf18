use Rattle.std.proofs.Common.{◌≡◌, ◌+◌, ◌/◌, ◌%◌, ◌<◌, ap, arith, length, refl, subst, sym, true, ◌∙◌}
use Rattle.std.specs.Prelude.{IfSome, None}
use Rattle.std.proofs.lemmas.List.{length_push}
use Rattle.kuhn_cells.specs.Triangles.{further, point}
use Rattle.oct_descent.specs.Corners.{AreTogether}
use Rattle.oct_descent.specs.Gaps.{AreGapsBelow, StandsIn}
use Rattle.oct_descent.specs.declared.gap.Gap.{Gap}
use Rattle.oct_descent.specs.Tables.{IsSame, is_known, known_at}
use Rattle.oct_descent.proofs.Bricks.{together-stays}
use Rattle.oct_descent.proofs.Corners.{known-is, none-is}
use Rattle.oct_descent.proofs.GapLaws.{gaps-known, gaps-more, same-then}
use Rattle.oct_descent.proofs.filling.find_gaps.Goals.{then-is_none+in_ok-at, else-is_none}
use Rattle.oct_descent.proofs.filling.find_gaps.Goals as goal

pub loop-c-preserved : goal.loop-c-preserved
loop-c-preserved c =
    let p = point c.args.x c.args.y c.args.z in
    let n = c.loop-c.c in
    let old = c.args.values.now in
    let mid = c.loop-c.values in
    let was = c.loop-c.invariant in
    let few : n < 8 = omega (arith, c.loop-c-test.true, c.loop-c.auto.c-end) in
    elim c.if-is_none.branch [
      | then-is_none+in_ok-at w ↦
          let next = w.corner_room.new.self in
          let same = w.in_ok-at.ensures.same in
          let gap : Gap = record { x = c.args.x + n % 2; y = c.args.y + n / 2 % 2; z = c.args.z + n / 4 % 2; at = w.in_ok-at.at } in
          let none : known_at mid (further p n) ≡ None = sym c.corner.ensures ∙ none-is c.corner.result c.is_none.result c.is_none.ensures w.if-is_none.true in
          let stands : StandsIn next gap =
          record {
            x = omega (arith, c.requires.x, was.same.n.0, same.n.0);
            y = omega (arith, c.requires.y, was.same.n.1.0, same.n.1.0);
            z = omega (arith, c.requires.z, was.same.n.1.1, same.n.1.1);
            stands = w.in_ok-at.ensures.room;
            within = w.in_ok-at.ensures.within;
          } in
          let more = gaps-more mid next p n c.loop-c.gaps.items gap few w.in_ok-at.ensures.keeps same refl stands none was.gaps in
          record {
            same = subst (IsSame old) (sym w.values-is) (same-then old mid next was.same same);
            together = subst (λ t. IfSome c.together-first.result (AreTogether t p)) (sym w.values-is) (together-stays mid next p c.together-first.result w.in_ok-at.ensures.keeps was.together);
            few = omega (arith, ap (λ (g : _). length g.items) w.gaps-is, ap length w.push.ensures.items, length_push c.loop-c.gaps.items gap, was.few);
            gaps = subst (λ t. AreGapsBelow (n + 1) t p c.if-is_none.gaps.items) (sym w.values-is)
                (subst (AreGapsBelow (n + 1) next p) (sym (ap (λ g. g.items) w.gaps-is ∙ w.push.ensures.items)) more);
          }
      | else-is_none w ↦
          let known : is_known (known_at mid (further p n)) ≡ true = ap is_known (sym c.corner.ensures) ∙ known-is c.corner.result c.is_none.result c.is_none.ensures w.if-is_none.false in
          record {
            same = subst (IsSame old) (sym w.values-is) was.same;
            together = subst (λ t. IfSome c.together-first.result (AreTogether t p)) (sym w.values-is) was.together;
            few = omega (arith, ap (λ (g : _). length g.items) w.gaps-is, was.few);
            gaps = subst (λ t. AreGapsBelow (n + 1) t p c.if-is_none.gaps.items) (sym w.values-is)
                (subst (AreGapsBelow (n + 1) mid p) (sym (ap (λ g. g.items) w.gaps-is)) (gaps-known mid p n c.loop-c.gaps.items known was.gaps));
          }
    ]
