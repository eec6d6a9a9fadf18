use Rattle.std.proofs.Common.{length, take, ap, arith, subst, ◌∙◌}
use Rattle.std.proofs.lemmas.List.{length-drop, take_rest}
use Rattle.contour_lines.specs.Gaps.{Fills}
use Rattle.contour_lines.specs.Tables.{known_of}
use Rattle.contour_lines.specs.Ways.{flat_value}
use Rattle.contour_lines.proofs.GapLaws.{fills-more}
use Rattle.oct_descent.proofs.GapLaws.{lanes-counted}
use Rattle.contour_lines.proofs.Theorems.{planes}
use Rattle.contour_lines.proofs.gaps.fill_gaps.Goals as goal

pub loop-at-preserved : goal.loop-at-preserved
loop-at-preserved c =
    let gaps = c.args.gaps.now in
    let at = c.loop-at.at in
    let g = flat_value c.args.places.now.view c.args.list.now in
    let rest = take_rest gaps at in
    record {
      within = omega (arith, c.loop-at.invariant.within, c.fill_some-at.ensures.few, ap length rest, length-drop at gaps);
      room = c.fill_some-at.auto.rows ∙ c.loop-at.invariant.room;
      fills = fills-more planes g at c.fill_some-at.result gaps (known_of c.args.values.now) (known_of c.loop-at.values) (known_of c.fill_some-at.new.values) c.loop-at.invariant.fills
          (subst (λ l. Fills g (take c.fill_some-at.result l) (known_of c.loop-at.values) (known_of c.fill_some-at.new.values)) rest c.fill_some-at.ensures.fills);
      counted = lanes-counted c.tallies_add_up.ensures c.args.tally.now c.loop-at.tally c.fill_some-at.new.tally at c.fill_some-at.result (length c.args.list.now) c.loop-at.invariant.counted c.fill_some-at.ensures.counted;
    }
