-- One more column is lit, waits, or has its top sample elsewhere.
use Rattle.std.proofs.Common.{◌≡◌, ◌<◌, ◌≤◌, ◌+◌, ap, arith, refl, subst, sym, ◌∙◌}
use Rattle.std.specs.Prelude.{◌||◌}
use Rattle.std.specs.List.{All}
use Rattle.box_chains.proofs.Theorems.{laws}
use Rattle.normal_shade.specs.Marks.{has_top_at, lit_along}
use Rattle.normal_shade.specs.TopSamples.{AllButWaiting, IsSample}
use Rattle.normal_shade.proofs.Lit.{left-none, left_of, or-false}
use Rattle.normal_shade.proofs.Rows.{columns-unlit}
use Rattle.normal_shade.proofs.Waiting.{column-next, waits-same}
use Rattle.normal_shade.proofs.lighting.light_row.Goals as goal

pub loop-i-init : goal.loop-i-init
loop-i-init c =
    let b = c.args.b in
    let j = c.args.j in
    let tops = c.args.tops.now in
    let list = c.args.list.now in
    let view = c.args.places.now.view in
    let x0 = ap (λ b. b.x0) c.b.view_is in
    record {
      room = refl {a = c.args.scratch.now};
      same = refl;
      few = c.requires.few;
      samples = c.requires.samples;
      lit = λ columns points old before was.
          waits-same view list tops old before columns (λ p. columns p || has_top_at c.args.w tops (left_of b j c.b.inside.x0) p)
          points (points + lit_along view list tops b j b.x0 c.b.inside.x0) c.args.waiting.now.items c.args.pixels.now c.args.tally.now
          (λ p. sym (or-false (columns p)) ∙ ap (λ t. columns p || t) (sym (left-none c.args.w j c.b.inside.x0 p b tops x0)))
          (omega (arith, columns-unlit view list tops b j c.b.inside.x0 x0)) was;
    }

pub loop-i-preserved : goal.loop-i-preserved
loop-i-preserved c =
    let w = c.args.w in
    let b = c.args.b in
    let i = c.loop-i.i in
    let j = c.args.j in
    let tops = c.args.tops.now in
    let list = c.args.list.now in
    let view = c.args.places.now.view in
    let leaf = c.requires.leaf in
    let was = c.loop-i.invariant in
    let x0 = ap (λ b. b.x0) c.b.view_is in
    let x1 = ap (λ b. b.x1) c.b.view_is in
    let above : b.x0 ≤ i = omega (arith, x0, c.loop-i.auto.i) in
    let narrow : i < w = omega (arith, x1, c.loop-i-test.true, c.loop-i.auto.i-end, leaf.among.columns) in
    record {
      room = c.light_column.ensures.room ∙ was.room;
      same = c.light_column.auto.pixels ∙ was.same;
      few = c.light_column.ensures.few;
      samples = subst (λ n. All (IsSample view n) c.light_column.new.waiting.items) (c.light_column.auto.pixels ∙ was.same) c.light_column.ensures.samples;
      lit = λ columns points old before given.
          column-next laws view list w tops b j i leaf.width above narrow columns points c.light_column.new.waiting.items old c.light_column.new.pixels before c.light_column.new.tally
          (c.light_column.ensures.lit (λ p. columns p || has_top_at w tops (left_of b j i) p) (points + lit_along view list tops b j b.x0 i) old before (was.lit columns points old before given));
    }

pub light_column-requires-clause-left : goal.light_column-requires-clause-left
light_column-requires-clause-left c = omega (arith, ap (λ b. b.x0) c.b.view_is, c.loop-i.auto.i)

pub light_column-requires-clause-column : goal.light_column-requires-clause-column
light_column-requires-clause-column c = omega (arith, ap (λ b. b.x1) c.b.view_is, c.loop-i-test.true, c.loop-i.auto.i-end)

pub light_column-requires-clause-samples : goal.light_column-requires-clause-samples
light_column-requires-clause-samples c =
    subst (λ n. All (IsSample c.args.places.now.view n) c.loop-i.waiting.items) (sym c.loop-i.invariant.same) c.loop-i.invariant.samples

pub returns-clause-lit : goal.returns-clause-lit
returns-clause-lit c = λ columns points old before was.
    let x1 = ap (λ b. b.x1) c.b.view_is in
    let x0 = ap (λ b. b.x0) c.b.view_is in
    let view = c.args.places.now.view in
    let list = c.args.list.now in
    let tops = c.args.tops.now in
    let end : c.loop-i.i ≡ c.args.b.x1 = omega (arith, x0, x1, c.loop-i-test.false, c.loop-i.auto.i-end, c.b.invariant.x) in
    subst (λ n. AllButWaiting view list tops (λ p. columns p || has_top_at c.args.w tops (left_of c.args.b c.args.j n) p) (points + lit_along view list tops c.args.b c.args.j c.args.b.x0 n)
    c.loop-i.waiting.items old c.loop-i.pixels before c.loop-i.tally) end
    (c.loop-i.invariant.lit columns points old before was)

pub returns-clause-samples : goal.returns-clause-samples
returns-clause-samples c =
    subst (λ n. All (IsSample c.args.places.now.view n) c.loop-i.waiting.items) (sym c.loop-i.invariant.same) c.loop-i.invariant.samples
