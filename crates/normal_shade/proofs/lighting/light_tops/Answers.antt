-- Row after row is lit, and then those top samples that still wait.
use Rattle.std.proofs.Common.{◌≡◌, ◌≤◌, ◌+◌, [], ap, arith, false, length, refl, rules, subst, sym, ◌∙◌}
use Rattle.std.specs.Prelude.{◌||◌}
use Rattle.std.specs.List.{All}
use Rattle.fixed_ops.specs.Counts.{RisesBy, points_of}
use Rattle.view_places.specs.Boxes.{IsBox}
use Rattle.box_chains.proofs.Theorems.{laws}
use Rattle.normal_shade.specs.Marks.{has_top_at, lit_along, shade_at}
use Rattle.normal_shade.specs.TopSamples.{AllButWaiting, HasTop, IsSample, lit_samples, stand_at}
use Rattle.normal_shade.proofs.Lit.{Becomes, row-more, rows-none}
use Rattle.normal_shade.proofs.Rows.{lit_to, rows-lit, rows-next, rows-unlit}
use Rattle.normal_shade.proofs.Waiting.{waits-counted, waits-end, waits-lit, waits-none, waits-same}
use Rattle.normal_shade.proofs.lighting.light_tops.Goals as goal

pub loop-j-init : goal.loop-j-init
loop-j-init c =
    let b = c.args.b in
    let w = c.args.w in
    let tops = c.args.tops.now in
    let list = c.args.list.now in
    let view = c.args.places.now.view in
    let y0 = ap (λ b. b.y0) c.b.view_is in
    let none : c.new-waiting.result.items ≡ [] = c.new-waiting.ensures in
    record {
      same = refl {a = b};
      room = refl {a = c.args.scratch.now};
      as_many = refl;
      few = omega (arith, ap length none);
      samples = subst (All (IsSample view (length c.args.pixels.now))) (sym none) (search rules);
      lit = subst (λ ws. AllButWaiting view list tops (has_top_at w tops (record b { y1 = c.b.inside.y0 })) (lit_to view list tops b c.b.inside.y0) ws c.args.pixels.now c.args.pixels.now c.args.tally.now c.args.tally.now) (sym none)
          (waits-same view list tops c.args.pixels.now c.args.tally.now (λ p. false) (has_top_at w tops (record b { y1 = c.b.inside.y0 })) 0 (lit_to view list tops b c.b.inside.y0) [] c.args.pixels.now c.args.tally.now
          (λ p. sym (rows-none w c.b.inside.y0 p b tops y0)) (sym (rows-unlit view list tops b c.b.inside.y0 y0)) (waits-none view list tops c.args.pixels.now c.args.tally.now));
    }

pub loop-j-preserved : goal.loop-j-preserved
loop-j-preserved c =
    let w = c.args.w in
    let b = c.args.b in
    let j = c.loop-j.j in
    let tops = c.args.tops.now in
    let list = c.args.list.now in
    let view = c.args.places.now.view in
    let was = c.loop-j.invariant in
    let y0 = ap (λ b. b.y0) c.b.view_is in
    let above : b.y0 ≤ j = omega (arith, y0, c.loop-j.auto.j) in
    let many = c.light_row.auto.pixels ∙ was.as_many in
    record {
      same = was.same;
      room = c.light_row.ensures.room ∙ was.room;
      as_many = many;
      few = c.light_row.ensures.few;
      samples = subst (λ n. All (IsSample view n) c.light_row.new.waiting.items) many c.light_row.ensures.samples;
      lit = waits-same view list tops c.args.pixels.now c.args.tally.now (λ p. has_top_at w tops (record b { y1 = j }) p || has_top_at w tops (record b { y0 = j; y1 = j + 1 }) p) (has_top_at w tops (record b { y1 = j + 1 }))
          (lit_to view list tops b j + lit_along view list tops b j b.x0 b.x1) (lit_to view list tops b (j + 1)) c.light_row.new.waiting.items c.light_row.new.pixels c.light_row.new.tally
          (λ p. row-more w j p b tops above) (sym (rows-next laws view list tops b j above))
          (c.light_row.ensures.lit (has_top_at w tops (record b { y1 = j })) (lit_to view list tops b j) c.args.pixels.now c.args.tally.now was.lit);
    }

pub light_row-requires-clause-samples : goal.light_row-requires-clause-samples
light_row-requires-clause-samples c =
    subst (λ n. All (IsSample c.args.places.now.view n) c.loop-j.waiting.items) (sym c.loop-j.invariant.as_many) c.loop-j.invariant.samples

pub light_samples-requires-clause-samples : goal.light_samples-requires-clause-samples
light_samples-requires-clause-samples c =
    subst (λ s. All (IsSample c.args.places.now.view (length c.loop-j.pixels)) s) (sym c.as_slice.ensures.value)
    (subst (λ n. All (IsSample c.args.places.now.view n) c.loop-j.waiting.items) (sym c.loop-j.invariant.as_many) c.loop-j.invariant.samples)

pub returns-clause-pixels : goal.returns-clause-pixels
returns-clause-pixels c =
    let w = c.args.w in
    let b = c.args.b in
    let tops = c.args.tops.now in
    let list = c.args.list.now in
    let view = c.args.places.now.view in
    let was = c.loop-j.invariant.lit in
    let slice = c.as_slice.ensures.value in
    let y1 = ap (λ b. b.y1) c.b.view_is in
    let lit = c.light_samples.ensures.pixels tops (subst (All (HasTop tops)) (sym slice) was.have) in
    subst (λ y. Becomes (has_top_at w tops (record b { y1 = y })) (shade_at view list tops) c.args.pixels.now c.light_samples.new.pixels)
    (omega (arith, y1, c.loop-j-test.false, c.loop-j.auto.j-end, c.b.invariant.y))
    (waits-end view list tops c.args.pixels.now c.args.tally.now (has_top_at w tops (record b { y1 = c.loop-j.j })) (lit_to view list tops b c.loop-j.j) c.light_samples.new.pixels c.light_samples.new.tally
    (waits-lit view list tops c.args.pixels.now c.args.tally.now (has_top_at w tops (record b { y1 = c.loop-j.j })) (lit_to view list tops b c.loop-j.j) c.loop-j.waiting.items c.loop-j.pixels c.light_samples.new.pixels c.loop-j.tally c.light_samples.new.tally
    (subst (λ s. Becomes (stand_at s) (shade_at view list tops) c.loop-j.pixels c.light_samples.new.pixels) slice lit)
    (subst (λ s. RisesBy c.loop-j.tally c.light_samples.new.tally (points_of (lit_samples view list s))) slice c.light_samples.ensures.counted) was))

pub returns-clause-counted : goal.returns-clause-counted
returns-clause-counted c =
    let w = c.args.w in
    let b = c.args.b in
    let tops = c.args.tops.now in
    let list = c.args.list.now in
    let view = c.args.places.now.view in
    let was = c.loop-j.invariant.lit in
    let slice = c.as_slice.ensures.value in
    let y1 = ap (λ b. b.y1) c.b.view_is in
    let lit = c.light_samples.ensures.pixels tops (subst (All (HasTop tops)) (sym slice) was.have) in
    subst (λ n. RisesBy c.args.tally.now c.light_samples.new.tally (points_of n))
    (rows-lit view list w tops b c.loop-j.j c.requires.leaf.width (subst IsBox c.b.view_is c.b.invariant) (omega (arith, y1, c.loop-j-test.false, c.loop-j.auto.j-end, c.b.invariant.y)))
    (waits-counted view list tops c.args.pixels.now c.args.tally.now (has_top_at w tops (record b { y1 = c.loop-j.j })) (lit_to view list tops b c.loop-j.j) c.light_samples.new.pixels c.light_samples.new.tally
    (waits-lit view list tops c.args.pixels.now c.args.tally.now (has_top_at w tops (record b { y1 = c.loop-j.j })) (lit_to view list tops b c.loop-j.j) c.loop-j.waiting.items c.loop-j.pixels c.light_samples.new.pixels c.loop-j.tally c.light_samples.new.tally
    (subst (λ s. Becomes (stand_at s) (shade_at view list tops) c.loop-j.pixels c.light_samples.new.pixels) slice lit)
    (subst (λ s. RisesBy c.loop-j.tally c.light_samples.new.tally (points_of (lit_samples view list s))) slice c.light_samples.ensures.counted) was))
