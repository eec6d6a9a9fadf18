-- A column whose top sample lies in the box is lit soon, and another stays.
use Rattle.std.proofs.Common.{◌≡◌, ◌+◌, ◌-◌, ◌*◌, ◌<◌, ℕ, true, false, ap, arith, length, subst, sym, ◌∙◌}
use Rattle.height_map.specs.Columns.{IsAmong}
use Rattle.box_chains.proofs.Theorems.{laws}
use Rattle.normal_shade.specs.declared.top_sample.TopSample.{TopSample}
use Rattle.normal_shade.proofs.TopSamples.{has_top_in, top_sample}
use Rattle.normal_shade.proofs.Waiting.{column-dark, column-lit, column-there, column-top}
use Rattle.normal_shade.proofs.lighting.light_column.Goals as goal

pub returns-then-not-is_within-clause-lit : goal.returns-then-not-is_within-clause-lit
returns-then-not-is_within-clause-lit c = λ columns points old before was.
    let leaf = c.requires.leaf in
    let e : has_top_in c.args.w c.args.tops.now c.args.b c.args.j c.args.i ≡ false = sym c.is_within.ensures ∙ c.if-not-is_within.true in
    column-dark laws c.args.places.now.view c.args.list.now c.args.w c.args.tops.now c.args.b c.args.j c.args.i leaf.width c.requires.left (omega (arith, c.requires.column, leaf.among.columns))
    columns points c.args.waiting.now.items old c.args.pixels.now before c.args.tally.now e was

pub light_soon-requires-clause-sample : goal.light_soon-requires-clause-sample
light_soon-requires-clause-sample c =
    let leaf = c.requires.leaf in
    let i = c.args.i in
    let j = c.args.j in
    let w = c.args.w in
    let tops = c.args.tops.now in
    let view = c.args.places.now.view in
    let e : has_top_in w tops c.args.b j i ≡ true = sym c.is_within.ensures ∙ c.if-not-is_within.false in
    let sample : ℕ → TopSample = λ top. record { i = i; j = j; k = top - 1; place = j * w + i } in
    let is : sample c.from-k.result ≡ top_sample w tops j i = ap sample c.from-k.ensures in
    column-there laws view c.args.list.now w tops c.args.b j i leaf.width c.requires.left (omega (arith, c.requires.column, leaf.among.columns))
    (length c.args.pixels.now) leaf.within (subst (λ n. IsAmong w n c.args.b) (sym c.requires.pixels) leaf.among) c.requires.row c.requires.column e (sample c.from-k.result) is

pub returns-clause-lit : goal.returns-clause-lit
returns-clause-lit c = λ columns points old before was.
    let leaf = c.requires.leaf in
    let b = c.args.b in
    let i = c.args.i in
    let j = c.args.j in
    let w = c.args.w in
    let tops = c.args.tops.now in
    let view = c.args.places.now.view in
    let list = c.args.list.now in
    let narrow : i < w = omega (arith, c.requires.column, leaf.among.columns) in
    let e : has_top_in w tops b j i ≡ true = sym c.is_within.ensures ∙ c.if-not-is_within.false in
    let sample : ℕ → TopSample = λ top. record { i = i; j = j; k = top - 1; place = j * w + i } in
    let is : sample c.from-k.result ≡ top_sample w tops j i = ap sample c.from-k.ensures in
    column-lit laws view list w tops b j i leaf.width c.requires.left narrow columns points c.light_soon.new.waiting.items old c.light_soon.new.pixels before c.light_soon.new.tally (sample c.from-k.result) e is
    (c.light_soon.ensures.lit tops columns points old before
    (column-top laws view list w tops b j i leaf.width c.requires.left narrow e (sample c.from-k.result) is) was)
