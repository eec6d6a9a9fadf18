use Rattle.std.proofs.Common.{◌≡◌, arith, ap, sym, ◌∙◌, min, w32, to_z, of_z}
use Rattle.std.specs.Prelude.{pos, ◌+ℤ◌, ◌<ℤ◌, ◌≤ℤ◌, unsigned_abs, ℕ}
use Rattle.fixed_ops.specs.declared.digits.TheConstants.{TOO_GREAT}
use Rattle.std.proofs.lemmas.Int.{ints}
use Rattle.fixed_ops.proofs.NumeralLaws.{cut_down, cut_up, size_at_least_zero, size_below_zero}
use Rattle.fixed_ops.proofs.numeral.magnitude.Goals as goal

pub returns-then-places-lt0 : goal.returns-then-places-lt0
returns-then-places-lt0 c =
    let e = c.args.exponent in
    let kept : to_z w32 (of_z w32 c.kept_places-places.result) ≡ e +ℤ pos 28 = omega (arith, ints) in
    let low : (e +ℤ pos 28) <ℤ pos 0 = grind (arith, ints) in
    let size = rw kept at c.unsigned_abs.ensures.value in
    let taken = rw size at c.without_last.ensures in
    let cut = cut_down c.args.whole.now c.args.fraction.now e (unsigned_abs (e +ℤ pos 28)) c.requires.fraction (size_below_zero (e +ℤ pos 28) low) in
    taken ∙ ap (λ (x : ℕ). min x TOO_GREAT) (sym cut)

pub returns-else-places-lt0 : goal.returns-else-places-lt0
returns-else-places-lt0 c =
    let e = c.args.exponent in
    let kept : to_z w32 (of_z w32 c.kept_places-places.result) ≡ e +ℤ pos 28 = omega (arith, ints) in
    let high : pos 0 ≤ℤ (e +ℤ pos 28) = grind (arith, ints) in
    let taken = rw kept at c.cut_after.ensures in
    let cut = cut_up c.args.whole.now c.args.fraction.now e (unsigned_abs (e +ℤ pos 28)) (size_at_least_zero (e +ℤ pos 28) high) in
    taken ∙ ap (λ (x : ℕ). min x TOO_GREAT) (sym cut)
