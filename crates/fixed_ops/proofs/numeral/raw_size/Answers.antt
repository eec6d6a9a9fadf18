use Rattle.std.proofs.Common.{◌≡◌, ap, ◌∙◌, arith, to_z, of_z, w32, w64}
use Rattle.std.specs.Prelude.{pos}
use Rattle.std.proofs.lemmas.Int.{ints, to_z-of_z, fits_signed_from_abs}
use Rattle.fixed_ops.specs.Numerals.{cut_magnitude, nearest_raw}
use Rattle.fixed_ops.proofs.NumeralLaws.{nearest_capped}
use Rattle.fixed_ops.proofs.numeral.raw_size.Goals as goal

pub returns-else-exponent-eq0-clause-value : goal.returns-else-exponent-eq0-clause-value
returns-else-exponent-eq0-clause-value c =
    let e = c.args.exponent in
    let narrow : to_z w32 (of_z w32 e) ≡ e = to_z-of_z w32 e (fits_signed_from_abs w32 e (omega (arith, c.requires.exponent))) in
    let magnitude = rw narrow at c.magnitude.ensures in
    let kept : to_z w64 (of_z w64 c.nearest.result) ≡ c.nearest.result = omega (arith, ints) in
    kept ∙ c.nearest.ensures.value ∙ ap pos (ap nearest_raw magnitude ∙ nearest_capped (cut_magnitude c.args.whole.now c.args.fraction.now e))
