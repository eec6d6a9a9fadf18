-- The product fits in 128 bits, and its part of 65536 in the 64 bits of the way.
use Rattle.std.proofs.Common.{◌≡◌, ◌∙◌, ◌*ℤ◌, ◌≤◌, ◌^◌, ap, arith, of_z, pos, refl, subst, sym, to_z, w64, ℕ, ℤ, FitsSigned}
use Rattle.std.specs.Prelude.{negsuc}
use Rattle.std.specs.Int.RustNames.{unsigned_abs}
use Rattle.std.proofs.lemmas.Int.{clamps, fits_signed_mul, ints, to_z-of_z}
use lib.Signed.{shr_z}
use mir.Syntax.{w128}
use Rattle.fixed_ops.specs.Raw.{floor_div}
use Rattle.tetra_mesh.proofs.WayLaws.{IsPartOf, parts_within}
use Rattle.tetra_mesh.proofs.place.parts.Goals as goal

wider : (z : ℤ) → FitsSigned w64 z → FitsSigned w128 z
wider z fits = record { sfits = omega (arith, fits.sfits) }

size : (z : ℤ) → FitsSigned w64 z → unsigned_abs z ≤ 2 ^ 63
size (pos n) fits = omega (arith, fits.sfits)
size (negsuc n) fits = omega (arith, fits.sfits)

product_fits : (way : ℤ) (t : ℕ) → FitsSigned w64 way → t ≤ 65535 → FitsSigned w128 (way *ℤ pos t)
product_fits way t fits few = fits_signed_mul w128 way (pos t) (2 ^ 63) 65535 (size way fits) few (omega arith)

shifted : (z : ℤ) → shr_z z 65536 ≡ floor_div z 65536
shifted (pos n) = refl
shifted (negsuc n) = refl

part_fits : (way part : ℤ) → FitsSigned w64 way → IsPartOf way part → FitsSigned w64 part
part_fits way part fits is = omega (arith, ints, clamps, fits, is.least, is.greatest)

-- the factors are taken over as they are
factors : (way a b : ℤ) (t : ℕ) → FitsSigned w64 way → t ≤ 65535 → a ≡ to_z w64 (of_z w64 way) → b ≡ pos t
    → to_z w128 (of_z w128 a) *ℤ to_z w128 (of_z w128 b) ≡ way *ℤ pos t
factors way a b t fits few first second =
    let same : to_z w128 (of_z w128 a) ≡ way = ap (λ z. to_z w128 (of_z w128 z)) (first ∙ to_z-of_z w64 way fits) ∙ to_z-of_z w128 way (wider way fits) in
    let so : to_z w128 (of_z w128 b) ≡ pos t = ap (λ z. to_z w128 (of_z w128 z)) second ∙ omega (arith, ints, few) in
    ap (λ z. z *ℤ to_z w128 (of_z w128 b)) same ∙ ap (λ z. way *ℤ z) so

-- and so is the part
whole : (way product : ℤ) (t : ℕ) → FitsSigned w64 way → t ≤ 65535 → product ≡ way *ℤ pos t
    → to_z w128 (of_z w128 (shr_z (to_z w128 (of_z w128 product)) 65536)) ≡ floor_div (way *ℤ pos t) 65536
whole way product t fits few is =
    let part = floor_div (way *ℤ pos t) 65536 in
    ap (λ z. to_z w128 (of_z w128 (shr_z (to_z w128 (of_z w128 z)) 65536))) is
    ∙ ap (λ z. to_z w128 (of_z w128 (shr_z z 65536))) (to_z-of_z w128 (way *ℤ pos t) (product_fits way t fits few))
    ∙ ap (λ z. to_z w128 (of_z w128 z)) (shifted (way *ℤ pos t))
    ∙ to_z-of_z w128 part (wider part (part_fits way part fits (parts_within way t few)))

pub overflow_mul-result : goal.overflow_mul-result
overflow_mul-result c =
    subst (FitsSigned w128) (sym (factors c.args.way c.from.result c.from-2.result c.args.t c.ranges.way c.requires c.from.ensures c.from-2.ensures)) (product_fits c.args.way c.args.t c.ranges.way c.requires)

pub overflow_cast-result : goal.overflow_cast-result
overflow_cast-result c =
    let way = c.args.way in
    let part = floor_div (way *ℤ pos c.args.t) 65536 in
    let is = factors way c.from.result c.from-2.result c.args.t c.ranges.way c.requires c.from.ensures c.from-2.ensures in
    subst (FitsSigned w64) (sym (whole way _ c.args.t c.ranges.way c.requires is)) (part_fits way part c.ranges.way (parts_within way c.args.t c.requires))

pub returns : goal.returns
returns c =
    let way = c.args.way in
    let part = floor_div (way *ℤ pos c.args.t) 65536 in
    let is = factors way c.from.result c.from-2.result c.args.t c.ranges.way c.requires c.from.ensures c.from-2.ensures in
    ap (λ z. to_z w64 (of_z w64 z)) (whole way _ c.args.t c.ranges.way c.requires is) ∙ to_z-of_z w64 part (part_fits way part c.ranges.way (parts_within way c.args.t c.requires))
