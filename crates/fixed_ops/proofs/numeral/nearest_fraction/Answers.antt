use Rattle.std.proofs.Common.{◌≡◌, ◌+◌, ◌-◌, ◌*◌, ◌%◌, ◌^◌, ◌<◌, ℕ, length, arith, ap, sym}
use Rattle.std.specs.Str.Parse.{digits_value}
use Rattle.std.proofs.lemmas.Nat.{div_below}
use Rattle.fixed_ops.proofs.NumeralLaws.{fraction_fits, fraction_fives}
use Rattle.fixed_ops.proofs.numeral.nearest_fraction.Goals as goal

pub pow-fives-requires : goal.pow-fives-requires
pow-fives-requires c = omega (arith, fraction_fits c.args.digits.now c.requires.digits c.requires.len)

pub overflow_add-result : goal.overflow_add-result
overflow_add-result c =
    let ds = c.args.digits.now in
    let fits = fraction_fits ds c.requires.digits c.requires.len in
    let number : c.small_number.result * 2 ^ (33 - length ds) ≡ digits_value 10 ds * 2 ^ (33 - length ds) = ap (λ (x : ℕ). x * 2 ^ (33 - length ds)) c.small_number.ensures in
    omega (arith, fits, number, c.pow-fives.ensures)

pub overflow_mul-result : goal.overflow_mul-result
overflow_mul-result c = omega (arith, fraction_fits c.args.digits.now c.requires.digits c.requires.len, c.pow-fives.ensures)

pub nonzero_div-result : goal.nonzero_div-result
nonzero_div-result c = omega (arith, fraction_fits c.args.digits.now c.requires.digits c.requires.len, c.pow-fives.ensures)

pub returns-clause-value : goal.returns-clause-value
returns-clause-value c =
    let ds = c.args.digits.now in
    let fits = fraction_fits ds c.requires.digits c.requires.len in
    let number : c.small_number.result * 2 ^ (33 - length ds) ≡ digits_value 10 ds * 2 ^ (33 - length ds) = ap (λ (x : ℕ). x * 2 ^ (33 - length ds)) c.small_number.ensures in
    let kept : c.small_number.result * 2 ^ (33 - length ds) % 2 ^ 64 ≡ digits_value 10 ds * 2 ^ (33 - length ds) = omega (arith, fits, number) in
    rw (kept, c.pow-fives.ensures) (sym (fraction_fives (digits_value 10 ds) (length ds) (omega arith)))

pub returns-clause-bound : goal.returns-clause-bound
returns-clause-bound c =
    let ds = c.args.digits.now in
    let fits = fraction_fits ds c.requires.digits c.requires.len in
    let number : c.small_number.result * 2 ^ (33 - length ds) ≡ digits_value 10 ds * 2 ^ (33 - length ds) = ap (λ (x : ℕ). x * 2 ^ (33 - length ds)) c.small_number.ensures in
    let kept : c.small_number.result * 2 ^ (33 - length ds) % 2 ^ 64 ≡ digits_value 10 ds * 2 ^ (33 - length ds) = omega (arith, fits, number) in
    let n = digits_value 10 ds * 2 ^ (33 - length ds) + 5 ^ length ds in
    let below : n < (2 ^ 32 + 1) * (2 * 5 ^ length ds) = omega (arith, fits) in
    rw (kept, c.pow-fives.ensures) (omega (arith, div_below n (2 * 5 ^ length ds) (2 ^ 32 + 1) (omega (arith, fits)) below))
