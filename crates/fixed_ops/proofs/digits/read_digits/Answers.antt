use Rattle.std.proofs.Common.{◌≡◌, ◌^◌, ◌≤◌, arith, refl, sym, ◌∙◌, true}
use Rattle.std.proofs.Math.Nat.{pow-le-pow_right}
use Rattle.std.specs.Str.Parse.{digits_value}
use Rattle.fixed_ops.specs.Numerals.{is_short}
use Rattle.fixed_ops.proofs.DigitLaws.{short_below, short_is}
use Rattle.fixed_ops.proofs.digits.read_digits.Goals as goal

pub number_after-requires-clause-digits : goal.number_after-requires-clause-digits
number_after-requires-clause-digits c =
    (short_is c.args.most c.args.text.now (sym c.is_short_run.ensures ∙ c.if-is_short_run.true)).0

pub returns-then-is_short_run-clause-value : goal.returns-then-is_short_run-clause-value
returns-then-is_short_run-clause-value c =
    let is : is_short c.args.most c.args.text.now ≡ true = sym c.is_short_run.ensures ∙ c.if-is_short_run.true in
    let below = short_below c.args.most c.args.text.now is in
    let power : 10 ^ c.args.most ≤ 10 ^ 37 = pow-le-pow_right {n = 10} (omega arith) c.requires in
    let e : c.number_after.result ≡ digits_value 10 c.args.text.now = omega (arith, below, power, c.number_after.ensures) in
    rw (e, is) refl

pub returns-then-is_short_run-clause-below : goal.returns-then-is_short_run-clause-below
returns-then-is_short_run-clause-below c =
    let is : is_short c.args.most c.args.text.now ≡ true = sym c.is_short_run.ensures ∙ c.if-is_short_run.true in
    let below = short_below c.args.most c.args.text.now is in
    omega (arith, below, c.number_after.ensures)
