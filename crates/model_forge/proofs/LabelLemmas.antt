-- The name of a letter and a number.
use Rattle.std.proofs.Common.{ℕ, ◌<◌, ◌≤◌, ◌^◌, ◌∷◌, length, refl, arith}
use Rattle.std.specs.Prelude.{decimal}
use Rattle.std.proofs.lemmas.Bool.{ne_eqb}
use Rattle.std.proofs.lemmas.Fmt.{length-decimal-le}
use Rattle.solid_model.specs.Names.{IsName}
use Rattle.solid_model.proofs.TokenBytes.{token_byte, token_digits}

pub number_short : (n : ℕ) → n < 2 ^ 32 → length (decimal n) ≤ 10
number_short n small = length-decimal-le 10 n (omega arith) (omega (arith, small)) (omega (arith, small))

pub label_name : (letter n : ℕ) → 97 ≤ letter → n < 2 ^ 32 → IsName (letter ∷ decimal n)
label_name letter n low small =
    rw (ne_eqb letter 35 (λ e. omega (arith, e, low)), token_byte letter (omega (arith, low)), token_digits n (omega (arith, small))) refl
