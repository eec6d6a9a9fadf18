-- Bytes that may stand in a token. Proofs of the crates above cite these.
use Rattle.std.proofs.Common.{◌≡◌, ℕ, ◌+◌, ◌%◌, ◌^◌, ◌<◌, ◌≤◌, true, List, [], ◌∷◌, ◌++◌, refl, ◌∙◌, arith}
use Rattle.std.specs.Prelude.{decimal}
use Rattle.std.specs.List.{list_all}
use Rattle.std.proofs.lemmas.Bool.{ne_eqb}
use Rattle.std.proofs.lemmas.Fmt.{decimal_by_steps}
use Rattle.std.proofs.lemmas.List.Folds.{list_all-append}
use Rattle.solid_model.specs.Names.{is_token_byte}

-- a byte behind all blanks may stand in a token
pub token_byte : (byte : ℕ) → 33 ≤ byte → is_token_byte byte ≡ true
token_byte byte high =
    rw (ne_eqb byte 32 (λ e. omega (arith, e, high)), ne_eqb byte 9 (λ e. omega (arith, e, high)), ne_eqb byte 13 (λ e. omega (arith, e, high)), ne_eqb byte 10 (λ e. omega (arith, e, high))) refl

-- and so may the digits of a number
pub token_digits : (n : ℕ) → n < 2 ^ 64 → list_all is_token_byte (decimal n) ≡ true
token_digits = decimal_by_steps (λ n ds. list_all is_token_byte ds ≡ true) one more
  where
    one : (n : ℕ) → n < 10 → list_all is_token_byte ((48 + n) ∷ []) ≡ true
    one n small = rw (token_byte (48 + n) (omega arith)) refl

    more : (n : ℕ) (ds : List ℕ) → 10 ≤ n → list_all is_token_byte ds ≡ true → list_all is_token_byte (ds ++ ((48 + n % 10) ∷ [])) ≡ true
    more n ds high so_far = list_all-append is_token_byte ds ((48 + n % 10) ∷ []) ∙ rw (so_far, token_byte (48 + n % 10) (omega arith)) refl
