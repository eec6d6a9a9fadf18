-- The name of a place is a name, and each place has another.
use Rattle.std.proofs.Common.{◌≡◌, ℕ, ◌<◌, ◌^◌, drop, ap, refl}
use Rattle.std.proofs.lemmas.Fmt.{decimal_injective}
use Rattle.solid_model.specs.Names.{IsName}
use Rattle.solid_lang.specs.Compiled.{place_name}
use Rattle.solid_model.proofs.TokenBytes.{token_digits}

pub place_is_name : (n : ℕ) → n < 2 ^ 64 → IsName (place_name n)
place_is_name n small = rw (token_digits n small) refl

pub same_place : (m n : ℕ) → m < 2 ^ 64 → n < 2 ^ 64 → place_name m ≡ place_name n → m ≡ n
same_place m n few_m few_n e = decimal_injective m n few_m few_n (ap (drop 1) e)
