-- The parts that spell a numeral, one after the other.
use Rattle.std.specs.Prelude.{◌≡◌, ℕ, ◌<◌, ℤ, Bool, true, false, ◌==◌, ◌⊎◌, List, [], ◌∷◌, ◌++◌, length, drop, codes}
use Rattle.std.specs.Str.Parse.{AllDigits, signed_digits_value}
use Rattle.fixed_ops.specs.Numerals.{cut_magnitude, is_exponent, nearest_raw, with_sign}

-- a sign, digits, a point, further digits and an exponent, each as it is written
pub record Spelling : Type 0 where
  pub sign : List ℕ
  pub whole : List ℕ
  pub point : List ℕ
  pub fraction : List ℕ
  pub exponent : List ℕ

-- a sign or none
abbrev pub IsSign : List ℕ → Type 0
IsSign bs = (bs ≡ []) ⊎ ((bs ≡ codes "+") ⊎ (bs ≡ codes "-"))

-- a point, or none and then no further digits
abbrev pub IsDot : List ℕ → List ℕ → Type 0
IsDot bs fraction = ((bs ≡ []) × (fraction ≡ [])) ⊎ (bs ≡ codes ".")

-- the parts are of their kinds, and there is some digit
pub record IsSpelling (s : Spelling) : Type 0 where
  pub sign : IsSign s.sign
  pub whole : AllDigits 10 s.whole
  pub point : IsDot s.point s.fraction
  pub fraction : AllDigits 10 s.fraction
  pub digit : 0 < length (s.whole ++ s.fraction)
  pub exponent : is_exponent s.exponent ≡ true

-- the token that the parts spell
abbrev pub spelled : Spelling → List ℕ
spelled s = s.sign ++ (s.whole ++ (s.point ++ (s.fraction ++ s.exponent)))

-- a minus sign
abbrev pub is_minus : List ℕ → Bool
is_minus [] = false
is_minus (sign ∷ _) = sign == 45

-- the number of an exponent, which is 0 where it is left out
abbrev pub exponent_of : List ℕ → ℤ
exponent_of exponent = signed_digits_value 10 (drop 1 exponent)

-- the raw number that the parts mean
abbrev pub spelling_value : Spelling → ℤ
spelling_value s =
    with_sign (is_minus s.sign) (nearest_raw (cut_magnitude s.whole s.fraction (exponent_of s.exponent)))
