-- How raw numbers are written.
use Rattle.std.specs.Prelude.{ℕ, ◌-◌, ◌*◌, ◌/◌, ◌%◌, ◌+◌, ◌^◌, ℤ, pos, negsuc, List, [], ◌∷◌, ◌++◌, length, replicate, decimal}
use Prim.Native.Nat.{suc}

-- the digits of n, with zeros in front of them up to k digits
abbrev pub zero_padded : ℕ → ℕ → List ℕ
zero_padded k n = replicate (k - length (decimal n)) 48 ++ decimal n

-- the two digits of a number below a hundred
abbrev pub pair_text : ℕ → List ℕ
pair_text p = (48 + p / 10) ∷ (48 + p % 10) ∷ []

-- the number n / 2^32: its whole part without leading zeros, a point, and ten decimals cut towards zero
unfoldable pub size_text : ℕ → List ℕ
size_text n = decimal (n / 2 ^ 32) ++ 46 ∷ zero_padded 10 (n % 2 ^ 32 * 10 ^ 10 / 2 ^ 32)

-- the text of a raw number, with a minus where it is below 0
abbrev pub number_text : ℤ → List ℕ
number_text (pos n) = size_text n
number_text (negsuc n) = 45 ∷ size_text (suc n)
