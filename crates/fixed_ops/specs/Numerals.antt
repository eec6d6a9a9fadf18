-- What a numeral is, and which raw number it means.
use Rattle.std.specs.Prelude.{ℕ, ◌+◌, ◌-◌, ◌*◌, ◌/◌, ◌^◌, ℤ, pos, negsuc, ◌+ℤ◌, ◌-ℤ◌, Bool, true, ◌&&◌, ◌||◌, ◌==◌, nat_lt, nat_le, if◌then◌else◌, min, List, [], ◌∷◌, ◌++◌, length, drop, slice_index, Option, Some, None}
use Prim.Native.Nat.{suc}
use lib.IntN.{neg_ℤ}
use Rattle.std.specs.Char.{is_ascii_digit}
use Rattle.std.specs.List.{prefix_len, take_while}
use Rattle.std.specs.Str.{all_ascii_digits}
use Rattle.std.specs.Str.Parse.{digits_value, signed_digits_value, starts_with_minus, without_leading_sign}

-- the digits with which a text begins
abbrev pub front_digits : List ℕ → List ℕ
front_digits bs = take_while is_ascii_digit bs

-- what follows the digits with which a text begins
abbrev pub after_digits : List ℕ → List ℕ
after_digits bs = drop (prefix_len is_ascii_digit bs) bs

-- a text begins with a point
abbrev pub starts_with_point : List ℕ → Bool
starts_with_point bs = slice_index bs 0 == 46

-- the digits after the point with which a text begins, and none where it begins with no point
abbrev pub point_digits : List ℕ → List ℕ
point_digits bs = if starts_with_point bs then front_digits (drop 1 bs) else []

-- what follows a point and its digits
abbrev pub after_point_digits : List ℕ → List ℕ
after_point_digits bs = if starts_with_point bs then after_digits (drop 1 bs) else bs

-- the digits before the point of a numeral without a sign
abbrev pub whole_part : List ℕ → List ℕ
whole_part body = front_digits body

-- the digits after its point
abbrev pub fraction_part : List ℕ → List ℕ
fraction_part body = point_digits (after_digits body)

-- what follows its digits and its point
abbrev pub exponent_part : List ℕ → List ℕ
exponent_part body = after_point_digits (after_digits body)

-- one to so many digits
abbrev pub is_short : ℕ → List ℕ → Bool
is_short most ds = nat_lt 0 (length ds) && (nat_le (length ds) most && all_ascii_digits ds)

-- the number that one to so many digits spell, and None where a text is something else
abbrev pub digits_read : ℕ → List ℕ → Option ℕ
digits_read most text = if is_short most text then Some (digits_value 10 text) else None

-- nothing, or an e, a sign or none, and one to three digits
abbrev pub is_exponent : List ℕ → Bool
is_exponent [] = true
is_exponent (c ∷ cs) = (c == 101 || c == 69) && is_short 3 (without_leading_sign cs)

-- digits with a point or none among, before or after them, at least one digit, and an exponent or none
unfoldable pub is_unsigned_numeral : List ℕ → Bool
is_unsigned_numeral body =
    nat_lt 0 (length (whole_part body ++ fraction_part body)) && is_exponent (exponent_part body)

-- n * 10^k, rounded down
abbrev pub times_power : ℕ → ℤ → ℕ
times_power n (pos k) = n * 10 ^ k
times_power n (negsuc k) = n / 10 ^ suc k

-- the number of these digits with this exponent, in units of 10^-28, rounded down
unfoldable pub cut_magnitude : List ℕ → List ℕ → ℤ → ℕ
cut_magnitude whole fraction exponent =
    times_power (digits_value 10 (whole ++ fraction)) (exponent -ℤ pos (length fraction) +ℤ pos 28)

-- the raw number nearest to a number of units of 10^-28, the greater of two that are as near
unfoldable pub nearest_raw : ℕ → ℕ
nearest_raw q = min ((2 * q * 2 ^ 32 + 10 ^ 28) / (2 * 10 ^ 28)) (2 ^ 62 - 1)

-- the raw number of a numeral without a sign
unfoldable pub unsigned_raw : List ℕ → ℕ
unsigned_raw body =
    nearest_raw (cut_magnitude (whole_part body) (fraction_part body)
    (signed_digits_value 10 (drop 1 (exponent_part body))))

-- the raw number that a sign and a size mean
abbrev pub with_sign : Bool → ℕ → ℤ
with_sign minus size = if minus then neg_ℤ (pos size) else pos size

-- a numeral has a sign or none in front
abbrev pub is_numeral : List ℕ → Bool
is_numeral token = is_unsigned_numeral (without_leading_sign token)

-- the raw number of a numeral
abbrev pub numeral_value : List ℕ → ℤ
numeral_value token =
    with_sign (starts_with_minus token) (unsigned_raw (without_leading_sign token))

-- the raw number that a token means, and None where it is no numeral
abbrev pub numeral : List ℕ → Option ℤ
numeral token = if is_numeral token then Some (numeral_value token) else None
