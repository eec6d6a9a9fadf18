-- Numbers as they are written are tokens, and are read as themselves.
use Rattle.std.proofs.Common.{◌≡◌, ℕ, zero, suc, ◌+◌, ◌-◌, ◌*◌, ◌/◌, ◌%◌, ◌^◌, ◌<◌, true, false, List, [], ◌∷◌, ◌++◌, length, replicate, refl, ◌∙◌, arith, length-append}
use Rattle.std.specs.Prelude.{ℤ, pos, negsuc, Some, decimal, ◌==◌}
use Rattle.std.specs.Fmt.{digit_glyph, digits, digits_onto}
use Rattle.std.specs.List.{list_all}
use Rattle.std.specs.Str.{all_ascii_digits}
use Rattle.std.specs.Str.Parse.{AllDigits}
use Rattle.std.proofs.lemmas.Bool.{cond_both, le-leb, lt-ltb}
use Rattle.std.proofs.lemmas.Bool.Decides.{nat_tests}
use Rattle.std.proofs.lemmas.Fmt.{decimal_is_IsNumeral, length-decimal-le}
use Rattle.std.proofs.lemmas.List.Folds.{list_all-append}
use Rattle.fixed_ops.specs.NumberTexts.{number_text, size_text, zero_padded}
use Rattle.fixed_ops.specs.Numerals.{digits_read}
use Rattle.solid_model.specs.Names.{is_token_byte}
use Rattle.clause_reader.proofs.WrittenTokens.{IsToken, zeros_in_token}
use Rattle.fixed_ops.proofs.TextLaws.{passes}

-- ---- tokens

-- however great a number is, digits are written for it
digit_byte : (d : ℕ) → d < 10 → is_token_byte (digit_glyph false d) ≡ true
digit_byte d few = grind (arith, nat_tests)

digit_bytes : (k n : ℕ) (rest : List ℕ) → list_all is_token_byte rest ≡ true → list_all is_token_byte (digits_onto k 10 false n rest) ≡ true
digit_bytes zero n rest all = all
digit_bytes (suc k) n rest all =
    let more = digit_glyph false (n % 10) ∷ rest in
    let last : list_all is_token_byte more ≡ true = rw (digit_byte (n % 10) (omega arith)) all in
    cond_both (n / 10 == 0) more (digits_onto k 10 false (n / 10) more) (λ bytes. list_all is_token_byte bytes ≡ true) (λ _. last) (λ _. digit_bytes k (n / 10) more last)

digit_some : (k n : ℕ) (rest : List ℕ) → 0 < k + length rest → 0 < length (digits_onto k 10 false n rest)
digit_some zero n rest some = omega (arith, some)
digit_some (suc k) n rest some =
    let more = digit_glyph false (n % 10) ∷ rest in
    cond_both (n / 10 == 0) more (digits_onto k 10 false (n / 10) more) (λ bytes. 0 < length bytes) (λ _. omega arith) (λ _. digit_some k (n / 10) more (omega arith))

pub decimal_is_token : (n : ℕ) → IsToken (decimal n)
unfolding digits
decimal_is_token n = (digit_some 64 n [] (omega arith), digit_bytes 64 n [] refl)

padded_in_token : (k n : ℕ) → list_all is_token_byte (zero_padded k n) ≡ true
padded_in_token k n =
    list_all-append is_token_byte (replicate (k - length (decimal n)) 48) (decimal n)
    ∙ rw (zeros_in_token (k - length (decimal n)), (decimal_is_token n).1) refl

-- a token and further bytes of tokens
followed : (token more : List ℕ) → IsToken token → list_all is_token_byte more ≡ true → IsToken (token ++ more)
followed token more is all =
    (omega (arith, length-append token more, is.0), list_all-append is_token_byte token more ∙ rw (is.1, all) refl)

size_is_token : (n : ℕ) → IsToken (size_text n)
unfolding size_text
size_is_token n =
    let cut = n % 2 ^ 32 * 10 ^ 10 / 2 ^ 32 in
    followed (decimal (n / 2 ^ 32)) (46 ∷ zero_padded 10 cut) (decimal_is_token (n / 2 ^ 32)) (padded_in_token 10 cut)

pub number_is_token : (v : ℤ) → IsToken (number_text v)
number_is_token (pos n) = size_is_token n
number_is_token (negsuc n) = (omega arith, (size_is_token (suc n)).1)

-- ---- readings

digits_pass : (ds : List ℕ) → AllDigits 10 ds → all_ascii_digits ds ≡ true
digits_pass [] all = refl
digits_pass (d ∷ ds) all = rw (passes d all.0) (digits_pass ds all.1)

-- a count is read as itself
pub decimal_read : (n : ℕ) → n < 2 ^ 31 → digits_read 10 (decimal n) ≡ Some n
decimal_read n small =
    let numeral = decimal_is_IsNumeral n (omega (arith, small)) in
    let some = lt-ltb 0 (length (decimal n)) numeral.0.0 in
    let few = le-leb (length (decimal n)) 10 (length-decimal-le 10 n (omega arith) (omega (arith, small)) (omega (arith, small))) in
    let all = digits_pass (decimal n) numeral.0.1 in
    rw (some, few, all, numeral.1) refl
