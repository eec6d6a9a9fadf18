-- Lines of different raw places differ.
use Rattle.std.proofs.Common.{◌≡◌, ℕ, zero, suc, ◌-◌, ◌*◌, ◌/◌, ◌%◌, ◌^◌, ◌<◌, ℤ, pos, negsuc, Bool, true, false, not, List, [], ◌∷◌, ◌++◌, length, replicate, decimal, eqb, refl, arith, ◌∙◌}
use Rattle.std.specs.Prelude.{◌==◌}
use Rattle.std.specs.Char.{digit_value}
use Rattle.std.specs.List.{list_all}
use Rattle.std.specs.Str.Parse.{AllDigits}
use Rattle.std.proofs.lemmas.Bool.{and_parts, both_ways, eq-eqb, not-true}
use Rattle.std.proofs.lemmas.Bool.Decides.{nat_tests}
use Rattle.std.proofs.lemmas.Fmt.{decimal_is_IsNumeral}
use Rattle.std.proofs.lemmas.Int.{ints}
use Rattle.std.proofs.lemmas.List.{same_from_push}
use Rattle.std.proofs.lemmas.List.Folds.{list_all-append}
use Rattle.std.proofs.lemmas.Str.Parse.{digit_from_value}
use Rattle.fixed_ops.specs.NumberTexts.{number_text, size_text, zero_padded}
use Rattle.fixed_ops.specs.Raw.{IsRaw}
use Rattle.kuhn_cells.specs.Vectors.{Vector}
use Rattle.fixed_ops.proofs.TextLaws.{number_text_tells}
use Rattle.mesh_laws.specs.Places.{place_line}

-- ---- number texts have no space

is_no_space : ℕ → Bool
is_no_space byte = not (byte == 32)

has_no_space : List ℕ → Bool
has_no_space bytes = list_all is_no_space bytes

digit_is_none : (c : ℕ) → digit_value c < 10 → is_no_space c ≡ true
unfolding is_no_space
digit_is_none c h =
    let r = digit_from_value c h in
    let space : eqb c 32 ≡ false = grind (arith, nat_tests) in
    rw space refl

digits_have_none : (ds : List ℕ) → AllDigits 10 ds → has_no_space ds ≡ true
unfolding has_no_space
digits_have_none [] all = refl
digits_have_none (d ∷ ds) all = rw (digit_is_none d all.0) (digits_have_none ds all.1)

zeros_have_none : (k : ℕ) → has_no_space (replicate k 48) ≡ true
unfolding has_no_space is_no_space
zeros_have_none zero = refl
zeros_have_none (suc k) = zeros_have_none k

decimal_has_none : (n : ℕ) → n < 2 ^ 64 → has_no_space (decimal n) ≡ true
decimal_has_none n small = digits_have_none (decimal n) (decimal_is_IsNumeral n small).0.1

size_has_none : (n : ℕ) → n < 2 ^ 62 → has_no_space (size_text n) ≡ true
unfolding size_text has_no_space is_no_space
size_has_none n small =
    let whole = decimal_has_none (n / 2 ^ 32) (omega arith) in
    let cut = n % 2 ^ 32 * 10 ^ 10 / 2 ^ 32 in
    let decimals = decimal_has_none cut (omega arith) in
    let padding = replicate (10 - length (decimal cut)) 48 in
    let zeros = zeros_have_none (10 - length (decimal cut)) in
    let padded : has_no_space (zero_padded 10 cut) ≡ true = list_all-append is_no_space padding (decimal cut) ∙ rw (zeros, decimals) refl in
    list_all-append is_no_space (decimal (n / 2 ^ 32)) (46 ∷ zero_padded 10 cut) ∙ rw (whole, padded) refl

text_has_none : (v : ℤ) → IsRaw v → has_no_space (number_text v) ≡ true
unfolding has_no_space is_no_space
text_has_none (pos n) raw = size_has_none n (omega (arith, ints, raw))
text_has_none (negsuc n) raw = size_has_none (suc n) (omega (arith, ints, raw))

-- ---- the parts of a line

none_is_space : (byte : ℕ) → is_no_space byte ≡ true → byte ≡ 32 → ⊥
unfolding is_no_space
none_is_space byte h e = both_ways (byte == 32) (not-true _ h) (eq-eqb byte 32 e)

up_to_space : (xs us ys vs : List ℕ) → has_no_space xs ≡ true → has_no_space us ≡ true → xs ++ 32 ∷ ys ≡ us ++ 32 ∷ vs → (xs ≡ us) × (ys ≡ vs)
unfolding has_no_space
up_to_space [] [] ys vs p q e = (refl, (cc))
up_to_space [] (u ∷ us) ys vs p q e = absurd (none_is_space u (and_parts _ _ q).0 (cc))
up_to_space (x ∷ xs) [] ys vs p q e = absurd (none_is_space x (and_parts _ _ p).0 (cc))
up_to_space (x ∷ xs) (u ∷ us) ys vs p q e =
    let head : x ≡ u = (cc) in
    let tail : xs ++ 32 ∷ ys ≡ us ++ 32 ∷ vs = (cc) in
    let rest = up_to_space xs us ys vs (and_parts _ _ p).1 (and_parts _ _ q).1 tail in
    (rw (head, rest.0) refl, rest.1)

pub record IsRawPlace (v : Vector) : Type 0 where
  pub x : IsRaw v.x
  pub y : IsRaw v.y
  pub z : IsRaw v.z

pub line_tells : (v w : Vector) → IsRawPlace v → IsRawPlace w → place_line v ≡ place_line w → v ≡ w
line_tells v w p q e =
    let first = up_to_space (number_text v.x) (number_text w.x) (number_text v.y ++ 32 ∷ (number_text v.z ++ 10 ∷ [])) (number_text w.y ++ 32 ∷ (number_text w.z ++ 10 ∷ [])) (text_has_none v.x p.x) (text_has_none w.x q.x) e in
    let second = up_to_space (number_text v.y) (number_text w.y) (number_text v.z ++ 10 ∷ []) (number_text w.z ++ 10 ∷ []) (text_has_none v.y p.y) (text_has_none w.y q.y) first.1 in
    let third = same_from_push (number_text v.z) (number_text w.z) 10 10 second.1 in
    rw (number_text_tells w.x v.x q.x p.x first.0, number_text_tells w.y v.y q.y p.y second.0, number_text_tells w.z v.z q.z p.z third.0) refl
