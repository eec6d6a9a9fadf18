-- What is spelled by parts is a numeral, and a numeral is spelled by parts.
use Rattle.std.proofs.Common.{◌≡◌, ◌<◌, ℕ, List, [], ◌∷◌, ◌++◌, length, drop, refl, sym, ap, ◌∙◌, arith, eqb, inl, inr}
use Rattle.std.specs.Prelude.{ℤ, Bool, true, false, cond, ◌||◌, Some, None, nat_lt, ◌↔◌, Result, Ok, Err, IsOk}
use Rattle.std.specs.Char.{is_ascii_digit}
use Rattle.std.specs.List.{prefix_len}
use Rattle.std.specs.Result.{result_ok}
use Rattle.std.specs.Str.Parse.{AllDigits, starts_with_minus, without_leading_sign}
use Rattle.std.proofs.Math.Seq.{take-append_seam, drop-append_seam}
use Rattle.std.proofs.lemmas.Bool.Decides.{nat_tests}
use Rattle.std.proofs.lemmas.List.{take-append-drop}
use Rattle.fixed_ops.specs.Numerals.{unsigned_raw, front_digits, after_digits, starts_with_point, point_digits, after_point_digits, whole_part, fraction_part, exponent_part, is_exponent, is_short, is_unsigned_numeral, is_numeral, numeral, numeral_value, with_sign}
use Rattle.fixed_ops.specs.Spelling.{Spelling, IsSpelling, IsSign, IsDot, spelled, is_minus, exponent_of, spelling_value}
use Rattle.fixed_ops.proofs.DigitLaws.{front_are_digits, point_are_digits}
use Rattle.fixed_ops.proofs.NumeralLaws.{some_digit, raw_by_parts}
use Rattle.fixed_ops.proofs.TextLaws.{passes, digit_first}
use Rattle.std.proofs.lemmas.Bool.{and_parts, or_cases}

-- a text that begins with no digit
abbrev Stops : List ℕ → Type 0
Stops bs = prefix_len is_ascii_digit bs ≡ 0

-- digits, and then a text that begins with no digit
front_stops : (ds bs : List ℕ) → AllDigits 10 ds → Stops bs → prefix_len is_ascii_digit (ds ++ bs) ≡ length ds
front_stops [] bs h s = s
front_stops (d ∷ ds) bs h s = rw (passes d h.0) (omega (arith, front_stops ds bs h.1 s))

-- the mark of an exponent is no digit and no point
mark_is_else : (c : ℕ) → (eqb c 101 || eqb c 69) ≡ true → (is_ascii_digit c ≡ false) × (eqb c 46 ≡ false)
mark_is_else c h =
    let cases = or_cases (eqb c 101) (eqb c 69) h in
    (grind (arith, nat_tests), grind (arith, nat_tests))

-- an exponent begins with no digit
exponent_stops : (bs : List ℕ) → is_exponent bs ≡ true → Stops bs
exponent_stops [] h = refl
exponent_stops (c ∷ cs) h =
    let mark = and_parts (eqb c 101 || eqb c 69) (is_short 3 (without_leading_sign cs)) h in
    rw ((mark_is_else c mark.0).0) refl

-- an exponent begins with no point
exponent_no_point : (bs : List ℕ) → is_exponent bs ≡ true → starts_with_point bs ≡ false
exponent_no_point [] h = refl
exponent_no_point (c ∷ cs) h =
    let mark = and_parts (eqb c 101 || eqb c 69) (is_short 3 (without_leading_sign cs)) h in
    (mark_is_else c mark.0).1

-- what follows the whole digits of a spelling
abbrev RestReads : List ℕ → List ℕ → List ℕ → Type 0
RestReads rest fraction exponent = Stops rest × (fraction ≡ point_digits rest) × (exponent ≡ after_point_digits rest)

-- an exponent alone
exponent_reads : (exponent : List ℕ) → is_exponent exponent ≡ true → RestReads exponent [] exponent
exponent_reads exponent e = (exponent_stops exponent e, rw (exponent_no_point exponent e) refl, rw (exponent_no_point exponent e) refl)

-- a point, digits and an exponent
point_reads : (fraction exponent : List ℕ) → AllDigits 10 fraction → is_exponent exponent ≡ true → RestReads (46 ∷ (fraction ++ exponent)) fraction exponent
point_reads fraction exponent f e =
    let front = front_stops fraction exponent f (exponent_stops exponent e) in
    (refl, rw front (sym (take-append_seam fraction exponent)), rw front (sym (drop-append_seam fraction exponent)))

-- either of them
rest_reads : (point fraction exponent : List ℕ) → IsDot point fraction → AllDigits 10 fraction → is_exponent exponent ≡ true → RestReads (point ++ (fraction ++ exponent)) fraction exponent
rest_reads point fraction exponent (inl p) f e = rw (p.0, p.1) (exponent_reads exponent e)
rest_reads point fraction exponent (inr p) f e = rw p (point_reads fraction exponent f e)

-- what reads the parts of a spelling without its sign
record BodyReads (text whole fraction exponent : List ℕ) : Type 0 where
  is_whole : whole ≡ whole_part text
  is_fraction : fraction ≡ fraction_part text
  is_exponent_part : exponent ≡ exponent_part text

body_parts : (whole rest fraction exponent : List ℕ) → AllDigits 10 whole → RestReads rest fraction exponent → BodyReads (whole ++ rest) whole fraction exponent
body_parts whole rest fraction exponent w r =
    let text = whole ++ rest in
    let front = front_stops whole rest w r.0 in
    let after : after_digits text ≡ rest = rw front (drop-append_seam whole rest) in
    record {
      is_whole = rw front (sym (take-append_seam whole rest));
      is_fraction = rw after r.1;
      is_exponent_part = rw after r.2;
    }

-- the parts of a spelling without its sign
body_reads : (whole rest fraction exponent : List ℕ) → AllDigits 10 whole → RestReads rest fraction exponent → 0 < length (whole ++ fraction) → is_exponent exponent ≡ true → is_unsigned_numeral (whole ++ rest) ≡ true
body_reads whole rest fraction exponent w r d e =
    let parts = body_parts whole rest fraction exponent w r in
    let has : nat_lt 0 (length (whole ++ fraction)) ≡ true = grind (arith, nat_tests) in
    some_digit (whole ++ rest) whole fraction exponent parts.is_whole parts.is_fraction parts.is_exponent_part has ∙ e

-- without whole digits a spelling begins with a point
begins_with_point : (point fraction exponent : List ℕ) → IsDot point fraction → 0 < length fraction → without_leading_sign (point ++ (fraction ++ exponent)) ≡ point ++ (fraction ++ exponent)
begins_with_point point fraction exponent (inl p) d = absurd (omega (arith, d, ap length p.1))
begins_with_point point fraction exponent (inr p) d = rw p refl

-- the body of a spelling begins with no sign
body_unsigned : (whole point fraction exponent : List ℕ) → AllDigits 10 whole → IsDot point fraction → 0 < length (whole ++ fraction) → without_leading_sign (whole ++ (point ++ (fraction ++ exponent))) ≡ whole ++ (point ++ (fraction ++ exponent))
body_unsigned [] point fraction exponent w p d = begins_with_point point fraction exponent p d
body_unsigned (c ∷ cs) point fraction exponent w p d = (digit_first (c ∷ cs) (point ++ (fraction ++ exponent)) w (omega arith)).1

-- the body of a spelling begins with no minus
body_positive : (whole point fraction exponent : List ℕ) → AllDigits 10 whole → IsDot point fraction → 0 < length (whole ++ fraction) → starts_with_minus (whole ++ (point ++ (fraction ++ exponent))) ≡ false
body_positive [] point fraction exponent w (inl p) d = absurd (omega (arith, d, ap length p.1))
body_positive [] point fraction exponent w (inr p) d = rw p refl
body_positive (c ∷ cs) point fraction exponent w p d = (digit_first (c ∷ cs) (point ++ (fraction ++ exponent)) w (omega arith)).0

-- a minus sign is read as one
minus_read : (sign body : List ℕ) → IsSign sign → starts_with_minus body ≡ false → starts_with_minus (sign ++ body) ≡ is_minus sign
minus_read sign body (inl s) b = rw s b
minus_read sign body (inr (inl s)) b = rw s refl
minus_read sign body (inr (inr s)) b = rw s refl

-- a sign in front is taken off
sign_off : (sign body : List ℕ) → IsSign sign → without_leading_sign body ≡ body → without_leading_sign (sign ++ body) ≡ body
sign_off sign body (inl s) b = rw s b
sign_off sign body (inr (inl s)) b = rw s refl
sign_off sign body (inr (inr s)) b = rw s refl

-- what is spelled is a numeral
pub spelled_is_numeral : (s : Spelling) → IsSpelling s → is_numeral (spelled s) ≡ true
spelled_is_numeral s h =
    let rest = s.point ++ (s.fraction ++ s.exponent) in
    let body = s.whole ++ rest in
    let off = sign_off s.sign body h.sign (body_unsigned s.whole s.point s.fraction s.exponent h.whole h.point h.digit) in
    ap is_unsigned_numeral off ∙ body_reads s.whole rest s.fraction s.exponent h.whole (rest_reads s.point s.fraction s.exponent h.point h.fraction h.exponent) h.digit h.exponent

-- a value by a sign and a body
by_parts : (m n : Bool) (bs cs : List ℕ) → m ≡ n → bs ≡ cs → with_sign m (unsigned_raw bs) ≡ with_sign n (unsigned_raw cs)
by_parts m n bs cs p q = ap (λ (b : Bool). with_sign b (unsigned_raw bs)) p ∙ ap (λ (b : List ℕ). with_sign n (unsigned_raw b)) q

-- what is spelled has the value of its parts
pub spelled_value : (s : Spelling) → IsSpelling s → numeral (spelled s) ≡ Some (spelling_value s)
spelled_value s h =
    let rest = s.point ++ (s.fraction ++ s.exponent) in
    let body = s.whole ++ rest in
    let off = sign_off s.sign body h.sign (body_unsigned s.whole s.point s.fraction s.exponent h.whole h.point h.digit) in
    let minus = minus_read s.sign body h.sign (body_positive s.whole s.point s.fraction s.exponent h.whole h.point h.digit) in
    let parts = body_parts s.whole rest s.fraction s.exponent h.whole (rest_reads s.point s.fraction s.exponent h.point h.fraction h.exponent) in
    let size = raw_by_parts body s.whole s.fraction s.exponent (exponent_of s.exponent) parts.is_whole parts.is_fraction parts.is_exponent_part refl in
    let is = spelled_is_numeral s h in
    let value : numeral_value (spelled s) ≡ spelling_value s = by_parts (starts_with_minus (spelled s)) (is_minus s.sign) (without_leading_sign (spelled s)) body minus off ∙ ap (with_sign (is_minus s.sign)) (sym size) in
    rw is (ap Some value)

-- the sign in front of a token
abbrev SignOf : List ℕ → List ℕ → Type 0
SignOf token body = (sign : List ℕ) × IsSign sign × (sign ++ body ≡ token)

-- the sign in front of a token, by its first byte
sign_by_first : (c : ℕ) (cs : List ℕ) (minus plus : Bool) → minus ≡ eqb c 45 → plus ≡ eqb c 43 → SignOf (c ∷ cs) (cond minus cs (drop (cond plus 1 0) (c ∷ cs)))
sign_by_first c cs true plus m p =
    let is : c ≡ 45 = grind (arith, nat_tests) in
    (45 ∷ [], inr (inr refl), ap (λ (x : ℕ). x ∷ cs) (sym is))
sign_by_first c cs false true m p =
    let is : c ≡ 43 = grind (arith, nat_tests) in
    (43 ∷ [], inr (inl refl), ap (λ (x : ℕ). x ∷ cs) (sym is))
sign_by_first c cs false false m p = ([], inl refl, refl)

-- a token is a sign or none, and then what is left without it
sign_split : (token : List ℕ) → SignOf token (without_leading_sign token)
sign_split [] = ([], inl refl, refl)
sign_split (c ∷ cs) = sign_by_first c cs (eqb c 45) (eqb c 43) refl refl

-- the point in front of a text
abbrev PointOf : List ℕ → List ℕ → List ℕ → Type 0
PointOf rest fraction exponent = (point : List ℕ) × IsDot point fraction × (point ++ (fraction ++ exponent) ≡ rest)

-- the point in front of a text, by its first byte
point_by_first : (c : ℕ) (cs : List ℕ) (b : Bool) → b ≡ eqb c 46 → PointOf (c ∷ cs) (cond b (front_digits cs) []) (cond b (after_digits cs) (c ∷ cs))
point_by_first c cs true e =
    let is : c ≡ 46 = grind (arith, nat_tests) in
    (46 ∷ [], inr refl, ap (λ (x : List ℕ). 46 ∷ x) (take-append-drop (prefix_len is_ascii_digit cs) cs) ∙ ap (λ (x : ℕ). x ∷ cs) (sym is))
point_by_first c cs false e = ([], inl (refl, refl), refl)

-- a text is a point or none, the digits after it, and the rest
point_split : (rest : List ℕ) → PointOf rest (point_digits rest) (after_point_digits rest)
point_split [] = ([], inl (refl, refl), refl)
point_split (c ∷ cs) = point_by_first c cs (eqb c 46) refl

-- a numeral without a sign has a digit, and its end is an exponent
numeral_parts : (body : List ℕ) → is_unsigned_numeral body ≡ true → (nat_lt 0 (length (whole_part body ++ fraction_part body)) ≡ true) × (is_exponent (exponent_part body) ≡ true)
unfolding is_unsigned_numeral
numeral_parts body h = and_parts (nat_lt 0 (length (whole_part body ++ fraction_part body))) (is_exponent (exponent_part body)) h

-- a numeral is spelled
pub numeral_is_spelled : (token : List ℕ) → is_numeral token ≡ true → (s : Spelling) × IsSpelling s × (spelled s ≡ token)
numeral_is_spelled token h =
    let body = without_leading_sign token in
    let rest = after_digits body in
    let sign = sign_split token in
    let point = point_split rest in
    let parts = numeral_parts body h in
    let s : Spelling = record { sign = sign.0; whole = whole_part body; point = point.0; fraction = fraction_part body; exponent = exponent_part body } in
    let is : IsSpelling s = record { sign = sign.1; whole = front_are_digits body; point = point.1; fraction = point_are_digits rest; digit = grind (arith, nat_tests); exponent = parts.1 } in
    let inner : whole_part body ++ (point.0 ++ (fraction_part body ++ exponent_part body)) ≡ body = ap (λ (x : List ℕ). whole_part body ++ x) point.2 ∙ take-append-drop (prefix_len is_ascii_digit body) body in
    (s, is, ap (λ (x : List ℕ). sign.0 ++ x) inner ∙ sign.2)

-- an answer that is there shows a numeral
answered : {E : Type 0} → (b : Bool) (v : ℤ) (r : Result ℤ E) → result_ok r ≡ cond b (Some v) None → (IsOk r → b ≡ true) × (b ≡ true → IsOk r)
answered true v (Ok x) e = (λ _. refl, λ _. refl)
answered true v (Err x) e = cc
answered false v (Ok x) e = cc
answered false v (Err x) e = (λ k. k, λ k. k)

-- an answer comes exactly where the token is spelled by parts
pub accepts_spelled : {E : Type 0} → (token : List ℕ) (r : Result ℤ E) → result_ok r ≡ numeral token → IsOk r ↔ ((s : Spelling) × IsSpelling s × (spelled s ≡ token))
accepts_spelled token r e =
    let both = answered (is_numeral token) (numeral_value token) r e in
    (λ k. numeral_is_spelled token (both.0 k), λ s. both.1 (ap is_numeral (sym s.2) ∙ spelled_is_numeral s.0 s.1))
