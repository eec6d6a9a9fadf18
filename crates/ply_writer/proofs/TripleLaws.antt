-- Counts in threes of digits.
use Rattle.std.proofs.Common.{◌≡◌, ℕ, ◌+◌, ◌/◌, ◌%◌, ◌^◌, ◌<◌, ◌≤◌, List, [], ◌∷◌, ◌++◌, drop, length, ap, sym, ◌∙◌, arith, append_assoc, inl, inr}
use Rattle.std.specs.Prelude.{◌⊎◌, decimal, get_or}
use Rattle.std.proofs.lemmas.Fmt.{decimal_digit, decimal_step}
use Rattle.std.proofs.lemmas.List.{drop-append-le, drop-drop}
use Rattle.std.proofs.lemmas.Bool.{cases_lt}
use Rattle.ply_writer.specs.Triples.{triple_text, zeros_before}

-- one digit
pub one_digit : (n : ℕ) → n < 10 → decimal n ≡ drop 2 (triple_text n)
one_digit n h =
    let rest : n % 10 ≡ n = omega arith in
    rw rest (decimal_digit n h)

-- two digits
pub two_digits : (n : ℕ) → 10 ≤ n → n < 100 → decimal n ≡ drop 1 (triple_text n)
two_digits n some h =
    let tens : n / 10 % 10 ≡ n / 10 = omega arith in
    rw tens (decimal_step n some (omega arith) ∙ ap (λ (t : List ℕ). t ++ (48 + n % 10) ∷ []) (decimal_digit (n / 10) (omega arith)))

-- two digits more
two_more : (n : ℕ) → 100 ≤ n → n < 2 ^ 32 → decimal n ≡ (decimal (n / 100) ++ (48 + n / 10 % 10) ∷ []) ++ (48 + n % 10) ∷ []
two_more n some h =
    let hundred : n / 10 / 10 ≡ n / 100 = omega arith in
    let front : decimal (n / 10) ≡ decimal (n / 100) ++ (48 + n / 10 % 10) ∷ [] = rw (← hundred) (decimal_step (n / 10) (omega arith) (omega arith)) in
    decimal_step n (omega arith) (omega arith) ∙ ap (λ (t : List ℕ). t ++ (48 + n % 10) ∷ []) front

-- three digits
pub three_digits : (n : ℕ) → 100 ≤ n → n < 1000 → decimal n ≡ triple_text n
three_digits n some h =
    two_more n some (omega arith) ∙ ap (λ (t : List ℕ). (t ++ (48 + n / 10 % 10) ∷ []) ++ (48 + n % 10) ∷ []) (decimal_digit (n / 100) (omega arith))

-- how long the texts are
pub one_long : (n : ℕ) → n < 10 → zeros_before n ≡ 2
one_long n h = omega (arith, ap length (one_digit n h))

pub two_long : (n : ℕ) → 10 ≤ n → n < 100 → zeros_before n ≡ 1
two_long n some h = omega (arith, ap length (two_digits n some h))

pub three_long : (n : ℕ) → 100 ≤ n → n < 1000 → zeros_before n ≡ 0
three_long n some h = omega (arith, ap length (three_digits n some h))

-- the digits without the zeros
pub own_digits : (n : ℕ) → n < 1000 → drop (zeros_before n) (triple_text n) ≡ decimal n
own_digits n h = by (cases_lt n 10) (cases_lt n 100)
  where
    by : (n < 10) ⊎ (10 ≤ n) → (n < 100) ⊎ (100 ≤ n) → drop (zeros_before n) (triple_text n) ≡ decimal n
    by (inl less) other = rw (one_long n less) (sym (one_digit n less))
    by (inr some) (inl less) = rw (two_long n some less) (sym (two_digits n some less))
    by (inr some) (inr more) = rw (three_long n more h) (sym (three_digits n more h))

-- and what stands after them
pub own_pieces : (n : ℕ) (rest : List ℕ) → n < 1000 → drop (zeros_before n) (triple_text n ++ rest) ≡ decimal n ++ rest
own_pieces n rest h =
    drop-append-le (zeros_before n) (triple_text n) rest (omega arith) ∙ ap (λ (t : List ℕ). t ++ rest) (own_digits n h)

-- three digits after others
pub three_more : (n : ℕ) → 1000 ≤ n → n < 2 ^ 32 → decimal n ≡ decimal (n / 1000) ++ triple_text (n % 1000)
three_more n some h =
    let thousand : n / 100 / 10 ≡ n / 1000 = omega arith in
    let a : n % 1000 / 100 ≡ n / 100 % 10 = omega arith in
    let b : n % 1000 / 10 % 10 ≡ n / 10 % 10 = omega arith in
    let c : n % 1000 % 10 ≡ n % 10 = omega arith in
    let front : decimal (n / 100) ≡ decimal (n / 1000) ++ (48 + n / 100 % 10) ∷ [] = rw (← thousand) (decimal_step (n / 100) (omega arith) (omega arith)) in
    let parted : (((decimal (n / 1000) ++ (48 + n / 100 % 10) ∷ []) ++ (48 + n / 10 % 10) ∷ []) ++ (48 + n % 10) ∷ []) ≡ decimal (n / 1000) ++ triple_text (n % 1000) =
    rw (a, b, c) (simp append_assoc)
    in
    two_more n (omega arith) h ∙ ap (λ (t : List ℕ). (t ++ (48 + n / 10 % 10) ∷ []) ++ (48 + n % 10) ∷ []) front ∙ parted

-- what stands further behind
pub behind : (k start : ℕ) (line text rest : List ℕ) → drop start line ≡ text ++ rest → drop (start + k) line ≡ drop k (text ++ rest)
behind k start line text rest is = sym (drop-drop k start line) ∙ ap (drop k) is

-- a count by its thousands and its last three digits
pub count_pieces : (n : ℕ) (rest : List ℕ) → 1000 ≤ n → n < 2 ^ 32 → decimal (n / 1000) ++ (triple_text (n % 1000) ++ rest) ≡ decimal n ++ rest
count_pieces n rest some h =
    sym (ap (λ (t : List ℕ). t ++ rest) (three_more n some h) ∙ append_assoc (decimal (n / 1000)) (triple_text (n % 1000)) rest)

-- a count by its millions, its thousands and its last three digits
pub count_parts : (n millions : ℕ) (rest : List ℕ) → 1000000 ≤ n → n < 2 ^ 32 → millions ≡ n / 1000000
    → decimal millions ++ (triple_text (n / 1000 % 1000) ++ (triple_text (n % 1000) ++ rest)) ≡ decimal n ++ rest
count_parts n millions rest some h is =
    let same : millions ≡ n / 1000 / 1000 = omega (arith, is) in
    ap (λ m. decimal m ++ (triple_text (n / 1000 % 1000) ++ (triple_text (n % 1000) ++ rest))) same
    ∙ count_pieces (n / 1000) (triple_text (n % 1000) ++ rest) (omega (arith, some)) (omega (arith, h))
    ∙ count_pieces n rest (omega (arith, some)) h

-- the digits of an entry of the table, written one before the other
pub triple_chain : (entry : List ℕ) (n : ℕ) (rest third second first : List ℕ) → entry ≡ zeros_before n ∷ triple_text n → third ≡ get_or entry 3 0 ∷ rest → second ≡ get_or entry 2 0 ∷ third → first ≡ get_or entry 1 0 ∷ second
    → first ≡ triple_text n ++ rest
triple_chain entry n rest third second first is ones tens hundreds =
    hundreds ∙ ap (λ (l : List ℕ). get_or entry 1 0 ∷ l) (tens ∙ ap (λ (l : List ℕ). get_or entry 2 0 ∷ l) ones)
    ∙ ap (λ (e : List ℕ). get_or e 1 0 ∷ get_or e 2 0 ∷ get_or e 3 0 ∷ rest) is

-- what stands behind a byte
pub after_byte : (start next b : ℕ) (line rest : List ℕ) → start + 1 ≡ next → drop start line ≡ b ∷ rest → drop next line ≡ rest
after_byte start next b line rest e is = rw (← e) (behind 1 start line (b ∷ []) rest is)
