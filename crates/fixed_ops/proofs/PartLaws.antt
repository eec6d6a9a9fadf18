-- How the ten decimals of a number come in pairs of digits.
use Rattle.std.proofs.Common.{◌≡◌, ◌+◌, ◌-◌, ◌*◌, ◌/◌, ◌%◌, ◌^◌, ◌<◌, ℕ, suc, List, [], ◌∷◌, ◌++◌, length, replicate, inl, inr, refl, sym, ap, ◌∙◌, arith, append_assoc, length-append, eq-zero-or-pos}
use Rattle.std.specs.Prelude.{decimal}
use Rattle.std.proofs.lemmas.Fmt.{decimal_digit, decimal_step}
use Rattle.std.proofs.lemmas.List.{replicate_more}
use Rattle.fixed_ops.specs.NumberTexts.{pair_text, size_text, zero_padded}

-- one digit more, where there are several
several : (k n : ℕ) → 0 < n / 10 → n < 2 ^ 64 → zero_padded (suc (suc k)) n ≡ zero_padded (suc k) (n / 10) ++ (48 + n % 10) ∷ []
several k n h few =
    let step : decimal n ≡ decimal (n / 10) ++ (48 + n % 10) ∷ [] = decimal_step n (omega arith) few in
    let long : length (decimal n) ≡ length (decimal (n / 10)) + 1 = ap length step ∙ length-append (decimal (n / 10)) ((48 + n % 10) ∷ []) in
    let zeros : suc (suc k) - length (decimal n) ≡ suc k - length (decimal (n / 10)) = omega arith in
    ap (λ (z : ℕ). replicate z 48 ++ decimal n) zeros ∙ ap (λ (d : List ℕ). replicate (suc k - length (decimal (n / 10))) 48 ++ d) step
    ∙ sym (append_assoc (replicate (suc k - length (decimal (n / 10))) 48) (decimal (n / 10)) ((48 + n % 10) ∷ []))

-- and where there is one
single : (k n : ℕ) → n / 10 ≡ 0 → zero_padded (suc (suc k)) n ≡ zero_padded (suc k) (n / 10) ++ (48 + n % 10) ∷ []
single k n h =
    let digit : decimal n ≡ (48 + n) ∷ [] = decimal_digit n (omega arith) in
    let rest : n % 10 ≡ n = omega arith in
    let one : length (decimal n) ≡ 1 = ap length digit in
    let zeros : suc (suc k) - length (decimal n) ≡ k + 1 = omega arith in
    let none : decimal 0 ≡ 48 ∷ [] = decimal_digit 0 (omega arith) in
    let fewer : suc k - 1 ≡ k = omega arith in
    ap (λ (z : ℕ). replicate z 48 ++ decimal n) zeros ∙ ap (λ (d : List ℕ). replicate (k + 1) 48 ++ d) digit
    ∙ rw (h, rest, none, fewer) (ap (λ (z : List ℕ). z ++ (48 + n) ∷ []) (sym (replicate_more k 48)))

-- padded digits of n, and those of a tenth of it
padded_step : (k n : ℕ) → n < 2 ^ 64 → zero_padded (suc (suc k)) n ≡ zero_padded (suc k) (n / 10) ++ (48 + n % 10) ∷ []
padded_step k n few = elim (eq-zero-or-pos (n / 10)) [ inl z ↦ single k n z | inr g ↦ several k n g few ]

-- one pair more
padded_pair : (k n : ℕ) → n < 2 ^ 64 → zero_padded (suc (suc (suc k))) n ≡ zero_padded (suc k) (n / 100) ++ pair_text (n % 100)
padded_pair k n few =
    let hundredth : n / 10 / 10 ≡ n / 100 = omega arith in
    let tens : n / 10 % 10 ≡ n % 100 / 10 = omega arith in
    let ones : n % 10 ≡ n % 100 % 10 = omega arith in
    padded_step (suc k) n few ∙ rw (padded_step k (n / 10) (omega arith), hundredth, tens, ← ones) (append_assoc (zero_padded (suc k) (n / 100)) ((48 + n % 100 / 10) ∷ []) ((48 + n % 10) ∷ []))

-- two padded digits are a pair
first_pair : (n : ℕ) → n < 100 → zero_padded 2 n ≡ pair_text n
first_pair n h =
    let tens : decimal (n / 10) ≡ (48 + n / 10) ∷ [] = decimal_digit (n / 10) (omega arith) in
    padded_step 0 n (omega arith) ∙ rw tens refl

-- Two decimals more of a fraction: those before them stay, the two stand in the upper half of a hundred times the
-- lower half, and the lower half of that is the same as of the whole product.
next_pair : (x : ℕ) → (x * 100 / 2 ^ 32 / 100 ≡ x / 2 ^ 32) × (x * 100 / 2 ^ 32 % 100 ≡ x % 2 ^ 32 * 100 / 2 ^ 32) × (x % 2 ^ 32 * 100 % 2 ^ 32 ≡ x * 100 % 2 ^ 32)
next_pair x = (omega arith, omega arith, omega arith)

-- the padded decimals of a fraction, and those before the last two
fraction_step : (k x : ℕ) → x < 2 ^ 64 → zero_padded (suc (suc (suc k))) (x * 100 / 2 ^ 32) ≡ zero_padded (suc k) (x / 2 ^ 32) ++ pair_text (x % 2 ^ 32 * 100 / 2 ^ 32)
fraction_step k x few =
    let next = next_pair x in
    padded_pair k (x * 100 / 2 ^ 32) (omega arith) ∙ rw (next.0, next.1) refl

-- the next product, by the whole one
product_step : (x a : ℕ) → a ≡ x % 2 ^ 32 * 100 → a % 2 ^ 32 * 100 ≡ x * 100 % 2 ^ 32 * 100
product_step x a e = ap (λ (y : ℕ). y % 2 ^ 32 * 100) e ∙ ap (λ (y : ℕ). y * 100) (next_pair x).2

-- five pairs are ten padded decimals of a fraction, where each is the upper half of a hundred times the lower half of
-- the product before
five_pairs : (f a b c d : ℕ) → f < 2 ^ 32 → a ≡ f * 100 % 2 ^ 32 * 100 → b ≡ a % 2 ^ 32 * 100 → c ≡ b % 2 ^ 32 * 100 → d ≡ c % 2 ^ 32 * 100
    → zero_padded 10 (f * 10 ^ 10 / 2 ^ 32)
    ≡ (((pair_text (f * 100 / 2 ^ 32) ++ pair_text (a / 2 ^ 32)) ++ pair_text (b / 2 ^ 32)) ++ pair_text (c / 2 ^ 32)) ++ pair_text (d / 2 ^ 32)
five_pairs f a b c d h ea eb ec ed =
    let second : b ≡ f * 100 * 100 % 2 ^ 32 * 100 = eb ∙ product_step (f * 100) a ea in
    let third : c ≡ f * 100 * 100 * 100 % 2 ^ 32 * 100 = ec ∙ product_step (f * 100 * 100) b second in
    let fourth : d ≡ f * 100 * 100 * 100 * 100 % 2 ^ 32 * 100 = ed ∙ product_step (f * 100 * 100 * 100) c third in
    let whole : f * 10 ^ 10 ≡ f * 100 * 100 * 100 * 100 * 100 = omega arith in
    rw (ea, second, third, fourth, whole) (
    fraction_step 7 (f * 100 * 100 * 100 * 100) (omega arith)
    ∙ ap (λ (t : List ℕ). t ++ pair_text (f * 100 * 100 * 100 * 100 % 2 ^ 32 * 100 / 2 ^ 32)) (
    fraction_step 5 (f * 100 * 100 * 100) (omega arith)
    ∙ ap (λ (t : List ℕ). t ++ pair_text (f * 100 * 100 * 100 % 2 ^ 32 * 100 / 2 ^ 32)) (
    fraction_step 3 (f * 100 * 100) (omega arith)
    ∙ ap (λ (t : List ℕ). t ++ pair_text (f * 100 * 100 % 2 ^ 32 * 100 / 2 ^ 32)) (
    fraction_step 1 (f * 100) (omega arith)
    ∙ ap (λ (t : List ℕ). t ++ pair_text (f * 100 % 2 ^ 32 * 100 / 2 ^ 32)) (first_pair (f * 100 / 2 ^ 32) (omega arith))
    )
    )
    )
    )

-- and so are they with what stands after them
pub fraction_pairs : (f a b c d : ℕ) (rest : List ℕ) → f < 2 ^ 32 → a ≡ f * 100 % 2 ^ 32 * 100 → b ≡ a % 2 ^ 32 * 100 → c ≡ b % 2 ^ 32 * 100 → d ≡ c % 2 ^ 32 * 100
    → pair_text (f * 100 / 2 ^ 32) ++ (pair_text (a / 2 ^ 32) ++ (pair_text (b / 2 ^ 32) ++ (pair_text (c / 2 ^ 32) ++ (pair_text (d / 2 ^ 32) ++ rest))))
    ≡ zero_padded 10 (f * 10 ^ 10 / 2 ^ 32) ++ rest
fraction_pairs f a b c d rest h ea eb ec ed = sym (ap (λ (t : List ℕ). t ++ rest) (five_pairs f a b c d h ea eb ec ed))

-- the parts of the text of a size
pub size_pieces : (n : ℕ) (rest : List ℕ) → decimal (n / 2 ^ 32) ++ (46 ∷ zero_padded 10 (n % 2 ^ 32 * 10 ^ 10 / 2 ^ 32) ++ rest) ≡ size_text n ++ rest
unfolding size_text
size_pieces n rest = sym (append_assoc (decimal (n / 2 ^ 32)) (46 ∷ zero_padded 10 (n % 2 ^ 32 * 10 ^ 10 / 2 ^ 32)) rest)
