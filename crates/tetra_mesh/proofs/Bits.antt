-- Binary numbers whose digits tell which corners pass a test.
use Rattle.std.proofs.Common.{◌≡◌, ℕ, zero, suc, ◌+◌, ◌-◌, ◌*◌, ◌/◌, ◌%◌, ◌^◌, ◌<◌, ◌≤◌, Bool, true, false, List, [], ◌∷◌, refl, ap, sym, ◌∙◌, arith}
use Rattle.std.specs.Prelude.{◌==◌, filter, get_or, length, ℤ, pos, if◌then◌else◌}
use Rattle.std.specs.Int.RustNames.{count_ones}
use Rattle.std.specs.List.{range_with_len}
use Rattle.std.proofs.lemmas.Bool.{agree_below, agree_below_at, eqb-false, eqb-true}
use lib.Bits.{bit_and}
use lib.Count.{ones_step}
use Rattle.std.proofs.lemmas.Nat.{and_mask}
use mir.Val.{bool_byte}
use Rattle.std.proofs.Math.Nat.{mod-le}
use Rattle.std.proofs.lemmas.List.{get_or_default}
use Rattle.fixed_ops.specs.Raw.{is_inside}
use Rattle.kuhn_cells.specs.declared.cell_list.CellValues.{CellValues}
use Rattle.kuhn_cells.specs.Arrangement.{differ}
use Rattle.kuhn_cells.specs.Cells.{directions_of, has_inside}
use Rattle.kuhn_cells.specs.Triangles.{has_sign}
use Rattle.kuhn_cells.proofs.Checks.{every, every_at}
use Rattle.mesh_laws.proofs.Paths.{not_from_itself}
use Rattle.tetra_mesh.specs.Numbering.{digits, mask_of, one_if, rank_of, signs_of}
use Rattle.tetra_mesh.specs.Sides.{mask_by}

-- those of the directions from the lowest corner of a cell to the other side that are less than one
abbrev pub directions_below : CellValues → ℕ → List ℕ
directions_below c dir =
    filter (λ d. differ (has_inside c 0) (has_inside c d)) (range_with_len 1 (dir - 1))

-- ---- the digits

-- the number with these digits, from the lowest on
number : Bool → Bool → Bool → Bool → Bool → Bool → Bool → Bool → ℕ
number a b c d e f g h = one_if a + 2 * one_if b + 4 * one_if c + 8 * one_if d + 16 * one_if e + 32 * one_if f + 64 * one_if g + 128 * one_if h

abbrev eight : Bool → Bool → Bool → Bool → Bool → Bool → Bool → Bool → List Bool
eight a b c d e f g h = a ∷ b ∷ c ∷ d ∷ e ∷ f ∷ g ∷ h ∷ []

listed : (f : ℕ → Bool) (k : ℕ) → k < 8 → get_or (eight (f 0) (f 1) (f 2) (f 3) (f 4) (f 5) (f 6) (f 7)) k false ≡ f k
listed f zero few = refl
listed f (suc zero) few = refl
listed f (suc (suc zero)) few = refl
listed f (suc (suc (suc zero))) few = refl
listed f (suc (suc (suc (suc zero)))) few = refl
listed f (suc (suc (suc (suc (suc zero))))) few = refl
listed f (suc (suc (suc (suc (suc (suc zero)))))) few = refl
listed f (suc (suc (suc (suc (suc (suc (suc zero))))))) few = refl
listed f (suc (suc (suc (suc (suc (suc (suc (suc k)))))))) few = absurd (omega (arith, few))

reads : Bool → Bool → Bool → Bool → Bool → Bool → Bool → Bool → Bool
reads a b c d e f g h = agree_below (has_sign (number a b c d e f g h)) (λ k. get_or (eight a b c d e f g h) k false) 8

all_read : every (λ a b c d. every (λ e f g h. reads a b c d e f g h)) ≡ true
unfolding reads number
all_read = refl

reads_at : (a b c d e f g h : Bool) → reads a b c d e f g h ≡ true
reads_at a b c d e f g h =
    every_at (λ e f g h. reads a b c d e f g h) (every_at (λ a b c d. every (λ e f g h. reads a b c d e f g h)) all_read a b c d) e f g h

-- each digit tells of its corner
pub digit : (f : ℕ → Bool) (k : ℕ) → k < 8 → has_sign (digits f) k ≡ f k
unfolding reads number
digit f k few =
    agree_below_at (has_sign (digits f)) (λ k. get_or (eight (f 0) (f 1) (f 2) (f 3) (f 4) (f 5) (f 6) (f 7)) k false) 8 k (reads_at (f 0) (f 1) (f 2) (f 3) (f 4) (f 5) (f 6) (f 7)) few ∙ listed f k few

-- ---- how many digits stand below one

digit_sum : ℕ → ℕ
digit_sum n =
    n % 2 + (n / 2 % 2 + (n / 2 / 2 % 2 + (n / 2 / 2 / 2 % 2 + (n / 2 / 2 / 2 / 2 % 2 + (n / 2 / 2 / 2 / 2 / 2 % 2 + (n / 2 / 2 / 2 / 2 / 2 / 2 % 2 + n / 2 / 2 / 2 / 2 / 2 / 2 / 2 % 2))))))

no_ones : count_ones 0 ≡ 0
unfolding count_ones
no_ones = refl

small_ones : (n : ℕ) → n < 256 → count_ones n ≡ digit_sum n
unfolding digit_sum
small_ones n few =
    let h = ones_step n in
    let h1 = ones_step (n / 2) in
    let h2 = ones_step (n / 2 / 2) in
    let h3 = ones_step (n / 2 / 2 / 2) in
    let h4 = ones_step (n / 2 / 2 / 2 / 2) in
    let h5 = ones_step (n / 2 / 2 / 2 / 2 / 2) in
    let h6 = ones_step (n / 2 / 2 / 2 / 2 / 2 / 2) in
    let h7 = ones_step (n / 2 / 2 / 2 / 2 / 2 / 2 / 2) in
    let end : n / 2 / 2 / 2 / 2 / 2 / 2 / 2 / 2 ≡ 0 = omega (arith, few) in
    let none = ap count_ones end ∙ no_ones in
    omega (arith, h, h1, h2, h3, h4, h5, h6, h7, none)

-- a byte without its lowest digit has seven digits at most
few_digits : (n : ℕ) → n % 2 ≡ 0 → digit_sum n ≤ 7
unfolding digit_sum
few_digits n even = omega (arith, even)

even_mask : (signs : ℕ) (odd : Bool) → (signs % 2 == 1) ≡ odd → (if odd then 255 - signs else signs) % 2 ≡ 0
even_mask signs true h = let one = eqb-true (signs % 2) 1 h in omega (arith, one)
even_mask signs false h = let none = eqb-false (signs % 2) 1 h in omega (arith, none)

-- a cell has at most seven corners on the other side
pub seven_ones : (signs mask : ℕ) → mask ≡ mask_by signs → mask < 256 → count_ones mask ≤ 7
seven_ones signs mask is few =
    let even = even_mask signs (signs % 2 == 1) refl in
    omega (arith, small_ones mask few, few_digits mask (ap (λ n. n % 2) is ∙ even))

ranks : Bool → Bool → Bool → Bool → Bool → Bool → Bool → Bool
ranks b c d e f g h =
    agree_below (λ k. digit_sum (number false b c d e f g h % 2 ^ k) == length (filter (λ i. get_or (eight false b c d e f g h) i false) (range_with_len 1 (k - 1)))) (λ k. true) 9

all_ranked : every (λ a b c d. every (λ e f g h. ranks b c d e f g h)) ≡ true
unfolding ranks number digit_sum
all_ranked = refl

filter_range_same : (p q : ℕ → Bool) (a n : ℕ) → ((k : ℕ) → a ≤ k → k < a + n → p k ≡ q k) → filter p (range_with_len a n) ≡ filter q (range_with_len a n)
filter_range_same p q a zero each = refl
filter_range_same p q a (suc n) each =
    let first = each a (omega arith) (omega arith) in
    let others = filter_range_same p q (a + 1) n (λ k low high. each k (omega (arith, low)) (omega (arith, high))) in
    rw (first, others) refl

few_ones : (b : Bool) → one_if b ≤ 1
few_ones true = omega arith
few_ones false = omega arith

small : (f : ℕ → Bool) → digits f < 256
small f =
    omega (arith, few_ones (f 0), few_ones (f 1), few_ones (f 2), few_ones (f 3), few_ones (f 4), few_ones (f 5), few_ones (f 6), few_ones (f 7))

with_first : (f : ℕ → Bool) → f 0 ≡ false → digits f ≡ number false (f 1) (f 2) (f 3) (f 4) (f 5) (f 6) (f 7)
unfolding number
with_first f e = ap (λ b. one_if b + 2 * one_if (f 1) + 4 * one_if (f 2) + 8 * one_if (f 3) + 16 * one_if (f 4) + 32 * one_if (f 5) + 64 * one_if (f 6) + 128 * one_if (f 7)) e

ranked : (f : ℕ → Bool) (k : ℕ) → f 0 ≡ false → k < 9 → count_ones (digits f % 2 ^ k) ≡ length (filter f (range_with_len 1 (k - 1)))
unfolding ranks
ranked f k e few =
    let n = number false (f 1) (f 2) (f 3) (f 4) (f 5) (f 6) (f 7) in
    let list = λ (b : Bool). eight b (f 1) (f 2) (f 3) (f 4) (f 5) (f 6) (f 7) in
    let least = mod-le (digits f) (2 ^ k) in
    let below = small f in
    let checked = every_at (λ a b c d. ranks (f 1) (f 2) (f 3) a b c d) (every_at (λ a b c d. every (λ e f g h. ranks b c d e f g h)) all_ranked false (f 1) (f 2) (f 3)) (f 4) (f 5) (f 6) (f 7) in
    small_ones (digits f % 2 ^ k) (omega (arith, least, below))
    ∙ ap (λ m. digit_sum (m % 2 ^ k)) (with_first f e)
    ∙ eqb-true _ _ (agree_below_at (λ k. digit_sum (n % 2 ^ k) == length (filter (λ i. get_or (list false) i false) (range_with_len 1 (k - 1)))) (λ k. true) 9 k checked few)
    ∙ ap length (filter_range_same (λ i. get_or (list false) i false) f 1 (k - 1) (λ i low high. ap (λ b. get_or (list b) i false) (sym e) ∙ listed f i (omega (arith, few, low, high))))

-- the rank of a direction is how many lesser ones lead to the other side
pub rank : (c : CellValues) (dir : ℕ) → dir < 8 → rank_of (mask_of c) dir ≡ length (directions_below c dir)
unfolding rank_of mask_of
rank c dir few =
    ranked (λ d. differ (has_inside c 0) (has_inside c d)) dir (not_from_itself (has_inside c 0)) (omega (arith, few))

-- and there are as many digits as directions to the other side
pub ones : (c : CellValues) → count_ones (mask_of c) ≡ length (directions_of c)
unfolding mask_of directions_of
ones c =
    let f = λ (d : ℕ). differ (has_inside c 0) (has_inside c d) in
    let below = small f in
    let whole : digits f % 2 ^ 8 ≡ digits f = omega (arith, below) in
    ap count_ones (sym whole) ∙ ranked f 8 (not_from_itself (has_inside c 0)) (omega arith)

pub rank-few : (mask dir : ℕ) → mask < 256 → rank_of mask dir ≤ 8
unfolding rank_of digit_sum
rank-few mask dir few =
    let least = mod-le mask (2 ^ dir) in
    let m = mask % 2 ^ dir in
    let e = small_ones m (omega (arith, least, few)) in
    omega (arith, e)

-- ---- the signs of a cell

byte : (b : Bool) → bool_byte b ≡ one_if b
byte true = refl
byte false = refl

pub corner_bit : (c : CellValues) (k n : ℕ) (b : Bool) (v : ℤ) → length c.values ≡ 8 → k < 8 → b ≡ is_inside (get_or c.values k v) → n ≡ bool_byte b → n ≡ one_if (has_inside c k)
corner_bit c k n b v eight few inside is =
    is ∙ byte b ∙ ap one_if (inside ∙ ap is_inside (get_or_default c.values k v (pos 0) (omega (arith, eight, few))))

other : (a b : Bool) → a ≡ true → one_if (differ a b) + one_if b ≡ 1
other true true e = refl
other true false e = refl
other false b e = absurd (cc)

same_side : (a b : Bool) → a ≡ false → one_if (differ a b) ≡ one_if b
same_side true b e = absurd (cc)
same_side false b e = refl

odd : (c : CellValues) → has_inside c 0 ≡ true → signs_of c % 2 ≡ 1
unfolding signs_of
odd c e = let first = ap one_if e in omega (arith, first)

even : (c : CellValues) → has_inside c 0 ≡ false → signs_of c % 2 ≡ 0
unfolding signs_of
even c e = let first = ap one_if e in omega (arith, first)

pub signs_turned : (c : CellValues) → has_inside c 0 ≡ true → 255 - signs_of c ≡ mask_of c
unfolding signs_of mask_of
signs_turned c e =
    let at = λ (k : ℕ). other (has_inside c 0) (has_inside c k) e in
    omega (arith, at 0, at 1, at 2, at 3, at 4, at 5, at 6, at 7)

pub signs_kept : (c : CellValues) → has_inside c 0 ≡ false → signs_of c ≡ mask_of c
unfolding signs_of mask_of
signs_kept c e =
    let at = λ (k : ℕ). same_side (has_inside c 0) (has_inside c k) e in
    omega (arith, at 0, at 1, at 2, at 3, at 4, at 5, at 6, at 7)

-- the digits of the mask are found by the signs alone
pub mask_is : (c : CellValues) → mask_by (signs_of c) ≡ mask_of c
mask_is c = by (has_inside c 0) refl
  where
    by : (b : Bool) → has_inside c 0 ≡ b → mask_by (signs_of c) ≡ mask_of c
    by true e = ap (λ r. if r == 1 then 255 - signs_of c else signs_of c) (odd c e) ∙ signs_turned c e
    by false e = ap (λ r. if r == 1 then 255 - signs_of c else signs_of c) (even c e) ∙ signs_kept c e

pub signs-few : (c : CellValues) → signs_of c < 256
unfolding signs_of
signs-few c = small (has_inside c)

pub corner_side : (c : CellValues) (k : ℕ) (b : Bool) (v : ℤ) → length c.values ≡ 8 → k < 8 → b ≡ is_inside (get_or c.values k v) → has_inside c k ≡ b
corner_side c k b v eight few inside =
    sym (inside ∙ ap is_inside (get_or_default c.values k v (pos 0) (omega (arith, eight, few))))

-- ---- the low digits of a number

byte_power : (k : ℕ) → k < 8 → 1 * 2 ^ k % 256 ≡ 2 ^ k
byte_power k few =
    eqb-true _ _ (agree_below_at (λ k. 1 * 2 ^ k % 256 == 2 ^ k) (λ k. true) 8 k refl few)

pub masked : (m k : ℕ) → k < 8 → bit_and m (1 * 2 ^ k % 256 - 1) ≡ m % 2 ^ k
masked m k few = rw (byte_power k few) (and_mask m k)
