-- Lanes as bits of bytes, and marks in them.
use Rattle.std.proofs.Common.{◌≡◌, ◌≢◌, ℕ, ◌-◌, ◌*◌, ◌%◌, ◌^◌, ◌<◌, Bool, true, false, not, ◌&&◌, ◌||◌, ◌⊎◌, cond, ltb, eqb, bit_or, bit_and, max, min, List, ◌++◌, length, set, replicate, slice_index, inl, inr, refl, ap, sym, ◌∙◌, w8, zero-mul, arith}
use Rattle.std.specs.Int.{bit_at, bit_not}
use Rattle.std.proofs.lemmas.Bool.{false≢true, cases_lt, cases_Bool}
use Rattle.std.proofs.lemmas.Bool.Decides.{Decides-eqb, Decides-ltb}
use Rattle.std.proofs.lemmas.List.{get_or-replicate, get_or-set_same, get_or-set_other, get_or_append_left, length-append, length-replicate}
use Rattle.std.proofs.lemmas.Nat.Bits.{bit_at-lt, bit_at-zero, bit_at_and, bit_at_not, bit_at_ones, bit_at_or, bit_at_set_other, bit_at_set_same}
use Rattle.interval_ops.specs.declared.choice.Choice.{Choice}
use Rattle.interval_ops.specs.declared.choice.Choice.TheVariants.{Left, Right, Both}
use Rattle.live_clauses.specs.Choices.{has_bit}
use Rattle.live_clauses.specs.Live.{chosen, is_both}
use Rattle.live_clauses.specs.Marks.{Marks, is_marked}

pub zero_or_one : (n : ℕ) → n < 2 → (n ≡ 0) ⊎ (n ≡ 1)
zero_or_one n less = elim (cases_lt 0 n) [
  | inl some ↦ inr (omega (arith, some, less))
  | inr none ↦ inl (omega (arith, none))
]

or_bits : (x y : ℕ) → x < 2 → ltb 0 (max x y) ≡ (ltb 0 x || ltb 0 y)
or_bits x y less = elim (zero_or_one x less) [
  | inl none ↦ let is : max x y ≡ y = omega (arith, none) in ap (ltb 0) is ∙ ap (λ n. ltb 0 n || ltb 0 y) (sym none)
  | inr one ↦ let is : 0 < max x y = omega (arith, one) in ltb_true (max x y) is ∙ ap (λ n. ltb 0 n || ltb 0 y) (sym one)
]
  where
    ltb_true : (n : ℕ) → 0 < n → ltb 0 n ≡ true
    ltb_true n less = (Decides-ltb 0 n).1 less

and_bits : (x y : ℕ) → x < 2 → y < 2 → ltb 0 (min x y) ≡ (ltb 0 x && ltb 0 y)
and_bits x y less fits = elim (zero_or_one x less) [
  | inl none ↦ let is : min x y ≡ 0 = omega (arith, none) in ap (ltb 0) is ∙ ap (λ n. ltb 0 n && ltb 0 y) (sym none)
  | inr one ↦ let is : min x y ≡ y = omega (arith, one, fits) in ap (ltb 0) is ∙ ap (λ n. ltb 0 n && ltb 0 y) (sym one)
]

pub has_bit-or : (a b l : ℕ) → has_bit (bit_or a b) l ≡ (has_bit a l || has_bit b l)
has_bit-or a b l = ap (ltb 0) (bit_at_or a b l) ∙ or_bits (bit_at a l) (bit_at b l) (bit_at-lt a l)

pub has_bit-and : (a b l : ℕ) → has_bit (bit_and a b) l ≡ (has_bit a l && has_bit b l)
has_bit-and a b l = ap (ltb 0) (bit_at_and a b l) ∙ and_bits (bit_at a l) (bit_at b l) (bit_at-lt a l) (bit_at-lt b l)

pub has_bit-not : (n l : ℕ) → n < 256 → l < 8 → has_bit (bit_not w8 n) l ≡ not (has_bit n l)
has_bit-not n l fits within = ap (ltb 0) (bit_at_not w8 n l fits within) ∙ turned (bit_at n l) (bit_at-lt n l)
  where
    turned : (x : ℕ) → x < 2 → ltb 0 (1 - x) ≡ not (ltb 0 x)
    turned x less = elim (zero_or_one x less) [
      | inl none ↦ ap (λ n. ltb 0 (1 - n)) none ∙ ap (λ n. not (ltb 0 n)) (sym none)
      | inr one ↦ ap (λ n. ltb 0 (1 - n)) one ∙ ap (λ n. not (ltb 0 n)) (sym one)
    ]

pub has_bit-zero : (l : ℕ) → has_bit 0 l ≡ false
has_bit-zero l = ap (ltb 0) (bit_at-zero l)

pub has_bit-all : (l : ℕ) → l < 8 → has_bit 255 l ≡ true
has_bit-all l within = ap (ltb 0) (bit_at_ones 8 l within)

-- how a bit is read
pub read_bit : (n : ℕ) → n < 2 → eqb n 1 ≡ ltb 0 n
read_bit n less = elim (zero_or_one n less) [
  | inl none ↦ ap (λ m. eqb m 1) none ∙ ap (ltb 0) (sym none)
  | inr one ↦ ap (λ m. eqb m 1) one ∙ ap (ltb 0) (sym one)
]

or_true : (x : Bool) → x || true ≡ true
or_true true = refl
or_true false = refl

pub or_false : (x : Bool) → x || false ≡ x
or_false true = refl
or_false false = refl

-- a byte with one more bit
module _ (byte l : ℕ) (within : l < 8) where
  pub with-here : (flag : ℕ) (asked : Bool) → flag ≡ cond asked 1 0 → has_bit (bit_or byte (flag * 2 ^ l % 2 ^ 8)) l ≡ (has_bit byte l || asked)
  with-here flag true is = ap (λ f. has_bit (bit_or byte (f * 2 ^ l % 2 ^ 8)) l) is ∙ ap (ltb 0) (bit_at_set_same w8 byte l within) ∙ sym (or_true (has_bit byte l))
  with-here flag false is = ap (λ f. has_bit (bit_or byte (f * 2 ^ l % 2 ^ 8)) l) is ∙ ap (λ m. has_bit (bit_or byte m) l) none ∙ has_bit-or byte 0 l ∙ ap (λ b. has_bit byte l || b) (has_bit-zero l)
    where
      none : 0 * 2 ^ l % 2 ^ 8 ≡ 0
      none = ap (λ n. n % 2 ^ 8) (zero-mul (2 ^ l))

  pub with-others : (flag : ℕ) (asked : Bool) → flag ≡ cond asked 1 0 → (other : ℕ) → other ≢ l → has_bit (bit_or byte (flag * 2 ^ l % 2 ^ 8)) other ≡ has_bit byte other
  with-others flag true is other not = ap (λ f. has_bit (bit_or byte (f * 2 ^ l % 2 ^ 8)) other) is ∙ ap (ltb 0) (bit_at_set_other w8 byte l within other not)
  with-others flag false is other not =
      ap (λ f. has_bit (bit_or byte (f * 2 ^ l % 2 ^ 8)) other) is ∙ ap (λ m. has_bit (bit_or byte m) other) none ∙ has_bit-or byte 0 other ∙ ap (λ b. has_bit byte other || b) (has_bit-zero other) ∙ or_false (has_bit byte other)
    where
      none : 0 * 2 ^ l % 2 ^ 8 ≡ 0
      none = ap (λ n. n % 2 ^ 8) (zero-mul (2 ^ l))

-- the choice that two bits tell
abbrev pub picked : Bool → Bool → Choice
picked left right = cond left Left (cond right Right Both)

pub picked-none : (left right : Bool) → picked left right ≡ Both → (left ≡ false) × (right ≡ false)
picked-none false false is = (refl, refl)
picked-none true right is = absurd (false≢true (ap is_both is))
picked-none false true is = absurd (false≢true (ap is_both is))

-- what it takes of the operands
pub picked-first : (left right : Bool) → (left || not right) ≡ chosen (picked left right) true false true
picked-first true right = refl
picked-first false true = refl
picked-first false false = refl

pub picked-first-none : (left right : Bool) → left ≡ chosen (picked left right) true false false
picked-first-none true right = refl
picked-first-none false true = refl
picked-first-none false false = refl

pub picked-second : (left right : Bool) → not left ≡ chosen (picked left right) false true true
picked-second true right = refl
picked-second false true = refl
picked-second false false = refl

pub picked-second-none : (left right : Bool) → (right && not left) ≡ chosen (picked left right) false true false
picked-second-none true true = refl
picked-second-none true false = refl
picked-second-none false true = refl
picked-second-none false false = refl

pub and_true : (x : Bool) → x && true ≡ x
and_true true = refl
and_true false = refl

pub and_false : (x : Bool) → x && false ≡ false
and_false true = refl
and_false false = refl

same_place : (place : ℕ) → eqb place place ≡ true
same_place place = (Decides-eqb place place).1 refl

other_place : (other place : ℕ) → other ≢ place → eqb other place ≡ false
other_place other place not = elim (cases_Bool (eqb other place)) [
  | inl same ↦ absurd (not ((Decides-eqb other place).0 same))
  | inr differs ↦ differs
]

pub cases_eq : (m n : ℕ) → (m ≡ n) ⊎ (m ≢ n)
cases_eq m n = elim (cases_lt m n) [
  | inl less ↦ inr (omega (arith, less))
  | inr more ↦ elim (cases_lt n m) [
    | inl above ↦ inr (omega (arith, above))
    | inr here ↦ inl (omega (arith, more, here))
  ]
]

-- a byte with more bits is one more mark in each of their lanes
pub marked-in : (l : ℕ) (marks : List ℕ) (place lanes : ℕ) → place < length marks → Marks l marks (set marks place (bit_or (slice_index marks place) lanes)) (λ other. has_bit lanes l && eqb other place)
marked-in l marks place lanes room other = elim (cases_eq other place) [
  | inl same ↦
      rw same
      (ap (λ w. has_bit w l) (get_or-set_same marks place (bit_or (slice_index marks place) lanes) 0 room) ∙ has_bit-or (slice_index marks place) lanes l
      ∙ ap (λ b. is_marked l marks place || b) (sym (and_true (has_bit lanes l)) ∙ ap (λ b. has_bit lanes l && b) (sym (same_place place))))
  | inr differs ↦
      ap (λ w. has_bit w l) (get_or-set_other marks place other (bit_or (slice_index marks place) lanes) 0 differs)
      ∙ sym (ap (λ b. is_marked l marks other || b) (ap (λ b. has_bit lanes l && b) (other_place other place differs) ∙ and_false (has_bit lanes l)) ∙ or_false (is_marked l marks other))
]

-- the last of some places alone is marked, where the memory for them was filled with 0
pub marked-last : (l places lanes : ℕ) (filled rest : List ℕ) → filled ≡ replicate places 0 → 0 < places → (place : ℕ) → place < places
    → is_marked l (set (filled ++ rest) (places - 1) lanes) place ≡ (has_bit lanes l && eqb place (places - 1))
marked-last l places lanes filled rest is some place within =
    let long : length filled ≡ places = ap length is ∙ length-replicate places 0 in
    let room : places - 1 < length (filled ++ rest) = omega (arith, some, long, length-append filled rest) in
    elim (cases_eq place (places - 1)) [
      | inl same ↦
          rw same (ap (λ w. has_bit w l) (get_or-set_same (filled ++ rest) (places - 1) lanes 0 room) ∙ sym (and_true (has_bit lanes l)) ∙ ap (λ b. has_bit lanes l && b) (sym (same_place (places - 1))))
      | inr differs ↦
          ap (λ w. has_bit w l) (get_or-set_other (filled ++ rest) (places - 1) place lanes 0 differs ∙ get_or_append_left filled rest 0 place (omega (arith, long, within)) ∙ ap (λ f. slice_index f place) is ∙ get_or-replicate places place 0 0 within)
          ∙ has_bit-zero l ∙ sym (ap (λ b. has_bit lanes l && b) (other_place place (places - 1) differs) ∙ and_false (has_bit lanes l))
    ]

-- what the two operands of a step are asked for is what it hands on
pub handed : (choice : Choice) (has two first second asked : Bool)
    → (((asked && chosen choice true false has) && first) || ((asked && chosen choice false true two) && second)) ≡ (asked && chosen choice first second ((has && first) || (two && second)))
handed choice has two first second false = refl
handed Left has two first second true = or_false first
handed Right has two first second true = refl
handed Both has two first second true = refl
