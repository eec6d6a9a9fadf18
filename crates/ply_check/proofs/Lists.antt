-- What lists of numbers have, and how often.
use Rattle.std.proofs.Common.{◌≡◌, ℕ, ◌+◌, ◌≤◌, Bool, true, false, List, [], ◌∷◌, length, refl, sym, ap, arith, inl, inr, cond, ◌∙◌}
use Rattle.std.specs.Prelude.{◌==◌, ◌⊎◌, All, AllPairs, Contains, count_by, map}
use Rattle.std.specs.List.{remove}
use Rattle.std.proofs.lemmas.Bool.{cases_Bool, cases_eq, eq-eqb, ne_eqb}
use Rattle.std.proofs.lemmas.List.Elements.{All-cons, All-contains, All-head, All-nil, All-tail}
use Rattle.std.proofs.lemmas.List.Kept.{AllPairs-cons}
use Rattle.std.proofs.lemmas.List.Sorted.{Contains-permutation, IsPermutation-remove, length_permutation}
use Rattle.std.proofs.lemmas.List.Sums.{sum_by-cons}
use Rattle.mesh_laws.proofs.Lists.{Differ}
use Rattle.fixed_ops.proofs.Lists.{first_before, head_or_tail, in_head, in_tail, not_in_none, rest_in_order}

-- ---- what a list has

-- an element of a list that is made by a function comes from one
pub from_map : {X A : Type 0} (f : X → A) (ys : List X) (x : A) → Contains (map f ys) x → (y : X) × (Contains ys y) × (f y ≡ x)
from_map f [] x h = absurd (not_in_none x h)
from_map f (z ∷ zs) x h =
    elim (head_or_tail (f z) (map f zs) x h) [
      | inl same ↦ (z, in_head zs z, same)
      | inr later ↦ let p = from_map f zs x later in (p.0, in_tail z zs p.0 p.1, p.2)
    ]

-- a number stands in a list, or it does not
pub in_or_not : (xs : List ℕ) (x : ℕ) → Contains xs x ⊎ (Contains xs x → ⊥)
in_or_not [] x = inr (not_in_none x)
in_or_not (y ∷ ys) x = by (cases_eq y x) (in_or_not ys x)
  where
    neither : (y ≡ x → ⊥) → (Contains ys x → ⊥) → (y ≡ x) ⊎ Contains ys x → ⊥
    neither a b (inl p) = a p
    neither a b (inr q) = b q

    by : (y ≡ x) ⊎ (y ≡ x → ⊥) → Contains ys x ⊎ (Contains ys x → ⊥) → Contains (y ∷ ys) x ⊎ (Contains (y ∷ ys) x → ⊥)
    by (inl same) rest = inl (rw same (in_head ys x))
    by (inr other) (inl later) = inl (in_tail y ys x later)
    by (inr other) (inr none) = inr (λ h. neither other none (head_or_tail y ys x h))

pub all_in : {A : Type 0} (P : A → Type 0) (xs : List A) → ((x : A) → Contains xs x → P x) → All P xs
all_in P [] each = All-nil P
all_in P (x ∷ xs) each = All-cons P x xs (each x (in_head xs x)) (all_in P xs (λ y h. each y (in_tail x xs y h)))

-- ---- lists without repetition

other_than : (x y : ℕ) (zs : List ℕ) → Differ x y → Contains (x ∷ zs) y → Contains zs y
other_than x y zs differ h = by (head_or_tail x zs y h)
  where
    by : (x ≡ y) ⊎ Contains zs y → Contains zs y
    by (inl same) = absurd (differ same)
    by (inr there) = there

-- a list without repetition is no longer than one that has all its elements
pub no_longer : (xs ys : List ℕ) → AllPairs Differ xs → All (Contains ys) xs → length xs ≤ length ys
no_longer [] ys differ within = omega arith
no_longer (x ∷ xs) ys differ within =
    let h : Contains ys x = All-head (Contains ys) x xs within in
    let rest : List ℕ = remove ys h.0 in
    let moved = IsPermutation-remove ys h.0 x h.1 (sym h.2) in
    let each : All (Contains rest) xs =
    all_in (Contains rest) xs (λ y at. other_than x y rest (All-contains (Differ x) xs y (first_before Differ x xs differ) at)
    (Contains-permutation ys (x ∷ rest) y moved (All-contains (Contains ys) xs y (All-tail (Contains ys) x xs within) at))) in
    let shorter = no_longer xs rest (rest_in_order Differ x xs differ) each in
    omega (arith, shorter, length_permutation ys (x ∷ rest) moved)

-- where it is no shorter either, it has all elements of the other
pub has_all : (xs ys : List ℕ) → AllPairs Differ xs → All (Contains ys) xs → length ys ≤ length xs → (y : ℕ) → Contains ys y → Contains xs y
has_all xs ys differ within long y h = by (in_or_not xs y)
  where
    by : Contains xs y ⊎ (Contains xs y → ⊥) → Contains xs y
    by (inl there) = there
    by (inr none) =
        let more = no_longer (y ∷ xs) ys
        (AllPairs-cons Differ y xs (all_in (Differ y) xs (λ x at same. none (rw same at))) differ)
        (All-cons (Contains ys) y xs h within) in
        absurd (omega (arith, more, long))

-- ---- how often

pub count-cons : {A : Type 0} (p : A → Bool) (x : A) (xs : List A) → count_by p (x ∷ xs) ≡ cond (p x) 1 0 + count_by p xs
count-cons p x xs = sum_by-cons (λ y. cond (p y) 1 0) x xs

pub count-skip : {A : Type 0} (p : A → Bool) (x : A) (xs : List A) → p x ≡ false → count_by p (x ∷ xs) ≡ count_by p xs
count-skip p x xs e = let k : cond {A = ℕ} (p x) 1 0 ≡ 0 = ap (λ b. cond {A = ℕ} b 1 0) e in omega (arith, k, count-cons p x xs)

pub count-take : {A : Type 0} (p : A → Bool) (x : A) (xs : List A) → p x ≡ true → count_by p (x ∷ xs) ≡ 1 + count_by p xs
count-take p x xs e = let k : cond {A = ℕ} (p x) 1 0 ≡ 1 = ap (λ b. cond {A = ℕ} b 1 0) e in omega (arith, k, count-cons p x xs)

pub count-none : (ys : List ℕ) (v : ℕ) → (Contains ys v → ⊥) → count_by (λ y. y == v) ys ≡ 0
count-none [] v none = refl
count-none (y ∷ ys) v none =
    let other : (y == v) ≡ false = ne_eqb y v (λ same. none (rw same (in_head ys v))) in
    rw (count-cons (λ z. z == v) y ys, other, count-none ys v (λ h. none (in_tail y ys v h))) refl

pub count-once : (ys : List ℕ) (v : ℕ) → AllPairs Differ ys → Contains ys v → count_by (λ y. y == v) ys ≡ 1
count-once [] v differ h = absurd (not_in_none v h)
count-once (y ∷ ys) v differ h =
    elim (head_or_tail y ys v h) [
      | inl same ↦
          let rest = count-none ys v (λ at. All-contains (Differ y) ys v (first_before Differ y ys differ) at same) in
          rw (count-cons (λ z. z == v) y ys, eq-eqb y v same, rest) refl
      | inr later ↦
          let other : (y == v) ≡ false = ne_eqb y v (All-contains (Differ y) ys v (first_before Differ y ys differ) later) in
          rw (count-cons (λ z. z == v) y ys, other, count-once ys v (rest_in_order Differ y ys differ) later) refl
    ]

-- what is counted is there
pub found : {A : Type 0} (p : A → Bool) (xs : List A) → 1 ≤ count_by p xs → (x : A) × (Contains xs x) × (p x ≡ true)
found p [] h = absurd (omega (arith, h))
found p (x ∷ xs) h =
    elim (cases_Bool (p x)) [
      | inl e ↦ (x, in_head xs x, e)
      | inr e ↦
          let fewer = count-skip p x xs e in
          let r = found p xs (omega (arith, h, fewer)) in
          (r.0, in_tail x xs r.0 r.1, r.2)
    ]

later_counted : {A : Type 0} (p : A → Bool) (y : A) (ys : List A) → 1 ≤ count_by p ys → 1 ≤ count_by p (y ∷ ys)
later_counted p y ys h = omega (arith, count-cons p y ys, h)

-- and what is there is counted
pub counted : {A : Type 0} (p : A → Bool) (xs : List A) (x : A) → Contains xs x → p x ≡ true → 1 ≤ count_by p xs
counted p [] x h passes = absurd (not_in_none x h)
counted p (y ∷ ys) x h passes =
    elim (head_or_tail y ys x h) [
      | inl same ↦
          let here : p y ≡ true = rw same passes in
          let e : count_by p (y ∷ ys) ≡ 1 + count_by p ys = rw (count-cons p y ys, here) refl in
          omega (arith, e)
      | inr later ↦ later_counted p y ys (counted p ys x later passes)
    ]

-- one alone passes
pub one_alone : {A : Type 0} (p : A → Bool) (xs : List A) (x y : A) → count_by p xs ≡ 1 → Contains xs x → Contains xs y → p x ≡ true → p y ≡ true → x ≡ y
one_alone p [] x y one at_x at_y px py = absurd (not_in_none x at_x)
one_alone {A} p (z ∷ zs) x y one at_x at_y px py =
    by (head_or_tail z zs x at_x) (head_or_tail z zs y at_y) (λ fewer a b. one_alone p zs x y fewer a b px py)
  where
    twice : p z ≡ true → (w : A) → Contains zs w → p w ≡ true → ⊥
    twice pz w at_w pw =
        let e : count_by p (z ∷ zs) ≡ 1 + count_by p zs = rw (count-cons p z zs, pz) refl in
        omega (arith, e, one, counted p zs w at_w pw)

    by : (z ≡ x) ⊎ Contains zs x → (z ≡ y) ⊎ Contains zs y
        → (count_by p zs ≡ 1 → Contains zs x → Contains zs y → x ≡ y) → x ≡ y
    by (inl a) (inl b) next = sym a ∙ b
    by (inl a) (inr b) next = absurd (twice (rw a px) y b py)
    by (inr a) (inl b) next = absurd (twice (rw b py) x a px)
    by (inr a) (inr b) next =
        elim (cases_Bool (p z)) [
          | inl e ↦ absurd (twice e x a px)
          | inr e ↦
              let fewer = count-skip p z zs e in
              next (sym fewer ∙ one) a b
        ]

-- numbers of which each stands once differ
pub differ_by_counts : (xs : List ℕ) → ((v : ℕ) → Contains xs v → count_by (λ x. x == v) xs ≤ 1) → AllPairs Differ xs
differ_by_counts [] once = λ i j d less within. absurd (omega (arith, within))
differ_by_counts (x ∷ xs) once = AllPairs-cons Differ x xs (all_in (Differ x) xs apart) (differ_by_counts xs rest)
  where
    apart : (y : ℕ) → Contains xs y → Differ x y
    apart y h same =
        let e : count_by (λ z. z == y) (x ∷ xs) ≡ 1 + count_by (λ z. z == y) xs = rw (count-cons (λ z. z == y) x xs, eq-eqb x y same) refl in
        omega (arith, e, counted (λ z. z == y) xs y h (eq-eqb y y refl), once y (in_tail x xs y h))

    rest : (v : ℕ) → Contains xs v → count_by (λ z. z == v) xs ≤ 1
    rest v h = omega (arith, count-cons (λ z. z == v) x xs, once v (in_tail x xs v h))
