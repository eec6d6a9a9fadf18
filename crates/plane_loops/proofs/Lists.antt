-- Counts of a number in a list, and marks.
use Rattle.std.proofs.Common.{◌≡◌, ◌≢◌, ℕ, suc, ◌+◌, ◌<◌, ◌≤◌, Bool, true, false, cond, List, [], ◌∷◌, ◌++◌, refl, arith, ap, sym, subst, ◌∙◌, inl, inr, length, get_or, set}
use Rattle.std.specs.Prelude.{◌⊎◌, ◌==◌, not, count_by, All, Contains}
use Rattle.std.proofs.lemmas.Bool.{cases_eq, eq-eqb, ne_eqb}
use Rattle.std.proofs.lemmas.List.{get_or-set_other, get_or-set_same}
use Rattle.std.proofs.lemmas.List.Elements.{All-head, All-tail}
use Rattle.std.proofs.lemmas.List.Sums.{get_or-le-sum_by, sum_by-append, sum_by-cons, sum_by-set}
use Rattle.plane_loops.specs.Following.{unmarked}

-- ---- counts

-- in how many places of a list a number stands
abbrev pub count : ℕ → List ℕ → ℕ
count w xs = count_by (λ x. x == w) xs

abbrev pub bit : Bool → ℕ
bit b = cond b 1 0

pub count_cons : (w x : ℕ) (xs : List ℕ) → count w (x ∷ xs) ≡ bit (x == w) + count w xs
count_cons w x xs = sum_by-cons (λ x. cond (x == w) 1 0) x xs

pub count_append : (w : ℕ) (xs ys : List ℕ) → count w (xs ++ ys) ≡ count w xs + count w ys
count_append w xs ys = sum_by-append (λ x. cond (x == w) 1 0) xs ys

pub bit_same : (w : ℕ) → bit (w == w) ≡ 1
bit_same w = rw (eq-eqb w w refl) refl

pub bit_other : (x w : ℕ) → (x ≡ w → ⊥) → bit (x == w) ≡ 0
bit_other x w h = rw (ne_eqb x w h) refl

pub count_has : (w : ℕ) (xs : List ℕ) → Contains xs w → 1 ≤ count w xs
count_has w xs h =
    let e = get_or-le-sum_by (λ x. cond (x == w) 1 0) xs h.0 w h.1 in
    let f : bit (get_or xs h.0 w == w) ≡ 1 = ap (λ x. bit (x == w)) h.2 ∙ bit_same w in
    omega (arith, e, f)

-- what holds of all elements holds of one that is counted
pub counted_has : (P : ℕ → Type 0) (w : ℕ) (xs : List ℕ) → All P xs → 1 ≤ count w xs → P w
counted_has P w [] h some = absurd (omega (arith, some))
counted_has P w (x ∷ xs) h some = by (cases_eq x w) (counted_has P w xs (All-tail P x xs h))
  where
    by : (x ≡ w) ⊎ (x ≡ w → ⊥) → (1 ≤ count w xs → P w) → P w
    by (inl same) later = subst P same (All-head P x xs h)
    by (inr other) later =
        let e = count_cons w x xs in
        let f = bit_other x w other in
        later (omega (arith, some, e, f))

-- ---- marks

abbrev pub at : List Bool → ℕ → Bool
at marks w = get_or marks w true

-- one more mark
pub at_set : (marks : List Bool) (v w : ℕ) → v < length marks → at marks v ≡ false → bit (at marks w) + bit (v == w) ≡ bit (at (set marks v true) w)
at_set marks v w within h = by (cases_eq v w)
  where
    by : (v ≡ w) ⊎ (v ≡ w → ⊥) → bit (at marks w) + bit (v == w) ≡ bit (at (set marks v true) w)
    by (inl same) =
        let old : bit (at marks w) ≡ 0 = ap (λ x. bit (at marks x)) (sym same) ∙ ap bit h in
        let one : bit (v == w) ≡ 1 = rw (eq-eqb v w same) refl in
        let new : bit (at (set marks v true) w) ≡ 1 = ap (λ x. bit (at (set marks v true) x)) (sym same) ∙ ap bit (get_or-set_same marks v true true within) in
        omega (arith, old, one, new)
    by (inr other) =
        let none = bit_other v w other in
        let ne : w ≢ v = λ e. other (sym e) in
        let new : bit (at (set marks v true) w) ≡ bit (at marks w) = ap bit (get_or-set_other marks v w true true ne) in
        omega (arith, none, new)

pub set_here : (marks : List Bool) (v : ℕ) → v < length marks → at (set marks v true) v ≡ true
set_here marks v within = get_or-set_same marks v true true within

pub set_keeps : (marks : List Bool) (v w : ℕ) → v < length marks → at marks w ≡ true → at (set marks v true) w ≡ true
set_keeps marks v w within h = by (cases_eq w v)
  where
    by : (w ≡ v) ⊎ (w ≡ v → ⊥) → at (set marks v true) w ≡ true
    by (inl same) = ap (at (set marks v true)) same ∙ set_here marks v within
    by (inr other) = get_or-set_other marks v w true true other ∙ h

-- what is marked after one more mark was marked before, or is what was marked
pub set_from : (marks : List Bool) (v w : ℕ) → at (set marks v true) w ≡ true → (w ≡ v) ⊎ (at marks w ≡ true)
set_from marks v w h = by (cases_eq w v)
  where
    by : (w ≡ v) ⊎ (w ≡ v → ⊥) → (w ≡ v) ⊎ (at marks w ≡ true)
    by (inl same) = inl same
    by (inr other) = inr (sym (get_or-set_other marks v w true true other) ∙ h)

pub unmarked_less : (marks : List Bool) (v : ℕ) → v < length marks → at marks v ≡ false → unmarked marks ≡ suc (unmarked (set marks v true))
unmarked_less marks v within h =
    let e = sum_by-set (λ m. cond (not m) 1 0) marks v true true within in
    let f : bit (not (get_or marks v true)) ≡ 1 = rw h refl in
    omega (arith, e, f)
