-- The longest run of elements that pass a test, with which a list begins.
use Rattle.std.proofs.Common.{◌≡◌, suc, ◌+◌, ◌≤◌, Bool, true, false, cond, not, List, [], ◌∷◌, length, take, drop, Some, None, refl, ap, arith, position, nat_lt}
use Rattle.std.specs.List.{list_all, prefix_len, position_or_len}
use Rattle.std.specs.Option.{unwrap_or}
use Rattle.std.proofs.lemmas.List.Sums.{prefix_len-le-length}
use Rattle.std.proofs.lemmas.Bool.Decides.{nat_tests}

-- the place of the first element that passes, or the length
pub unwrap_position : {X : Type 0} (p : X → Bool) → (xs : List X) → unwrap_or (position p xs) (length xs) ≡ position_or_len p xs
unwrap_position p xs = by (nat_lt (position_or_len p xs) (length xs)) refl (prefix_len-le-length (λ x. not (p x)) xs)
  where
    by : (b : Bool) → nat_lt (position_or_len p xs) (length xs) ≡ b → position_or_len p xs ≤ length xs
        → unwrap_or (cond b (Some (position_or_len p xs)) None) (length xs) ≡ position_or_len p xs
    by true less le = refl
    by false more le = grind (arith, nat_tests)

-- the place is within the list or at its end
pub place_within : {X : Type 0} (p : X → Bool) → (xs : List X) → position_or_len p xs ≤ length xs
place_within p xs = prefix_len-le-length (λ x. not (p x)) xs

-- each element of the run passes
pub run-passes : {X : Type 0} (p : X → Bool) → (xs : List X) → list_all p (take (prefix_len p xs) xs) ≡ true
run-passes p [] = refl
run-passes p (x ∷ xs) = by (p x) refl (run-passes p xs)
  where
    by : (b : Bool) → p x ≡ b → list_all p (take (prefix_len p xs) xs) ≡ true → list_all p (take (cond b (1 + prefix_len p xs) 0) (x ∷ xs)) ≡ true
    by true here later = let one : 1 + prefix_len p xs ≡ suc (prefix_len p xs) = omega arith in rw (one, here) later
    by false here later = refl

-- nothing, or elements of which the first does not pass
abbrev pub Stops : {X : Type 0} → (X → Bool) → List X → Type 0
Stops p [] = Unit {0}
Stops p (x ∷ xs) = p x ≡ false

-- what stands after the run begins with none that passes
pub run-stops : {X : Type 0} (p : X → Bool) → (xs : List X) → Stops p (drop (prefix_len p xs) xs)
run-stops p [] = tt
run-stops p (x ∷ xs) = by (p x) refl (run-stops p xs)
  where
    by : (b : Bool) → p x ≡ b → Stops p (drop (prefix_len p xs) xs) → Stops p (drop (cond b (1 + prefix_len p xs) 0) (x ∷ xs))
    by true here later = let one : 1 + prefix_len p xs ≡ suc (prefix_len p xs) = omega arith in rw one later
    by false here later = here

-- a test denied twice is the test
pub run-not_not : {X : Type 0} (p : X → Bool) → (xs : List X) → prefix_len (λ x. not (not (p x))) xs ≡ prefix_len p xs
run-not_not p [] = refl
run-not_not p (x ∷ xs) = by (p x) (run-not_not p xs)
  where
    by : (b : Bool) → prefix_len (λ x. not (not (p x))) xs ≡ prefix_len p xs
        → cond (not (not b)) (1 + prefix_len (λ x. not (not (p x))) xs) 0 ≡ cond b (1 + prefix_len p xs) 0
    by true e = ap (λ n. 1 + n) e
    by false e = refl
