-- Where a test first passes: in a mapped list, and where it passes nowhere.
use Rattle.std.proofs.Common.{◌≡◌, ℕ, ◌+◌, ◌<◌, Bool, true, false, cond, not, ltb, List, [], ◌∷◌, ◌||◌, length, map, None, Some, refl, ap, sym, ◌∙◌, arith}
use Rattle.std.specs.List.{prefix_len, position_or_len, position, list_any}
use Rattle.std.proofs.lemmas.List.{length-map}
use Rattle.std.proofs.lemmas.Bool.Decides.{nat_tests}

pub prefix_len-map : {A B : Type 0} (f : A → B) (q : B → Bool) (xs : List A) → prefix_len q (map f xs) ≡ prefix_len (λ x. q (f x)) xs
prefix_len-map f q [] = refl
prefix_len-map f q (x ∷ xs) = ap (λ n. cond (q (f x)) (1 + n) 0) (prefix_len-map f q xs)

-- a test of the images passes first where the test through the map does
pub position-map : {A B : Type 0} (f : A → B) (p : B → Bool) (xs : List A) → position p (map f xs) ≡ position (λ x. p (f x)) xs
position-map f p xs = simp (prefix_len-map f (λ x. not (p x)), length-map)

pub list_any-by_place : {A : Type 0} (p : A → Bool) (xs : List A) → list_any p xs ≡ ltb (position_or_len p xs) (length xs)
list_any-by_place p [] = refl
list_any-by_place p (x ∷ xs) = by (p x) (list_any-by_place p xs)
  where
    by : (b : Bool) → list_any p xs ≡ ltb (position_or_len p xs) (length xs)
        → (b || list_any p xs) ≡ ltb (cond (not b) (1 + position_or_len p xs) 0) (length (x ∷ xs))
    by true rest = grind (arith, nat_tests)
    by false rest = grind (arith, nat_tests)

-- a test passes at a place exactly where it passes
pub position-any : {A : Type 0} (p : A → Bool) (xs : List A) → position p xs ≡ cond (list_any p xs) (Some (position_or_len p xs)) None
position-any p xs = ap (λ b. cond b (Some (position_or_len p xs)) None) (sym (list_any-by_place p xs))

-- a test that passes at no place passes nowhere
pub list_any-no_position : {A : Type 0} (p : A → Bool) (xs : List A) → position p xs ≡ None → list_any p xs ≡ false
list_any-no_position p xs none = list_any-by_place p xs ∙ by (ltb (position_or_len p xs) (length xs)) none
  where
    by : (b : Bool) → cond b (Some (position_or_len p xs)) None ≡ None → b ≡ false
    by true e = (cc)
    by false e = refl

-- the place of an element that passes is a place of the list
pub position_within : {A : Type 0} (p : A → Bool) (xs : List A) (i : ℕ) → position p xs ≡ Some i → i < length xs
position_within p xs i at = by (ltb (position_or_len p xs) (length xs)) refl at
  where
    by : (b : Bool) → ltb (position_or_len p xs) (length xs) ≡ b → cond b (Some (position_or_len p xs)) None ≡ Some i → i < length xs
    by true less e = let is : position_or_len p xs ≡ i = (cc) in grind (arith, nat_tests)
    by false less e = (cc)
