-- Tests that are joined, and what they say.
use Rattle.std.proofs.Common.{◌≡◌, Bool, true, false, ◌||◌, ◌⊎◌, inl, inr, refl, sym}
use Rattle.std.proofs.lemmas.Bool.{false≢true}

pub one_true : (x y : Bool) → x || y ≡ true → (x ≡ true) ⊎ (y ≡ true)
one_true true y h = inl refl
one_true false y h = inr h

pub true_left : (x y : Bool) → x ≡ true → x || y ≡ true
true_left true y h = refl
true_left false y h = absurd (false≢true h)

-- two tests that follow from one another are the same
pub same_tests : (x y : Bool) → (x ≡ true → y ≡ true) → (y ≡ true → x ≡ true) → x ≡ y
same_tests true y forth back = sym (forth refl)
same_tests false true forth back = back refl
same_tests false false forth back = refl
