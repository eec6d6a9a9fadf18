-- Tests of all cases of a finite range, which compute.
use Rattle.std.proofs.Common.{◌≡◌, Bool, true, false}
use Rattle.std.specs.Prelude.{◌&&◌}
use Rattle.std.proofs.lemmas.Bool.{and_parts}

-- a test of both truth values
abbrev pub both : (Bool → Bool) → Bool
both p = p true && p false

pub both_at : (p : Bool → Bool) → both p ≡ true → (b : Bool) → p b ≡ true
both_at p h true = (and_parts (p true) (p false) h).0
both_at p h false = (and_parts (p true) (p false) h).1

-- a test of the sixteen patterns of four corners
abbrev pub every : (Bool → Bool → Bool → Bool → Bool) → Bool
every p = both (λ a. both (λ b. both (λ c. both (λ d. p a b c d))))

pub every_at : (p : Bool → Bool → Bool → Bool → Bool) → every p ≡ true → (a b c d : Bool)
    → p a b c d ≡ true
every_at p h a b c d =
    both_at (λ d. p a b c d)
    (both_at (λ c. both (λ d. p a b c d))
    (both_at (λ b. both (λ c. both (λ d. p a b c d)))
    (both_at (λ a. both (λ b. both (λ c. both (λ d. p a b c d)))) h a) b) c) d
