-- The draws of a disc, and the clauses of one disc more.
use Rattle.std.proofs.Common.{◌≡◌, ℕ, zero, suc, ◌+◌, ◌^◌, ◌/◌, List, [], ◌∷◌, ◌++◌, ap, ◌∙◌, append-nil, add-one, arith}
use Rattle.std.specs.List.{flat_map, range_with_len}
use Rattle.std.proofs.lemmas.Grind.{flat_map-append}
use Rattle.model_forge.specs.Stream.{next_state, state_after, drawn}

-- draws from a state that is reached after others
pub state_later : (seed k n : ℕ) → state_after (state_after seed k) n ≡ state_after seed (k + n)
state_later seed k zero = ap (state_after seed) (omega arith)
state_later seed k (suc n) =
    let more : suc (k + n) ≡ k + suc n = omega arith in
    ap next_state (state_later seed k n) ∙ ap (state_after seed) more

pub drawn_later : (seed k n : ℕ) → drawn (state_after seed k) n ≡ drawn seed (k + n)
drawn_later seed k n =
    let place : k + (n + 1) ≡ k + n + 1 = omega arith in
    ap (λ s. s / 2 ^ 32) (state_later seed k (n + 1) ∙ ap (state_after seed) place)

-- one number more
range_last : (a n j : ℕ) → a + n ≡ j → range_with_len a (suc n) ≡ range_with_len a n ++ j ∷ []
range_last a zero j e = ap (λ k. k ∷ []) (omega (arith, e))
range_last a (suc n) j e = ap (λ l. a ∷ l) (range_last (a + 1) n j (omega (arith, e)))

range_more : (a n j : ℕ) → a + n ≡ j → range_with_len a (n + 1) ≡ range_with_len a n ++ j ∷ []
range_more a n j e = ap (range_with_len a) (add-one n) ∙ range_last a n j e

pub flat_map_range : {A : Type 0} (f : ℕ → List A) (n : ℕ) → flat_map f (range_with_len 0 (n + 1)) ≡ flat_map f (range_with_len 0 n) ++ f n
flat_map_range f n =
    ap (flat_map f) (range_more 0 n n (omega arith))
    ∙ flat_map-append f (range_with_len 0 n) (n ∷ [])
    ∙ ap (λ l. flat_map f (range_with_len 0 n) ++ l) (append-nil (f n))
