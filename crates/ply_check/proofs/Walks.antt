-- Walks from a number to the next, again and again.
use Rattle.std.proofs.Common.{◌≡◌, ℕ, zero, suc, ◌<◌, List, [], ◌∷◌, length, refl, sym, ap, arith, inl, inr, ◌∙◌}
use Rattle.std.specs.Prelude.{AllPairs, Contains}
use Rattle.std.proofs.lemmas.List.Kept.{AllPairs-cons}
use Rattle.mesh_laws.proofs.Lists.{Differ}
use Rattle.ply_check.specs.Walks.{stepped}
use Rattle.ply_check.proofs.Lists.{all_in}
use Rattle.fixed_ops.proofs.Lists.{head_or_tail, in_head, in_tail, not_in_none}

-- the numbers on a walk of so many
abbrev pub walk : (ℕ → ℕ) → ℕ → ℕ → List ℕ
walk next x zero = []
walk next x (suc n) = x ∷ walk next (next x) n

pub one_more : (next : ℕ → ℕ) (n x : ℕ) → stepped next (suc n) x ≡ next (stepped next n x)
one_more next zero x = refl
one_more next (suc n) x = one_more next n (next x)

pub length-walk : (next : ℕ → ℕ) (x n : ℕ) → length (walk next x n) ≡ n
length-walk next x zero = refl
length-walk next x (suc n) = ap suc (length-walk next (next x) n)

-- each number on a walk is some steps from its first
pub on_walk : (next : ℕ → ℕ) (x n y : ℕ) → Contains (walk next x n) y → (i : ℕ) × (i < n) × (stepped next i x ≡ y)
on_walk next x zero y h = absurd (not_in_none y h)
on_walk next x (suc n) y h =
    elim (head_or_tail x (walk next (next x) n) y h) [
      | inl same ↦ (0, omega arith, same)
      | inr later ↦ let r = on_walk next (next x) n y later in (suc r.0, omega (arith, r.1), r.2)
    ]

pub walk_has : (next : ℕ → ℕ) (i n x : ℕ) → i < n → Contains (walk next x n) (stepped next i x)
walk_has next i zero x less = absurd (omega (arith, less))
walk_has next zero (suc n) x less = in_head (walk next (next x) n) x
walk_has next (suc i) (suc n) x less =
    in_tail x (walk next (next x) n) (stepped next i (next x)) (walk_has next i n (next x) (omega (arith, less)))

-- a walk goes over different numbers where those some steps apart differ
pub walk_differs : (next : ℕ → ℕ) (n x : ℕ) → ((i j : ℕ) → i < j → j < n → Differ (stepped next i x) (stepped next j x)) → AllPairs Differ (walk next x n)
walk_differs next zero x apart = λ i j d less within. absurd (omega (arith, within))
walk_differs next (suc n) x apart =
    AllPairs-cons Differ x (walk next (next x) n)
    (all_in (Differ x) (walk next (next x) n) (λ y h same.
    let r = on_walk next (next x) n y h in
    apart 0 (suc r.0) (omega arith) (omega (arith, r.1)) (same ∙ sym r.2)))
    (walk_differs next n (next x) (λ i j less within. apart (suc i) (suc j) (omega (arith, less)) (omega (arith, within))))
