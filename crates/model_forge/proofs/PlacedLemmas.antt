-- The clauses of a disc by places are those by names.
use Rattle.std.proofs.Common.{◌≡◌, ℕ, ◌+◌, ◌-◌, ◌<◌, ℤ, List, [], ◌∷◌, ◌++◌, length, ap, ◌∙◌, append_assoc, length-append, arith}
use Rattle.std.proofs.lemmas.Bool.{ne_eqb}
use Rattle.solid_model.specs.declared.clause.Clause.{Clause}
use Rattle.model_forge.specs.declared.disc.Role.{Role}
use Rattle.model_forge.specs.Placed.{square_at, edge_at, circle_at, joined_at, disc_at}

-- the parts of a disc, put last one after the other
pub circle_parts : (old b1 b2 b3 : List Clause) (i across up : ℕ) (x y radius : ℤ)
    → b1 ≡ old ++ square_at (length old) i (97 ∷ 98 ∷ 99 ∷ []) 0 x
    → b2 ≡ b1 ++ square_at (length b1) i (100 ∷ 101 ∷ 102 ∷ []) 1 y
    → b3 ≡ b2 ++ edge_at (length b2) i across up radius
    → across ≡ length old + 2 → up ≡ length b1 + 2
    → b3 ≡ old ++ circle_at (length old) i x y radius
circle_parts old b1 b2 b3 i across up x y radius e1 e2 e3 ha hu =
    let n = length old in
    let l1 : length b1 ≡ n + 3 = ap length e1 ∙ length-append old (square_at (length old) i (97 ∷ 98 ∷ 99 ∷ []) 0 x) in
    let l2 : length b2 ≡ length b1 + 3 = ap length e2 ∙ length-append b1 (square_at (length b1) i (100 ∷ 101 ∷ 102 ∷ []) 1 y) in
    let six : length b2 ≡ n + 6 = omega (arith, l1, l2) in
    let five : up ≡ n + 5 = omega (arith, l1, hu) in
    let first = square_at n i (97 ∷ 98 ∷ 99 ∷ []) 0 x in
    let second = square_at (n + 3) i (100 ∷ 101 ∷ 102 ∷ []) 1 y in
    let third = edge_at (n + 6) i (n + 2) (n + 5) radius in
    let s2 : b2 ≡ old ++ (first ++ second) = e2 ∙ ap (λ k. b1 ++ square_at k i (100 ∷ 101 ∷ 102 ∷ []) 1 y) l1 ∙ ap (λ l. l ++ second) e1 ∙ append_assoc old first second in
    e3 ∙ ap (λ k. b2 ++ edge_at k i across up radius) six
    ∙ ap (λ k. b2 ++ edge_at (n + 6) i k up radius) ha
    ∙ ap (λ k. b2 ++ edge_at (n + 6) i (n + 2) k radius) five
    ∙ ap (λ l. l ++ third) s2
    ∙ append_assoc old (first ++ second) third

-- a disc and how it joins the solid before it
pub disc_parts : (old b1 b2 : List Clause) (i before circle : ℕ) (x y radius : ℤ) (role : Role) → 0 < i
    → b1 ≡ old ++ circle_at (length old) i x y radius
    → b2 ≡ b1 ++ joined_at before circle i role
    → before ≡ length old - 1 → circle ≡ length old + 9
    → b2 ≡ old ++ disc_at (length old) i x y radius role
disc_parts old b1 b2 i before circle x y radius role some e1 e2 hb hc =
    let n = length old in
    let joined = joined_at (n - 1) (n + 9) i role in
    rw (ne_eqb i 0 (λ e. omega (arith, e, some)))
    (e2 ∙ ap (λ k. b1 ++ joined_at k circle i role) hb ∙ ap (λ k. b1 ++ joined_at (n - 1) k i role) hc
    ∙ ap (λ l. l ++ joined) e1 ∙ append_assoc old (circle_at n i x y radius) joined)
