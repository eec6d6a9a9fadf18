-- How the lines of clauses come together.
use Rattle.std.proofs.Common.{◌≡◌, ℕ, ◌+◌, ◌<◌, List, [], ◌∷◌, ◌++◌, length, take, Some, IfSome, slice_get, inl, inr, ap, subst, sym, ◌∙◌, arith}
use Rattle.std.specs.List.{flat_map}
use Rattle.std.proofs.lemmas.List.{flat_map_more, take_more}
use Rattle.std.proofs.lemmas.Option.{slice_get_cases}
use Rattle.solid_model.specs.declared.clause.Clause.{Clause}
use Rattle.solid_model.specs.Named.{name_at}
use Rattle.solid_model.proofs.NamedLemmas.{name_at-is}

-- what the lists of the first elements are together, and that of the next
pub flat_map_next : {X A : Type 0} (f : X → List A) (xs : List X) (at : ℕ) (before after : List A) → at < length xs → before ≡ flat_map f (take at xs)
    → IfSome (slice_get xs at) (λ x. after ≡ before ++ f x) → after ≡ flat_map f (take (at + 1) xs)
flat_map_next f xs at before after within so_far next =
    elim (slice_get_cases xs at).1 [
      | inl (x, less, is, same) ↦
          let e : after ≡ before ++ f x = subst (λ o. IfSome o (λ y. after ≡ before ++ f y)) is next in
          let parts : take (at + 1) xs ≡ take at xs ++ x ∷ [] = take_more xs at x within ∙ ap (λ y. take at xs ++ y ∷ []) same in
          e ∙ ap (λ l. l ++ f x) so_far ∙ flat_map_more f [] (take at xs) x ∙ sym (ap (flat_map f) parts)
      | inr (past, none) ↦ absurd (omega arith)
    ]

-- the name at a place is that of the clause there
pub name_at_place : (clauses : List Clause) (place : ℕ) (clause : Clause) → slice_get clauses place ≡ Some clause → name_at clauses place ≡ clause.name
name_at_place clauses place clause at = name_at-is clauses place clause at
