-- The name of the next place is new among clauses that are named by their places.
use Rattle.std.proofs.Common.{◌≡◌, ℕ, zero, suc, ◌+◌, ◌<◌, ◌≤◌, false, nat_le, List, [], ◌∷◌, ◌++◌, length, get_or, Option, None, Some, slice_get, ap, sym, subst, ◌∙◌, refl, append_assoc, arith, take}
use Rattle.std.specs.Str.{bytes_eq}
use Rattle.std.specs.Cmp.Lexicographic.{bytes_decides}
use Rattle.std.proofs.lemmas.Bool.{lt-leb}
use Rattle.std.proofs.lemmas.List.{take_more, length-take-le}
use Rattle.std.proofs.lemmas.List.Quantifiers.{position-Some}
use Rattle.std.proofs.lemmas.Option.{slice_get-get_or, slice_get_within}
use Rattle.solid_model.specs.declared.clause.Clause.{Clause}
use Rattle.solid_model.specs.Clauses.{place_of}
use Rattle.solid_model.specs.Pushing.{push_fault}
use Rattle.solid_lang.specs.declared.step.Step.{Step}
use Rattle.solid_lang.specs.AddUp.{clauses_at-append}
use Rattle.solid_lang.specs.Compiled.{clause_at, clauses_at, place_name}
use Rattle.solid_lang.specs.NamedByPlaces.{AreNamedByPlaces}
use Rattle.solid_lang.proofs.NameLemmas.{same_place}

no_place : (clauses : List Clause) (n : ℕ) → length clauses ≤ n → n < 65535 → AreNamedByPlaces clauses → (o : Option ℕ) → place_of clauses (place_name n) ≡ o → o ≡ None
no_place clauses n past few named None e = refl
no_place [] n past few named (Some at) e = (cc)
no_place (c ∷ clauses) n past few named (Some at) e =
    let found = position-Some (λ d. bytes_eq (place_name n) d.name) (c ∷ clauses) at c e in
    let within = found.0 in
    let there = named at (get_or (c ∷ clauses) at c) (slice_get-get_or (c ∷ clauses) at c within) in
    let same : place_name n ≡ place_name at = (bytes_decides (place_name n) (get_or (c ∷ clauses) at c).name).0 found.1 ∙ there in
    let equal = same_place n at (omega (arith, few)) (omega (arith, few, within, past)) same in
    absurd (omega (arith, equal, within, past))

-- so it goes last, where there is room
pub no_fault : (clauses : List Clause) (n : ℕ) → length clauses ≡ n → n < 65535 → AreNamedByPlaces clauses → push_fault clauses (place_name n) ≡ None
no_fault clauses n long few named =
    let new = no_place clauses n (omega (arith, long)) few named (place_of clauses (place_name n)) refl in
    let free : nat_le 65535 (length clauses) ≡ false = lt-leb 65535 (length clauses) (omega (arith, long, few)) in
    rw (new, free) refl

pub none_are_named : AreNamedByPlaces []
none_are_named k clause e = (cc)

-- and then each is still named by its place
pub named_after : (clauses : List Clause) (c : Clause) → c.name ≡ place_name (length clauses) → AreNamedByPlaces clauses → AreNamedByPlaces (clauses ++ c ∷ [])
named_after clauses c own named k clause e =
    let start : length clauses ≡ 0 + length clauses = omega arith in
    let same : 0 + k ≡ k = omega arith in
    by clauses 0 (λ j d h. named j d h ∙ ap place_name (omega arith)) (own ∙ ap place_name start) k clause e ∙ ap place_name same
  where
    by : (cs : List Clause) (n : ℕ) → ((j : ℕ) (d : Clause) → slice_get cs j ≡ Some d → d.name ≡ place_name (n + j)) → c.name ≡ place_name (n + length cs)
        → (j : ℕ) (d : Clause) → slice_get (cs ++ c ∷ []) j ≡ Some d → d.name ≡ place_name (n + j)
    by [] n all last zero d h = let is : d ≡ c = (cc) in ap (λ (x : Clause). x.name) is ∙ last
    by [] n all last (suc j) d h = (cc)
    by (x ∷ xs) n all last zero d h = all zero d h
    by (x ∷ xs) n all last (suc j) d h =
        by xs (n + 1) (λ i y f. all (suc i) y f ∙ ap place_name (omega arith)) (last ∙ ap place_name (omega arith)) j d h ∙ ap place_name (omega arith)

-- one step more
pub one_more : (old now new : List Clause) (place at : ℕ) (steps : List Step) (step : Step) → at < length steps → step ≡ get_or steps at step → length old ≡ place
    → now ≡ old ++ clauses_at place (take at steps) → length now ≡ place + at → new ≡ now ++ clause_at (length now) step ∷ []
    → new ≡ old ++ clauses_at place (take (at + 1) steps)
one_more old now new place at steps step within is start so_far long next =
    let here : take (at + 1) steps ≡ take at steps ++ step ∷ [] = take_more steps at step within ∙ ap (λ s. take at steps ++ s ∷ []) (sym is) in
    let there : place + length (take at steps) ≡ place + at = ap (λ l. place + l) (length-take-le at steps (omega (arith, within))) in
    let parts : clauses_at place (take (at + 1) steps) ≡ clauses_at place (take at steps) ++ clause_at (place + at) step ∷ [] =
    ap (clauses_at place) here ∙ clauses_at-append place (place + at) (take at steps) (step ∷ []) there in
    next
    ∙ ap (λ l. now ++ clause_at l step ∷ []) long
    ∙ ap (λ l. l ++ clause_at (place + at) step ∷ []) so_far
    ∙ append_assoc old (clauses_at place (take at steps)) (clause_at (place + at) step ∷ [])
    ∙ ap (λ l. old ++ l) (sym parts)
