-- Names in their order are new.
use Rattle.std.proofs.Common.{◌≡◌, ℕ, zero, suc, ◌+◌, ◌*◌, ◌<◌, ◌≤◌, ◌^◌, false, List, [], ◌∷◌, ◌++◌, length, drop, get_or, inl, inr, ◌⊎◌, Option, None, Some, ap, refl, ◌∙◌, length-append, arith, nat_le}
use Rattle.std.specs.Prelude.{decimal}
use Rattle.std.specs.Str.{bytes_eq}
use Rattle.std.specs.Cmp.Lexicographic.{bytes_decides}
use Rattle.std.proofs.lemmas.Bool.{lt-leb}
use Rattle.std.proofs.lemmas.Fmt.{decimal_injective, decimal_nonempty}
use Rattle.std.proofs.lemmas.List.Elements.{All-append}
use Rattle.std.proofs.lemmas.List.Quantifiers.{position-Some}
use Rattle.solid_model.specs.declared.clause.Clause.{Clause}
use Rattle.solid_model.specs.Clauses.{place_of}
use Rattle.solid_model.specs.Pushing.{push_fault}
use Rattle.model_forge.specs.Fresh.{IsBefore, IsNext, TakesFrom}

-- a name that comes before another is another one
differs : (name : List ℕ) (letter disc : ℕ) → disc < 2 ^ 32 → IsBefore letter disc name → letter ∷ decimal disc ≡ name → ⊥
differs name letter disc few (inl short) e =
    let long : length (letter ∷ decimal disc) ≡ length name = ap length e in
    let some = decimal_nonempty disc (omega (arith, few)) in
    omega (arith, long, short, some)
differs name letter disc few (inr earlier) e =
    let both : letter ∷ decimal disc ≡ earlier.own_letter ∷ decimal earlier.own_disc = e ∙ earlier.is in
    let same_letter : letter ≡ earlier.own_letter = ap (λ l. get_or l 0 0) both in
    let same_digits : decimal disc ≡ decimal earlier.own_disc = ap (drop 1) both in
    by earlier.earlier same_letter same_digits
  where
    by : (earlier.own_disc < disc) ⊎ ((earlier.own_disc ≡ disc) × (earlier.own_letter < letter)) → letter ≡ earlier.own_letter
        → decimal disc ≡ decimal earlier.own_disc → ⊥
    by (inl less) same_letter same_digits =
        let same = decimal_injective disc earlier.own_disc (omega (arith, few)) (omega (arith, few, less)) same_digits in
        omega (arith, same, less)
    by (inr same) same_letter same_digits = let less = same.1 in omega (arith, less, same_letter)

-- the next name is none of those so far
no_place : (clauses : List Clause) (letter disc : ℕ) → disc < 2 ^ 32 → IsNext clauses letter disc → (o : Option ℕ)
    → place_of clauses (letter ∷ decimal disc) ≡ o → o ≡ None
no_place clauses letter disc few next None e = refl
no_place [] letter disc few next (Some at) e = (cc)
no_place (c ∷ clauses) letter disc few next (Some at) e =
    let found = position-Some (λ d. bytes_eq (letter ∷ decimal disc) d.name) (c ∷ clauses) at c e in
    absurd (differs (get_or (c ∷ clauses) at c).name letter disc few (next.before at c found.0)
    ((bytes_decides (letter ∷ decimal disc) (get_or (c ∷ clauses) at c).name).0 found.1))

-- and there is room
pub no_fault : (clauses : List Clause) (letter disc : ℕ) → letter < 2 ^ 8 → disc < 5000 → IsNext clauses letter disc
    → push_fault clauses (letter ∷ decimal disc) ≡ None
no_fault clauses letter disc small few next =
    let new = no_place clauses letter disc (omega (arith, few)) next (place_of clauses (letter ∷ decimal disc)) refl in
    let length_few = next.few in
    rw (new, room (length clauses) (omega (arith, length_few, small, few))) refl
  where
    room : (n : ℕ) → n < 65535 → nat_le 65535 n ≡ false
    room n less = lt-leb 65535 n less

-- a name that comes before another comes before all later ones
earlier_later : (letter later disc : ℕ) (name : List ℕ) → letter ≤ later → IsBefore letter disc name → IsBefore later disc name
earlier_later letter later disc name past (inl short) = inl short
earlier_later letter later disc name past (inr earlier) = inr (record { own_letter = earlier.own_letter; own_disc = earlier.own_disc; is = earlier.is; earlier = by earlier.earlier })
  where
    by : (earlier.own_disc < disc) ⊎ ((earlier.own_disc ≡ disc) × (earlier.own_letter < letter))
        → (earlier.own_disc < disc) ⊎ ((earlier.own_disc ≡ disc) × (earlier.own_letter < later))
    by (inl less) = inl less
    by (inr same) = let less = same.1 in inr (same.0, omega (arith, less, past))

-- a name goes last, and those behind it may follow
pub next_after : (clauses : List Clause) (c : Clause) (letter disc : ℕ) → c.name ≡ letter ∷ decimal disc → IsNext clauses letter disc
    → TakesFrom (clauses ++ c ∷ []) (letter + 1) disc
next_after clauses c letter disc named next later past =
    let letters = next.letters in
    let few = next.few in
    let long = length-append clauses (c ∷ []) in
    record {
      letters = omega (arith, letters, past);
      few = omega (arith, few, long, letters, past);
      before = All-append (λ d. IsBefore later disc d.name) clauses (c ∷ [])
          (λ k d less. earlier_later letter later disc (get_or clauses k d).name (omega (arith, past)) (next.before k d less))
          (λ k d less. own k d less);
    }
  where
    own : (k : ℕ) (d : Clause) → k < length (c ∷ []) → IsBefore later disc (get_or (c ∷ []) k d).name
    own zero d less = inr (record { own_letter = letter; own_disc = disc; is = named; earlier = inr (refl, omega (arith, past)) })
    own (suc k) d less = absurd (omega (arith, less))

-- the clauses before a disc are those of the axes and of the discs before it
pub next_disc : (clauses : List Clause) (letter disc : ℕ) → length clauses ≤ 2 + 12 * (disc + 1) → IsNext clauses letter disc
    → TakesFrom clauses 97 (disc + 1)
next_disc clauses letter disc few next later past = record {
  letters = past;
  few = omega (arith, few);
  before = λ k d less. by (get_or clauses k d).name (next.before k d less);
}
  where
    by : (name : List ℕ) → IsBefore letter disc name → IsBefore later (disc + 1) name
    by name (inl short) = inl short
    by name (inr earlier) = inr (record { own_letter = earlier.own_letter; own_disc = earlier.own_disc; is = earlier.is; earlier = inl (own earlier.earlier) })
      where
        own : (earlier.own_disc < disc) ⊎ ((earlier.own_disc ≡ disc) × (earlier.own_letter < letter)) → earlier.own_disc < disc + 1
        own (inl less) = omega (arith, less)
        own (inr same) = let e = same.0 in omega (arith, e)
