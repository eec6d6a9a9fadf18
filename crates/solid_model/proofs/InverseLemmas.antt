-- The inverse of an edit takes it back.
use Rattle.std.proofs.Common.{◌≡◌, ◌≢◌, ℕ, zero, suc, ◌+◌, ◌-◌, ◌<◌, ◌≤◌, inl, inr, Bool, true, false, cond, not, nat_le, List, [], ◌∷◌, length, map, set, take, get_or, Option, None, Some, Result, Ok, Err, IfOk, slice_get, is_some, refl, ap, sym, subst, ◌∙◌, arith}
use Rattle.std.specs.List.{insert, position, position_or_len, remove}
use Rattle.std.specs.Option.{option_map, option_map_or}
use Rattle.std.specs.Str.{bytes_eq}
use Rattle.std.specs.Cmp.Lexicographic.{bytes_decides}
use Rattle.std.proofs.lemmas.Bool.{cases_lt}
use Rattle.std.proofs.lemmas.Bool.Decides.{nat_tests}
use Rattle.std.proofs.lemmas.List.{length-map, map-id, map-set, set-get_or}
use Rattle.std.proofs.lemmas.List.Edits.{length-insert, length-remove}
use Rattle.std.proofs.lemmas.Option.{get_or_from_slice_get, slice_get-map, slice_get_cases, slice_get_within}
use Rattle.std.proofs.lemmas.Simd.{map-map}
use Rattle.fixed_ops.specs.Arity.{arity_of}
use Rattle.solid_model.specs.declared.clause.Clause.{Clause}
use Rattle.solid_model.specs.declared.edit.Edit.{Edit}
use Rattle.solid_model.specs.declared.edit.Edit.TheVariants as edit
use Rattle.solid_model.specs.declared.edit.EditFault.TheVariants as fault
use Rattle.solid_model.specs.declared.push_fault.PushFault.{PushFault}
use Rattle.solid_model.specs.Adding.{added, clause_after}
use Rattle.solid_model.specs.Changes.{surgery}
use Rattle.solid_model.specs.Clauses.{place_of, names_of, AreClauses, AreInOrder, IsClauseAt, IsModel}
use Rattle.solid_model.specs.Edits.{edited, IsEdit}
use Rattle.solid_model.specs.Inverses.{behind, form_under, inverse_of, no_clause, put_before}
use Rattle.solid_model.specs.Laws.{IsTakenBack}
use Rattle.solid_model.specs.Named.{Named, by_name, name_at, named_of}
use Rattle.solid_model.specs.Names.{IsName}
use Rattle.solid_model.specs.Parts.{Parts, IsForm}
use Rattle.solid_model.specs.Pushing.{push_fault}
use Rattle.solid_model.specs.Surgery.{down, formed, moved, put_in, reads, reads_before, taken_out, up}
use Rattle.solid_model.proofs.ChangeLemmas.{edited-surgery, models-surgery}
use Rattle.solid_model.proofs.ListLemmas.{position-none}
use Rattle.solid_model.proofs.ModelLemmas.{Matches-clause_after}
use Rattle.solid_model.proofs.NamedLemmas.{arity-two, has, name_at-is, place-is, place-named}
use Rattle.solid_model.proofs.NamePlaces.{down-le, down-more, map-alike, map-cut, map-put, slice_get-insert, slice_get-remove, up-le, up-less}
use Rattle.solid_model.proofs.Places.{position-map}
use Rattle.solid_model.proofs.PushLemmas.{insert-behind, no_push_fault}
use Rattle.solid_model.proofs.Readers.{unread-before}
use Rattle.solid_model.proofs.SurgeryLemmas.{name_there, place-there, unread}

-- Lists.

pub set-twice : {A : Type 0} (xs : List A) (at : ℕ) (x y : A) → slice_get xs at ≡ Some x → set (set xs at y) at x ≡ xs
set-twice [] at x y e = (cc)
set-twice (z ∷ zs) zero x y e = let is : z ≡ x = (cc) in ap (λ w. w ∷ zs) (sym is)
set-twice (z ∷ zs) (suc at) x y e = ap (λ ws. z ∷ ws) (set-twice zs at x y e)

remove-insert : {A : Type 0} (xs : List A) (at : ℕ) (x : A) → at ≤ length xs → remove (insert xs at x) at ≡ xs
remove-insert xs zero x h = refl
remove-insert [] (suc at) x h = absurd (omega (arith, h))
remove-insert (y ∷ ys) (suc at) x h = ap (λ zs. y ∷ zs) (remove-insert ys at x (omega (arith, h)))

insert-remove : {A : Type 0} (xs : List A) (at : ℕ) (x : A) → slice_get xs at ≡ Some x → insert (remove xs at) at x ≡ xs
insert-remove [] at x e = (cc)
insert-remove (y ∷ ys) zero x e = let is : y ≡ x = (cc) in ap (λ w. w ∷ ys) (sym is)
insert-remove (y ∷ ys) (suc at) x e = ap (λ zs. y ∷ zs) (insert-remove ys at x e)

get-inserted : {A : Type 0} (xs : List A) (at : ℕ) (x : A) → at ≤ length xs → slice_get (insert xs at x) at ≡ Some x
get-inserted xs zero x h = refl
get-inserted [] (suc at) x h = absurd (omega (arith, h))
get-inserted (y ∷ ys) (suc at) x h = get-inserted ys at x (omega (arith, h))

pub get-behind : {A : Type 0} (xs : List A) (at : ℕ) → slice_get (remove xs at) at ≡ slice_get xs (suc at)
get-behind [] zero = refl
get-behind [] (suc at) = refl
get-behind (y ∷ ys) zero = refl
get-behind (y ∷ ys) (suc at) = get-behind ys at

pub get-before : {A : Type 0} (xs : List A) (at k : ℕ) (d : A) → k < at → get_or (remove xs at) k d ≡ get_or xs k d
get-before [] zero k d h = refl
get-before [] (suc at) k d h = refl
get-before (y ∷ ys) zero k d h = absurd (omega (arith, h))
get-before (y ∷ ys) (suc at) zero d h = refl
get-before (y ∷ ys) (suc at) (suc k) d h = get-before ys at k d (omega (arith, h))

-- Places that moved and move back.

down-up : (at k : ℕ) → down at (up at k) ≡ k
down-up at k = elim (cases_lt k at) [
  | inl less ↦ ap (down at) (up-less at k less) ∙ down-le at k (omega (arith, less))
  | inr le ↦ ap (down at) (up-le at k le) ∙ down-more at (k + 1) (omega (arith, le)) ∙ omega arith
]

up-down : (at k : ℕ) → k ≢ at → up at (down at k) ≡ k
up-down at k other = elim (cases_lt at k) [
  | inl more ↦ ap (up at) (down-more at k more) ∙ up-le at (k - 1) (omega (arith, more)) ∙ omega (arith, more)
  | inr le ↦ ap (up at) (down-le at k le) ∙ up-less at k (omega (arith, le, other))
]

up-elsewhere : (at k : ℕ) → up at k ≢ at
up-elsewhere at k same = elim (cases_lt k at) [
  | inl less ↦ omega (arith, up-less at k less, same, less)
  | inr le ↦ omega (arith, up-le at k le, same, le)
]

-- a clause whose operands moved and moved back
moved-back : (to back : ℕ → ℕ) (c : Clause) → (0 < arity_of c.op → back (to c.a) ≡ c.a) → (1 < arity_of c.op → back (to c.b) ≡ c.b)
    → moved back (moved to c) ≡ c
moved-back to back c first second =
    ap (λ (n : ℕ). record { name = c.name; op = c.op; a = n; b = (moved back (moved to c)).b; value = c.value })
    (choose (nat_le 1 (arity_of c.op)) c.a (λ h. first (grind (arith, nat_tests))))
    ∙ ap (λ (n : ℕ). record { name = c.name; op = c.op; a = c.a; b = n; value = c.value })
    (choose (nat_le 2 (arity_of c.op)) c.b (λ h. second (grind (arith, nat_tests))))
  where
    choose : (b : Bool) (n : ℕ) → (b ≡ true → back (to n) ≡ n) → cond b (back (cond b (to n) n)) (cond b (to n) n) ≡ n
    choose true n h = h refl
    choose false n h = refl

-- no clause that moved up reads the place that became free
unread-moved : (at : ℕ) (c : Clause) → reads at (moved (up at) c) ≡ false
unread-moved at c = by (arity_of c.op) refl
  where
    by : (n : ℕ) → arity_of c.op ≡ n → reads at (moved (up at) c) ≡ false
    by n is =
        let a = up-elsewhere at c.a in
        let b = up-elsewhere at c.b in
        grind (arith, nat_tests)

-- The form that a clause has.

-- what stands at the place of a name
pub form-is : (clauses : List Clause) (name : List ℕ) (at : ℕ) (c : Clause) → place_of clauses name ≡ Some at → slice_get clauses at ≡ Some c
    → form_under (named_of clauses) name ≡ (by_name clauses c).form
form-is clauses name at c e there =
    let place = place-named clauses name ∙ (place-is clauses name at e).0 in
    ap (λ k. (get_or (named_of clauses) k no_clause).form) place
    ∙ ap (λ (n : Named). n.form)
    (get_or_from_slice_get (named_of clauses) at (by_name clauses c) no_clause
    (slice_get-map (λ d. by_name clauses d) clauses at ∙ ap (option_map (λ d. by_name clauses d)) there))

pub behind-is : (clauses : List Clause) (name : List ℕ) (at : ℕ) → place_of clauses name ≡ Some at
    → behind (named_of clauses) name ≡ option_map (λ d. by_name clauses d) (slice_get clauses (suc at))
behind-is clauses name at e =
    let place = place-named clauses name ∙ (place-is clauses name at e).0 in
    let next : position_or_len (λ c. bytes_eq name c.name) (named_of clauses) + 1 ≡ suc at = omega (arith, place) in
    ap (λ k. slice_get (named_of clauses) k) next ∙ slice_get-map (λ d. by_name clauses d) clauses (suc at)

-- it is a form
pub form-stands : (clauses : List Clause) (at : ℕ) (c : Clause) → IsClauseAt at c → IsForm (by_name clauses c).form
form-stands clauses at c stands = record {
  arity = many (arity_of c.op) (arity-two c.op);
  no_value = stands.fits.no_value;
  raw = stands.raw;
}
  where
    many : (n : ℕ) → n ≤ 2 → length (take n (name_at clauses c.a ∷ name_at clauses c.b ∷ [])) ≡ n
    many zero h = refl
    many (suc zero) h = refl
    many (suc (suc zero)) h = refl
    many (suc (suc (suc n))) h = absurd (omega (arith, h))

-- the places that the names of operands stand for
first-operand : (n : ℕ) (x y : List ℕ) (f : List ℕ → Option ℕ) (a : ℕ) → (0 < n → f x ≡ Some a) → (n ≡ 0 → a ≡ 0)
    → option_map_or f (slice_get (take n (x ∷ y ∷ [])) 0) (Some 0) ≡ Some a
first-operand zero x y f a some none = ap Some (sym (none refl))
first-operand (suc n) x y f a some none = some (omega arith)

second-operand : (n : ℕ) (x y : List ℕ) (f : List ℕ → Option ℕ) (b : ℕ) → (1 < n → f y ≡ Some b) → (n ≤ 1 → b ≡ 0)
    → option_map_or f (slice_get (take n (x ∷ y ∷ [])) 1) (Some 0) ≡ Some b
second-operand zero x y f b some none = ap Some (sym (none (omega arith)))
second-operand (suc zero) x y f b some none = ap Some (sym (none (omega arith)))
second-operand (suc (suc n)) x y f b some none = some (omega arith)

-- the clause of a form is the clause again where the names of its operands stand where they stood
pub again : (clauses new : List Clause) (at : ℕ) (c : Clause) → IsClauseAt at c
    → ((k : ℕ) → k < at → place_of new (name_at clauses k) ≡ Some k)
    → clause_after new c.name (by_name clauses c).form ≡ Some c
again clauses new at c stands there =
    let first = first-operand (arity_of c.op) (name_at clauses c.a) (name_at clauses c.b) (place_of new) c.a
    (λ h. there c.a (stands.fits.first h)) stands.fits.no_first in
    let second = second-operand (arity_of c.op) (name_at clauses c.a) (name_at clauses c.b) (place_of new) c.b
    (λ h. there c.b (stands.fits.second h)) stands.fits.no_second in
    rw (first, second) refl

-- its operands stand before its place
pub reads-lower : (at : ℕ) (c : Clause) → IsClauseAt at c → reads_before at c ≡ true
reads-lower at c stands =
    let first = stands.fits.first in
    let second = stands.fits.second in
    grind (arith, nat_tests)

-- Another form, and the old one again.

place-by-names : (clauses new : List Clause) (x : List ℕ) → names_of new ≡ names_of clauses → place_of new x ≡ place_of clauses x
place-by-names clauses new x same =
    sym (position-map (λ (c : Clause). c.name) (bytes_eq x) new) ∙ ap (position (bytes_eq x)) same
    ∙ position-map (λ (c : Clause). c.name) (bytes_eq x) clauses

-- the clause of a name that stands at a place
pub record Stood (clauses : List Clause) (name : List ℕ) (at : ℕ) : Type 0 where
  pub clause : Clause
  pub there : slice_get clauses at ≡ Some clause
  pub named : clause.name ≡ name

pub stood : (clauses : List Clause) (name : List ℕ) (at : ℕ) → place_of clauses name ≡ Some at → Stood clauses name at
stood clauses name at e = elim (slice_get_cases clauses at).1 [
  | inl there ↦ record {
    clause = there.0;
    there = there.2;
    named = sym (name_at-is clauses at there.0 there.2) ∙ name_there clauses at name e;
  }
  | inr past ↦ absurd (omega (arith, past.0, (place-is clauses name at e).1))
]

formed-again : (clauses : List Clause) (name : List ℕ) (at : ℕ) (old c : Clause) → AreClauses clauses → place_of clauses name ≡ Some at
    → slice_get clauses at ≡ Some old → old.name ≡ name → c.name ≡ name
    → formed (set clauses at c) name (by_name clauses old).form ≡ Ok clauses
formed-again clauses name at old c are e there named named_new =
    let stands = are.each at old there in
    let within = (place-is clauses name at e).1 in
    let place : place_of (set clauses at c) name ≡ Some at = place-by-names clauses (set clauses at c) name same ∙ e in
    let made : clause_after (set clauses at c) name (by_name clauses old).form ≡ Some old =
    subst (λ (n : List ℕ). clause_after (set clauses at c) n (by_name clauses old).form ≡ Some old) named
    (again clauses (set clauses at c) at old stands
    (λ k less. place-by-names clauses (set clauses at c) (name_at clauses k) same ∙ place-there clauses k are (omega (arith, less, within)))) in
    rw (place, made, reads-lower at old stands) (ap Ok (set-twice clauses at old c there))
  where
    same : names_of (set clauses at c) ≡ names_of clauses
    same =
        map-set (λ (d : Clause). d.name) clauses at c
        ∙ ap (λ (x : List ℕ). set (names_of clauses) at x) (named_new ∙ sym (name_there clauses at name e))
        ∙ set-get_or (names_of clauses) at []

-- A new clause, and the list without it again.

-- no clause reads the new one
pub inserted-unread : (clauses : List Clause) (at : ℕ) (c : Clause) → at ≤ length clauses → AreInOrder (insert (map (moved (up at)) clauses) at c)
    → position (reads at) (insert (map (moved (up at)) clauses) at c) ≡ None
inserted-unread clauses at c within in_order = position-none (reads at) (insert (map (moved (up at)) clauses) at c) read_by_none
  where
    long : length (map (moved (up at)) clauses) ≡ length clauses
    long = length-map clauses (moved (up at))

    from : (xs : List Clause) (i : ℕ) (z : Clause) → slice_get (map (moved (up at)) xs) i ≡ Some z → reads at z ≡ false
    from [] i z h = (cc)
    from (x ∷ xs) zero z h = let is : moved (up at) x ≡ z = (cc) in subst (λ y. reads at y ≡ false) is (unread-moved at x)
    from (x ∷ xs) (suc i) z h = from xs i z h

    read_by_none : (k : ℕ) (d : Clause) → slice_get (insert (map (moved (up at)) clauses) at c) k ≡ Some d → reads at d ≡ false
    read_by_none k d e = elim (slice_get-insert (map (moved (up at)) clauses) at c k d (omega (arith, within, long)) e) [
      | inl before ↦ from clauses k d before.1
      | inr other ↦ elim other [
        | inl it ↦ unread-before (insert (map (moved (up at)) clauses) at c) at k d in_order (omega (arith, it.0)) e
        | inr later ↦ from clauses later.0 d later.3
      ]
    ]

-- without it the clauses are those from before, whatever becomes of its own operands
pub inserted-back : (clauses : List Clause) (at : ℕ) (c : Clause) → at ≤ length clauses
    → remove (map (moved (down at)) (insert (map (moved (up at)) clauses) at c)) at ≡ clauses
inserted-back clauses at c within =
    let long : length (map (moved (up at)) clauses) ≡ length clauses = length-map clauses (moved (up at)) in
    ap (λ xs. remove xs at) (map-put (moved (down at)) (map (moved (up at)) clauses) at c)
    ∙ remove-insert (map (moved (down at)) (map (moved (up at)) clauses)) at (moved (down at) c)
    (omega (arith, within, long, length-map (map (moved (up at)) clauses) (moved (down at))))
    ∙ map-map (moved (down at)) (moved (up at)) clauses
    ∙ map-alike (λ d. moved (down at) (moved (up at) d)) (λ d. d) clauses
    (λ k d e. moved-back (up at) (down at) d (λ h. down-up at d.a) (λ h. down-up at d.b))
    ∙ map-id clauses

pub inserted-longer : (clauses : List Clause) (at : ℕ) (c : Clause) → at ≤ length clauses
    → length (insert (map (moved (up at)) clauses) at c) ≡ length clauses + 1
inserted-longer clauses at c within =
    let long : length (map (moved (up at)) clauses) ≡ length clauses = length-map clauses (moved (up at)) in
    length-insert (map (moved (up at)) clauses) at c (omega (arith, within, long)) ∙ ap (λ n. n + 1) long

pub inserted-there : (clauses : List Clause) (at : ℕ) (c : Clause) → at ≤ length clauses
    → slice_get (insert (map (moved (up at)) clauses) at c) at ≡ Some c
inserted-there clauses at c within = get-inserted (map (moved (up at)) clauses) at c (omega (arith, within, length-map clauses (moved (up at))))

put-and-cut : (clauses : List Clause) (at : ℕ) (c : Clause) (name : List ℕ) → at ≤ length clauses → 0 < length clauses
    → AreClauses (insert (map (moved (up at)) clauses) at c) → c.name ≡ name
    → taken_out (insert (map (moved (up at)) clauses) at c) name ≡ Ok clauses
put-and-cut clauses at c name within some are named =
    let longer = inserted-longer clauses at c within in
    let place : place_of (insert (map (moved (up at)) clauses) at c) name ≡ Some at =
    subst (λ x. place_of (insert (map (moved (up at)) clauses) at c) x ≡ Some at)
    (name_at-is (insert (map (moved (up at)) clauses) at c) at c (inserted-there clauses at c within) ∙ named)
    (place-there (insert (map (moved (up at)) clauses) at c) at are (omega (arith, within, longer))) in
    let more : nat_le (length (insert (map (moved (up at)) clauses) at c)) 1 ≡ false = grind (arith, nat_tests, longer, some) in
    rw (place, inserted-unread clauses at c within are.each, more) (ap Ok (inserted-back clauses at c within))

-- A clause taken out, and put back.

module _ (clauses : List Clause) (at : ℕ) (old : Clause) (are : AreClauses clauses) (there : slice_get clauses at ≡ Some old)
    (none : position (reads at) clauses ≡ None) (after : AreClauses (remove (map (moved (down at)) clauses) at)) where
  abbrev pub left : List Clause
  left = remove (map (moved (down at)) clauses) at

  within : at < length clauses
  within = slice_get_within clauses at old there

  pub shorter : length left + 1 ≡ length clauses
  shorter =
      let long : length (map (moved (down at)) clauses) ≡ length clauses = length-map clauses (moved (down at)) in
      length-remove (map (moved (down at)) clauses) at (omega (arith, within, long)) ∙ long

  pub put-back : insert (map (moved (up at)) left) at old ≡ clauses
  put-back =
      ap (λ xs. insert xs at old)
      (map-cut (moved (up at)) (map (moved (down at)) clauses) at
      ∙ ap (λ xs. remove xs at)
      (map-map (moved (up at)) (moved (down at)) clauses
      ∙ map-alike (λ d. moved (up at) (moved (down at) d)) (λ d. d) clauses
      (λ k d e.
      let free = unread at clauses none k d e in
      moved-back (down at) (up at) d (λ h. up-down at d.a (free.0 h)) (λ h. up-down at d.b (free.1 h)))
      ∙ map-id clauses))
      ∙ insert-remove clauses at old there

  pub names-cut : names_of left ≡ remove (names_of clauses) at
  names-cut =
      map-cut (λ (d : Clause). d.name) (map (moved (down at)) clauses) at
      ∙ ap (λ xs. remove xs at) (map-map (λ (d : Clause). d.name) (moved (down at)) clauses)

  -- the names before the place stand where they stood
  pub name-before : (k : ℕ) → k < at → place_of left (name_at clauses k) ≡ Some k
  name-before k less =
      let same : name_at left k ≡ name_at clauses k = ap (λ (xs : List (List ℕ)). get_or xs k []) names-cut ∙ get-before (names_of clauses) at k [] less in
      subst (λ x. place_of left x ≡ Some k) same (place-there left k after (omega (arith, less, within, shorter)))

  -- the name is free again
  pub name-free : place_of left old.name ≡ None
  name-free = position-none (has old.name) left (λ k d e. elim (slice_get-remove (map (moved (down at)) clauses) at k d e) [
    | inl before ↦ other k d (λ same. omega (arith, same, before.0)) before.1
    | inr later ↦ other (suc k) d (λ same. omega (arith, same, later.0)) later.1
  ])
    where
      named-apart : (k : ℕ) (c : Clause) → slice_get clauses k ≡ Some c → k ≢ at → bytes_eq old.name c.name ≡ false
      named-apart k c e apart = by (bytes_eq old.name c.name) refl
        where
          by : (b : Bool) → bytes_eq old.name c.name ≡ b → b ≡ false
          by true test = absurd (apart (are.distinct k at c old e there (sym ((bytes_decides old.name c.name).0 test))))
          by false test = refl

      from : (i : ℕ) (z : Clause) → slice_get (map (moved (down at)) clauses) i ≡ Some z → (c : Clause) × (slice_get clauses i ≡ Some c) × (z ≡ moved (down at) c)
      from i z h = elim (slice_get_cases clauses i).1 [
        | inl known ↦
            let is = sym (slice_get-map (moved (down at)) clauses i ∙ ap (option_map (moved (down at))) known.2) ∙ h in
            (known.0, known.2, (cc))
        | inr past ↦
            let is = sym h ∙ slice_get-map (moved (down at)) clauses i ∙ ap (option_map (moved (down at))) past.1 in
            (cc)
      ]

      other : (i : ℕ) (z : Clause) → i ≢ at → slice_get (map (moved (down at)) clauses) i ≡ Some z → bytes_eq old.name z.name ≡ false
      other i z apart h =
          let c = from i z h in
          rw c.2 (named-apart i c.0 c.1 apart)

  -- the clause goes last again, where it was the last one
  added-again : suc at ≡ length clauses → added left old.name (by_name clauses old).form ≡ Ok clauses
  added-again last =
      let made = again clauses left at old (are.each at old there) name-before in
      let free = no_push_fault left old.name name-free (omega (arith, shorter, are.few)) in
      rw (made, free) (ap Ok (sym (insert-behind left old at after.each (omega (arith, last, shorter))) ∙ put-back))

  -- and else before the clause that stood behind it
  put-again : (next : Clause) → slice_get clauses (suc at) ≡ Some next → put_in left next.name old.name (by_name clauses old).form ≡ Ok clauses
  put-again next e =
      let made = again clauses left at old (are.each at old there) name-before in
      let behind_it : slice_get left at ≡ Some (moved (down at) next) =
      get-behind (map (moved (down at)) clauses) at ∙ slice_get-map (moved (down at)) clauses (suc at) ∙ ap (option_map (moved (down at))) e in
      let place : place_of left next.name ≡ Some at =
      subst (λ x. place_of left x ≡ Some at) (name_at-is left at (moved (down at) next) behind_it)
      (place-there left at after (slice_get_within left at (moved (down at) next) behind_it)) in
      let room : nat_le 65535 (length left) ≡ false = grind (arith, nat_tests, shorter, are.few) in
      rw (place, made, name-free, reads-lower at old (are.each at old there), room) (ap Ok put-back)

-- Each edit by places.

set-back : (clauses : List Clause) (name : List ℕ) (form : Parts) (new : List Clause) → AreClauses clauses → formed clauses name form ≡ Ok new
    → (formed new name (form_under (named_of clauses) name) ≡ Ok clauses) × IsForm (form_under (named_of clauses) name)
set-back clauses name form new are e = by (place_of clauses name) (clause_after clauses name form) refl refl
  where
    by : (o : Option ℕ) (r : Option Clause) → place_of clauses name ≡ o → clause_after clauses name form ≡ r
        → (formed new name (form_under (named_of clauses) name) ≡ Ok clauses) × IsForm (form_under (named_of clauses) name)
    by None r f g = let gives = rw f at e in (cc)
    by (Some at) None f g = let gives = rw (f, g) at e in (cc)
    by (Some at) (Some c) f g = last (reads_before at c) refl (rw (f, g) at e)
      where
        s : Stood clauses name at
        s = stood clauses name at f

        last : (b : Bool) → reads_before at c ≡ b → cond b (Ok (set clauses at c)) (Err fault.NotEarlier) ≡ Ok new
            → (formed new name (form_under (named_of clauses) name) ≡ Ok clauses) × IsForm (form_under (named_of clauses) name)
        last false test is = (cc)
        last true test is =
            let it : set clauses at c ≡ new = (cc) in
            rw (form-is clauses name at s.clause f s.there) (
              subst (λ n. formed n name (by_name clauses s.clause).form ≡ Ok clauses) it
                  (formed-again clauses name at s.clause c are f s.there s.named (Matches-clause_after clauses name form c g).name_is),
              form-stands clauses at s.clause (are.each at s.clause s.there),
            )

add-back : (clauses : List Clause) (name : List ℕ) (form : Parts) (new : List Clause) → IsModel clauses → AreClauses new → added clauses name form ≡ Ok new
    → taken_out new name ≡ Ok clauses
add-back clauses name form new model after e = by (clause_after clauses name form) (push_fault clauses name) refl refl
  where
    by : (o : Option Clause) (f : Option PushFault) → clause_after clauses name form ≡ o → push_fault clauses name ≡ f → taken_out new name ≡ Ok clauses
    by None f is there = let gives = rw is at e in (cc)
    by (Some c) (Some f) is there = let gives = rw (is, there) at e in (cc)
    by (Some c) None is there =
        let gives = rw (is, there) at e in
        let last : insert (map (moved (up (length clauses))) clauses) (length clauses) c ≡ new =
        insert-behind clauses c (length clauses) model.clauses_are.each refl ∙ (cc) in
        subst (λ n. taken_out n name ≡ Ok clauses) last
        (put-and-cut clauses (length clauses) c name (omega arith) model.some (subst AreClauses (sym last) after)
        (Matches-clause_after clauses name form c is).name_is)

put-in-back : (clauses : List Clause) (next name : List ℕ) (form : Parts) (new : List Clause) → IsModel clauses → AreClauses new
    → put_in clauses next name form ≡ Ok new → taken_out new name ≡ Ok clauses
put-in-back clauses next name form new model after e = by (place_of clauses next) (clause_after clauses name form) refl refl
  where
    by : (o : Option ℕ) (r : Option Clause) → place_of clauses next ≡ o → clause_after clauses name form ≡ r → taken_out new name ≡ Ok clauses
    by None r f g = let gives = rw f at e in (cc)
    by (Some at) None f g = let gives = rw (f, g) at e in (cc)
    by (Some at) (Some c) f g = last (place_of clauses c.name) (reads_before at c) (nat_le 65535 (length clauses)) (rw (f, g) at e)
      where
        last : (p : Option ℕ) (b full : Bool)
            → cond (is_some p) (Err fault.DoubleName) (cond (not b) (Err fault.NotEarlier) (cond full (Err fault.Full) (Ok (insert (map (moved (up at)) clauses) at c)))) ≡ Ok new
            → taken_out new name ≡ Ok clauses
        last (Some i) b full is = (cc)
        last None false full is = (cc)
        last None true true is = (cc)
        last None true false is =
            let it : insert (map (moved (up at)) clauses) at c ≡ new = (cc) in
            subst (λ n. taken_out n name ≡ Ok clauses) it
            (put-and-cut clauses at c name (omega (arith, (place-is clauses next at f).1)) model.some (subst AreClauses (sym it) after)
            (Matches-clause_after clauses name form c g).name_is)

-- an edit that puts a clause back is one, and gives the clauses again
record IsPutBack (clauses new : List Clause) (change : Edit) : Type 0 where
  edit_is : IsEdit change
  back : surgery new change ≡ Ok clauses

cut-back : (clauses : List Clause) (name : List ℕ) (new : List Clause) → AreClauses clauses → IsName name → AreClauses new → taken_out clauses name ≡ Ok new
    → IsPutBack clauses new (inverse_of clauses (edit.Cut name))
cut-back clauses name new are named after e = by (place_of clauses name) refl
  where
    by : (o : Option ℕ) → place_of clauses name ≡ o → IsPutBack clauses new (inverse_of clauses (edit.Cut name))
    by None f = let gives = rw f at e in (cc)
    by (Some at) f = last (position (reads at) clauses) (nat_le (length clauses) 1) refl (rw f at e)
      where
        s : Stood clauses name at
        s = stood clauses name at f

        form_is : IsForm (by_name clauses s.clause).form
        form_is = form-stands clauses at s.clause (are.each at s.clause s.there)

        put : (o : Option Clause) → slice_get clauses (suc at) ≡ o → position (reads at) clauses ≡ None → remove (map (moved (down at)) clauses) at ≡ new
            → IsPutBack clauses new (put_before (option_map (λ d. by_name clauses d) o) name (by_name clauses s.clause).form)
        put None past none it =
            let end : suc at ≡ length clauses = elim (slice_get_cases clauses (suc at)).1 [
              | inl there ↦ let is = sym past ∙ there.2 in (cc)
              | inr beyond ↦ omega (arith, beyond.0, (place-is clauses name at f).1)
            ] in
            record {
              edit_is = (named, form_is);
              back = subst (λ n. added n name (by_name clauses s.clause).form ≡ Ok clauses) it
                  (subst (λ x. added (remove (map (moved (down at)) clauses) at) x (by_name clauses s.clause).form ≡ Ok clauses) s.named
                  (added-again clauses at s.clause are s.there none (subst AreClauses (sym it) after) end));
            }
        put (Some next) there none it =
            record {
              edit_is = (named, form_is);
              back = subst (λ n. put_in n next.name name (by_name clauses s.clause).form ≡ Ok clauses) it
                  (subst (λ x. put_in (remove (map (moved (down at)) clauses) at) next.name x (by_name clauses s.clause).form ≡ Ok clauses) s.named
                  (put-again clauses at s.clause are s.there none (subst AreClauses (sym it) after) next there));
            }

        last : (u : Option ℕ) (only : Bool) → position (reads at) clauses ≡ u
            → option_map_or (λ user. Err (fault.InUse user)) u (cond only (Err fault.LastClause) (Ok (remove (map (moved (down at)) clauses) at))) ≡ Ok new
            → IsPutBack clauses new (inverse_of clauses (edit.Cut name))
        last (Some user) only is gives = (cc)
        last None true is gives = (cc)
        last None false is gives =
            let it : remove (map (moved (down at)) clauses) at ≡ new = (cc) in
            rw (form-is clauses name at s.clause f s.there, behind-is clauses name at f) (put (slice_get clauses (suc at)) refl is it)

-- Each edit that a model accepts is taken back.
pub taken-back : (clauses : List Clause) (change : Edit) (new : List Clause) → IsModel clauses → IsEdit change → edited clauses change ≡ Ok new → IsTakenBack clauses change new
taken-back clauses change new model is e =
    let made : surgery clauses change ≡ Ok new = sym (edited-surgery clauses change model.clauses_are is) ∙ e in
    by change is made (models-surgery clauses change new model.clauses_are is made).clauses_are
  where
    whole : (c : Edit) → AreClauses new → IsPutBack clauses new (inverse_of clauses c) → IsTakenBack clauses c new
    whole c after p = record { edit_is = p.edit_is; back = edited-surgery new (inverse_of clauses c) after p.edit_is ∙ p.back }

    by : (c : Edit) → IsEdit c → surgery clauses c ≡ Ok new → AreClauses new → IsTakenBack clauses c new
    by (edit.Set name form) ok made after =
        let b = set-back clauses name form new model.clauses_are made in
        whole (edit.Set name form) after (record { edit_is = (ok.0, b.1); back = b.0 })
    by (edit.Add name form) ok made after =
        whole (edit.Add name form) after (record { edit_is = ok.0; back = add-back clauses name form new model after made })
    by (edit.Put next name form) ok made after =
        whole (edit.Put next name form) after (record { edit_is = ok.0; back = put-in-back clauses next name form new model after made })
    by (edit.Cut name) ok made after =
        whole (edit.Cut name) after (cut-back clauses name new model.clauses_are ok after made)

-- What is read of the clauses.

-- the form of a clause that is found by its name
pub form-found : {E : Type 0} (clauses : List Clause) (name : List ℕ) (at : ℕ) (r : Result Parts E) → place_of clauses name ≡ Some at
    → IfOk r (λ form. (c : Clause) → slice_get clauses at ≡ Some c → form ≡ (by_name clauses c).form) → IfOk r (λ form. form ≡ form_under (named_of clauses) name)
form-found clauses name at (Ok form) e is = let s = stood clauses name at e in is s.clause s.there ∙ sym (form-is clauses name at s.clause e s.there)
form-found clauses name at (Err fault) e is = tt

-- the name of the clause behind, if there is one
pub name-behind : (clauses : List Clause) (name : List ℕ) (at : ℕ) → place_of clauses name ≡ Some at → suc at < length clauses
    → Some (name_at clauses (suc at)) ≡ option_map (λ (c : Named). c.name) (behind (named_of clauses) name)
name-behind clauses name at e less = elim (slice_get_cases clauses (suc at)).1 [
  | inl there ↦
      ap Some (name_at-is clauses (suc at) there.0 there.2)
      ∙ ap (option_map (λ (c : Named). c.name)) (sym (behind-is clauses name at e ∙ ap (option_map (λ d. by_name clauses d)) there.2))
  | inr past ↦ absurd (omega (arith, past.0, less))
]

pub none-behind : (clauses : List Clause) (name : List ℕ) (at : ℕ) → place_of clauses name ≡ Some at → length clauses ≤ suc at
    → None ≡ option_map (λ (c : Named). c.name) (behind (named_of clauses) name)
none-behind clauses name at e past = elim (slice_get_cases clauses (suc at)).1 [
  | inl there ↦ absurd (omega (arith, past, slice_get_within clauses (suc at) there.0 there.2))
  | inr beyond ↦ ap (option_map (λ (c : Named). c.name)) (sym (behind-is clauses name at e ∙ ap (option_map (λ d. by_name clauses d)) beyond.1))
]
