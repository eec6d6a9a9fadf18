-- Names become places again, and an edit by names gives what adding by places gives.
use Rattle.std.proofs.Common.{◌≡◌, ℕ, zero, suc, ◌+◌, ◌<◌, ◌≤◌, ℤ, Bool, true, false, cond, not, eqb, ltb, nat_le, List, [], ◌∷◌, ◌++◌, length, map, take, append-nil, get_or, inl, inr, Option, None, Some, Ok, Err, slice_get, is_some, refl, ap, sym, subst, ◌∙◌, arith}
use Rattle.std.specs.List.{position_or_len}
use Rattle.std.specs.Option.{option_map_or, option_map}
use Rattle.std.specs.Str.{bytes_eq}
use Rattle.std.specs.Cmp.Lexicographic.{bytes_decides}
use Rattle.std.proofs.lemmas.Bool.{eqb-true}
use Rattle.std.proofs.lemmas.List.{length-map, map-append}
use Rattle.std.proofs.lemmas.List.Folds.{prefix_len-append, map_fixed}
use Rattle.std.proofs.lemmas.List.Sums.{position_or_len_is}
use Rattle.std.proofs.lemmas.Option.{slice_get-get_or, slice_get_within, slice_get_cases, slice_get-map, get_or_from_slice_get}
use Rattle.std.proofs.lemmas.Simd.{map-map}
use Rattle.fixed_ops.specs.declared.operation.Op.{Op}
use Rattle.fixed_ops.specs.declared.operation.Op.TheVariants.{X}
use Rattle.fixed_ops.specs.Arity.{arity_of}
use Rattle.solid_model.specs.declared.clause.Clause.{Clause}
use Rattle.solid_model.specs.declared.edit.Edit.TheVariants as edit
use Rattle.solid_model.specs.declared.edit.EditFault.TheVariants.{DoubleName, Full}
use Rattle.solid_model.specs.declared.push_fault.PushFault.TheVariants as push
use Rattle.solid_model.specs.Adding.{with_clause, added}
use Rattle.solid_model.specs.Clauses.{place_of, names_of, AreClauses}
use Rattle.solid_model.specs.Edits.{is_named, resolved, edited}
use Rattle.solid_model.specs.Named.{Named, name_at, by_name, named_of, operand_place, by_place, placed}
use Rattle.solid_model.specs.Parts.{Parts, IsForm}
use Rattle.solid_model.specs.Pushing.{push_fault}
use Rattle.solid_model.proofs.Places.{prefix_len-map, list_any-by_place, position_within}

-- the test of a name on clauses, and on named ones
abbrev pub has : List ℕ → Clause → Bool
has name c = bytes_eq name c.name

abbrev pub called : List ℕ → Named → Bool
called name c = bytes_eq name c.name

-- a name stands at the same place among clauses and among named ones
pub place-named : (clauses : List Clause) (name : List ℕ) → position_or_len (called name) (named_of clauses) ≡ position_or_len (has name) clauses
place-named clauses name = prefix_len-map (λ c. by_name clauses c) (λ c. not (called name c)) clauses

-- and at no other place when more follow
place-front : (name : List ℕ) (xs ys : List Named) → position_or_len (called name) xs < length xs
    → position_or_len (called name) (xs ++ ys) ≡ position_or_len (called name) xs
place-front name xs ys less = by (eqb (position_or_len (called name) xs) (length xs)) refl (prefix_len-append (λ c. not (called name c)) xs ys)
  where
    by : (b : Bool) → eqb (position_or_len (called name) xs) (length xs) ≡ b
        → position_or_len (called name) (xs ++ ys) ≡ cond b (length xs + position_or_len (called name) ys) (position_or_len (called name) xs)
        → position_or_len (called name) (xs ++ ys) ≡ position_or_len (called name) xs
    by true same e = absurd (omega (arith, eqb-true _ _ same))
    by false other e = e

-- the place that a name has among clauses
pub place-is : (clauses : List Clause) (name : List ℕ) (at : ℕ) → place_of clauses name ≡ Some at
    → (position_or_len (has name) clauses ≡ at) × (at < length clauses)
place-is clauses name at e = by (ltb (position_or_len (has name) clauses) (length clauses)) refl e
  where
    by : (b : Bool) → ltb (position_or_len (has name) clauses) (length clauses) ≡ b → cond b (Some (position_or_len (has name) clauses)) None ≡ Some at
        → (position_or_len (has name) clauses ≡ at) × (at < length clauses)
    by true less is = let same : position_or_len (has name) clauses ≡ at = (cc) in (same, position_within (has name) clauses at e)
    by false less is = (cc)

-- a name that stands among clauses stands there also among named ones that more follow
pub place-found : (clauses : List Clause) (ys : List Named) (name : List ℕ) (at : ℕ) → place_of clauses name ≡ Some at
    → position_or_len (called name) (named_of clauses ++ ys) ≡ at
place-found clauses ys name at e =
    let is = place-is clauses name at e in
    let same = place-named clauses name in
    let long : length (named_of clauses) ≡ length clauses = length-map clauses (λ c. by_name clauses c) in
    place-front name (named_of clauses) ys (omega (arith, is.0, is.1, same, long)) ∙ same ∙ is.0

-- the name of a clause stands at its place, since names are distinct
pub place-own : (clauses : List Clause) (at : ℕ) (c : Clause) → AreClauses clauses → slice_get clauses at ≡ Some c → position_or_len (has c.name) clauses ≡ at
place-own clauses at c are is =
    let within = slice_get_within clauses at c is in
    position_or_len_is (has c.name) clauses at c (omega arith)
    (λ k less. other k less (bytes_eq c.name (get_or clauses k c).name) refl)
    (λ h. rw (get_or_from_slice_get clauses at c c is) ((bytes_decides c.name c.name).1 refl))
  where
    other : (k : ℕ) → k < at → (b : Bool) → bytes_eq c.name (get_or clauses k c).name ≡ b → bytes_eq c.name (get_or clauses k c).name ≡ false
    other k less true e =
        let within = slice_get_within clauses at c is in
        let there = slice_get-get_or clauses k c (omega arith) in
        let same = are.distinct at k c (get_or clauses k c) is there ((bytes_decides c.name (get_or clauses k c).name).0 e) in
        absurd (omega arith)
    other k less false e = e

-- the name at the place of a clause is the clause's
pub name_at-is : (clauses : List Clause) (at : ℕ) (c : Clause) → slice_get clauses at ≡ Some c → name_at clauses at ≡ c.name
name_at-is clauses at c is =
    get_or_from_slice_get (names_of clauses) at c.name [] (slice_get-map (λ d. d.name) clauses at ∙ ap (option_map (λ d. d.name)) is)

-- the name at a place among clauses stands there
place-name_at : (clauses : List Clause) (ys : List Named) (at : ℕ) → AreClauses clauses → at < length clauses
    → position_or_len (called (name_at clauses at)) (named_of clauses ++ ys) ≡ at
place-name_at clauses ys at are less =
    elim (slice_get_cases clauses at).1 [
      | inl there ↦
          let own = place-own clauses at there.0 are there.2 in
          let same = place-named clauses there.0.name in
          let long : length (named_of clauses) ≡ length clauses = length-map clauses (λ c. by_name clauses c) in
          rw (name_at-is clauses at there.0 there.2) (place-front there.0.name (named_of clauses) ys (omega (arith, own, same, long)) ∙ same ∙ own)
      | inr past ↦ absurd (omega (arith, past.0))
    ]

-- the first and the second of so many operands
pub first_of : (n : ℕ) (x y : List ℕ) (f : List ℕ → ℕ) (a : ℕ) → (0 < n → f x ≡ a) → (n ≡ 0 → a ≡ 0) → option_map_or f (slice_get (take n (x ∷ y ∷ [])) 0) 0 ≡ a
first_of zero x y f a some none = sym (none refl)
first_of (suc n) x y f a some none = some (omega arith)

pub second_of : (n : ℕ) (x y : List ℕ) (f : List ℕ → ℕ) (b : ℕ) → (1 < n → f y ≡ b) → (n ≤ 1 → b ≡ 0) → option_map_or f (slice_get (take n (x ∷ y ∷ [])) 1) 0 ≡ b
second_of zero x y f b some none = sym (none (omega arith))
second_of (suc zero) x y f b some none = sym (none (omega arith))
second_of (suc (suc n)) x y f b some none = some (omega arith)

-- a clause by names is the clause again by places, also where more follow
by_place-name : (clauses : List Clause) (ys : List Named) (at : ℕ) (c : Clause) → AreClauses clauses → slice_get clauses at ≡ Some c
    → by_place (named_of clauses ++ ys) (by_name clauses c) ≡ c
by_place-name clauses ys at c are is =
    let stands = are.each at c is in
    let within = slice_get_within clauses at c is in
    let place = λ (name : List ℕ). position_or_len (called name) (named_of clauses ++ ys) in
    let a : operand_place (named_of clauses ++ ys) (by_name clauses c).form 0 ≡ c.a =
    first_of (arity_of c.op) (name_at clauses c.a) (name_at clauses c.b) place c.a
    (λ h. let less = stands.fits.first h in place-name_at clauses ys c.a are (omega arith)) stands.fits.no_first in
    let b : operand_place (named_of clauses ++ ys) (by_name clauses c).form 1 ≡ c.b =
    second_of (arity_of c.op) (name_at clauses c.a) (name_at clauses c.b) place c.b
    (λ h. let less = stands.fits.second h in place-name_at clauses ys c.b are (omega arith)) stands.fits.no_second in
    ap (λ (n : ℕ). record { name = c.name; op = c.op; a = n; b = operand_place (named_of clauses ++ ys) (by_name clauses c).form 1; value = c.value }) a
    ∙ ap (λ (n : ℕ). record { name = c.name; op = c.op; a = c.a; b = n; value = c.value }) b

-- and so are all of them
placed-front : (clauses : List Clause) (ys : List Named) → AreClauses clauses → map (λ c. by_place (named_of clauses ++ ys) c) (named_of clauses) ≡ clauses
placed-front clauses ys are =
    map-map (λ c. by_place (named_of clauses ++ ys) c) (λ c. by_name clauses c) clauses
    ∙ map_fixed (λ c. by_place (named_of clauses ++ ys) (by_name clauses c)) clauses (λ k d h. by_place-name clauses ys k (get_or clauses k d) are (slice_get-get_or clauses k d h))

pub placed_named : (clauses : List Clause) → AreClauses clauses → placed (named_of clauses) ≡ clauses
placed_named clauses are =
    let none : named_of clauses ++ [] ≡ named_of clauses = simp append-nil in
    subst (λ all. map (λ c. by_place all c) (named_of clauses) ≡ clauses) none (placed-front clauses [] are)

-- with one more, they are the clauses with that one
placed-push : (clauses : List Clause) (n : Named) → AreClauses clauses
    → placed (named_of clauses ++ n ∷ []) ≡ clauses ++ by_place (named_of clauses ++ n ∷ []) n ∷ []
placed-push clauses n are =
    map-append (λ c. by_place (named_of clauses ++ n ∷ []) c) (named_of clauses) (n ∷ [])
    ∙ ap (λ front. front ++ by_place (named_of clauses ++ n ∷ []) n ∷ []) (placed-front clauses (n ∷ []) are)

-- a name is found among named clauses where it is among clauses
pub is_named-place : (clauses : List Clause) (name : List ℕ) → is_named (named_of clauses) name ≡ is_some (place_of clauses name)
is_named-place clauses name =
    let same = place-named clauses name in
    let long : length (named_of clauses) ≡ length clauses = length-map clauses (λ c. by_name clauses c) in
    list_any-by_place (called name) (named_of clauses) ∙ rw (same, long) (by (ltb (position_or_len (has name) clauses) (length clauses)))
  where
    by : (b : Bool) → b ≡ is_some (cond b (Some (position_or_len (has name) clauses)) None)
    by true = refl
    by false = refl

-- the last part of an addition: the name and the room
added-end : (clauses : List Clause) (name : List ℕ) (form : Parts) (c : Clause) → AreClauses clauses
    → by_place (named_of clauses ++ record { name = name; form = form } ∷ []) (record { name = name; form = form }) ≡ c
    → resolved (cond (is_named (named_of clauses) name) (Err DoubleName) (cond (nat_le 65535 (length (named_of clauses))) (Err Full) (Ok (named_of clauses ++ record { name = name; form = form } ∷ []))))
    ≡ with_clause clauses c (push_fault clauses name)
added-end clauses name form c are last =
    let long : length (named_of clauses) ≡ length clauses = length-map clauses (λ d. by_name clauses d) in
    rw (is_named-place clauses name, long) (by (is_some (place_of clauses name)) (nat_le 65535 (length clauses)))
  where
    by : (there full : Bool)
        → resolved (cond there (Err DoubleName) (cond full (Err Full) (Ok (named_of clauses ++ record { name = name; form = form } ∷ []))))
        ≡ with_clause clauses c (cond there (Some push.DoubleName) (cond full (Some push.Full) None))
    by true full = refl
    by false true = refl
    by false false = ap Ok (placed-push clauses (record { name = name; form = form }) are ∙ ap (λ d. clauses ++ d ∷ []) last)

-- by the arguments of the form
edited-args : (clauses : List Clause) (name : List ℕ) (op : Op) (args : List (List ℕ)) (value : ℤ) → AreClauses clauses → length args ≤ 2
    → edited clauses (edit.Add name (record { op = op; args = args; value = value })) ≡ added clauses name (record { op = op; args = args; value = value })
edited-args clauses name op [] value are few = added-end clauses name (record { op = op; args = []; value = value }) _ are refl
edited-args clauses name op (x ∷ []) value are few = by (place_of clauses x) refl
  where
    by : (o : Option ℕ) → place_of clauses x ≡ o
        → edited clauses (edit.Add name (record { op = op; args = x ∷ []; value = value })) ≡ added clauses name (record { op = op; args = x ∷ []; value = value })
    by None e = let unknown : is_named (named_of clauses) x ≡ false = is_named-place clauses x ∙ ap is_some e in rw (unknown, e) refl
    by (Some a) e =
        let known : is_named (named_of clauses) x ≡ true = is_named-place clauses x ∙ ap is_some e in
        let form : Parts = record { op = op; args = x ∷ []; value = value } in
        let first = place-found clauses (record { name = name; form = form } ∷ []) x a e in
        rw (known, e) (added-end clauses name form _ are (ap (λ (n : ℕ). record { name = name; op = op; a = n; b = 0; value = value }) first))
edited-args clauses name op (x ∷ y ∷ []) value are few = by (place_of clauses x) (place_of clauses y) refl refl
  where
    by : (o r : Option ℕ) → place_of clauses x ≡ o → place_of clauses y ≡ r
        → edited clauses (edit.Add name (record { op = op; args = x ∷ y ∷ []; value = value })) ≡ added clauses name (record { op = op; args = x ∷ y ∷ []; value = value })
    by None r e h = let unknown : is_named (named_of clauses) x ≡ false = is_named-place clauses x ∙ ap is_some e in rw (unknown, e) refl
    by (Some a) None e h =
        let known : is_named (named_of clauses) x ≡ true = is_named-place clauses x ∙ ap is_some e in
        let unknown : is_named (named_of clauses) y ≡ false = is_named-place clauses y ∙ ap is_some h in
        rw (known, unknown, e, h) refl
    by (Some a) (Some b) e h =
        let known : is_named (named_of clauses) x ≡ true = is_named-place clauses x ∙ ap is_some e in
        let known_too : is_named (named_of clauses) y ≡ true = is_named-place clauses y ∙ ap is_some h in
        let form : Parts = record { op = op; args = x ∷ y ∷ []; value = value } in
        let first = place-found clauses (record { name = name; form = form } ∷ []) x a e in
        let second = place-found clauses (record { name = name; form = form } ∷ []) y b h in
        rw (known, known_too, e, h) (added-end clauses name form _ are
        (ap (λ (n : ℕ). record { name = name; op = op; a = n; b = operand_place (named_of clauses ++ record { name = name; form = form } ∷ []) form 1; value = value }) first
        ∙ ap (λ (n : ℕ). record { name = name; op = op; a = a; b = n; value = value }) second))
edited-args clauses name op (x ∷ y ∷ z ∷ more) value are few = absurd (omega arith)

pub arity-two : (op : Op) → arity_of op ≤ 2
arity-two X = omega arith
arity-two op = omega arith

-- an addition by names is the addition by places
pub edited-added : (clauses : List Clause) (name : List ℕ) (form : Parts) → AreClauses clauses → IsForm form
    → edited clauses (edit.Add name form) ≡ added clauses name form
edited-added clauses name form are ok =
    edited-args clauses name form.op form.args form.value are (omega (arith, ok.arity, arity-two form.op))
