-- A model stays a model when a clause is added.
use Rattle.std.proofs.Common.{◌≡◌, ℕ, zero, suc, ◌<◌, ◌≤◌, Bool, true, false, nat_le, List, [], ◌∷◌, ◌++◌, length, ◌⊎◌, inl, inr, Option, None, Some, Result, Ok, Err, slice_get, OnOk, OnErr, refl, ap, sym, subst, ◌∙◌, arith}
use Rattle.std.specs.List.{list_any}
use Rattle.std.specs.Str.{bytes_eq}
use Rattle.std.specs.Cmp.Lexicographic.{bytes_decides}
use Rattle.std.proofs.lemmas.Bool.Decides.{nat_tests}
use Rattle.std.proofs.lemmas.List.{length-append}
use Rattle.std.proofs.lemmas.Option.{slice_get_past}
use Rattle.fixed_ops.specs.Arity.{arity_of}
use Rattle.fixed_ops.specs.Raw.{IsRaw}
use Rattle.solid_model.specs.declared.clause.Clause.{Clause}
use Rattle.solid_model.specs.declared.edit.EditFault.{EditFault}
use Rattle.solid_model.specs.declared.push_fault.PushFault.{PushFault}
use Rattle.solid_model.specs.Adding.{operand, clause_after, added}
use Rattle.solid_model.specs.Clauses.{place_of, FitsAt, IsClauseAt, AreClauses, IsModel}
use Rattle.solid_model.specs.Names.{IsName}
use Rattle.solid_model.specs.Parts.{Parts, IsForm}
use Rattle.solid_model.specs.Pushing.{push_fault}
use Rattle.solid_model.proofs.Places.{list_any-no_position, position_within}

-- what stands at a place of a list with one more element
pub slice_get-push : {A : Type 0} (xs : List A) (y : A) (k : ℕ) (z : A) → slice_get (xs ++ y ∷ []) k ≡ Some z → (slice_get xs k ≡ Some z) ⊎ ((k ≡ length xs) × (z ≡ y))
slice_get-push [] y zero z e = inr (refl, (cc))
slice_get-push [] y (suc k) z e = (cc)
slice_get-push (x ∷ xs) y zero z e = inl e
slice_get-push (x ∷ xs) y (suc k) z e = elim (slice_get-push xs y k z e) [ inl old ↦ inl old | inr new ↦ inr (ap suc new.0, new.1) ]

-- the parts of the clause that a form gives
pub record Matches (clauses : List Clause) (name : List ℕ) (form : Parts) (clause : Clause) : Type 0 where
  pub name_is : clause.name ≡ name
  pub op_is : clause.op ≡ form.op
  pub value_is : clause.value ≡ form.value
  pub first : operand clauses form.args 0 ≡ Some clause.a
  pub second : operand clauses form.args 1 ≡ Some clause.b

pub Matches-clause_after : (clauses : List Clause) (name : List ℕ) (form : Parts) (clause : Clause) → clause_after clauses name form ≡ Some clause → Matches clauses name form clause
Matches-clause_after clauses name form clause e = by (operand clauses form.args 0) (operand clauses form.args 1) refl refl
  where
    by : (a b : Option ℕ) → operand clauses form.args 0 ≡ a → operand clauses form.args 1 ≡ b → Matches clauses name form clause
    by (Some a) (Some b) p q =
        let is = rw (p, q) at e in
        record { name_is = (cc); op_is = (cc); value_is = (cc); first = (cc); second = (cc) }
    by (Some a) None p q = let is = rw (p, q) at e in (cc)
    by None b p q = let is = rw p at e in (cc)

-- an operand stands among the clauses
pub operand-within : (clauses : List Clause) (args : List (List ℕ)) (k a : ℕ) → k < length args → operand clauses args k ≡ Some a → a < length clauses
operand-within clauses [] k a h e = absurd (omega arith)
operand-within clauses (x ∷ args) zero a h e = position_within _ clauses a e
operand-within clauses (x ∷ args) (suc k) a h e = operand-within clauses args k a (omega arith) e

-- the place of an operand that the form lacks is 0
pub operand-lacking : (clauses : List Clause) (args : List (List ℕ)) (k a : ℕ) → length args ≤ k → operand clauses args k ≡ Some a → a ≡ 0
operand-lacking clauses args k a h e = let past = slice_get_past args k h in let is = rw past at e in (cc)

pub FitsAt-end : (clauses : List Clause) (name : List ℕ) (form : Parts) (clause : Clause) → IsForm form → Matches clauses name form clause
    → FitsAt (length clauses) clause.op clause.a clause.b clause.value
FitsAt-end clauses name form clause ok m =
    let arity : length form.args ≡ arity_of clause.op = ok.arity ∙ ap arity_of (sym m.op_is) in
    record {
      first = λ h. operand-within clauses form.args 0 clause.a (omega arith) m.first;
      second = λ h. operand-within clauses form.args 1 clause.b (omega arith) m.second;
      no_first = λ h. operand-lacking clauses form.args 0 clause.a (omega arith) m.first;
      no_second = λ h. operand-lacking clauses form.args 1 clause.b (omega arith) m.second;
      no_value = λ h. m.value_is ∙ ok.no_value (λ e. h (m.op_is ∙ e));
    }

pub IsClauseAt-end : (clauses : List Clause) (name : List ℕ) (form : Parts) (clause : Clause) → IsName name → IsForm form → Matches clauses name form clause
    → IsClauseAt (length clauses) clause
IsClauseAt-end clauses name form clause named ok m = record {
  name = subst IsName (sym m.name_is) named;
  raw = subst IsRaw (sym m.value_is) ok.raw;
  fits = FitsAt-end clauses name form clause ok m;
}

pub list_any-found : {A : Type 0} (p : A → Bool) (xs : List A) (i : ℕ) (x : A) → slice_get xs i ≡ Some x → p x ≡ true → list_any p xs ≡ true
list_any-found p [] i x e h = (cc)
list_any-found p (y ∷ ys) zero x e h = grind (arith)
list_any-found p (y ∷ ys) (suc i) x e h = let rest = list_any-found p ys i x e h in grind (arith)

-- where no clause has a name, none at a place has it
pub no_clause_named : (clauses : List Clause) (name : List ℕ) (i : ℕ) (clause : Clause) → place_of clauses name ≡ None → slice_get clauses i ≡ Some clause → name ≡ clause.name → ⊥
no_clause_named clauses name i clause none at same =
    let found = list_any-found (λ c. bytes_eq name c.name) clauses i clause at ((bytes_decides name clause.name).1 same) in
    let absent = list_any-no_position (λ (c : Clause). bytes_eq name c.name) clauses none in
    (cc)

-- a clause of a new name that may stand at the end goes there
pub AreClauses-push : (clauses : List Clause) (clause : Clause) → AreClauses clauses → length clauses < 65535 → IsClauseAt (length clauses) clause
    → place_of clauses clause.name ≡ None → AreClauses (clauses ++ clause ∷ [])
AreClauses-push clauses clause was room fits new = record {
  few = omega (arith, length-append clauses (clause ∷ []));
  each = λ place c at. elim (slice_get-push clauses clause place c at) [
    | inl old ↦ was.each place c old
    | inr last ↦ rw (last.0, last.1) fits
  ];
  distinct = λ i j a b at_i at_j same. elim (slice_get-push clauses clause i a at_i) [
    | inl old_i ↦ elim (slice_get-push clauses clause j b at_j) [
      | inl old_j ↦ was.distinct i j a b old_i old_j same
      | inr last_j ↦ absurd (no_clause_named clauses clause.name i a new old_i (cc))
    ]
    | inr last_i ↦ elim (slice_get-push clauses clause j b at_j) [
      | inl old_j ↦ absurd (no_clause_named clauses clause.name j b new old_j (cc))
      | inr last_j ↦ last_i.0 ∙ sym last_j.0
    ]
  ];
}

-- no clauses at all are such clauses
pub AreClauses-nil : AreClauses []
AreClauses-nil = record {
  few = omega arith;
  each = λ place clause at. (cc);
  distinct = λ i j a b at_i at_j same. (cc);
}

-- where a name has no fault it is new, and there is room
pub no_fault : (clauses : List Clause) (name : List ℕ) → push_fault clauses name ≡ None → (place_of clauses name ≡ None) × (length clauses < 65535)
no_fault clauses name e = by (place_of clauses name) (nat_le 65535 (length clauses)) refl refl
  where
    by : (place : Option ℕ) (full : Bool) → place_of clauses name ≡ place → nat_le 65535 (length clauses) ≡ full
        → (place_of clauses name ≡ None) × (length clauses < 65535)
    by None false new room = (new, grind (arith, nat_tests))
    by None true new full = let got = rw (new, full) at e in (cc)
    by (Some at) full there is = let got = rw there at e in (cc)

-- what a list of clauses is after an addition that is not refused
record Adds (clauses : List Clause) (name : List ℕ) (form : Parts) (new : List Clause) : Type 0 where
  clause : Clause
  fits : Matches clauses name form clause
  fault : push_fault clauses name ≡ None
  is : new ≡ clauses ++ clause ∷ []

Adds-added : (clauses : List Clause) (name : List ℕ) (form : Parts) (new : List Clause) → added clauses name form ≡ Ok new → Adds clauses name form new
Adds-added clauses name form new e = by (clause_after clauses name form) (push_fault clauses name) refl refl
  where
    by : (o : Option Clause) (fault : Option PushFault) → clause_after clauses name form ≡ o → push_fault clauses name ≡ fault → Adds clauses name form new
    by None fault is none = let ok = rw is at e in (cc)
    by (Some clause) (Some fault) is there = let ok = rw (is, there) at e in (cc)
    by (Some clause) None is none = let ok = rw (is, none) at e in record {
      clause = clause;
      fits = Matches-clause_after clauses name form clause is;
      fault = none;
      is = (cc);
    }

-- clauses with one more are a model
pub IsModel-added : (clauses : List Clause) (name : List ℕ) (form : Parts) (new : List Clause) → AreClauses clauses → IsName name → IsForm form
    → added clauses name form ≡ Ok new → IsModel new
IsModel-added clauses name form new was named ok e =
    let a = Adds-added clauses name form new e in
    let free = no_fault clauses name a.fault in
    let whole = AreClauses-push clauses a.clause was free.1 (IsClauseAt-end clauses name form a.clause named ok a.fits) (ap (place_of clauses) a.fits.name_is ∙ free.0) in
    rw a.is (record { some = omega (arith, length-append clauses (a.clause ∷ [])); clauses_are = whole })

-- a model stays one, whether the addition is made or refused
pub IsModel-tried : (clauses : List Clause) (name : List ℕ) (form : Parts) (new : List Clause) (r : Result (Unit {0}) EditFault) → IsModel clauses → IsName name → IsForm form
    → OnOk r (added clauses name form ≡ Ok new) → OnErr r (new ≡ clauses) → IsModel new
IsModel-tried clauses name form new (Ok done) was named ok made kept = IsModel-added clauses name form new was.clauses_are named ok made
IsModel-tried clauses name form new (Err fault) was named ok made kept = rw kept was

-- clauses stay such, whether the push is made or refused
pub AreClauses-tried : (clauses : List Clause) (clause : Clause) (new : List Clause) (r : Result (Unit {0}) PushFault) → AreClauses clauses → IsClauseAt (length clauses) clause
    → OnOk r (push_fault clauses clause.name ≡ None) → OnOk r (new ≡ clauses ++ clause ∷ []) → OnErr r (new ≡ clauses) → AreClauses new
AreClauses-tried clauses clause new (Ok done) was fits none made kept =
    let free = no_fault clauses clause.name none in rw made (AreClauses-push clauses clause was free.1 fits free.0)
AreClauses-tried clauses clause new (Err fault) was fits none made kept = rw kept was

-- no clauses take no argument
pub no_argument : (name : List ℕ) (form : Parts) (new : List Clause) → added [] name form ≡ Ok new → form.args ≡ []
no_argument name form new e = by form.args (Adds-added [] name form new e).fits.first
  where
    by : (args : List (List ℕ)) → operand [] args 0 ≡ Some (Adds-added [] name form new e).clause.a → args ≡ []
    by [] first = refl
    by (x ∷ args) first = (cc)
