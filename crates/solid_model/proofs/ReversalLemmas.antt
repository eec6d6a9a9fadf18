-- What takes changes of clauses back, by places.
use Rattle.std.proofs.Common.{◌≡◌, ◌≢◌, ℕ, zero, suc, ◌-◌, ◌<◌, inl, inr, false, nat_le, List, [], ◌∷◌, ◌++◌, length, map, set, take, get_or, Option, None, Some, Result, Ok, Err, OnOk, slice_get, reverse, OnErr, refl, ap, sym, subst, ◌∙◌, arith}
use Rattle.std.specs.List.{insert, remove}
use Rattle.std.specs.Option.{option_map}
use Rattle.std.proofs.lemmas.Bool.Decides.{nat_tests}
use Rattle.std.proofs.lemmas.List.{length-set, map-set, reverse-append, set-get_or}
use Rattle.std.proofs.lemmas.Option.{get_or_from_slice_get, slice_get-map, slice_get_cases, slice_get_within}
use Rattle.fixed_ops.specs.Arity.{arity_of}
use Rattle.solid_model.specs.declared.change.Change.{Change}
use Rattle.solid_model.specs.declared.change.Change.TheVariants as change
use Rattle.solid_model.specs.declared.clause.Clause.{Clause}
use Rattle.solid_model.specs.declared.edit.Edit.{Edit}
use Rattle.solid_model.specs.declared.edit.Edit.TheVariants as edit
use Rattle.solid_model.specs.declared.reversal.Reversal.{Reversal}
use Rattle.solid_model.specs.declared.reversal.Reversal.TheVariants.{Write, Insert, Remove}
use Rattle.solid_model.specs.Adding.{clause_after}
use Rattle.solid_model.specs.Changes.{done, surgery, Allows, DoesEdit}
use Rattle.solid_model.specs.Clauses.{place_of, names_of, AreClauses, IsClauseAt, IsModel}
use Rattle.solid_model.specs.Edited.{after_edits, given_or, IsUndone}
use Rattle.solid_model.specs.Edits.{edited, FirstMakesClause, IsEdit, MakesClause}
use Rattle.solid_model.specs.Inverses.{behind, inverse_of, put_before}
use Rattle.solid_model.specs.Named.{Named, by_name, name_at, named_of, operand_names}
use Rattle.solid_model.specs.Names.{IsName}
use Rattle.solid_model.specs.Parts.{Parts}
use Rattle.solid_model.specs.Reversals.{edit_back, edits_back, form_at, no_form, reversal_of, reverted, AllowBack, AllowsBack, IsKeptBack, IsMadeAndKept}
use Rattle.solid_model.specs.Seen.{clause_seen, named_clause, placed_form}
use Rattle.solid_model.specs.Surgery.{down, moved, up}
use Rattle.solid_model.proofs.ChangeLemmas.{edited-surgery, models-surgery}
use Rattle.solid_model.proofs.InverseLemmas.{again, behind-is, form-is, form-stands, get-before, get-behind, inserted-back, inserted-longer, inserted-there, inserted-unread, name-free, names-cut, put-back, reads-lower, set-twice, shorter, stood}
use Rattle.solid_model.proofs.ListLemmas.{get-set}
use Rattle.solid_model.proofs.NamedLemmas.{name_at-is, place-is}
use Rattle.solid_model.proofs.PushLemmas.{insert-behind, no_push_fault}
use Rattle.solid_model.proofs.SurgeryLemmas.{name_there, place-there}

-- the clause at a place is its name and what it says
at-is : (clauses : List Clause) (at : ℕ) (c : Clause) → slice_get clauses at ≡ Some c → form_at clauses at ≡ placed_form c
at-is clauses at c there = ap placed_form (get_or_from_slice_get clauses at c no_form there)

-- a clause of this name that says what another one says is that one, where they have one name
same-name : (c : Clause) (name : List ℕ) → name ≡ c.name → named_clause name (placed_form c) ≡ c
same-name c name is = ap (λ (n : List ℕ). named_clause n (placed_form c)) is

-- what takes a change back is allowed then, and does so
pub taken-back-by : (clauses : List Clause) (c : Change) → IsModel clauses → Allows clauses c → IsModel (done clauses c)
    → AllowsBack (done clauses c) (reversal_of clauses c) × (reverted (done clauses c) (reversal_of clauses c) ≡ clauses)
taken-back-by clauses (change.Write at clause) model allowed after =
    let s = stood clauses clause.name.now at allowed.0 in
    let within = (place-is clauses clause.name.now at allowed.0).1 in
    let new = set clauses at (clause_seen clause) in
    let name : name_at (set clauses at (clause_seen clause)) at ≡ s.clause.name =
    name_at-is (set clauses at (clause_seen clause)) at (clause_seen clause) (get-set clauses at (clause_seen clause) within) ∙ sym s.named in
    let old : named_clause (name_at (set clauses at (clause_seen clause)) at) (form_at clauses at) ≡ s.clause =
    ap (named_clause (name_at (set clauses at (clause_seen clause)) at)) (at-is clauses at s.clause s.there) ∙ same-name s.clause _ name in (
      (omega (arith, within, length-set clauses at (clause_seen clause)), subst (IsClauseAt at) (sym old) (model.clauses_are.each at s.clause s.there)),
      ap (set (set clauses at (clause_seen clause)) at) old ∙ set-twice clauses at s.clause (clause_seen clause) s.there,
    )
taken-back-by clauses (change.Insert at clause) model allowed after =
    let longer = inserted-longer clauses at (clause_seen clause) allowed.0 in (
      (omega (arith, allowed.0, longer), omega (arith, longer, model.some), inserted-unread clauses at (clause_seen clause) allowed.0 after.clauses_are.each),
      inserted-back clauses at (clause_seen clause) allowed.0,
    )
taken-back-by clauses (change.Remove at) model allowed after = elim (slice_get_cases clauses at).1 [
  | inl there ↦
      let old : named_clause (name_at clauses at) (form_at clauses at) ≡ there.0 =
      ap (named_clause (name_at clauses at)) (at-is clauses at there.0 there.2) ∙ same-name there.0 _ (name_at-is clauses at there.0 there.2) in
      let stands = model.clauses_are.each at there.0 there.2 in
      let short = shorter clauses at there.0 model.clauses_are there.2 allowed.1 after.clauses_are in
      let free = name-free clauses at there.0 model.clauses_are there.2 allowed.1 after.clauses_are in (
        (
          omega (arith, short, allowed.0),
          omega (arith, short, model.clauses_are.few),
          subst (λ n. place_of (remove (map (moved (down at)) clauses) at) n ≡ None) (sym (name_at-is clauses at there.0 there.2)) free,
          subst (IsClauseAt at) (sym old) stands,
        ),
        ap (insert (map (moved (up at)) (remove (map (moved (down at)) clauses) at)) at) old
            ∙ put-back clauses at there.0 model.clauses_are there.2 allowed.1 after.clauses_are,
      )
  | inr past ↦ absurd (omega (arith, past.0, allowed.0))
]

-- What is allowed is an edit that is accepted.

record IsMade (clauses : List Clause) (e : Edit) (new : List Clause) : Type 0 where
  edit_is : IsEdit e
  made : surgery clauses e ≡ Ok new

abbrev IsAccepted : List Clause → Reversal → Type 0
IsAccepted clauses r = IsMade clauses (edit_back clauses r) (reverted clauses r)

name-stands : (clauses : List Clause) (at : ℕ) → AreClauses clauses → at < length clauses → IsName (name_at clauses at)
name-stands clauses at are less = elim (slice_get_cases clauses at).1 [
  | inl there ↦ subst IsName (sym (name_at-is clauses at there.0 there.2)) (are.each at there.0 there.2).name
  | inr past ↦ absurd (omega (arith, past.0, less))
]

accepted : (clauses : List Clause) (r : Reversal) → IsModel clauses → AllowsBack clauses r → IsAccepted clauses r
accepted clauses (Write at form) model allowed =
    let are = model.clauses_are in
    let c : Clause = named_clause (name_at clauses at) form in
    let place = place-there clauses at are allowed.0 in
    let made = again clauses clauses at (named_clause (name_at clauses at) form) allowed.1 (λ k less. place-there clauses k are (omega (arith, less, allowed.0))) in
    record {
      edit_is = (name-stands clauses at are allowed.0, form-stands clauses at (named_clause (name_at clauses at) form) allowed.1);
      made = rw (place, made, reads-lower at (named_clause (name_at clauses at) form) allowed.1) refl;
    }
accepted clauses (Insert at name form) model allowed = put (slice_get clauses at) refl
  where
    c : Clause
    c = named_clause name form

    made : clause_after clauses name (by_name clauses (named_clause name form)).form ≡ Some (named_clause name form)
    made = again clauses clauses at (named_clause name form) allowed.3 (λ k less. place-there clauses k model.clauses_are (omega (arith, less, allowed.0)))

    put : (o : Option Clause) → slice_get clauses at ≡ o → IsAccepted clauses (Insert at name form)
    put None past =
        let behind : slice_get (named_of clauses) at ≡ None = slice_get-map (λ d. by_name clauses d) clauses at ∙ ap (option_map (λ d. by_name clauses d)) past in
        let end : length clauses ≡ at = elim (slice_get_cases clauses at).1 [
          | inl there ↦ let is = sym past ∙ there.2 in (cc)
          | inr beyond ↦ omega (arith, beyond.0, allowed.0)
        ] in
        rw behind (record {
          edit_is = (allowed.3.name, form-stands clauses at (named_clause name form) allowed.3);
          made = rw (made, no_push_fault clauses name allowed.2 allowed.1)
              (ap Ok (sym (insert-behind clauses (named_clause name form) at model.clauses_are.each end)));
        })
    put (Some next) there =
        let behind : slice_get (named_of clauses) at ≡ Some (by_name clauses next) =
        slice_get-map (λ d. by_name clauses d) clauses at ∙ ap (option_map (λ d. by_name clauses d)) there in
        let place : place_of clauses next.name ≡ Some at =
        subst (λ n. place_of clauses n ≡ Some at) (name_at-is clauses at next there) (place-there clauses at model.clauses_are (slice_get_within clauses at next there)) in
        let room : nat_le 65535 (length clauses) ≡ false = grind (arith, nat_tests, allowed.1) in
        rw behind (record {
          edit_is = (allowed.3.name, form-stands clauses at (named_clause name form) allowed.3);
          made = rw (place, made, allowed.2, reads-lower at (named_clause name form) allowed.3, room) refl;
        })
accepted clauses (Remove at) model allowed =
    let are = model.clauses_are in
    let place = place-there clauses at are allowed.0 in
    let more : nat_le (length clauses) 1 ≡ false = grind (arith, nat_tests, allowed.1) in
    record {
      edit_is = name-stands clauses at are allowed.0;
      made = rw (place, allowed.2, more) refl;
    }

pub edit-back-accepted : (clauses : List Clause) (r : Reversal) → IsModel clauses → AllowsBack clauses r
    → IsEdit (edit_back clauses r) × (edited clauses (edit_back clauses r) ≡ Ok (reverted clauses r))
edit-back-accepted clauses r model allowed =
    let a = accepted clauses r model allowed in
    (a.edit_is, edited-surgery clauses (edit_back clauses r) model.clauses_are a.edit_is ∙ a.made)

-- What takes the change of an edit back is the edit's inverse.

-- names of operands are the same where names stand where they stood
operands-alike : (clauses new : List Clause) (at : ℕ) (c : Clause) → IsClauseAt at c → ((k : ℕ) → k < at → name_at new k ≡ name_at clauses k)
    → operand_names new c ≡ operand_names clauses c
operands-alike clauses new at c stands same = by (arity_of c.op) refl
  where
    by : (n : ℕ) → arity_of c.op ≡ n → take n (name_at new c.a ∷ name_at new c.b ∷ []) ≡ take n (name_at clauses c.a ∷ name_at clauses c.b ∷ [])
    by zero is = refl
    by (suc zero) is = ap (λ (x : List ℕ). x ∷ []) (same c.a (stands.fits.first (omega (arith, is))))
    by (suc (suc n)) is =
        let first = same c.a (stands.fits.first (omega (arith, is))) in
        let second = same c.b (stands.fits.second (omega (arith, is))) in
        ap (λ (x : List ℕ). take (suc (suc n)) (x ∷ name_at new c.b ∷ [])) first
        ∙ ap (λ (y : List ℕ). take (suc (suc n)) (name_at clauses c.a ∷ y ∷ [])) second

form-alike : (clauses new : List Clause) (at : ℕ) (c : Clause) → IsClauseAt at c → ((k : ℕ) → k < at → name_at new k ≡ name_at clauses k)
    → (by_name new c).form ≡ (by_name clauses c).form
form-alike clauses new at c stands same =
    ap (λ (args : List (List ℕ)). record { op = c.op; args = args; value = c.value }) (operands-alike clauses new at c stands same)

-- a clause that stood behind is told by its name alone
put_before-alike : (o p : Option Named) (name : List ℕ) (form : Parts) → option_map (λ (c : Named). c.name) o ≡ option_map (λ (c : Named). c.name) p
    → put_before o name form ≡ put_before p name form
put_before-alike None None name form e = refl
put_before-alike None (Some d) name form e = (cc)
put_before-alike (Some c) None name form e = (cc)
put_before-alike (Some c) (Some d) name form e = let same : c.name ≡ d.name = (cc) in ap (λ (x : List ℕ). edit.Put x name form) same

pub reversal-inverse : (clauses : List Clause) (e : Edit) (c : Change) → IsModel clauses → Allows clauses c → DoesEdit clauses e c → IsModel (done clauses c)
    → edit_back (done clauses c) (reversal_of clauses c) ≡ inverse_of clauses e
reversal-inverse clauses (edit.Set name form) (change.Write at clause) model allowed does after =
    let s = stood clauses name at does in
    let within = (place-is clauses name at does).1 in
    let now : name_at (set clauses at (clause_seen clause)) at ≡ clause.name.now =
    name_at-is (set clauses at (clause_seen clause)) at (clause_seen clause) (get-set clauses at (clause_seen clause) within) in
    let named : clause.name.now ≡ name = sym (name_there clauses at clause.name.now allowed.0) ∙ name_there clauses at name does in
    let same : names_of (set clauses at (clause_seen clause)) ≡ names_of clauses =
    map-set (λ (d : Clause). d.name) clauses at (clause_seen clause)
    ∙ ap (λ (x : List ℕ). set (names_of clauses) at x) (sym (name_there clauses at clause.name.now allowed.0))
    ∙ set-get_or (names_of clauses) at [] in
    let old : named_clause (name_at (set clauses at (clause_seen clause)) at) (form_at clauses at) ≡ s.clause =
    ap (named_clause (name_at (set clauses at (clause_seen clause)) at)) (at-is clauses at s.clause s.there)
    ∙ same-name s.clause _ (now ∙ named ∙ sym s.named) in
    ap (λ (x : List ℕ). edit.Set x (by_name (set clauses at (clause_seen clause)) (named_clause (name_at (set clauses at (clause_seen clause)) at) (form_at clauses at))).form) (now ∙ named)
    ∙ ap (λ (d : Clause). edit.Set name (by_name (set clauses at (clause_seen clause)) d).form) old
    ∙ ap (λ (f : Parts). edit.Set name f)
    (form-alike clauses (set clauses at (clause_seen clause)) at s.clause (model.clauses_are.each at s.clause s.there) (λ k less. ap (λ (xs : List (List ℕ)). get_or xs k []) same)
    ∙ sym (form-is clauses name at s.clause does s.there))
reversal-inverse clauses (edit.Set name form) (change.Insert at clause) model allowed does after = absurd does
reversal-inverse clauses (edit.Set name form) (change.Remove at) model allowed does after = absurd does
reversal-inverse clauses (edit.Add name form) (change.Insert at clause) model allowed does after =
    ap (λ (x : List ℕ). edit.Cut x)
    (name_at-is (insert (map (moved (up at)) clauses) at (clause_seen clause)) at (clause_seen clause) (inserted-there clauses at (clause_seen clause) allowed.0) ∙ does)
reversal-inverse clauses (edit.Add name form) (change.Write at clause) model allowed does after = absurd does
reversal-inverse clauses (edit.Add name form) (change.Remove at) model allowed does after = absurd does
reversal-inverse clauses (edit.Put next name form) (change.Insert at clause) model allowed does after =
    ap (λ (x : List ℕ). edit.Cut x)
    (name_at-is (insert (map (moved (up at)) clauses) at (clause_seen clause)) at (clause_seen clause) (inserted-there clauses at (clause_seen clause) allowed.0) ∙ does)
reversal-inverse clauses (edit.Put next name form) (change.Write at clause) model allowed does after = absurd does
reversal-inverse clauses (edit.Put next name form) (change.Remove at) model allowed does after = absurd does
reversal-inverse clauses (edit.Cut name) (change.Write at clause) model allowed does after = absurd does
reversal-inverse clauses (edit.Cut name) (change.Insert at clause) model allowed does after = absurd does
reversal-inverse clauses (edit.Cut name) (change.Remove at) model allowed does after =
    let s = stood clauses name at does in
    let named = name_there clauses at name does in
    let old : named_clause (name_at clauses at) (form_at clauses at) ≡ s.clause =
    ap (named_clause (name_at clauses at)) (at-is clauses at s.clause s.there) ∙ same-name s.clause _ (named ∙ sym s.named) in
    let cut : List Clause = remove (map (moved (down at)) clauses) at in
    let names = names-cut clauses at s.clause model.clauses_are s.there allowed.1 after.clauses_are in
    let form_is : (by_name (remove (map (moved (down at)) clauses) at) s.clause).form ≡ (by_name clauses s.clause).form =
    form-alike clauses (remove (map (moved (down at)) clauses) at) at s.clause (model.clauses_are.each at s.clause s.there)
    (λ k less. ap (λ (xs : List (List ℕ)). get_or xs k []) names ∙ get-before (names_of clauses) at k [] less) in
    ap (λ (d : Clause). put_before (slice_get (named_of (remove (map (moved (down at)) clauses) at)) at) (name_at clauses at) (by_name (remove (map (moved (down at)) clauses) at) d).form) old
    ∙ ap (λ (x : List ℕ). put_before (slice_get (named_of (remove (map (moved (down at)) clauses) at)) at) x (by_name (remove (map (moved (down at)) clauses) at) s.clause).form) named
    ∙ ap (λ (f : Parts). put_before (slice_get (named_of (remove (map (moved (down at)) clauses) at)) at) name f) (form_is ∙ sym (form-is clauses name at s.clause does s.there))
    ∙ put_before-alike _ _ name _ (behind_it clauses at name does)
  where
    -- the clause that then stands at the place has the name of the one behind
    behind_it : (cs : List Clause) (k : ℕ) (x : List ℕ) → place_of cs x ≡ Some k
        → option_map (λ (c : Named). c.name) (slice_get (named_of (remove (map (moved (down k)) cs) k)) k)
        ≡ option_map (λ (c : Named). c.name) (behind (named_of cs) x)
    behind_it cs k x e =
        ap (option_map (λ (c : Named). c.name))
        (slice_get-map (λ d. by_name (remove (map (moved (down k)) cs) k) d) (remove (map (moved (down k)) cs) k) k
        ∙ ap (option_map (λ d. by_name (remove (map (moved (down k)) cs) k) d))
        (get-behind (map (moved (down k)) cs) k ∙ slice_get-map (moved (down k)) cs (suc k)))
        ∙ named_alike (slice_get cs (suc k))
        ∙ ap (option_map (λ (c : Named). c.name)) (sym (behind-is cs x k e))
      where
        named_alike : (o : Option Clause)
            → option_map (λ (c : Named). c.name) (option_map (λ d. by_name (remove (map (moved (down k)) cs) k) d) (option_map (moved (down k)) o))
            ≡ option_map (λ (c : Named). c.name) (option_map (λ d. by_name cs d) o)
        named_alike None = refl
        named_alike (Some d) = refl

-- what takes an edit back is put behind others, where the change is
pub kept-back : {A E : Type 0} (clauses new : List Clause) (e : Edit) (others all : List Reversal) (r : Result A E) → IsModel clauses → IsEdit e
    → OnOk r (surgery clauses e ≡ Ok new) → OnOk r (IsMadeAndKept clauses new e others all) → OnOk r (IsKeptBack clauses new e others all)
kept-back clauses new e others all (Ok done_it) model is made kept =
    let after = models-surgery clauses e new model.clauses_are is made in
    let after_change = subst IsModel kept.is after in
    let back = taken-back-by clauses kept.change model kept.allowed after_change in
    let inverse = reversal-inverse clauses e kept.change model kept.allowed kept.does after_change in
    let allowed = subst (λ cs. AllowsBack cs (reversal_of clauses kept.change)) (sym kept.is) back.0 in
    let leads = ap (λ cs. reverted cs (reversal_of clauses kept.change)) kept.is ∙ back.1 in
    record {
      back = reversal_of clauses kept.change;
      last = kept.last;
      allowed = allowed;
      leads = leads;
      accepted = (edit-back-accepted new (reversal_of clauses kept.change) after allowed).1 ∙ ap Ok leads;
      inverse = ap (λ cs. edit_back cs (reversal_of clauses kept.change)) kept.is ∙ inverse;
    }
kept-back clauses new e others all (Err fault) model is made kept = tt

-- Edits that take others back, kept behind one another.

last-first : {A : Type 0} (others : List A) (x : A) (all : List A) → all ≡ others ++ x ∷ [] → reverse all ≡ x ∷ reverse others
last-first others x all is = ap reverse is ∙ reverse-append others (x ∷ [])

pub kept-allow : {A E : Type 0} (old new : List Clause) (e : Edit) (others all : List Reversal) (r : Result A E) → AllowBack old (reverse others)
    → OnOk r (IsKeptBack old new e others all) → OnErr r (new ≡ old) → OnErr r (all ≡ others) → AllowBack new (reverse all)
unfolding AllowBack
kept-allow old new e others all (Ok done_it) are kept err same =
    rw (last-first others kept.back all kept.last) ((kept.allowed, subst (λ cs. AllowBack cs (reverse others)) (sym kept.leads) are))
kept-allow old new e others all (Err fault) are kept err same = rw (err, same) are

pub kept-undo : {A E : Type 0} (old new : List Clause) (e : Edit) (others all : List Reversal) (r : Result A E) → OnOk r (IsKeptBack old new e others all)
    → OnOk r (edits_back new (reverse all) ≡ inverse_of old e ∷ edits_back old (reverse others))
unfolding edits_back
kept-undo old new e others all (Ok done_it) kept =
    ap (edits_back new) (last-first others kept.back all kept.last)
    ∙ ap (λ (f : Edit). f ∷ edits_back (reverted new kept.back) (reverse others)) kept.inverse
    ∙ ap (λ cs. inverse_of old e ∷ edits_back cs (reverse others)) kept.leads
kept-undo old new e others all (Err fault) kept = tt

pub kept-opening : {A E : Type 0} (old new : List Clause) (e : Edit) (others all : List Reversal) (r : Result A E) → OnOk r (IsKeptBack old new e others all)
    → OnErr r (new ≡ old) → OnErr r (all ≡ others) → after_edits new (edits_back new (reverse all)) ≡ after_edits old (edits_back old (reverse others))
unfolding edits_back after_edits
kept-opening old new e others all (Ok done_it) kept err same =
    ap (λ rs. after_edits new (edits_back new rs)) (last-first others kept.back all kept.last)
    ∙ ap (λ g. after_edits (given_or new g) (edits_back (reverted new kept.back) (reverse others))) kept.accepted
    ∙ ap (λ cs. after_edits old (edits_back cs (reverse others))) kept.leads
kept-opening old new e others all (Err fault) kept err same = rw (err, same) refl

-- The latest of them, and the others.

pub none-left : {A : Type 0} (xs : List A) → slice_get xs (length xs - 1) ≡ None → xs ≡ []
none-left [] e = refl
none-left (x ∷ xs) e = elim (slice_get_cases (x ∷ xs) (length (x ∷ xs) - 1)).1 [
  | inl there ↦ let is = sym e ∙ there.2 in (cc)
  | inr past ↦ absurd (omega (arith, past.0))
]

split-at : {A : Type 0} (xs : List A) (k : ℕ) (x : A) → suc k ≡ length xs → slice_get xs k ≡ Some x → xs ≡ take k xs ++ x ∷ []
split-at [] k x is e = (cc)
split-at (y ∷ []) zero x is e = let same : y ≡ x = (cc) in ap (λ z. z ∷ []) same
split-at (y ∷ z ∷ zs) zero x is e = absurd (omega (arith, is))
split-at (y ∷ ys) (suc k) x is e = ap (λ ws. y ∷ ws) (split-at ys k x (omega (arith, is)) e)

last-split : {A : Type 0} (xs : List A) (x : A) → slice_get xs (length xs - 1) ≡ Some x → xs ≡ take (length xs - 1) xs ++ x ∷ []
last-split xs x e = split-at xs (length xs - 1) x (omega (arith, slice_get_within xs (length xs - 1) x e)) e

module _ (clauses : List Clause) (xs : List Reversal) (x : Reversal) (latest : slice_get xs (length xs - 1) ≡ Some x) where
  turned : reverse xs ≡ x ∷ reverse (take (length xs - 1) xs)
  turned = last-first (take (length xs - 1) xs) x xs (last-split xs x latest)

  pub latest-allowed : AllowBack clauses (reverse xs) → AllowsBack clauses x × AllowBack (reverted clauses x) (reverse (take (length xs - 1) xs))
  unfolding AllowBack
  latest-allowed are = subst (AllowBack clauses) turned are

  pub latest-stands : edits_back clauses (reverse xs) ≢ []
  unfolding edits_back
  latest-stands = λ none. let is = sym none ∙ ap (edits_back clauses) turned in (cc)

  pub latest-makes : MakesClause (edit_back clauses x) → FirstMakesClause (edits_back clauses (reverse xs))
  unfolding edits_back
  latest-makes makes = subst (λ rs. FirstMakesClause (edits_back clauses rs)) (sym turned) makes

  module _ (new : List Clause) (ys : List Reversal) (rest : ys ≡ take (length xs - 1) xs) (is : new ≡ reverted clauses x) where
    pub others-allowed : AllowBack clauses (reverse xs) → AllowBack new (reverse ys)
    others-allowed are = rw (is, rest) ((latest-allowed are).1)

    pub latest-undone : edited clauses (edit_back clauses x) ≡ Ok (reverted clauses x)
        → IsUndone (record { clauses = clauses; undo = edits_back clauses (reverse xs) }) (record { clauses = new; undo = edits_back new (reverse ys) })
    unfolding edits_back
    latest-undone made = record {
      edit = edit_back clauses x;
      first = ap (edits_back clauses) turned ∙ ap (λ cs. edit_back clauses x ∷ edits_back cs (reverse (take (length xs - 1) xs))) (sym is)
          ∙ ap (λ (rs : List Reversal). edit_back clauses x ∷ edits_back new (reverse rs)) (sym rest);
      accepted = made ∙ ap Ok (sym is);
    }

    pub undone-opening : edited clauses (edit_back clauses x) ≡ Ok (reverted clauses x)
        → after_edits new (edits_back new (reverse ys)) ≡ after_edits clauses (edits_back clauses (reverse xs))
    unfolding edits_back after_edits
    undone-opening made =
        sym (ap (λ rs. after_edits clauses (edits_back clauses rs)) turned
        ∙ ap (λ g. after_edits (given_or clauses g) (edits_back (reverted clauses x) (reverse (take (length xs - 1) xs)))) made
        ∙ ap (λ cs. after_edits cs (edits_back cs (reverse (take (length xs - 1) xs)))) (sym is)
        ∙ ap (λ (rs : List Reversal). after_edits new (edits_back new (reverse rs))) (sym rest))
