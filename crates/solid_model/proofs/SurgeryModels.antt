-- Clauses are a model after an edit.
use Rattle.std.proofs.Common.{◌≡◌, ◌≢◌, ℕ, zero, suc, ◌+◌, ◌<◌, ◌≤◌, inl, inr, Bool, true, false, cond, not, nat_le, ltb, List, [], ◌∷◌, length, map, set, Option, None, Some, Result, Ok, Err, slice_get, is_some, OnOk, OnErr, refl, ap, sym, subst, ◌∙◌, arith}
use Rattle.std.specs.List.{insert, position, position_or_len, remove}
use Rattle.std.specs.Option.{option_map, option_map_or}
use Rattle.std.specs.Str.{bytes_eq}
use Rattle.std.specs.Cmp.Lexicographic.{bytes_decides}
use Rattle.std.proofs.lemmas.Bool.{cases_lt}
use Rattle.std.proofs.lemmas.Bool.Decides.{nat_tests}
use Rattle.std.proofs.lemmas.List.{length-map, length-set, map-set, set-get_or}
use Rattle.std.proofs.lemmas.List.Edits.{length-insert, length-remove}
use Rattle.std.proofs.lemmas.Option.{get_or_from_slice_get, slice_get-map, slice_get_within}
use Rattle.std.proofs.lemmas.Simd.{map-map}
use Rattle.fixed_ops.specs.Arity.{arity_of}
use Rattle.fixed_ops.specs.Raw.{IsRaw}
use Rattle.solid_model.specs.declared.clause.Clause.{Clause}
use Rattle.solid_model.specs.declared.edit.Edit.{Edit}
use Rattle.solid_model.specs.declared.edit.Edit.TheVariants as edit
use Rattle.solid_model.specs.declared.edit.EditFault.{EditFault}
use Rattle.solid_model.specs.declared.edit.EditFault.TheVariants as fault
use Rattle.solid_model.specs.Adding.{clause_after}
use Rattle.solid_model.specs.Clauses.{place_of, names_of, AreClauses, HaveDistinctNames, IsClauseAt, IsModel}
use Rattle.solid_model.specs.Edits.{edited, IsEdit}
use Rattle.solid_model.specs.Named.{name_at}
use Rattle.solid_model.specs.Names.{IsName}
use Rattle.solid_model.specs.Parts.{Parts, IsForm}
use Rattle.solid_model.specs.Surgery.{down, formed, moved, put_in, reads, reads_before, taken_out, up}
use Rattle.solid_model.proofs.ModelLemmas.{IsModel-added, Matches, Matches-clause_after, operand-lacking}
use Rattle.solid_model.proofs.NamedLemmas.{edited-added, has, place-is}
use Rattle.solid_model.proofs.NamePlaces.{at-insert, at-new, at-remove, at_name, down-le, down-more, map-cut, map-put, slice_get-insert, slice_get-remove, slice_get-set, up-le, up-less}
use Rattle.solid_model.proofs.Places.{prefix_len-map}
use Rattle.solid_model.proofs.SurgeryLemmas.{edited-cut, edited-formed, edited-put, name_there, other-name, own-place, place-there, read-first, read-second, unread}

-- the name of a clause stands at its place among the names
slice-name : (clauses : List Clause) (i : ℕ) (c : Clause) → slice_get clauses i ≡ Some c → slice_get (names_of clauses) i ≡ Some c.name
slice-name clauses i c is = slice_get-map (λ d. d.name) clauses i ∙ ap (option_map (λ d. d.name)) is

-- where each name stands at its place, no two clauses have one
distinct-by : (clauses : List Clause) → ((i : ℕ) (x : List ℕ) → slice_get (names_of clauses) i ≡ Some x → at_name x (names_of clauses) ≡ i) → HaveDistinctNames clauses
distinct-by clauses own i j a b at_i at_j same =
    sym (own i a.name (slice-name clauses i a at_i)) ∙ ap (λ x. at_name x (names_of clauses)) same ∙ own j b.name (slice-name clauses j b at_j)

-- and where no two clauses have one, each name stands at its place
name-within : (clauses : List Clause) (i : ℕ) (x : List ℕ) → slice_get (names_of clauses) i ≡ Some x → i < length clauses
name-within clauses i x is = omega (arith, slice_get_within (names_of clauses) i x is, length-map clauses (λ (c : Clause). c.name))

name-is : (clauses : List Clause) (i : ℕ) (x : List ℕ) → slice_get (names_of clauses) i ≡ Some x → name_at clauses i ≡ x
name-is clauses i x is = get_or_from_slice_get (names_of clauses) i x [] is

own-name : (clauses : List Clause) (i : ℕ) (x : List ℕ) → AreClauses clauses → slice_get (names_of clauses) i ≡ Some x → at_name x (names_of clauses) ≡ i
own-name clauses i x are is =
    subst (λ y. at_name y (names_of clauses) ≡ i) (name-is clauses i x is) (own-place clauses i are (name-within clauses i x is))

-- a name that stands nowhere has no place
nowhere : (clauses : List Clause) (x : List ℕ) → place_of clauses x ≡ None → length clauses ≤ at_name x (names_of clauses)
nowhere clauses x none = rw (prefix_len-map (λ c. c.name) (λ n. not (bytes_eq x n)) clauses) (by (ltb (position_or_len (has x) clauses) (length clauses)) refl none)
  where
    by : (b : Bool) → ltb (position_or_len (has x) clauses) (length clauses) ≡ b → cond b (Some (position_or_len (has x) clauses)) None ≡ None
        → length clauses ≤ position_or_len (has x) clauses
    by true less is = (cc)
    by false less is = grind (arith, nat_tests)

-- a clause whose operands have moved before another place
IsClauseAt-moved : (place new : ℕ) (to : ℕ → ℕ) (c : Clause) → IsClauseAt place c → (0 < arity_of c.op → to c.a < new) → (1 < arity_of c.op → to c.b < new)
    → IsClauseAt new (moved to c)
IsClauseAt-moved place new to c stands first second = record {
  name = stands.name;
  raw = stands.raw;
  fits = record {
    first = λ h. let test : nat_le 1 (arity_of c.op) ≡ true = grind (arith, nat_tests) in rw test (first h);
    second = λ h. let test : nat_le 2 (arity_of c.op) ≡ true = grind (arith, nat_tests) in rw test (second h);
    no_first = λ h. let test : nat_le 1 (arity_of c.op) ≡ false = grind (arith, nat_tests) in rw test (stands.fits.no_first h);
    no_second = λ h. let test : nat_le 2 (arity_of c.op) ≡ false = grind (arith, nat_tests) in rw test (stands.fits.no_second h);
    no_value = stands.fits.no_value;
  };
}

-- a new clause whose operands stand before a place may stand there
IsClauseAt-before : (clauses : List Clause) (name : List ℕ) (form : Parts) (c : Clause) (at : ℕ) → IsName name → IsForm form → Matches clauses name form c
    → reads_before at c ≡ true → IsClauseAt at c
IsClauseAt-before clauses name form c at named ok m test =
    let arity : length form.args ≡ arity_of c.op = ok.arity ∙ ap arity_of (sym m.op_is) in
    record {
      name = subst IsName (sym m.name_is) named;
      raw = subst IsRaw (sym m.value_is) ok.raw;
      fits = record {
        first = read-first at c test;
        second = read-second at c test;
        no_first = λ h. operand-lacking clauses form.args 0 c.a (omega (arith, arity, h)) m.first;
        no_second = λ h. operand-lacking clauses form.args 1 c.b (omega (arith, arity, h)) m.second;
        no_value = λ h. m.value_is ∙ ok.no_value (λ e. h (m.op_is ∙ e));
      };
    }

-- what stands in a mapped list comes from the list
mapped : {A B : Type 0} (f : A → B) (xs : List A) (i : ℕ) (z : B) → slice_get (map f xs) i ≡ Some z → (x : A) × (slice_get xs i ≡ Some x) × (z ≡ f x)
mapped f [] i z e = (cc)
mapped f (x ∷ xs) zero z e = (x, refl, (cc))
mapped f (x ∷ xs) (suc i) z e = mapped f xs i z e

-- clauses with another form of one
pub models-set : (clauses : List Clause) (name : List ℕ) (form : Parts) (c : Clause) (at : ℕ) → AreClauses clauses → IsName name → IsForm form
    → place_of clauses name ≡ Some at → Matches clauses name form c → reads_before at c ≡ true → IsModel (set clauses at c)
models-set clauses name form c at are named ok e m test =
    let within = (place-is clauses name at e).1 in
    let long = length-set clauses at c in
    let same : names_of (set clauses at c) ≡ names_of clauses =
    map-set (λ d. d.name) clauses at c
    ∙ ap (λ (x : List ℕ). set (names_of clauses) at x) (m.name_is ∙ sym (name_there clauses at name e))
    ∙ set-get_or (names_of clauses) at [] in
    record {
      some = omega (arith, within, long);
      clauses_are = record {
        few = omega (arith, long, are.few);
        each = λ i d there. elim (slice_get-set clauses at c i d there) [
          | inl new ↦ rw (new.0, new.1) (IsClauseAt-before clauses name form c at named ok m test)
          | inr old ↦ are.each i d old
        ];
        distinct = distinct-by (set clauses at c) (rw same (λ i x is. own-name clauses i x are is));
      };
    }

pub names-moved : (to : ℕ → ℕ) (clauses : List Clause) → names_of (map (moved to) clauses) ≡ names_of clauses
names-moved to clauses = map-map (λ c. c.name) (moved to) clauses

-- clauses with a new one before another
pub models-put : (clauses : List Clause) (name : List ℕ) (form : Parts) (c : Clause) (at : ℕ) → AreClauses clauses → IsName name → IsForm form
    → at < length clauses → length clauses < 65535 → place_of clauses name ≡ None → Matches clauses name form c → reads_before at c ≡ true
    → IsModel (insert (map (moved (up at)) clauses) at c)
models-put clauses name form c at are named ok within room new m test = record {
  some = omega (arith, longer);
  clauses_are = record {
    few = omega (arith, longer, room);
    each = λ i d there. elim (slice_get-insert (map (moved (up at)) clauses) at c i d (omega (arith, within, long)) there) [
      | inl before ↦ let from = mapped (moved (up at)) clauses i d before.1 in rw from.2 (before_it i from.0 before.0 from.1)
      | inr other ↦ elim other [
        | inl it ↦ rw (it.0, it.1) (IsClauseAt-before clauses name form c at named ok m test)
        | inr behind ↦ let from = mapped (moved (up at)) clauses behind.0 d behind.3 in rw (behind.1, from.2) (behind_it behind.0 from.0 behind.2 from.1)
      ]
    ];
    distinct = distinct-by all (rw names (λ i x is. own i x is));
  };
}
  where
    all : List Clause
    all = insert (map (moved (up at)) clauses) at c

    long : length (map (moved (up at)) clauses) ≡ length clauses
    long = length-map clauses (moved (up at))

    many : length (names_of clauses) ≡ length clauses
    many = length-map clauses (λ (d : Clause). d.name)

    longer : length all ≡ length clauses + 1
    longer = length-insert (map (moved (up at)) clauses) at c (omega (arith, within, long)) ∙ ap (λ n. n + 1) long

    before_it : (i : ℕ) (d : Clause) → i < at → slice_get clauses i ≡ Some d → IsClauseAt i (moved (up at) d)
    before_it i d less there =
        let stands = are.each i d there in
        IsClauseAt-moved i i (up at) d stands
        (λ h. let lower = stands.fits.first h in omega (arith, lower, up-less at d.a (omega (arith, lower, less))))
        (λ h. let lower = stands.fits.second h in omega (arith, lower, up-less at d.b (omega (arith, lower, less))))

    up-most : (k : ℕ) → up at k ≤ k + 1
    up-most k = elim (cases_lt k at) [
      | inl less ↦ omega (arith, up-less at k less)
      | inr le ↦ omega (arith, up-le at k le)
    ]

    behind_it : (j : ℕ) (d : Clause) → at ≤ j → slice_get clauses j ≡ Some d → IsClauseAt (suc j) (moved (up at) d)
    behind_it j d le there =
        let stands = are.each j d there in
        IsClauseAt-moved j (suc j) (up at) d stands
        (λ h. omega (arith, stands.fits.first h, up-most d.a))
        (λ h. omega (arith, stands.fits.second h, up-most d.b))

    names : names_of all ≡ insert (names_of clauses) at name
    names =
        map-put (λ d. d.name) (map (moved (up at)) clauses) at c
        ∙ ap (λ ys. insert ys at c.name) (names-moved (up at) clauses)
        ∙ ap (λ (x : List ℕ). insert (names_of clauses) at x) m.name_is

    moved_to : (i : ℕ) (x : List ℕ) → slice_get (names_of clauses) i ≡ Some x → at_name x (insert (names_of clauses) at name) ≡ up at i
    moved_to i x is =
        let there : place_of clauses x ≡ Some i =
        subst (λ y. place_of clauses y ≡ Some i) (name-is clauses i x is) (place-there clauses i are (name-within clauses i x is)) in
        at-insert x name (names_of clauses) at (other-name clauses x name i there new) (omega (arith, within, many))
        ∙ ap (up at) (own-name clauses i x are is)

    own : (i : ℕ) (x : List ℕ) → slice_get (insert (names_of clauses) at name) i ≡ Some x → at_name x (insert (names_of clauses) at name) ≡ i
    own i x is = elim (slice_get-insert (names_of clauses) at name i x (omega (arith, within, many)) is) [
      | inl before ↦ moved_to i x before.1 ∙ up-less at i before.0
      | inr other ↦ elim other [
        | inl it ↦
            rw (it.0, it.1)
            (at-new name (names_of clauses) at ((bytes_decides name name).1 refl) (omega (arith, within, nowhere clauses name new)) (omega (arith, within, many)))
        | inr behind ↦ moved_to behind.0 x behind.3 ∙ omega (arith, up-le at behind.0 behind.2, behind.1)
      ]
    ]

-- clauses without one that no other reads
pub models-cut : (clauses : List Clause) (at : ℕ) → AreClauses clauses → at < length clauses → 1 < length clauses → position (reads at) clauses ≡ None
    → IsModel (remove (map (moved (down at)) clauses) at)
models-cut clauses at are within more none = record {
  some = omega (arith, shorter, more);
  clauses_are = record {
    few = omega (arith, shorter, are.few);
    each = λ i d there. elim (slice_get-remove (map (moved (down at)) clauses) at i d there) [
      | inl before ↦ let from = mapped (moved (down at)) clauses i d before.1 in rw from.2 (before_it i from.0 before.0 from.1)
      | inr behind ↦ let from = mapped (moved (down at)) clauses (suc i) d behind.1 in rw from.2 (behind_it i from.0 behind.0 from.1)
    ];
    distinct = distinct-by all (rw names (λ i x is. own i x is));
  };
}
  where
    all : List Clause
    all = remove (map (moved (down at)) clauses) at

    many : length (names_of clauses) ≡ length clauses
    many = length-map clauses (λ (d : Clause). d.name)

    shorter : length all + 1 ≡ length clauses
    shorter =
        let long : length (map (moved (down at)) clauses) ≡ length clauses = length-map clauses (moved (down at)) in
        length-remove (map (moved (down at)) clauses) at (omega (arith, within, long)) ∙ long

    before_it : (i : ℕ) (d : Clause) → i < at → slice_get clauses i ≡ Some d → IsClauseAt i (moved (down at) d)
    before_it i d less there =
        let stands = are.each i d there in
        IsClauseAt-moved i i (down at) d stands
        (λ h. let lower = stands.fits.first h in omega (arith, lower, down-le at d.a (omega (arith, lower, less))))
        (λ h. let lower = stands.fits.second h in omega (arith, lower, down-le at d.b (omega (arith, lower, less))))

    down-less : (i k : ℕ) → at ≤ i → k < suc i → k ≢ at → down at k < i
    down-less i k le less other = elim (cases_lt at k) [
      | inl above ↦ omega (arith, down-more at k above, less, above)
      | inr below ↦ omega (arith, down-le at k below, le, other, below)
    ]

    behind_it : (i : ℕ) (d : Clause) → at ≤ i → slice_get clauses (suc i) ≡ Some d → IsClauseAt i (moved (down at) d)
    behind_it i d le there =
        let stands = are.each (suc i) d there in
        let free = unread at clauses none (suc i) d there in
        IsClauseAt-moved (suc i) i (down at) d stands
        (λ h. down-less i d.a le (stands.fits.first h) (free.0 h))
        (λ h. down-less i d.b le (stands.fits.second h) (free.1 h))

    names : names_of all ≡ remove (names_of clauses) at
    names =
        map-cut (λ d. d.name) (map (moved (down at)) clauses) at
        ∙ ap (λ ys. remove ys at) (names-moved (down at) clauses)

    own : (i : ℕ) (x : List ℕ) → slice_get (remove (names_of clauses) at) i ≡ Some x → at_name x (remove (names_of clauses) at) ≡ i
    own i x is = elim (slice_get-remove (names_of clauses) at i x is) [
      | inl before ↦
          let there = own-name clauses i x are before.1 in
          at-remove x (names_of clauses) at (omega (arith, within, many)) (λ same. omega (arith, same, there, before.0))
          ∙ ap (down at) there ∙ down-le at i (omega (arith, before.0))
      | inr behind ↦
          let there = own-name clauses (suc i) x are behind.1 in
          at-remove x (names_of clauses) at (omega (arith, within, many)) (λ same. omega (arith, same, there, behind.0))
          ∙ ap (down at) there ∙ omega (arith, down-more at (suc i) (omega (arith, behind.0)))
    ]

-- a model after an edit by places that is not refused
pub models-formed : (clauses : List Clause) (name : List ℕ) (form : Parts) (new : List Clause) → AreClauses clauses → IsName name → IsForm form
    → formed clauses name form ≡ Ok new → IsModel new
models-formed clauses name form new are named ok e = by (place_of clauses name) (clause_after clauses name form) refl refl
  where
    by : (o : Option ℕ) (r : Option Clause) → place_of clauses name ≡ o → clause_after clauses name form ≡ r → IsModel new
    by None r f g = let gives = rw f at e in (cc)
    by (Some at) None f g = let gives = rw (f, g) at e in (cc)
    by (Some at) (Some c) f g = last (reads_before at c) refl (rw (f, g) at e)
      where
        last : (b : Bool) → reads_before at c ≡ b → cond b (Ok (set clauses at c)) (Err fault.NotEarlier) ≡ Ok new → IsModel new
        last true test is =
            let it : set clauses at c ≡ new = (cc) in
            subst IsModel it (models-set clauses name form c at are named ok f (Matches-clause_after clauses name form c g) test)
        last false test is = (cc)

pub models-put_in : (clauses : List Clause) (next name : List ℕ) (form : Parts) (new : List Clause) → AreClauses clauses → IsName name → IsForm form
    → put_in clauses next name form ≡ Ok new → IsModel new
models-put_in clauses next name form new are named ok e = by (place_of clauses next) (clause_after clauses name form) refl refl
  where
    by : (o : Option ℕ) (r : Option Clause) → place_of clauses next ≡ o → clause_after clauses name form ≡ r → IsModel new
    by None r f g = let gives = rw f at e in (cc)
    by (Some at) None f g = let gives = rw (f, g) at e in (cc)
    by (Some at) (Some c) f g = last (place_of clauses c.name) (reads_before at c) (nat_le 65535 (length clauses)) refl refl refl (rw (f, g) at e)
      where
        m : Matches clauses name form c
        m = Matches-clause_after clauses name form c g

        last : (p : Option ℕ) (b full : Bool) → place_of clauses c.name ≡ p → reads_before at c ≡ b → nat_le 65535 (length clauses) ≡ full
            → cond (is_some p) (Err fault.DoubleName) (cond (not b) (Err fault.NotEarlier) (cond full (Err fault.Full) (Ok (insert (map (moved (up at)) clauses) at c)))) ≡ Ok new
            → IsModel new
        last (Some i) b full there test room is = (cc)
        last None false full there test room is = (cc)
        last None true true there test room is = (cc)
        last None true false there test room is =
            let it : insert (map (moved (up at)) clauses) at c ≡ new = (cc) in
            subst IsModel it
            (models-put clauses name form c at are named ok (place-is clauses next at f).1 (grind (arith, nat_tests)) (ap (place_of clauses) (sym m.name_is) ∙ there) m test)

pub models-taken_out : (clauses : List Clause) (name : List ℕ) (new : List Clause) → AreClauses clauses → taken_out clauses name ≡ Ok new → IsModel new
models-taken_out clauses name new are e = by (place_of clauses name) refl
  where
    by : (o : Option ℕ) → place_of clauses name ≡ o → IsModel new
    by None f = let gives = rw f at e in (cc)
    by (Some at) f = last (position (reads at) clauses) (nat_le (length clauses) 1) refl refl (rw f at e)
      where
        last : (u : Option ℕ) (only : Bool) → position (reads at) clauses ≡ u → nat_le (length clauses) 1 ≡ only
            → option_map_or (λ user. Err (fault.InUse user)) u (cond only (Err fault.LastClause) (Ok (remove (map (moved (down at)) clauses) at))) ≡ Ok new
            → IsModel new
        last (Some user) only is test gives = (cc)
        last None true is test gives = (cc)
        last None false is test gives =
            let it : remove (map (moved (down at)) clauses) at ≡ new = (cc) in
            subst IsModel it (models-cut clauses at are (place-is clauses name at f).1 (grind (arith, nat_tests)) is)

pub edits-models : (clauses : List Clause) (change : Edit) (new : List Clause) → AreClauses clauses → IsEdit change → edited clauses change ≡ Ok new → IsModel new
edits-models clauses (edit.Set name form) new are ok e = models-formed clauses name form new are ok.0 ok.1 (sym (edited-formed clauses name form are ok.1) ∙ e)
edits-models clauses (edit.Add name form) new are ok e = IsModel-added clauses name form new are ok.0 ok.1 (sym (edited-added clauses name form are ok.1) ∙ e)
edits-models clauses (edit.Put next name form) new are ok e = models-put_in clauses next name form new are ok.0 ok.1 (sym (edited-put clauses next name form are ok.1) ∙ e)
edits-models clauses (edit.Cut name) new are ok e = models-taken_out clauses name new are (sym (edited-cut clauses name are) ∙ e)

-- a model stays one, whether an edit is made or refused
pub stays : (clauses new : List Clause) (meaning : Result (List Clause) EditFault) (r : Result (Unit {0}) EditFault) → (meaning ≡ Ok new → IsModel new) → IsModel clauses
    → OnOk r (meaning ≡ Ok new) → OnErr r (new ≡ clauses) → IsModel new
stays clauses new meaning (Ok done) made was is kept = made is
stays clauses new meaning (Err fault) made was is kept = rw kept was
