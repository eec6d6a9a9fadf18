-- Edits by names give what edits by places give.
use Rattle.std.proofs.Common.{◌≡◌, ◌≢◌, ℕ, zero, suc, ◌+◌, ◌<◌, ◌≤◌, ℤ, inl, inr, Bool, true, false, cond, not, ◌&&◌, ◌||◌, ◌==◌, nat_le, nat_lt, List, [], ◌∷◌, length, map, set, take, get_or, Option, None, Some, Ok, Err, slice_get, is_some, refl, ap, sym, subst, ◌∙◌, arith}
use Rattle.std.specs.List.{insert, list_any, position, position_or_len, remove}
use Rattle.std.specs.Option.{option_map_or}
use Rattle.std.specs.Str.{bytes_eq}
use Rattle.std.specs.Cmp.Lexicographic.{bytes_decides}
use Rattle.std.proofs.lemmas.Bool.Decides.{nat_tests}
use Rattle.std.proofs.lemmas.List.{length-map, map-id, map-set, set-get_or}
use Rattle.std.proofs.lemmas.Option.{slice_get_cases, slice_get_within}
use Rattle.std.proofs.lemmas.Simd.{map-map}
use Rattle.fixed_ops.specs.Arity.{arity_of}
use Rattle.solid_model.specs.declared.clause.Clause.{Clause}
use Rattle.solid_model.specs.declared.edit.Edit.TheVariants as edit
use Rattle.solid_model.specs.declared.edit.EditFault.TheVariants.{UnknownName, DoubleName, NotEarlier, InUse, LastClause, Full}
use Rattle.solid_model.specs.Adding.{clause_after, operand}
use Rattle.solid_model.specs.Clauses.{place_of, names_of, AreClauses, IsClauseAt}
use Rattle.solid_model.specs.Edits.{are_named, edited, has_argument, is_named, place_among, resolved}
use Rattle.solid_model.specs.Named.{Named, by_name, by_place, name_at, named_of, operand_place, placed}
use Rattle.solid_model.specs.Parts.{Parts, IsForm}
use Rattle.solid_model.specs.Surgery.{down, formed, moved, put_in, reads, reads_before, taken_out, up, with_clause_at, with_clause_before, without_clause}
use Rattle.solid_model.proofs.ModelLemmas.{Matches, Matches-clause_after, list_any-found}
use Rattle.solid_model.proofs.NamedLemmas.{arity-two, called, first_of, has, is_named-place, name_at-is, place-is, place-named, place-own, second_of}
use Rattle.solid_model.proofs.NamePlaces.{at-insert, at-remove, at_name, list_any-take, map-alike, map-cut, map-put, position-alike, up-less}
use Rattle.solid_model.proofs.Places.{list_any-no_position, position-map, prefix_len-map}

-- the names of named clauses
abbrev names : List Named → List (List ℕ)
names all = map (λ c. c.name) all

names-named : (clauses : List Clause) → names (named_of clauses) ≡ names_of clauses
names-named clauses = map-map (λ c. c.name) (λ c. by_name clauses c) clauses

-- a name stands at the same place among named clauses and among their names
place-names : (all : List Named) (x : List ℕ) → position_or_len (called x) all ≡ at_name x (names all)
place-names all x = sym (prefix_len-map (λ c. c.name) (λ n. not (bytes_eq x n)) all)

-- the place of a clause is that of its name
pub own-place : (clauses : List Clause) (at : ℕ) → AreClauses clauses → at < length clauses → at_name (name_at clauses at) (names_of clauses) ≡ at
own-place clauses at are less = elim (slice_get_cases clauses at).1 [
  | inl there ↦
      rw (name_at-is clauses at there.0 there.2)
      (prefix_len-map (λ c. c.name) (λ n. not (bytes_eq there.0.name n)) clauses ∙ place-own clauses at there.0 are there.2)
  | inr past ↦ absurd (omega (arith, past.0))
]

-- what stands at the place of a name is that name
found-name : (x : List ℕ) (xs : List (List ℕ)) (k : ℕ) → at_name x xs ≡ k → k < length xs → get_or xs k [] ≡ x
found-name x [] k h less = absurd (omega (arith, less))
found-name x (y ∷ ys) k h less = by (bytes_eq x y) refl h (λ l. found-name x ys (at_name x ys) refl l)
  where
    by : (b : Bool) → bytes_eq x y ≡ b → cond (not b) (1 + at_name x ys) 0 ≡ k → (at_name x ys < length ys → get_or ys (at_name x ys) [] ≡ x)
        → get_or (y ∷ ys) k [] ≡ x
    by true test is rest = subst (λ (n : ℕ). get_or (y ∷ ys) n [] ≡ x) is (sym ((bytes_decides x y).0 test))
    by false test is rest =
        let next : suc (at_name x ys) ≡ k = omega (arith, is) in
        subst (λ (n : ℕ). get_or (y ∷ ys) n [] ≡ x) next (rest (omega (arith, is, less)))

-- the name at the place of a name is it
pub name_there : (clauses : List Clause) (at : ℕ) (name : List ℕ) → place_of clauses name ≡ Some at → name_at clauses at ≡ name
name_there clauses at name e =
    let is = place-is clauses name at e in
    found-name name (names_of clauses) at (prefix_len-map (λ c. c.name) (λ n. not (bytes_eq name n)) clauses ∙ is.0)
    (omega (arith, is.1, length-map clauses (λ (c : Clause). c.name)))

-- a clause by names, whose operands have moved among other named clauses
by_place-moved : (clauses : List Clause) (all : List Named) (to : ℕ → ℕ) (at : ℕ) (c : Clause) → IsClauseAt at c
    → (0 < arity_of c.op → at_name (name_at clauses c.a) (names all) ≡ to c.a)
    → (1 < arity_of c.op → at_name (name_at clauses c.b) (names all) ≡ to c.b)
    → by_place all (by_name clauses c) ≡ moved to c
by_place-moved clauses all to at c stands first second =
    let place = λ (name : List ℕ). position_or_len (called name) all in
    let a : operand_place all (by_name clauses c).form 0 ≡ (moved to c).a =
    first_of (arity_of c.op) (name_at clauses c.a) (name_at clauses c.b) place (moved to c).a
    (λ h. let test : nat_le 1 (arity_of c.op) ≡ true = grind (arith, nat_tests) in rw test (place-names all (name_at clauses c.a) ∙ first h))
    (λ h. let test : nat_le 1 (arity_of c.op) ≡ false = grind (arith, nat_tests) in rw test (stands.fits.no_first h)) in
    let b : operand_place all (by_name clauses c).form 1 ≡ (moved to c).b =
    second_of (arity_of c.op) (name_at clauses c.a) (name_at clauses c.b) place (moved to c).b
    (λ h. let test : nat_le 2 (arity_of c.op) ≡ true = grind (arith, nat_tests) in rw test (place-names all (name_at clauses c.b) ∙ second h))
    (λ h. let test : nat_le 2 (arity_of c.op) ≡ false = grind (arith, nat_tests) in rw test (stands.fits.no_second h)) in
    ap (λ (n : ℕ). record { name = c.name; op = c.op; a = n; b = operand_place all (by_name clauses c).form 1; value = c.value }) a
    ∙ ap (λ (n : ℕ). record { name = c.name; op = c.op; a = (moved to c).a; b = n; value = c.value }) b

-- the place of an operand of a form, where names stand elsewhere than among the clauses
operand-moved : (clauses : List Clause) (all : List Named) (form : Parts) (k a : ℕ) → operand clauses form.args k ≡ Some a
    → ((x : List ℕ) → place_of clauses x ≡ Some a → k < length form.args → at_name x (names all) ≡ a) → operand_place all form k ≡ a
operand-moved clauses all form k a e there = by (slice_get form.args k) refl
  where
    by : (o : Option (List ℕ)) → slice_get form.args k ≡ o → option_map_or (λ arg. position_or_len (called arg) all) o 0 ≡ a
    by None is = let none = rw is at e in (cc)
    by (Some x) is =
        let some = rw is at e in
        place-names all x ∙ there x some (slice_get-within form.args k x is)
      where
        slice_get-within : (xs : List (List ℕ)) (i : ℕ) (y : List ℕ) → slice_get xs i ≡ Some y → i < length xs
        slice_get-within [] i y h = (cc)
        slice_get-within (z ∷ zs) zero y h = omega arith
        slice_get-within (z ∷ zs) (suc i) y h = omega (arith, slice_get-within zs i y h)

-- a new clause by places among other named clauses
by_place-after : (clauses : List Clause) (all : List Named) (name : List ℕ) (form : Parts) (c : Clause) → Matches clauses name form c
    → ((k a : ℕ) (x : List ℕ) → operand clauses form.args k ≡ Some a → place_of clauses x ≡ Some a → k < length form.args → at_name x (names all) ≡ a)
    → by_place all (record { name = name; form = form }) ≡ c
by_place-after clauses all name form c m there =
    let a = operand-moved clauses all form 0 c.a m.first (λ x. there 0 c.a x m.first) in
    let b = operand-moved clauses all form 1 c.b m.second (λ x. there 1 c.b x m.second) in
    ap (λ (n : ℕ). record { name = name; op = form.op; a = n; b = operand_place all form 1; value = form.value }) a
    ∙ ap (λ (n : ℕ). record { name = name; op = form.op; a = c.a; b = n; value = form.value }) b
    ∙ ap (λ (s : List ℕ). record { name = s; op = form.op; a = c.a; b = c.b; value = form.value }) (sym m.name_is)
    ∙ ap (λ o. record { name = c.name; op = o; a = c.a; b = c.b; value = form.value }) (sym m.op_is)
    ∙ ap (λ (v : ℤ). record { name = c.name; op = c.op; a = c.a; b = c.b; value = v }) (sym m.value_is)

-- all arguments are named exactly where a form gives a clause
known-after : (clauses : List Clause) (name : List ℕ) (op : _) (args : List (List ℕ)) (value : ℤ) → length args ≤ 2
    → are_named (named_of clauses) args ≡ is_some (clause_after clauses name (record { op = op; args = args; value = value }))
known-after clauses name op [] value few = refl
known-after clauses name op (x ∷ []) value few = by (place_of clauses x) refl
  where
    by : (o : Option ℕ) → place_of clauses x ≡ o
        → are_named (named_of clauses) (x ∷ []) ≡ is_some (clause_after clauses name (record { op = op; args = x ∷ []; value = value }))
    by None e = let unknown : is_named (named_of clauses) x ≡ false = is_named-place clauses x ∙ ap is_some e in rw (unknown, e) refl
    by (Some a) e = let known : is_named (named_of clauses) x ≡ true = is_named-place clauses x ∙ ap is_some e in rw (known, e) refl
known-after clauses name op (x ∷ y ∷ []) value few = by (place_of clauses x) (place_of clauses y) refl refl
  where
    by : (o r : Option ℕ) → place_of clauses x ≡ o → place_of clauses y ≡ r
        → are_named (named_of clauses) (x ∷ y ∷ []) ≡ is_some (clause_after clauses name (record { op = op; args = x ∷ y ∷ []; value = value }))
    by None r e h = let unknown : is_named (named_of clauses) x ≡ false = is_named-place clauses x ∙ ap is_some e in rw (unknown, e) refl
    by (Some a) None e h =
        let known : is_named (named_of clauses) x ≡ true = is_named-place clauses x ∙ ap is_some e in
        let unknown : is_named (named_of clauses) y ≡ false = is_named-place clauses y ∙ ap is_some h in
        rw (known, unknown, e, h) refl
    by (Some a) (Some b) e h =
        let known : is_named (named_of clauses) x ≡ true = is_named-place clauses x ∙ ap is_some e in
        let known_too : is_named (named_of clauses) y ≡ true = is_named-place clauses y ∙ ap is_some h in
        rw (known, known_too, e, h) refl
known-after clauses name op (x ∷ y ∷ z ∷ more) value few = absurd (omega (arith, few))

-- a name is that of a clause before a place exactly where it stands before it
is_named-before : (clauses : List Clause) (x : List ℕ) (a at : ℕ) → at ≤ length clauses → place_of clauses x ≡ Some a
    → is_named (take at (named_of clauses)) x ≡ nat_lt a at
is_named-before clauses x a at within e =
    list_any-take (called x) (named_of clauses) at (omega (arith, within, length-map clauses (λ c. by_name clauses c)))
    ∙ ap (λ n. nat_lt n at) (place-named clauses x ∙ (place-is clauses x a e).0)

-- all arguments are names of clauses before a place exactly where all operands stand before it
before-args : (clauses : List Clause) (at : ℕ) (args : List (List ℕ)) (a b : ℕ) → at ≤ length clauses → length args ≤ 2
    → operand clauses args 0 ≡ Some a → operand clauses args 1 ≡ Some b
    → are_named (take at (named_of clauses)) args ≡ ((nat_lt (length args) 1 || nat_lt a at) && (nat_lt (length args) 2 || nat_lt b at))
before-args clauses at [] a b within few first second = refl
before-args clauses at (x ∷ []) a b within few first second = rw (is_named-before clauses x a at within first) refl
before-args clauses at (x ∷ y ∷ []) a b within few first second =
    rw (is_named-before clauses x a at within first, is_named-before clauses y b at within second) (by (nat_lt a at) (nat_lt b at))
  where
    by : (p q : Bool) → (p && (q && true)) ≡ ((false || p) && (false || q))
    by true true = refl
    by true false = refl
    by false q = refl
before-args clauses at (x ∷ y ∷ z ∷ more) a b within few first second = absurd (omega (arith, few))

before-after : (clauses : List Clause) (name : List ℕ) (form : Parts) (c : Clause) (at : ℕ) → IsForm form → at ≤ length clauses → Matches clauses name form c
    → are_named (take at (named_of clauses)) form.args ≡ reads_before at c
before-after clauses name form c at ok within m =
    let arity : length form.args ≡ arity_of c.op = ok.arity ∙ ap arity_of (sym m.op_is) in
    before-args clauses at form.args c.a c.b within (omega (arith, ok.arity, arity-two form.op)) m.first m.second
    ∙ ap (λ n. (nat_lt n 1 || nat_lt c.a at) && (nat_lt n 2 || nat_lt c.b at)) arity

moved-nowhere : (c : Clause) → moved (λ k. k) c ≡ c
moved-nowhere c =
    ap (λ (n : ℕ). record { name = c.name; op = c.op; a = n; b = cond (nat_le 2 (arity_of c.op)) c.b c.b; value = c.value }) (either (nat_le 1 (arity_of c.op)) c.a)
    ∙ ap (λ (n : ℕ). record { name = c.name; op = c.op; a = c.a; b = n; value = c.value }) (either (nat_le 2 (arity_of c.op)) c.b)
  where
    either : (b : Bool) (n : ℕ) → cond b n n ≡ n
    either true n = refl
    either false n = refl

-- the place of a name among clauses, as among their names
pub place-of-name : (clauses : List Clause) (x : List ℕ) (a : ℕ) → place_of clauses x ≡ Some a → at_name x (names_of clauses) ≡ a
place-of-name clauses x a e = prefix_len-map (λ c. c.name) (λ n. not (bytes_eq x n)) clauses ∙ (place-is clauses x a e).0

-- named clauses one of which has another form, by places
placed-set : (clauses : List Clause) (name : List ℕ) (form : Parts) (c : Clause) (at : ℕ) → AreClauses clauses → place_of clauses name ≡ Some at
    → Matches clauses name form c → placed (set (named_of clauses) at (record { name = name; form = form })) ≡ set clauses at c
placed-set clauses name form c at are e m =
    map-set (λ d. by_place all d) (named_of clauses) at n
    ∙ ap (λ ys. set ys at (by_place all n))
    (map-map (λ d. by_place all d) (λ d. by_name clauses d) clauses
    ∙ map-alike (λ d. by_place all (by_name clauses d)) (λ d. d) clauses (λ k d there.
    let stands = are.each k d there in
    by_place-moved clauses all (λ i. i) k d stands
    (λ h. rw same (own-place clauses d.a are (earlier k d there (stands.fits.first h))))
    (λ h. rw same (own-place clauses d.b are (earlier k d there (stands.fits.second h))))
    ∙ moved-nowhere d)
    ∙ map-id clauses)
    ∙ ap (λ (d : Clause). set clauses at d) (by_place-after clauses all name form c m (λ k a x is there less. rw same (place-of-name clauses x a there)))
  where
    n : Named
    n = record { name = name; form = form }

    all : List Named
    all = set (named_of clauses) at n

    same : names all ≡ names_of clauses
    same =
        map-set (λ d. d.name) (named_of clauses) at n
        ∙ ap (λ ys. set ys at name) (names-named clauses)
        ∙ ap (λ (x : List ℕ). set (names_of clauses) at x) (sym (name_there clauses at name e))
        ∙ set-get_or (names_of clauses) at []

    earlier : (k : ℕ) (d : Clause) {i : ℕ} → slice_get clauses k ≡ Some d → i < k → i < length clauses
    earlier k d there less = omega (arith, less, slice_get_within clauses k d there)

-- an edit of a form by names is one by places
pub edited-formed : (clauses : List Clause) (name : List ℕ) (form : Parts) → AreClauses clauses → IsForm form
    → edited clauses (edit.Set name form) ≡ formed clauses name form
edited-formed clauses name form are ok = by (place_of clauses name) (clause_after clauses name form) refl refl
  where
    by : (o : Option ℕ) (r : Option Clause) → place_of clauses name ≡ o → clause_after clauses name form ≡ r
        → edited clauses (edit.Set name form) ≡ option_map_or (λ at. option_map_or (with_clause_at clauses at) r (Err UnknownName)) o (Err UnknownName)
    by None r e f =
        let unknown : is_named (named_of clauses) name ≡ false = is_named-place clauses name ∙ ap is_some e in
        rw unknown refl
    by (Some at) None e f =
        let known : is_named (named_of clauses) name ≡ true = is_named-place clauses name ∙ ap is_some e in
        let unnamed : are_named (named_of clauses) form.args ≡ false =
        known-after clauses name form.op form.args form.value (omega (arith, ok.arity, arity-two form.op)) ∙ ap is_some f in
        rw (known, unnamed) refl
    by (Some at) (Some c) e f =
        let known : is_named (named_of clauses) name ≡ true = is_named-place clauses name ∙ ap is_some e in
        let all_known : are_named (named_of clauses) form.args ≡ true =
        known-after clauses name form.op form.args form.value (omega (arith, ok.arity, arity-two form.op)) ∙ ap is_some f in
        let is = place-is clauses name at e in
        let place : place_among (named_of clauses) name ≡ at = place-named clauses name ∙ is.0 in
        let m = Matches-clause_after clauses name form c f in
        let front = before-after clauses name form c at ok (omega (arith, is.1)) m in
        rw (known, all_known, place, front) (last (reads_before at c) (placed-set clauses name form c at are e m))
      where
        last : (b : Bool) → placed (set (named_of clauses) at (record { name = name; form = form })) ≡ set clauses at c
            → resolved (cond (not b) (Err NotEarlier) (Ok (set (named_of clauses) at (record { name = name; form = form })))) ≡ cond b (Ok (set clauses at c)) (Err NotEarlier)
        last true same = ap Ok same
        last false same = refl

-- a name that stands and one that does not are two
pub other-name : (clauses : List Clause) (x name : List ℕ) (a : ℕ) → place_of clauses x ≡ Some a → place_of clauses name ≡ None → bytes_eq x name ≡ false
other-name clauses x name a e none = by (bytes_eq x name) refl
  where
    by : (b : Bool) → bytes_eq x name ≡ b → b ≡ false
    by true same = let is = (bytes_decides x name).0 same in absurd (nowhere (ap (place_of clauses) is))
      where
        nowhere : place_of clauses x ≡ place_of clauses name → ⊥
        nowhere is = (cc)
    by false same = refl

-- the name of a clause stands at its place
pub place-there : (clauses : List Clause) (k : ℕ) → AreClauses clauses → k < length clauses → place_of clauses (name_at clauses k) ≡ Some k
place-there clauses k are less =
    let own : position_or_len (has (name_at clauses k)) clauses ≡ k =
    sym (prefix_len-map (λ c. c.name) (λ n. not (bytes_eq (name_at clauses k) n)) clauses) ∙ own-place clauses k are less in
    let test : nat_lt (position_or_len (has (name_at clauses k)) clauses) (length clauses) ≡ true = grind (arith, nat_tests, own) in
    rw test (ap Some own)

-- whether each operand that there is stands before a place
pub read-first : (place : ℕ) (c : Clause) → reads_before place c ≡ true → 0 < arity_of c.op → c.a < place
read-first place c test h = grind (arith, nat_tests)

pub read-second : (place : ℕ) (c : Clause) → reads_before place c ≡ true → 1 < arity_of c.op → c.b < place
read-second place c test h = grind (arith, nat_tests)

-- named clauses among which a new one was put, by places
placed-insert : (clauses : List Clause) (name : List ℕ) (form : Parts) (c : Clause) (at : ℕ) → AreClauses clauses → IsForm form → at < length clauses
    → place_of clauses name ≡ None → Matches clauses name form c → reads_before at c ≡ true
    → placed (insert (named_of clauses) at (record { name = name; form = form })) ≡ insert (map (moved (up at)) clauses) at c
placed-insert clauses name form c at are ok within new m test =
    map-put (λ d. by_place all d) (named_of clauses) at n
    ∙ ap (λ ys. insert ys at (by_place all n))
    (map-map (λ d. by_place all d) (λ d. by_name clauses d) clauses
    ∙ map-alike (λ d. by_place all (by_name clauses d)) (moved (up at)) clauses (λ k d there.
    let stands = are.each k d there in
    by_place-moved clauses all (up at) k d stands
    (λ h. rw same (shifted d.a (earlier k d there (stands.fits.first h))))
    (λ h. rw same (shifted d.b (earlier k d there (stands.fits.second h))))))
    ∙ ap (λ (d : Clause). insert (map (moved (up at)) clauses) at d) (by_place-after clauses all name form c m found)
  where
    n : Named
    n = record { name = name; form = form }

    all : List Named
    all = insert (named_of clauses) at n

    same : names all ≡ insert (names_of clauses) at name
    same = map-put (λ d. d.name) (named_of clauses) at n ∙ ap (λ ys. insert ys at name) (names-named clauses)

    long : length (names_of clauses) ≡ length clauses
    long = length-map clauses (λ (d : Clause). d.name)

    earlier : (k : ℕ) (d : Clause) {i : ℕ} → slice_get clauses k ≡ Some d → i < k → i < length clauses
    earlier k d there less = omega (arith, less, slice_get_within clauses k d there)

    shifted : (i : ℕ) → i < length clauses → at_name (name_at clauses i) (insert (names_of clauses) at name) ≡ up at i
    shifted i less =
        at-insert (name_at clauses i) name (names_of clauses) at (other-name clauses (name_at clauses i) name i (place-there clauses i are less) new) (omega (arith, within, long))
        ∙ ap (up at) (own-place clauses i are less)

    arity : length form.args ≡ arity_of c.op
    arity = ok.arity ∙ ap arity_of (sym m.op_is)

    found-at : (x : List ℕ) (a : ℕ) → place_of clauses x ≡ Some a → a < at → at_name x (names all) ≡ a
    found-at x a there less =
        rw same
        (at-insert x name (names_of clauses) at (other-name clauses x name a there new) (omega (arith, within, long))
        ∙ ap (up at) (place-of-name clauses x a there) ∙ up-less at a less)

    found : (k a : ℕ) (x : List ℕ) → operand clauses form.args k ≡ Some a → place_of clauses x ≡ Some a → k < length form.args → at_name x (names all) ≡ a
    found zero a x is there less =
        let first : c.a ≡ a = some-same (sym m.first ∙ is) in
        found-at x a there (omega (arith, first, read-first at c test (omega (arith, arity, less))))
      where
        some-same : {p q : ℕ} → Some p ≡ Some q → p ≡ q
        some-same h = (cc)
    found (suc zero) a x is there less =
        let second : c.b ≡ a = some-same (sym m.second ∙ is) in
        found-at x a there (omega (arith, second, read-second at c test (omega (arith, arity, less))))
      where
        some-same : {p q : ℕ} → Some p ≡ Some q → p ≡ q
        some-same h = (cc)
    found (suc (suc k)) a x is there less = absurd (omega (arith, less, ok.arity, arity-two form.op))

-- a new clause before another, by names and by places
pub edited-put : (clauses : List Clause) (next name : List ℕ) (form : Parts) → AreClauses clauses → IsForm form
    → edited clauses (edit.Put next name form) ≡ put_in clauses next name form
edited-put clauses next name form are ok = by (place_of clauses next) (clause_after clauses name form) refl refl
  where
    by : (o : Option ℕ) (r : Option Clause) → place_of clauses next ≡ o → clause_after clauses name form ≡ r
        → edited clauses (edit.Put next name form) ≡ option_map_or (λ at. option_map_or (with_clause_before clauses at) r (Err UnknownName)) o (Err UnknownName)
    by None r e f =
        let unknown : is_named (named_of clauses) next ≡ false = is_named-place clauses next ∙ ap is_some e in
        rw unknown refl
    by (Some at) None e f =
        let known : is_named (named_of clauses) next ≡ true = is_named-place clauses next ∙ ap is_some e in
        let unnamed : are_named (named_of clauses) form.args ≡ false =
        known-after clauses name form.op form.args form.value (omega (arith, ok.arity, arity-two form.op)) ∙ ap is_some f in
        rw (known, unnamed) refl
    by (Some at) (Some c) e f =
        let known : is_named (named_of clauses) next ≡ true = is_named-place clauses next ∙ ap is_some e in
        let all_known : are_named (named_of clauses) form.args ≡ true =
        known-after clauses name form.op form.args form.value (omega (arith, ok.arity, arity-two form.op)) ∙ ap is_some f in
        let is = place-is clauses next at e in
        let place : place_among (named_of clauses) next ≡ at = place-named clauses next ∙ is.0 in
        let m = Matches-clause_after clauses name form c f in
        let front = before-after clauses name form c at ok (omega (arith, is.1)) m in
        let long : length (named_of clauses) ≡ length clauses = length-map clauses (λ d. by_name clauses d) in
        let called_so : place_of clauses c.name ≡ place_of clauses name = ap (place_of clauses) m.name_is in
        rw (known, all_known, place, front, is_named-place clauses name, long, called_so)
        (last (place_of clauses name) (reads_before at c) (nat_le 65535 (length clauses)) refl refl
        (λ new test. placed-insert clauses name form c at are ok is.1 new m test))
      where
        last : (p : Option ℕ) (b full : Bool) → place_of clauses name ≡ p → reads_before at c ≡ b
            → (place_of clauses name ≡ None → reads_before at c ≡ true
            → placed (insert (named_of clauses) at (record { name = name; form = form })) ≡ insert (map (moved (up at)) clauses) at c)
            → resolved (cond (is_some p) (Err DoubleName) (cond (not b) (Err NotEarlier) (cond full (Err Full) (Ok (insert (named_of clauses) at (record { name = name; form = form }))))))
            ≡ cond (is_some p) (Err DoubleName) (cond (not b) (Err NotEarlier) (cond full (Err Full) (Ok (insert (map (moved (up at)) clauses) at c))))
        last (Some i) b full is test same = refl
        last None false full is test same = refl
        last None true true is test same = refl
        last None true false is test same = ap Ok (same is test)

-- an argument of a clause is a name exactly where an operand stands at its place
argument-read : (clauses : List Clause) (name : List ℕ) (at k : ℕ) (c : Clause) → AreClauses clauses → place_of clauses name ≡ Some at
    → slice_get clauses k ≡ Some c → has_argument name (by_name clauses c) ≡ reads at c
argument-read clauses name at k c are e there =
    by (arity_of c.op) (arity-two c.op) (λ h. equal c.a (stands.fits.first h)) (λ h. equal c.b (stands.fits.second h))
  where
    stands : IsClauseAt k c
    stands = are.each k c there

    equal : (i : ℕ) → i < k → bytes_eq name (name_at clauses i) ≡ (i == at)
    equal i less =
        test (bytes_eq name (name_at clauses i)) (i == at) refl refl
      where
        within : i < length clauses
        within = omega (arith, less, slice_get_within clauses k c there)

        test : (p q : Bool) → bytes_eq name (name_at clauses i) ≡ p → (i == at) ≡ q → p ≡ q
        test true true is is_at = refl
        test false false is is_at = refl
        test true false is is_at =
            let same = (bytes_decides name (name_at clauses i)).0 is in
            let both : Some at ≡ Some i = sym e ∙ ap (place_of clauses) same ∙ place-there clauses i are within in
            let equals : at ≡ i = (cc) in
            grind (arith, nat_tests)
        test false true is is_at =
            let equals : i ≡ at = grind (arith, nat_tests) in
            let same : name ≡ name_at clauses i = sym (name_there clauses at name e) ∙ ap (name_at clauses) (sym equals) in
            let so = (bytes_decides name (name_at clauses i)).1 same in
            (cc)

    by : (n : ℕ) → n ≤ 2 → (0 < n → bytes_eq name (name_at clauses c.a) ≡ (c.a == at)) → (1 < n → bytes_eq name (name_at clauses c.b) ≡ (c.b == at))
        → list_any (λ arg. bytes_eq name arg) (take n (name_at clauses c.a ∷ name_at clauses c.b ∷ []))
        ≡ ((nat_le 1 n && c.a == at) || (nat_le 2 n && c.b == at))
    by zero few first second = refl
    by (suc zero) few first second = rw (first (omega arith)) refl
    by (suc (suc zero)) few first second = rw (first (omega arith), second (omega arith)) (alike (c.a == at) (c.b == at))
      where
        alike : (p q : Bool) → (p || (q || false)) ≡ (p || q)
        alike true q = refl
        alike false true = refl
        alike false false = refl
    by (suc (suc (suc n))) few first second = absurd (omega (arith, few))

-- where no clause reads a place, no operand stands there
pub unread : (at : ℕ) (clauses : List Clause) → position (reads at) clauses ≡ None → (k : ℕ) (c : Clause) → slice_get clauses k ≡ Some c
    → (0 < arity_of c.op → c.a ≢ at) × (1 < arity_of c.op → c.b ≢ at)
unread at clauses none k c there =
    let absent = list_any-no_position (reads at) clauses none in
    let not_read : reads at c ≡ false = never (reads at c) refl (λ h. list_any-found (reads at) clauses k c there h) absent in
    ((λ h same. apart-first c h same not_read), (λ h same. apart-second c h same not_read))
  where
    never : (b : Bool) → reads at c ≡ b → (reads at c ≡ true → list_any (reads at) clauses ≡ true) → list_any (reads at) clauses ≡ false → b ≡ false
    never true is some none_reads = let found = some is in (cc)
    never false is some none_reads = refl

    apart-first : (d : Clause) → 0 < arity_of d.op → d.a ≡ at → reads at d ≡ false → ⊥
    apart-first d h same unread_there = grind (arith, nat_tests)

    apart-second : (d : Clause) → 1 < arity_of d.op → d.b ≡ at → reads at d ≡ false → ⊥
    apart-second d h same unread_there = grind (arith, nat_tests)

-- named clauses without one that no other has as an argument, by places
placed-remove : (clauses : List Clause) (at : ℕ) → AreClauses clauses → at < length clauses → position (reads at) clauses ≡ None
    → placed (remove (named_of clauses) at) ≡ remove (map (moved (down at)) clauses) at
placed-remove clauses at are within none =
    map-cut (λ d. by_place all d) (named_of clauses) at
    ∙ ap (λ ys. remove ys at)
    (map-map (λ d. by_place all d) (λ d. by_name clauses d) clauses
    ∙ map-alike (λ d. by_place all (by_name clauses d)) (moved (down at)) clauses (λ k d there.
    let stands = are.each k d there in
    let free = unread at clauses none k d there in
    by_place-moved clauses all (down at) k d stands
    (λ h. rw same (shifted d.a (earlier k d there (stands.fits.first h)) (free.0 h)))
    (λ h. rw same (shifted d.b (earlier k d there (stands.fits.second h)) (free.1 h)))))
  where
    all : List Named
    all = remove (named_of clauses) at

    same : names all ≡ remove (names_of clauses) at
    same = map-cut (λ d. d.name) (named_of clauses) at ∙ ap (λ ys. remove ys at) (names-named clauses)

    earlier : (k : ℕ) (d : Clause) {i : ℕ} → slice_get clauses k ≡ Some d → i < k → i < length clauses
    earlier k d there less = omega (arith, less, slice_get_within clauses k d there)

    shifted : (i : ℕ) → i < length clauses → i ≢ at → at_name (name_at clauses i) (remove (names_of clauses) at) ≡ down at i
    shifted i less other =
        let own = own-place clauses i are less in
        at-remove (name_at clauses i) (names_of clauses) at (omega (arith, within, length-map clauses (λ (d : Clause). d.name))) (λ h. other (sym own ∙ h))
        ∙ ap (down at) own

-- a clause less, by names and by places
pub edited-cut : (clauses : List Clause) (name : List ℕ) → AreClauses clauses → edited clauses (edit.Cut name) ≡ taken_out clauses name
edited-cut clauses name are = by (place_of clauses name) refl
  where
    by : (o : Option ℕ) → place_of clauses name ≡ o → edited clauses (edit.Cut name) ≡ option_map_or (without_clause clauses) o (Err UnknownName)
    by None e =
        let unknown : is_named (named_of clauses) name ≡ false = is_named-place clauses name ∙ ap is_some e in
        rw unknown refl
    by (Some at) e =
        let known : is_named (named_of clauses) name ≡ true = is_named-place clauses name ∙ ap is_some e in
        let is = place-is clauses name at e in
        let place : place_among (named_of clauses) name ≡ at = place-named clauses name ∙ is.0 in
        let users : position (has_argument name) (named_of clauses) ≡ position (reads at) clauses =
        position-map (λ c. by_name clauses c) (has_argument name) clauses
        ∙ position-alike (λ c. has_argument name (by_name clauses c)) (reads at) clauses (λ k c there. argument-read clauses name at k c are e there) in
        let long : length (named_of clauses) ≡ length clauses = length-map clauses (λ d. by_name clauses d) in
        rw (known, place, users, long) (last (position (reads at) clauses) (nat_le (length clauses) 1) refl (placed-remove clauses at are is.1))
      where
        last : (u : Option ℕ) (only : Bool) → position (reads at) clauses ≡ u
            → (position (reads at) clauses ≡ None → placed (remove (named_of clauses) at) ≡ remove (map (moved (down at)) clauses) at)
            → resolved (option_map_or (λ user. Err (InUse user)) u (cond only (Err LastClause) (Ok (remove (named_of clauses) at))))
            ≡ option_map_or (λ user. Err (InUse user)) u (cond only (Err LastClause) (Ok (remove (map (moved (down at)) clauses) at)))
        last (Some user) only is same = refl
        last None true is same = refl
        last None false is same = ap Ok (same is)
