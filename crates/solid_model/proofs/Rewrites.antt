-- Rows and names that are written anew.
use Rattle.std.proofs.Common.{◌≡◌, ◌≢◌, ℕ, zero, suc, ◌<◌, ◌≤◌, inl, inr, false, List, [], ◌∷◌, ◌++◌, length, set, take, Option, None, Some, IfSome, slice_get, ap, sym, subst, ◌∙◌, arith}
use Rattle.std.specs.List.{list_any, swap_remove}
use Rattle.std.specs.Str.{bytes_eq}
use Rattle.std.specs.Cmp.Lexicographic.{bytes_decides}
use Rattle.std.proofs.lemmas.List.{length-set}
use Rattle.std.proofs.lemmas.Option.{get_or_from_slice_get, same_Some, slice_get_cases, unwrap_or-slice_get}
use Rattle.std.specs.Option.{unwrap_or}
use Rattle.fixed_ops.specs.Arity.{arity_of}
use Rattle.solid_model.specs.declared.clause.Clause.{Clause}
use Rattle.solid_model.specs.declared.row.Row.{Row}
use Rattle.solid_model.specs.Clauses.{place_of}
use Rattle.solid_model.specs.Tables.{clause_by, clause_of, clauses_of, label_of, no_row, row_of, standing_place, HasOperandsBefore, IsNumbered, IsTable, Standing}
use Rattle.solid_model.proofs.ListLemmas.{get-last, get-push, get-set, get-set-other, get-take, map-but-one, position-passes, swap-last, swap-end}
use Rattle.solid_model.proofs.NamePlaces.{map-alike, slice_get-set}
use Rattle.solid_model.proofs.OperandPlaces.{clause_by-is}
use Rattle.solid_model.proofs.Lookups.{clause-there, nowhere, number-within, row-is}

module _ (order : Standing) (count : ℕ) (rows : List Row) (names : List (List ℕ)) (t : IsTable order count rows names) where
  -- rows and names of other numbers than one that does not stand, or whose clause is told, stay
  pub row-kept : (m n : ℕ) (row : Row) → n ≢ m → row_of (set rows m row) n ≡ row_of rows n
  row-kept m n row other =
      sym (unwrap_or-slice_get (set rows m row) n no_row) ∙ ap (λ o. unwrap_or o no_row) (get-set-other rows m row n other) ∙ unwrap_or-slice_get rows n no_row

  -- a row that is written anew changes the clause at its place
  pub clauses-written : (at m : ℕ) (clause : Clause) (row : Row) → at < count → slice_get order.numbers at ≡ Some m → place_of (clauses_of order count rows names) clause.name ≡ Some at
      → IsNumbered order.numbers clause row → HasOperandsBefore at clause → clauses_of order count (set rows m row) names ≡ set (clauses_of order count rows names) at clause
  clauses-written at m clause row there number named numbered fits =
      map-but-one (clause_of order (set rows m row) names) (clause_of order rows names) (take count order.numbers) at m (get-taken order.numbers count at m there number)
      (λ k n other e.
      let got = get-take order.numbers count k n e in
      ap (clause_by order (label_of names n)) (row-kept m n row (λ same. other (place-same k n got.1 same))))
      ∙ ap (λ c. set (clauses_of order count rows names) at c) new_is
    where
      get-taken : (xs : List ℕ) (k j x : ℕ) → j < k → slice_get xs j ≡ Some x → slice_get (take k xs) j ≡ Some x
      get-taken [] k j x h e = (cc)
      get-taken (y ∷ ys) zero j x h e = absurd (omega (arith, h))
      get-taken (y ∷ ys) (suc k) zero x h e = e
      get-taken (y ∷ ys) (suc k) (suc j) x h e = get-taken ys k j x (omega (arith, h)) e

      place-same : (k n : ℕ) → slice_get order.numbers k ≡ Some n → n ≡ m → k ≡ at
      place-same k n e same = same_Some _ _ (sym (t.places.there k n e) ∙ ap (slice_get order.places) same ∙ t.places.there at m number)

      label : label_of names m ≡ clause.name
      label =
          let found = position-passes (λ (c : Clause). bytes_eq clause.name c.name) (clauses_of order count rows names) at named in
          let is : found.item ≡ clause_of order rows names m = same_Some _ _ (sym found.there ∙ clause-there order count rows names t at m there number) in
          sym ((bytes_decides clause.name found.item.name).0 found.test ∙ ap (λ (c : Clause). c.name) is)

      found-place : (a n : ℕ) → a < at → slice_get order.numbers a ≡ Some n → standing_place order n ≡ a
      found-place a n less e = get_or_from_slice_get order.places n a 0 (t.places.there a n e)

      new_is : clause_of order (set rows m row) names m ≡ clause
      new_is =
          ap (λ name. clause_by order name (row_of (set rows m row) m)) label
          ∙ ap (clause_by order clause.name) (row-is (set rows m row) m row (get-set rows m row (omega (arith, number-within order count rows names t at m number, t.rows_are))))
          ∙ clause_by-is order order.numbers at clause row numbered fits found-place

  -- operands of a row by numbers are numbers
  pub first-within : (clause : Clause) (row : Row) → IsNumbered order.numbers clause row → 0 < arity_of row.op → row.a < length order.numbers
  first-within clause row is h = number-within order count rows names t clause.a row.a (is.first (subst (λ o. 0 < arity_of o) is.op h))

  pub second-within : (clause : Clause) (row : Row) → IsNumbered order.numbers clause row → 1 < arity_of row.op → row.b < length order.numbers
  second-within clause row is h = number-within order count rows names t clause.b row.b (is.second (subst (λ o. 1 < arity_of o) is.op h))

  pub IsTable-written : (m : ℕ) (clause : Clause) (row : Row) → IsNumbered order.numbers clause row → IsTable order count (set rows m row) names
  IsTable-written m clause row is = record {
    places = t.places;
    within = t.within;
    rows_are = length-set rows m row ∙ t.rows_are;
    names_are = t.names_are;
    first = λ n r at h. elim (slice_get-set rows m row n r at) [
      | inl new ↦ subst (λ s. 0 < arity_of s.op → s.a < length order.numbers) (sym new.1) (first-within clause row is) h
      | inr old ↦ t.first n r old h
    ];
    second = λ n r at h. elim (slice_get-set rows m row n r at) [
      | inl new ↦ subst (λ s. 1 < arity_of s.op → s.b < length order.numbers) (sym new.1) (second-within clause row is) h
      | inr old ↦ t.second n r old h
    ];
    distinct = t.distinct;
  }

  -- what is written for a number that does not stand changes no clause
  pub clauses-kept : (from m : ℕ) (row : Row) → count ≤ from → slice_get order.numbers from ≡ Some m
      → clauses_of order count (set rows m row) names ≡ clauses_of order count rows names
  clauses-kept from m row behind number =
      map-alike (clause_of order (set rows m row) names) (clause_of order rows names) (take count order.numbers) (λ k n e.
      let got = get-take order.numbers count k n e in
      ap (clause_by order (label_of names n)) (row-kept m n row (λ same. standing-not k n got.0 got.1 same)))
    where
      standing-not : (k n : ℕ) → k < count → slice_get order.numbers k ≡ Some n → n ≡ m → ⊥
      standing-not k n less e same =
          let is : k ≡ from = same_Some _ _ (sym (t.places.there k n e) ∙ ap (slice_get order.places) same ∙ t.places.there from m number) in
          omega (arith, is, less, behind)

  pub names-kept : (from m : ℕ) (key : List ℕ) → count ≤ from → slice_get order.numbers from ≡ Some m
      → clauses_of order count rows (set names m key) ≡ clauses_of order count rows names
  names-kept from m key behind number =
      map-alike (clause_of order rows (set names m key)) (clause_of order rows names) (take count order.numbers) (λ k n e.
      let got = get-take order.numbers count k n e in
      ap (λ name. clause_by order name (row_of rows n)) (label-kept n (λ same. standing-not k n got.0 got.1 same)))
    where
      standing-not : (k n : ℕ) → k < count → slice_get order.numbers k ≡ Some n → n ≡ m → ⊥
      standing-not k n less e same =
          let is : k ≡ from = same_Some _ _ (sym (t.places.there k n e) ∙ ap (slice_get order.places) same ∙ t.places.there from m number) in
          omega (arith, is, less, behind)

      label-kept : (n : ℕ) → n ≢ m → label_of (set names m key) n ≡ label_of names n
      label-kept n other =
          sym (unwrap_or-slice_get (set names m key) n [])
          ∙ ap (λ o. unwrap_or o []) (get-set-other names m key n other)
          ∙ unwrap_or-slice_get names n []

  pub IsTable-named : (m : ℕ) (key : List ℕ) → list_any (λ k. bytes_eq key k) names ≡ false → IsTable order count rows (set names m key)
  IsTable-named m key new = record {
    places = t.places;
    within = t.within;
    rows_are = t.rows_are;
    names_are = length-set names m key ∙ t.names_are;
    first = t.first;
    second = t.second;
    distinct = λ i j x y at_i at_j same. elim (slice_get-set names m key i x at_i) [
      | inl here ↦ elim (slice_get-set names m key j y at_j) [
        | inl too ↦ here.0 ∙ sym too.0
        | inr old ↦ absurd (other j y old (ap (λ (k : List ℕ). k) (sym here.1) ∙ same))
      ]
      | inr old ↦ elim (slice_get-set names m key j y at_j) [
        | inl here ↦ absurd (other i x old (sym (same ∙ ap (λ (k : List ℕ). k) here.1)))
        | inr too ↦ t.distinct i j x y old too same
      ]
    ];
  }
    where
      other : (n : ℕ) (k : List ℕ) → slice_get names n ≡ Some k → key ≡ k → ⊥
      other n k at same =
          let no = nowhere names (λ (k : List ℕ). bytes_eq key k) new n k at in
          let yes = (bytes_decides key k).1 same in
          (cc)

-- the names after one was put last and then took the place of another
pub swapped : (names : List (List ℕ)) (key : List ℕ) (old new : List (List ℕ)) (m : ℕ) (r : Option (List ℕ)) → old ≡ names ++ key ∷ [] → m < length names → r ≡ slice_get old m
    → IfSome r (λ k. new ≡ swap_remove old m k) → new ≡ set names m key
swapped names key old new m None is within got h = elim (slice_get_cases names m).1 [
  | inl known ↦
      let there : slice_get old m ≡ Some known.0 = ap (λ xs. slice_get xs m) is ∙ get-push names key m within ∙ known.2 in
      let no = got ∙ there in
      (cc)
  | inr past ↦ absurd (omega (arith, within, past.0))
]
swapped names key old new m (Some k) is within got h = h ∙ ap (λ xs. swap_remove xs m k) is ∙ swap-last names key k m within

-- the names after one was put last and taken out again
pub unpushed : (names : List (List ℕ)) (key : List ℕ) (old new : List (List ℕ)) (m : ℕ) (r : Option (List ℕ)) → old ≡ names ++ key ∷ [] → m ≡ length names → r ≡ slice_get old m
    → IfSome r (λ k. new ≡ swap_remove old m k) → new ≡ names
unpushed names key old new m None is last got h =
    let there : slice_get old m ≡ Some key = ap (λ xs. slice_get xs m) is ∙ subst (λ k. slice_get (names ++ key ∷ []) k ≡ Some key) (sym last) (get-last names key) in
    let no = got ∙ there in
    (cc)
unpushed names key old new m (Some k) is last got h = h ∙ ap (λ xs. swap_remove xs m k) is ∙ swap-end names key k m last
