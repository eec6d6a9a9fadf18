-- Which number has a name, where its clause stands, and how many clauses there are.
use Rattle.std.proofs.Common.{◌≡◌, ℕ, zero, suc, ◌<◌, ◌≤◌, inl, inr, Bool, true, false, List, [], ◌∷◌, length, take, get_or, None, Some, slice_get, refl, ap, sym, subst, ◌∙◌, arith, is_some, nat_lt}
use Rattle.std.specs.List.{list_any, position}
use Rattle.std.specs.Str.{bytes_eq}
use Rattle.std.specs.Cmp.Lexicographic.{bytes_decides}
use Rattle.std.proofs.lemmas.Bool.{cases_lt}
use Rattle.std.proofs.lemmas.Bool.Decides.{nat_tests}
use Rattle.std.proofs.lemmas.List.{length-map}
use Rattle.std.proofs.lemmas.Option.{get_or_from_slice_get, same_Some, slice_get-get_or, slice_get_cases, slice_get_within}
use Rattle.solid_model.specs.declared.clause.Clause.{Clause}
use Rattle.solid_model.specs.declared.row.Row.{Row}
use Rattle.solid_model.specs.Clauses.{place_of}
use Rattle.solid_model.specs.Tables.{clause_of, clauses_of, label_of, row_of, IsTable, Standing, HasName}
use Rattle.solid_model.proofs.ListLemmas.{get-front, in-front, position-at, position-none, position-passes}
use Rattle.solid_model.proofs.ModelLemmas.{list_any-found}
use Rattle.solid_model.proofs.Places.{list_any-no_position}

-- the row of a number
pub row-is : (rows : List Row) (n : ℕ) (row : Row) → slice_get rows n ≡ Some row → row_of rows n ≡ row
row-is rows n row e = get_or_from_slice_get rows n row _ e

-- the name of a number
pub label-is : (names : List (List ℕ)) (n : ℕ) (key : List ℕ) → slice_get names n ≡ Some key → label_of names n ≡ key
label-is names n key e = get_or_from_slice_get names n key [] e

-- a test that passes nowhere passes for no element
pub nowhere : {A : Type 0} (xs : List A) (p : A → Bool) → list_any p xs ≡ false → (n : ℕ) (x : A) → slice_get xs n ≡ Some x → p x ≡ false
nowhere xs p none n x at = by (p x) refl
  where
    by : (b : Bool) → p x ≡ b → b ≡ false
    by false test = refl
    by true test = let some = list_any-found p xs n x at test in (cc)

-- the number of a key that is found is the number of its name
pub has-stored : (names : List (List ℕ)) (name : List ℕ) (n : ℕ) (key k : List ℕ) → key ≡ name → slice_get names n ≡ Some k → bytes_eq key k ≡ true → HasName names name n
has-stored names name n key k named there same = record {
  known = slice_get_within names n k there;
  is = label-is names n k there ∙ sym ((bytes_decides key k).0 same) ∙ named;
}

module _ (order : Standing) (count : ℕ) (rows : List Row) (names : List (List ℕ)) (t : IsTable order count rows names) where
  pub number-within : (place n : ℕ) → slice_get order.numbers place ≡ Some n → n < length order.numbers
  number-within place n e = omega (arith, slice_get_within order.places n place (t.places.there place n e), t.places.as_many)

  -- the clause at a place is that of its number
  pub clause-there : (place n : ℕ) → place < count → slice_get order.numbers place ≡ Some n → slice_get (clauses_of order count rows names) place ≡ Some (clause_of order rows names n)
  clause-there place n h e = get-front (clause_of order rows names) order.numbers count place n h e

  -- no two numbers have one name
  pub label-once : (m n : ℕ) → m < length names → n < length names → label_of names m ≡ label_of names n → m ≡ n
  label-once m n h k same = elim (slice_get_cases names m).1 [
    | inl x ↦ elim (slice_get_cases names n).1 [
      | inl y ↦ t.distinct m n x.0 y.0 x.2 y.2 (sym (label-is names m x.0 x.2) ∙ same ∙ label-is names n y.0 y.2)
      | inr past ↦ absurd (omega (arith, past.0, k))
    ]
    | inr past ↦ absurd (omega (arith, past.0, h))
  ]

  -- a clause of a name stands where the number of that name does
  clause-named : (name : List ℕ) (n k : ℕ) (c : Clause) → HasName names name n → slice_get (clauses_of order count rows names) k ≡ Some c → bytes_eq name c.name ≡ true
      → (slice_get order.places n ≡ Some k) × (k < count)
  clause-named name n k c has at test =
      let is = in-front (clause_of order rows names) order.numbers count k c at in
      let named : label_of names n ≡ label_of names is.item = has.is ∙ (bytes_decides name c.name).0 test ∙ ap (λ (d : Clause). d.name) is.is in
      let number : n ≡ is.item = label-once n is.item has.known (omega (arith, number-within k is.item is.there, t.names_are)) named in
      (subst (λ m. slice_get order.places m ≡ Some k) (sym number) (t.places.there k is.item is.there), is.front)

  -- a test of a clause's name fails where it cannot pass
  not-named : (name : List ℕ) (c : Clause) → (bytes_eq name c.name ≡ true → ⊥) → bytes_eq name c.name ≡ false
  not-named name c never = by (bytes_eq name c.name) refl
    where
      by : (b : Bool) → bytes_eq name c.name ≡ b → b ≡ false
      by false test = refl
      by true test = absurd (never test)

  -- what is named stands where its number stands
  pub found-there : (name : List ℕ) (n place : ℕ) → HasName names name n → slice_get order.places n ≡ Some place → place < count
      → place_of (clauses_of order count rows names) name ≡ Some place
  found-there name n place has stands front =
      position-at (λ (c : Clause). bytes_eq name c.name) (clauses_of order count rows names) place (clause_of order rows names n)
      (clause-there place n front (t.places.back n place stands))
      ((bytes_decides name (label_of names n)).1 (sym has.is))
      (λ k c less at. not-named name c (λ test.
      let found = clause-named name n k c has at test in
      omega (arith, less, same_Some _ _ (sym stands ∙ found.0))))

  -- a name whose number stands behind the clauses is no clause's
  pub found-behind : (name : List ℕ) (n place : ℕ) → HasName names name n → slice_get order.places n ≡ Some place → count ≤ place
      → place_of (clauses_of order count rows names) name ≡ None
  found-behind name n place has stands behind =
      position-none (λ (c : Clause). bytes_eq name c.name) (clauses_of order count rows names)
      (λ k c at. not-named name c (λ test.
      let found = clause-named name n k c has at test in
      omega (arith, behind, found.1, same_Some _ _ (sym stands ∙ found.0))))

  -- so the place of a number tells whether its name is a clause's
  pub is_some-stands : (n place : ℕ) → n < length names → slice_get order.places n ≡ Some place
      → nat_lt place count ≡ is_some (place_of (clauses_of order count rows names) (label_of names n))
  is_some-stands n place known stands = elim (cases_lt place count) [
    | inl front ↦
        let test : nat_lt place count ≡ true = grind (arith, nat_tests) in
        rw (test, found-there (label_of names n) n place (record { known = known; is = refl }) stands front) refl
    | inr behind ↦
        let test : nat_lt place count ≡ false = grind (arith, nat_tests) in
        rw (test, found-behind (label_of names n) n place (record { known = known; is = refl }) stands behind) refl
  ]

  -- a name that no number has is no clause's
  pub found-nowhere : (name : List ℕ) → ((n : ℕ) (key : List ℕ) → slice_get names n ≡ Some key → bytes_eq name key ≡ false)
      → place_of (clauses_of order count rows names) name ≡ None
  found-nowhere name never = position-none (λ (c : Clause). bytes_eq name c.name) (clauses_of order count rows names) other
    where
      other : (k : ℕ) (c : Clause) → slice_get (clauses_of order count rows names) k ≡ Some c → bytes_eq name c.name ≡ false
      other k c at =
          let is = in-front (clause_of order rows names) order.numbers count k c at in
          elim (slice_get_cases names is.item).1 [
            | inl known ↦
                let its : c.name ≡ known.0 = ap (λ (d : Clause). d.name) is.is ∙ label-is names is.item known.0 known.2 in
                ap (bytes_eq name) its ∙ never is.item known.0 known.2
            | inr past ↦ absurd (omega (arith, past.0, number-within k is.item is.there, t.names_are))
          ]

  -- the number that the set finds for a name, and its place
  has-name : (name : List ℕ) (n : ℕ) → position (λ (k : List ℕ). bytes_eq name k) names ≡ Some n → HasName names name n
  has-name name n e =
      let found = position-passes (λ (k : List ℕ). bytes_eq name k) names n e in
      record {
        known = slice_get_within names n found.item found.there;
        is = label-is names n found.item found.there ∙ sym ((bytes_decides name found.item).0 found.test);
      }

  pub place-known : (n place : ℕ) → n < length names → place ≡ get_or order.places n place → slice_get order.places n ≡ Some place
  place-known n place known is = slice_get-get_or order.places n place (omega (arith, known, t.names_are, t.places.as_many)) ∙ ap Some (sym is)

  -- where the set finds a number, the place is that of the number's clause, if it stands
  pub lookup-there : (name : List ℕ) (n place : ℕ) → position (λ (k : List ℕ). bytes_eq name k) names ≡ Some n → place ≡ get_or order.places n place
      → place < count → place_of (clauses_of order count rows names) name ≡ Some place
  lookup-there name n place e is front = let has = has-name name n e in found-there name n place has (place-known n place has.known is) front

  pub lookup-behind : (name : List ℕ) (n place : ℕ) → position (λ (k : List ℕ). bytes_eq name k) names ≡ Some n → place ≡ get_or order.places n place
      → count ≤ place → place_of (clauses_of order count rows names) name ≡ None
  lookup-behind name n place e is behind = let has = has-name name n e in found-behind name n place has (place-known n place has.known is) behind

  pub lookup-nowhere : (name : List ℕ) → position (λ (k : List ℕ). bytes_eq name k) names ≡ None → place_of (clauses_of order count rows names) name ≡ None
  lookup-nowhere name none = found-nowhere name (nowhere names (λ (k : List ℕ). bytes_eq name k) (list_any-no_position (λ (k : List ℕ). bytes_eq name k) names none))

  pub length-clauses : length (clauses_of order count rows names) ≡ count
  length-clauses = length-map (take count order.numbers) (clause_of order rows names) ∙ length-front order.numbers count t.within
    where
      length-front : (xs : List ℕ) (k : ℕ) → k ≤ length xs → length (take k xs) ≡ k
      length-front xs zero h = refl
      length-front [] (suc k) h = absurd (omega (arith, h))
      length-front (x ∷ xs) (suc k) h = ap suc (length-front xs k (omega (arith, h)))
