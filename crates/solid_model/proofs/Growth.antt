-- One number more, behind all others, whose row says nothing.
use Rattle.std.proofs.Common.{◌≡◌, ℕ, ◌+◌, ◌<◌, inl, inr, false, List, [], ◌∷◌, ◌++◌, length, map, take, Some, slice_get, ap, sym, subst, ◌∙◌, arith}
use Rattle.std.specs.List.{list_any}
use Rattle.std.specs.Str.{bytes_eq}
use Rattle.std.specs.Cmp.Lexicographic.{bytes_decides}
use Rattle.std.proofs.lemmas.List.{get_or_append_left, length-append}
use Rattle.std.proofs.lemmas.Option.{slice_get-get_or, slice_get_within}
use Rattle.fixed_ops.specs.Arity.{arity_of}
use Rattle.solid_model.specs.declared.row.Row.{Row}
use Rattle.solid_model.specs.Tables.{clause_by, clause_of, clauses_of, label_of, no_row, row_of, standing_place, ArePlaces, IsTable, Standing, standing_rows}
use Rattle.solid_model.proofs.ListLemmas.{get-last, get-push, get-take, take-front}
use Rattle.solid_model.proofs.ModelLemmas.{slice_get-push}
use Rattle.solid_model.proofs.NamePlaces.{map-alike}
use Rattle.solid_model.proofs.OperandPlaces.{clause_by-moved, moved-nowhere}
use Rattle.solid_model.proofs.Lookups.{nowhere, number-within}

-- one number more, behind all others
abbrev pub grown : Standing → Standing
grown order = record { numbers = order.numbers ++ length order.numbers ∷ []; places = order.places ++ length order.numbers ∷ [] }

module _ (order : Standing) (count : ℕ) (rows : List Row) (names : List (List ℕ)) (t : IsTable order count rows names) where
  pub ArePlaces-grown : length order.numbers < 65535 → ArePlaces (grown order)
  ArePlaces-grown room = record {
    few = omega (arith, room, length-append order.numbers (length order.numbers ∷ []));
    as_many = omega (arith, t.places.as_many, length-append order.numbers (length order.numbers ∷ []), length-append order.places (length order.numbers ∷ []));
    there = λ place n e. elim (slice_get-push order.numbers (length order.numbers) place n e) [
      | inl old ↦ get-push order.places (length order.numbers) n (omega (arith, number-within order count rows names t place n old, t.places.as_many)) ∙ t.places.there place n old
      | inr last ↦ rw (last.0, last.1) (last-place t.places.as_many)
    ];
    back = λ n place e. elim (slice_get-push order.places (length order.numbers) n place e) [
      | inl old ↦ get-push order.numbers (length order.numbers) place (slice_get_within order.numbers place n (t.places.back n place old)) ∙ t.places.back n place old
      | inr last ↦ rw (last.0, last.1, t.places.as_many) (get-last order.numbers (length order.numbers))
    ];
  }
    where
      last-place : length order.places ≡ length order.numbers → slice_get (order.places ++ length order.numbers ∷ []) (length order.numbers) ≡ Some (length order.numbers)
      last-place same = subst (λ k. slice_get (order.places ++ length order.numbers ∷ []) k ≡ Some (length order.numbers)) same (get-last order.places (length order.numbers))

  module _ (room : length order.numbers < 65535) (key : List ℕ) (new_name : list_any (λ k. bytes_eq key k) names ≡ false) where
    more : length (order.numbers ++ length order.numbers ∷ []) ≡ length order.numbers + 1
    more = length-append order.numbers (length order.numbers ∷ [])

    pub IsTable-grown : IsTable (grown order) count (rows ++ no_row ∷ []) (names ++ key ∷ [])
    IsTable-grown = record {
      places = ArePlaces-grown room;
      within = omega (arith, t.within, more);
      rows_are = omega (arith, t.rows_are, more, length-append rows (no_row ∷ []));
      names_are = omega (arith, t.names_are, more, length-append names (key ∷ []));
      first = λ n r at h. elim (slice_get-push rows no_row n r at) [
        | inl old ↦ omega (arith, t.first n r old h, more)
        | inr last ↦ absurd (nothing (subst (λ s. 0 < arity_of s.op) last.1 h))
      ];
      second = λ n r at h. elim (slice_get-push rows no_row n r at) [
        | inl old ↦ omega (arith, t.second n r old h, more)
        | inr last ↦ absurd (nothing (omega (arith, subst (λ s. 1 < arity_of s.op) last.1 h)))
      ];
      distinct = λ i j x y at_i at_j same. elim (slice_get-push names key i x at_i) [
        | inl old ↦ elim (slice_get-push names key j y at_j) [
          | inl too ↦ t.distinct i j x y old too same
          | inr last ↦ absurd (other i x old (sym (same ∙ ap (λ (k : List ℕ). k) last.1)))
        ]
        | inr last ↦ elim (slice_get-push names key j y at_j) [
          | inl old ↦ absurd (other j y old (ap (λ (k : List ℕ). k) (sym last.1) ∙ same))
          | inr too ↦ last.0 ∙ sym too.0
        ]
      ];
    }
      where
        nothing : 0 < arity_of no_row.op → ⊥
        nothing h = omega (arith, h)

        other : (n : ℕ) (k : List ℕ) → slice_get names n ≡ Some k → key ≡ k → ⊥
        other n k at same =
            let no = nowhere names (λ (k : List ℕ). bytes_eq key k) new_name n k at in
            let yes = (bytes_decides key k).1 same in
            (cc)

    place-kept : (a : ℕ) → a < length order.numbers → standing_place (grown order) a ≡ standing_place order a
    place-kept a h = get_or_append_left order.places (length order.numbers ∷ []) 0 a (omega (arith, h, t.places.as_many))

    pub clauses-grown : clauses_of (grown order) count (rows ++ no_row ∷ []) (names ++ key ∷ []) ≡ clauses_of order count rows names
    clauses-grown =
        ap (map (clause_of (grown order) (rows ++ no_row ∷ []) (names ++ key ∷ []))) (take-front order.numbers (length order.numbers ∷ []) count t.within)
        ∙ map-alike (clause_of (grown order) (rows ++ no_row ∷ []) (names ++ key ∷ [])) (clause_of order rows names) (take count order.numbers) (λ k n e.
        let got = get-take order.numbers count k n e in
        one n (number-within order count rows names t k n got.1))
      where
        one : (n : ℕ) → n < length order.numbers → clause_of (grown order) (rows ++ no_row ∷ []) (names ++ key ∷ []) n ≡ clause_of order rows names n
        one n known =
            let row_is : row_of (rows ++ no_row ∷ []) n ≡ row_of rows n = get_or_append_left rows (no_row ∷ []) no_row n (omega (arith, known, t.rows_are)) in
            let there : slice_get rows n ≡ Some (row_of rows n) = slice_get-get_or rows n no_row (omega (arith, known, t.rows_are)) in
            let label_is : label_of (names ++ key ∷ []) n ≡ label_of names n =
            get_or_append_left names (key ∷ []) [] n (omega (arith, known, t.names_are)) in
            ap (λ name. clause_by (grown order) name (row_of (rows ++ no_row ∷ []) n)) label_is
            ∙ ap (clause_by (grown order) (label_of names n)) row_is
            ∙ clause_by-moved order (grown order) (λ k. k) (label_of names n) (row_of rows n)
            (λ h. place-kept (row_of rows n).a (t.first n (row_of rows n) there h))
            (λ h. place-kept (row_of rows n).b (t.second n (row_of rows n) there h))
            ∙ moved-nowhere (clause_of order rows names n)

  -- the rows that stand are the same
  pub standing-grown : standing_rows (grown order) count (rows ++ no_row ∷ []) ≡ standing_rows order count rows
  standing-grown =
      ap (map (row_of (rows ++ no_row ∷ []))) (take-front order.numbers (length order.numbers ∷ []) count t.within)
      ∙ map-alike (row_of (rows ++ no_row ∷ [])) (row_of rows) (take count order.numbers) (λ k n e.
      let got = get-take order.numbers count k n e in
      get_or_append_left rows (no_row ∷ []) no_row n (omega (arith, number-within order count rows names t k n got.1, t.rows_are)))
