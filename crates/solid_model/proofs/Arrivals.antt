-- A number that is moved among the others puts its clause in.
use Rattle.std.proofs.Common.{◌≡◌, ℕ, suc, ◌+◌, ◌<◌, ◌≤◌, inl, inr, List, length, map, take, Some, slice_get, ap, sym, subst, ◌∙◌, arith}
use Rattle.std.specs.List.{insert, remove}
use Rattle.std.proofs.lemmas.Bool.{cases_lt}
use Rattle.std.proofs.lemmas.Option.{get_or_from_slice_get, slice_get_within}
use Rattle.std.proofs.lemmas.Simd.{map-map}
use Rattle.indexmap.specs.IndexMap.{move_index}
use Rattle.solid_model.specs.declared.clause.Clause.{Clause}
use Rattle.solid_model.specs.declared.row.Row.{Row}
use Rattle.solid_model.specs.Clauses.{AreInOrder}
use Rattle.solid_model.specs.Surgery.{moved, up}
use Rattle.solid_model.specs.Tables.{clause_by, clause_of, clauses_of, label_of, row_of, standing_place, ArePlaces, HasOperandsBefore, IsNumbered, IsTable, Standing}
use Rattle.solid_model.proofs.ListLemmas.{get-take, take-insert, take-remove}
use Rattle.solid_model.proofs.MoveLemmas.{move-is, shifted, shifted-front, shifted-up}
use Rattle.solid_model.proofs.NamePlaces.{map-alike, map-put, up-le, up-less}
use Rattle.solid_model.proofs.OperandPlaces.{clause_by-is, first-operand, second-operand, clause_by-moved, operand-moved}
use Rattle.solid_model.proofs.Lookups.{number-within, row-is}

module _ (order : Standing) (count : ℕ) (rows : List Row) (names : List (List ℕ)) (t : IsTable order count rows names) where
  -- the numbers that stand then
  pub front-stood : (new : Standing) (at from m : ℕ) → at ≤ count → count ≤ from → slice_get order.numbers from ≡ Some m → new.numbers ≡ move_index order.numbers from at
      → take (count + 1) new.numbers ≡ insert (take count order.numbers) at m
  front-stood new at from m front behind number is =
      let next : suc count ≡ count + 1 = omega arith in
      ap (take (count + 1)) (is ∙ move-is order.numbers from at m number)
      ∙ subst (λ k. take k (insert (remove order.numbers from) at m) ≡ insert (take count (remove order.numbers from)) at m) next
      (take-insert (remove order.numbers from) at count m front)
      ∙ ap (λ ns. insert ns at m) (take-remove order.numbers from count behind)

  -- a number that is moved among the others puts its clause in
  pub clauses-stood : (new : Standing) (at from m : ℕ) (clause : Clause) (row : Row) → AreInOrder (clauses_of order count rows names) → at ≤ count → count ≤ from
      → slice_get order.numbers from ≡ Some m → slice_get rows m ≡ Some row → label_of names m ≡ clause.name → IsNumbered order.numbers clause row → HasOperandsBefore at clause
      → ArePlaces new → new.numbers ≡ move_index order.numbers from at
      → clauses_of new (count + 1) rows names ≡ insert (map (moved (up at)) (clauses_of order count rows names)) at clause
  clauses-stood new at from m clause row in_order front behind number row_there label numbered fits are is =
      ap (map (clause_of new rows names)) (front-stood new at from m front behind number is)
      ∙ map-put (clause_of new rows names) (take count order.numbers) at m
      ∙ ap (λ c. insert (map (clause_of new rows names) (take count order.numbers)) at c) new_is
      ∙ ap (λ cs. insert cs at clause)
      (map-alike (clause_of new rows names) (λ n. moved (up at) (clause_of order rows names n)) (take count order.numbers)
      (λ k n e. let got = get-take order.numbers count k n e in one n k got.0 got.1)
      ∙ sym (map-map (moved (up at)) (clause_of order rows names) (take count order.numbers)))
    where
      within : from < length order.numbers
      within = slice_get_within order.numbers from m number

      to_fits : at < length order.numbers
      to_fits = omega (arith, front, behind, within)

      place-up : (a j : ℕ) → a < length order.numbers → standing_place order a < j → j < count → standing_place new a ≡ up at (standing_place order a)
      place-up a j known less fits =
          operand-moved order count rows names t new from at m a number to_fits are is known (λ same. omega (arith, same, less, fits, behind))
          ∙ elim (cases_lt (standing_place order a) at) [
            | inl before ↦
                shifted-front from at (standing_place order a) (omega (arith, less, fits, behind)) before
                ∙ sym (up-less at (standing_place order a) before)
            | inr le ↦
                shifted-up from at (standing_place order a) (omega (arith, less, fits, behind)) le
                ∙ sym (up-le at (standing_place order a) le)
          ]

      one : (n j : ℕ) → j < count → slice_get order.numbers j ≡ Some n → clause_of new rows names n ≡ moved (up at) (clause_of order rows names n)
      one n j fits e =
          clause_by-moved order new (up at) (label_of names n) (row_of rows n)
          (λ h. let known = first-operand order count rows names t j n in_order fits e h in place-up (row_of rows n).a j known.0 known.1 fits)
          (λ h. let known = second-operand order count rows names t j n in_order fits e h in place-up (row_of rows n).b j known.0 known.1 fits)

      found : (a n : ℕ) → a < at → slice_get order.numbers a ≡ Some n → standing_place new n ≡ a
      found a n less e =
          let known = number-within order count rows names t a n e in
          let stood : standing_place order n ≡ a = get_or_from_slice_get order.places n a 0 (t.places.there a n e) in
          operand-moved order count rows names t new from at m n number to_fits are is known (λ same. omega (arith, same, stood, less, front, behind))
          ∙ ap (shifted from at) stood ∙ shifted-front from at a (omega (arith, less, front, behind)) less

      new_is : clause_of new rows names m ≡ clause
      new_is =
          ap (λ name. clause_by new name (row_of rows m)) label
          ∙ ap (clause_by new clause.name) (row-is rows m row row_there)
          ∙ clause_by-is new order.numbers at clause row numbered fits found
