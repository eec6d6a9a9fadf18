-- A number that is moved behind the others takes its clause out.
use Rattle.std.proofs.Common.{◌≡◌, ◌≢◌, ℕ, suc, ◌<◌, ◌==◌, inl, inr, true, false, cond, nat_le, ◌&&◌, ◌||◌, List, length, map, take, None, Some, slice_get, ap, sym, subst, ◌∙◌, arith}
use Rattle.std.specs.List.{position, remove}
use Rattle.std.proofs.lemmas.Bool.{cases_lt}
use Rattle.std.proofs.lemmas.Bool.Decides.{nat_tests}
use Rattle.std.proofs.lemmas.List.Edits.{length-remove}
use Rattle.std.proofs.lemmas.Simd.{map-map}
use Rattle.indexmap.specs.IndexMap.{move_index}
use Rattle.fixed_ops.specs.Arity.{arity_of}
use Rattle.solid_model.specs.declared.row.Row.{Row}
use Rattle.solid_model.specs.Clauses.{AreInOrder}
use Rattle.solid_model.specs.Surgery.{down, moved, reads}
use Rattle.solid_model.specs.Tables.{clause_of, clauses_of, label_of, row_of, standing_place, ArePlaces, IsTable, Standing}
use Rattle.solid_model.proofs.ListLemmas.{get-take, take-insert-end, take-remove-in}
use Rattle.solid_model.proofs.SurgeryLemmas.{unread}
use Rattle.solid_model.proofs.Places.{list_any-no_position}
use Rattle.solid_model.proofs.MoveLemmas.{move-is, shifted-down, shifted-front}
use Rattle.solid_model.proofs.NamePlaces.{down-le, down-more, map-alike, map-cut, slice_get-remove}
use Rattle.solid_model.proofs.OperandPlaces.{first-operand, second-operand, clause_by-moved, operand-moved}
use Rattle.solid_model.proofs.Lookups.{clause-there, nowhere}

module _ (order : Standing) (count : ℕ) (rows : List Row) (names : List (List ℕ)) (t : IsTable order count rows names) where
  -- the numbers that stand then
  pub front-removed : (new : Standing) (at last x : ℕ) → suc last ≡ count → at < count → slice_get order.numbers at ≡ Some x → new.numbers ≡ move_index order.numbers at last
      → take last new.numbers ≡ remove (take count order.numbers) at
  front-removed new at last x ends there number is =
      ap (take last) (is ∙ move-is order.numbers at last x number)
      ∙ take-insert-end (remove order.numbers at) last x (omega (arith, ends, t.within, length-remove order.numbers at (omega (arith, there, t.within))))
      ∙ subst (λ k. take last (remove order.numbers at) ≡ remove (take k order.numbers) at) ends
      (take-remove-in order.numbers at last (omega (arith, there, ends)) (omega (arith, ends, t.within)))

  -- a number that is moved behind takes its clause out
  pub clauses-removed : (new : Standing) (at last x : ℕ) → suc last ≡ count → AreInOrder (clauses_of order count rows names) → at < count
      → position (reads at) (clauses_of order count rows names) ≡ None → slice_get order.numbers at ≡ Some x → ArePlaces new → new.numbers ≡ move_index order.numbers at last
      → clauses_of new last rows names ≡ remove (map (moved (down at)) (clauses_of order count rows names)) at
  clauses-removed new at last x ends in_order there unread number are is =
      ap (map (clause_of new rows names)) (front-removed new at last x ends there number is)
      ∙ map-alike (clause_of new rows names) (λ n. moved (down at) (clause_of order rows names n)) (remove (take count order.numbers) at) alike
      ∙ map-cut (λ n. moved (down at) (clause_of order rows names n)) (take count order.numbers) at
      ∙ ap (λ cs. remove cs at) (sym (map-map (moved (down at)) (clause_of order rows names) (take count order.numbers)))
    where
      within : at < length order.numbers
      within = omega (arith, there, t.within)

      place-down : (a j : ℕ) → a < length order.numbers → standing_place order a < j → j < count → standing_place order a ≢ at
          → standing_place new a ≡ down at (standing_place order a)
      place-down a j known less fits other =
          operand-moved order count rows names t new at last x a number (omega (arith, ends, t.within)) are is known other
          ∙ elim (cases_lt (standing_place order a) at) [
            | inl before ↦ shifted-front at last (standing_place order a) before (omega (arith, less, fits, ends)) ∙ sym (down-le at (standing_place order a) (omega (arith, before)))
            | inr le ↦ elim (cases_lt at (standing_place order a)) [
              | inl behind ↦ shifted-down at last (standing_place order a) behind (omega (arith, less, fits, ends)) ∙ sym (down-more at (standing_place order a) behind)
              | inr few ↦ absurd (other (omega (arith, le, few)))
            ]
          ]

      one : (n j : ℕ) → j < count → slice_get order.numbers j ≡ Some n → clause_of new rows names n ≡ moved (down at) (clause_of order rows names n)
      one n j fits e =
          let stands = clause-there order count rows names t j n fits e in
          let free = nowhere (clauses_of order count rows names) (reads at) (list_any-no_position (reads at) (clauses_of order count rows names) unread) j (clause_of order rows names n) stands in
          clause_by-moved order new (down at) (label_of names n) (row_of rows n)
          (λ h. let known = first-operand order count rows names t j n in_order fits e h in
          place-down (row_of rows n).a j known.0 known.1 fits (λ same. first-read (row_of rows n).op (standing_place order (row_of rows n).a) (clause_of order rows names n).b h free same))
          (λ h. let known = second-operand order count rows names t j n in_order fits e h in
          place-down (row_of rows n).b j known.0 known.1 fits (λ same. second-read (row_of rows n).op (clause_of order rows names n).a (standing_place order (row_of rows n).b) h free same))
        where
          first-read : (op : _) (a b : ℕ) → 0 < arity_of op
              → ((nat_le 1 (arity_of op) && cond (nat_le 1 (arity_of op)) a 0 == at) || (nat_le 2 (arity_of op) && b == at)) ≡ false → a ≡ at → ⊥
          first-read op a b h free same =
              let test : nat_le 1 (arity_of op) ≡ true = grind (arith, nat_tests) in
              let no = rw test at free in
              grind (arith, nat_tests)

          second-read : (op : _) (a b : ℕ) → 1 < arity_of op
              → ((nat_le 1 (arity_of op) && a == at) || (nat_le 2 (arity_of op) && cond (nat_le 2 (arity_of op)) b 0 == at)) ≡ false → b ≡ at → ⊥
          second-read op a b h free same =
              let test : nat_le 2 (arity_of op) ≡ true = grind (arith, nat_tests) in
              let no = rw test at free in
              grind (arith, nat_tests)

      alike : (k n : ℕ) → slice_get (remove (take count order.numbers) at) k ≡ Some n → clause_of new rows names n ≡ moved (down at) (clause_of order rows names n)
      alike k n e = elim (slice_get-remove (take count order.numbers) at k n e) [
        | inl before ↦ let got = get-take order.numbers count k n before.1 in one n k got.0 got.1
        | inr behind ↦ let got = get-take order.numbers count (suc k) n behind.1 in one n (suc k) got.0 got.1
      ]
