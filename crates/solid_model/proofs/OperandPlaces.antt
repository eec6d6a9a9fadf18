-- Where the operands of a clause stand, also after a number was moved.
use Rattle.std.proofs.Common.{◌≡◌, ◌≢◌, ℕ, ◌<◌, ◌≤◌, Bool, true, false, cond, nat_le, List, length, Some, slice_get, refl, ap, sym, subst, ◌∙◌, arith}
use Rattle.std.proofs.lemmas.Bool.Decides.{nat_tests}
use Rattle.std.proofs.lemmas.Option.{get_or_from_slice_get, slice_get-get_or}
use Rattle.indexmap.specs.IndexMap.{move_index}
use Rattle.fixed_ops.specs.Arity.{arity_of}
use Rattle.solid_model.specs.declared.clause.Clause.{Clause}
use Rattle.solid_model.specs.declared.row.Row.{Row}
use Rattle.solid_model.specs.Clauses.{AreInOrder}
use Rattle.solid_model.specs.Moves.{AreNoted}
use Rattle.solid_model.specs.Surgery.{moved}
use Rattle.solid_model.specs.Tables.{clause_by, clause_of, clauses_of, row_of, standing_place, ArePlaces, HasOperandsBefore, IsNumbered, IsTable, Standing}
use Rattle.solid_model.proofs.MoveLemmas.{move-is, place-moved, shifted}
use Rattle.solid_model.proofs.Lookups.{clause-there, number-within}

-- a clause whose operands have moved
pub clause_by-moved : (order new : Standing) (to : ℕ → ℕ) (name : List ℕ) (row : Row)
    → (0 < arity_of row.op → standing_place new row.a ≡ to (standing_place order row.a))
    → (1 < arity_of row.op → standing_place new row.b ≡ to (standing_place order row.b))
    → clause_by new name row ≡ moved to (clause_by order name row)
clause_by-moved order new to name row first second =
    ap (λ (n : ℕ). record { name = name; op = row.op; a = n; b = (clause_by new name row).b; value = row.value })
    (choose (nat_le 1 (arity_of row.op)) (standing_place new row.a) (standing_place order row.a) (λ h. first (grind (arith, nat_tests))))
    ∙ ap (λ (n : ℕ). record { name = name; op = row.op; a = (moved to (clause_by order name row)).a; b = n; value = row.value })
    (choose (nat_le 2 (arity_of row.op)) (standing_place new row.b) (standing_place order row.b) (λ h. second (grind (arith, nat_tests))))
  where
    choose : (b : Bool) (m n : ℕ) → (b ≡ true → m ≡ to n) → cond b m 0 ≡ cond b (to (cond b n 0)) (cond b n 0)
    choose true m n h = h refl
    choose false m n h = refl

pub moved-nowhere : (c : Clause) → moved (λ k. k) c ≡ c
moved-nowhere c =
    ap (λ (n : ℕ). record { name = c.name; op = c.op; a = n; b = cond (nat_le 2 (arity_of c.op)) c.b c.b; value = c.value }) (either (nat_le 1 (arity_of c.op)) c.a)
    ∙ ap (λ (n : ℕ). record { name = c.name; op = c.op; a = c.a; b = n; value = c.value }) (either (nat_le 2 (arity_of c.op)) c.b)
  where
    either : (b : Bool) (n : ℕ) → cond b n n ≡ n
    either true n = refl
    either false n = refl

-- a clause by its numbers, where each operand stands at its place
pub clause_by-is : (order : Standing) (numbers : List ℕ) (place : ℕ) (clause : Clause) (row : Row) → IsNumbered numbers clause row → HasOperandsBefore place clause
    → ((a n : ℕ) → a < place → slice_get numbers a ≡ Some n → standing_place order n ≡ a) → clause_by order clause.name row ≡ clause
clause_by-is order numbers place clause row is fits found =
    ap (λ (n : ℕ). record { name = clause.name; op = row.op; a = n; b = (clause_by order clause.name row).b; value = row.value })
    (choose (nat_le 1 (arity_of row.op)) (standing_place order row.a) clause.a
    (λ h. let has : 0 < arity_of clause.op = omega (arith, same, more 1 (arity_of row.op) h) in found clause.a row.a (fits.first has) (is.first has))
    (λ h. fits.no_first (omega (arith, same, less 1 (arity_of row.op) h))))
    ∙ ap (λ (n : ℕ). record { name = clause.name; op = row.op; a = clause.a; b = n; value = row.value })
    (choose (nat_le 2 (arity_of row.op)) (standing_place order row.b) clause.b
    (λ h. let has : 1 < arity_of clause.op = omega (arith, same, more 2 (arity_of row.op) h) in found clause.b row.b (fits.second has) (is.second has))
    (λ h. fits.no_second (omega (arith, same, less 2 (arity_of row.op) h))))
    ∙ ap (λ o. record { name = clause.name; op = o; a = clause.a; b = clause.b; value = row.value }) is.op
    ∙ ap (λ v. record { name = clause.name; op = clause.op; a = clause.a; b = clause.b; value = v }) is.value
  where
    same : arity_of row.op ≡ arity_of clause.op
    same = ap arity_of is.op

    more : (k n : ℕ) → nat_le k n ≡ true → k ≤ n
    more k n h = grind (arith, nat_tests)

    less : (k n : ℕ) → nat_le k n ≡ false → n < k
    less k n h = grind (arith, nat_tests)

    choose : (b : Bool) (m n : ℕ) → (b ≡ true → m ≡ n) → (b ≡ false → n ≡ 0) → cond b m 0 ≡ n
    choose true m n h k = h refl
    choose false m n h k = sym (k refl)

module _ (order : Standing) (count : ℕ) (rows : List Row) (names : List (List ℕ)) (t : IsTable order count rows names) where
  pub operand-known : (a : ℕ) → a < length order.numbers → slice_get order.places a ≡ Some (standing_place order a)
  operand-known a h = slice_get-get_or order.places a 0 (omega (arith, h, t.places.as_many))

  -- the place of an operand after a number was moved
  pub operand-moved : (new : Standing) (from to x a : ℕ) → slice_get order.numbers from ≡ Some x → to < length order.numbers → ArePlaces new → new.numbers ≡ move_index order.numbers from to
      → a < length order.numbers → standing_place order a ≢ from → standing_place new a ≡ shifted from to (standing_place order a)
  operand-moved new from to x a at fits are is within other =
      let made = is ∙ move-is order.numbers from to x at in
      get_or_from_slice_get new.places a _ 0
      (place-moved order from to x t.places at fits new.places (subst (λ ns. AreNoted ns new.places) made are.there) a (standing_place order a) (operand-known a within) other)

  -- where the operands of a clause that stands are
  pub first-operand : (place n : ℕ) → AreInOrder (clauses_of order count rows names) → place < count → slice_get order.numbers place ≡ Some n → 0 < arity_of (row_of rows n).op
      → ((row_of rows n).a < length order.numbers) × (standing_place order (row_of rows n).a < place)
  first-operand place n in_order front at h =
      let test : nat_le 1 (arity_of (row_of rows n).op) ≡ true = grind (arith, nat_tests) in
      let row : slice_get rows n ≡ Some (row_of rows n) =
      slice_get-get_or rows n _ (omega (arith, number-within order count rows names t place n at, t.rows_are)) in
      let less = (in_order place (clause_of order rows names n) (clause-there order count rows names t place n front at)).fits.first h in
      (t.first n (row_of rows n) row h, rw test at less)

  pub second-operand : (place n : ℕ) → AreInOrder (clauses_of order count rows names) → place < count → slice_get order.numbers place ≡ Some n → 1 < arity_of (row_of rows n).op
      → ((row_of rows n).b < length order.numbers) × (standing_place order (row_of rows n).b < place)
  second-operand place n in_order front at h =
      let test : nat_le 2 (arity_of (row_of rows n).op) ≡ true = grind (arith, nat_tests) in
      let row : slice_get rows n ≡ Some (row_of rows n) =
      slice_get-get_or rows n _ (omega (arith, number-within order count rows names t place n at, t.rows_are)) in
      let less = (in_order place (clause_of order rows names n) (clause-there order count rows names t place n front at)).fits.second h in
      (t.second n (row_of rows n) row h, rw test at less)

  pub IsTable-moved : (new : Standing) (after : ℕ) → ArePlaces new → length new.numbers ≡ length order.numbers → after ≤ length order.numbers → IsTable new after rows names
  IsTable-moved new after are long within = record {
    places = are;
    within = omega (arith, within, long);
    rows_are = t.rows_are ∙ sym long;
    names_are = t.names_are ∙ sym long;
    first = λ n row at h. omega (arith, t.first n row at h, long);
    second = λ n row at h. omega (arith, t.second n row at h, long);
    distinct = t.distinct;
  }
