-- How what a table keeps changes: one more number, a name for a number, a clause put in, written anew and taken out.
use Rattle.std.proofs.Common.{◌≡◌, ℕ, suc, ◌+◌, ◌<◌, ◌≤◌, List, [], ◌∷◌, ◌++◌, length, map, set, get_or, Some, false, slice_get, ap, sym, subst, ◌∙◌, arith, IfSome, inl, inr, refl, ◌⊎◌, Option}
use Rattle.std.specs.List.{insert, list_any, position, swap_remove}
use Rattle.std.specs.Str.{bytes_eq}
use Rattle.std.proofs.lemmas.Option.{slice_get_within, slice_get-get_or}
use Rattle.indexmap.specs.IndexMap.{move_index}
use Rattle.solid_model.specs.declared.clause.Clause.{Clause}
use Rattle.solid_model.specs.declared.row.Row.{Row}
use Rattle.solid_model.specs.Clauses.{AreInOrder}
use Rattle.solid_model.specs.Surgery.{moved, up, reads}
use Rattle.solid_model.specs.Tables.{clauses_of, no_row, row_of, row_reads, row_uses, standing_rows, AreFirstUsers, ArePlaces, HasName, HasOperandsBefore, IsKept, IsNumbered, Standing}
use Rattle.solid_model.proofs.UseLemmas.{counted-grown, counted-removed, counted-stood, counted-written}
use Rattle.solid_model.proofs.Rewrites.{IsTable-named, IsTable-written, clauses-kept, names-kept, swapped}
use Rattle.solid_model.proofs.OperandPlaces.{IsTable-moved}
use Rattle.solid_model.proofs.MoveLemmas.{length-moved, move-is}
use Rattle.solid_model.proofs.Lookups.{length-clauses, number-within, has-stored}
use Rattle.solid_model.proofs.ListLemmas.{get-set}
use Rattle.solid_model.proofs.Growth.{IsTable-grown, grown, standing-grown}
use Rattle.std.specs.Cmp.Lexicographic.{bytes_decides}
use Rattle.solid_model.proofs.Readers.{readers-alike}
use Rattle.solid_model.proofs.Arrivals.{clauses-stood}

-- where nothing is told, nothing is told wrong
no-users : (standing : List Row) → AreFirstUsers standing []
no-users standing n h = absurd (omega (arith, h))

module _ (order : Standing) (count : ℕ) (rows : List Row) (names : List (List ℕ)) (uses users : List ℕ)
    (k : IsKept (record { order = order; count = count; rows = rows; names = names }) uses users) where
  pub kept-grown : (key : List ℕ) → length order.numbers < 65535 → list_any (λ n. bytes_eq key n) names ≡ false
      → IsKept (record { order = grown order; count = count; rows = rows ++ no_row ∷ []; names = names ++ key ∷ [] }) (uses ++ 0 ∷ []) users
  kept-grown key room none = record {
    table = IsTable-grown order count rows names k.table room key none;
    counted = counted-grown order count rows names k.table uses k.counted;
    users = λ n h. ap (position (row_reads n)) (standing-grown order count rows names k.table) ∙ k.users n h;
  }

  -- a new name takes the place of that of a number that does not stand
  pub record Named (new : List (List ℕ)) (key : List ℕ) (m : ℕ) : Type 0 where
    pub kept : IsKept (record { order = order; count = count; rows = rows; names = new }) uses users
    pub clauses : clauses_of order count rows new ≡ clauses_of order count rows names
    pub named : HasName new key m

  pub named-anew : (key : List ℕ) (put new : List (List ℕ)) (m : ℕ) (r : Option (List ℕ)) → list_any (λ n. bytes_eq key n) names ≡ false → put ≡ names ++ key ∷ []
      → count < length order.numbers → m ≡ get_or order.numbers count m → r ≡ slice_get put m → IfSome r (λ n. new ≡ swap_remove put m n) → Named new key m
  named-anew key put new m r none put_is less is got swap =
      let number : slice_get order.numbers count ≡ Some m = slice_get-get_or order.numbers count m less ∙ ap Some (sym is) in
      let known : m < length names = omega (arith, number-within order count rows names k.table count m number, k.table.names_are) in
      let new_is = swapped names key put new m r put_is known got swap in
      rw new_is (record {
        kept = record { table = IsTable-named order count rows names k.table m key none; counted = k.counted; users = k.users };
        clauses = names-kept order count rows names k.table count m key (omega arith) number;
        named = has-stored (set names m key) key m key key refl (get-set names m key known) ((bytes_decides key key).1 refl);
      })

  -- a first user that was found is told
  pub kept-told : (at n user : ℕ) (told : List ℕ) → AreInOrder (clauses_of order count rows names) → slice_get order.numbers at ≡ Some n
      → Some user ≡ position (reads at) (clauses_of order count rows names)
      → ((m : ℕ) → (get_or told m 0 ≡ get_or users m 0) ⊎ ((m ≡ n) × (get_or told m 0 ≡ user)))
      → IsKept (record { order = order; count = count; rows = rows; names = names }) uses told
  kept-told at n user told in_order number found is = record {
    table = k.table;
    counted = k.counted;
    users = λ m h. elim (is m) [
      | inl same ↦ k.users m (omega (arith, h, same)) ∙ ap Some (sym same)
      | inr new ↦ subst (λ j. position (row_reads j) (standing_rows order count rows) ≡ Some (get_or told m 0)) (sym new.0)
          (sym (readers-alike order count rows names k.table at n in_order number) ∙ sym found ∙ ap Some (sym new.1))
    ];
  }

  -- a number that does not stand gets a row and a place
  module _ (new : Standing) (at from m : ℕ) (clause : Clause) (row : Row) (front : at ≤ count) (behind : count ≤ from) (number : slice_get order.numbers from ≡ Some m)
      (numbered : IsNumbered order.numbers clause row) (are : ArePlaces new) (is : new.numbers ≡ move_index order.numbers from at) where
    within : from < length order.numbers
    within = slice_get_within order.numbers from m number

    known : m < length rows
    known = omega (arith, number-within order count rows names k.table from m number, k.table.rows_are)

    long : length new.numbers ≡ length order.numbers
    long = ap length (is ∙ move-is order.numbers from at m number) ∙ length-moved order.numbers from at m within (omega (arith, front, behind, within))

    pub kept-stood : (after : List ℕ) → length after ≡ length uses → ((n : ℕ) → n < length uses → get_or after n 0 ≡ get_or uses n 0 + row_uses n row)
        → IsKept (record { order = new; count = count + 1; rows = set rows m row; names = names }) after []
    kept-stood after after_long after_is = record {
      table = IsTable-moved order count (set rows m row) names (IsTable-written order count rows names k.table m clause row numbered) new (count + 1) are long
          (omega (arith, behind, within));
      counted = counted-stood order count rows names k.table uses k.counted new at from m row after front behind number known is long after_long after_is;
      users = no-users (standing_rows new (count + 1) (set rows m row));
    }

    pub clauses-arrived : AreInOrder (clauses_of order count rows names) → HasName names clause.name m → HasOperandsBefore at clause
        → clauses_of new (count + 1) (set rows m row) names ≡ insert (map (moved (up at)) (clauses_of order count rows names)) at clause
    clauses-arrived in_order has fits =
        let alike = clauses-kept order count rows names k.table from m row behind number in
        clauses-stood order count (set rows m row) names (IsTable-written order count rows names k.table m clause row numbered) new at from m clause row
        (subst AreInOrder (sym alike) in_order) front behind number (get-set rows m row known) has.is numbered fits are is
        ∙ ap (λ cs. insert (map (moved (up at)) cs) at clause) alike

  -- a row that stands is written anew
  pub kept-written : (at m : ℕ) (clause : Clause) (old row : Row) (mid after : List ℕ) → at < count → slice_get order.numbers at ≡ Some m → old ≡ row_of rows m
      → IsNumbered order.numbers clause row
      → length mid ≡ length uses → ((n : ℕ) → n < length uses → get_or mid n 0 + row_uses n old ≡ get_or uses n 0)
      → length after ≡ length mid → ((n : ℕ) → n < length mid → get_or after n 0 ≡ get_or mid n 0 + row_uses n row)
      → IsKept (record { order = order; count = count; rows = set rows m row; names = names }) after []
  kept-written at m clause old row mid after front number old_is numbered mid_long mid_is after_long after_is = record {
    table = IsTable-written order count rows names k.table m clause row numbered;
    counted = counted-written order count rows names k.table uses k.counted at m old row mid after front number old_is
        (omega (arith, number-within order count rows names k.table at m number, k.table.rows_are)) mid_long mid_is after_long after_is;
    users = no-users (standing_rows order count (set rows m row));
  }

  -- a number is moved behind those that stand
  pub kept-removed : (new : Standing) (at last m : ℕ) (old : Row) (after : List ℕ) → suc last ≡ count → at < count → slice_get order.numbers at ≡ Some m → old ≡ row_of rows m
      → ArePlaces new → new.numbers ≡ move_index order.numbers at last
      → length after ≡ length uses → ((n : ℕ) → n < length uses → get_or after n 0 + row_uses n old ≡ get_or uses n 0)
      → IsKept (record { order = new; count = last; rows = rows; names = names }) after []
  kept-removed new at last m old after ends there number old_is are is after_long after_is =
      let long : length new.numbers ≡ length order.numbers = ap length (is ∙ move-is order.numbers at last m number)
      ∙ length-moved order.numbers at last m (omega (arith, there, k.table.within)) (omega (arith, ends, k.table.within)) in
      record {
        table = IsTable-moved order count rows names k.table new last are long (omega (arith, ends, k.table.within));
        counted = counted-removed order count rows names k.table uses k.counted new at last m old after ends there number old_is is long after_long after_is;
        users = no-users (standing_rows new last rows);
      }

  -- the number at a place, and what is found by it
  pub record AtPlace (at m : ℕ) : Type 0 where
    pub front : at < count
    pub number : slice_get order.numbers at ≡ Some m
    pub known : m < length order.numbers
    pub row : m < length rows
    pub name : m < length names
    pub used : m < length uses

  pub at-place : (at m : ℕ) → at < length (clauses_of order count rows names) → m ≡ get_or order.numbers at m → AtPlace at m
  at-place at m h is =
      let front : at < count = omega (arith, h, length-clauses order count rows names k.table) in
      let number : slice_get order.numbers at ≡ Some m = slice_get-get_or order.numbers at m (omega (arith, front, k.table.within)) ∙ ap Some (sym is) in
      let known = number-within order count rows names k.table at m number in
      record {
        front = front;
        number = number;
        known = known;
        row = omega (arith, known, k.table.rows_are);
        name = omega (arith, known, k.table.names_are);
        used = omega (arith, known, k.counted.as_many);
      }

  pub row-at : (m : ℕ) (row : Row) → m < length rows → row ≡ get_or rows m row → slice_get rows m ≡ Some row
  row-at m row known is = slice_get-get_or rows m row known ∙ ap Some (sym is)
