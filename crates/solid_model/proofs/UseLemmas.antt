-- How often each number is an operand, when rows come, change and go.
use Rattle.std.proofs.Common.{◌≡◌, ℕ, zero, suc, ◌+◌, ◌<◌, ◌≤◌, ◌==◌, inl, inr, Bool, true, false, cond, nat_le, ◌&&◌, ◌||◌, List, [], ◌∷◌, ◌++◌, length, map, set, sum_by, take, get_or, None, Some, slice_get, refl, ap, sym, subst, ◌∙◌, arith}
use Rattle.std.specs.List.{insert, position, remove}
use Rattle.std.proofs.lemmas.Bool.{cases_lt}
use Rattle.std.proofs.lemmas.Bool.Decides.{nat_tests}
use Rattle.std.proofs.lemmas.List.{get_or_append_left, length-append, length-map}
use Rattle.std.proofs.Math.Seq.{get_or-append_seam}
use Rattle.std.proofs.lemmas.List.Sums.{get_or-le-sum_by, sum_by-cons, sum_by-insert, sum_by-remove, sum_by-set}
use Rattle.std.proofs.lemmas.Option.{get_or_from_slice_get, same_Some, slice_get-get_or, slice_get_within}
use Rattle.indexmap.specs.IndexMap.{move_index}
use Rattle.fixed_ops.specs.Arity.{arity_of}
use Rattle.solid_model.specs.declared.row.Row.{Row}
use Rattle.solid_model.specs.Clauses.{AreInOrder}
use Rattle.solid_model.specs.Surgery.{reads}
use Rattle.solid_model.specs.Tables.{clause_of, clauses_of, no_row, row_of, row_reads, row_uses, standing_rows, AreCounted, IsTable, Standing}
use Rattle.solid_model.proofs.ListLemmas.{get-front, get-set, get-take, in-front, map-but-one, position-none}
use Rattle.solid_model.proofs.NamePlaces.{map-alike, map-cut, map-put}
use Rattle.solid_model.proofs.Rewrites.{row-kept}
use Rattle.solid_model.proofs.Readers.{reader-is}
use Rattle.solid_model.proofs.Lookups.{number-within, row-is}
use Rattle.solid_model.proofs.Growth.{grown, standing-grown}
use Rattle.solid_model.proofs.Departures.{front-removed}
use Rattle.solid_model.proofs.Arrivals.{front-stood}

-- a row has a number at most twice
row_uses-few : (n : ℕ) (row : Row) → row_uses n row ≤ 2
row_uses-few n row = by (nat_le 1 (arity_of row.op) && row.a == n) (nat_le 2 (arity_of row.op) && row.b == n)
  where
    by : (p q : Bool) → cond p 1 0 + cond q 1 0 ≤ 2
    by true true = omega arith
    by true false = omega arith
    by false true = omega arith
    by false false = omega arith

sum-few : (f : Row → ℕ) (rows : List Row) → ((row : Row) → f row ≤ 2) → sum_by f rows ≤ length rows + length rows
sum-few f [] few = omega arith
sum-few f (x ∷ xs) few = let rest = sum-few f xs few in let one = few x in omega (arith, sum_by-cons f x xs)

sum-none : (f : Row → ℕ) (rows : List Row) → ((k : ℕ) (row : Row) → slice_get rows k ≡ Some row → f row ≡ 0) → sum_by f rows ≡ 0
sum-none f [] none = refl
sum-none f (x ∷ xs) none = omega (arith, sum_by-cons f x xs, none 0 x refl, sum-none f xs (λ k row e. none (suc k) row e))

-- a row that has no number below a bound as an operand past it
no-use : (row : Row) (n : ℕ) → (0 < arity_of row.op → row.a < n) → (1 < arity_of row.op → row.b < n) → row_uses n row ≡ 0
no-use row n first second =
    let a = alone (nat_le 1 (arity_of row.op)) row.a (λ h. first (grind (arith, nat_tests))) in
    let b = alone (nat_le 2 (arity_of row.op)) row.b (λ h. second (grind (arith, nat_tests))) in
    omega (arith, a, b)
  where
    alone : (p : Bool) (m : ℕ) → (p ≡ true → m < n) → cond (p && m == n) 1 0 ≤ 0
    alone false m less = omega arith
    alone true m less =
        let before = less refl in
        let test : (m == n) ≡ false = grind (arith, nat_tests) in
        rw test (omega arith)

-- a row that has a number no time does not read it
reads-not : (row : Row) (n : ℕ) → row_uses n row ≡ 0 → row_reads n row ≡ false
reads-not row n none = by (nat_le 1 (arity_of row.op) && row.a == n) (nat_le 2 (arity_of row.op) && row.b == n) none
  where
    by : (p q : Bool) → cond p 1 0 + cond q 1 0 ≡ 0 → (p || q) ≡ false
    by true q h = absurd (omega (arith, h))
    by false true h = absurd (omega (arith, h))
    by false false h = refl

module _ (order : Standing) (count : ℕ) (rows : List Row) (names : List (List ℕ)) (t : IsTable order count rows names) (uses : List ℕ)
    (counted : AreCounted (length order.numbers) (standing_rows order count rows) uses) where
  length-standing : length (standing_rows order count rows) ≡ count
  length-standing = length-map (take count order.numbers) (row_of rows) ∙ length-front order.numbers count t.within
    where
      length-front : (xs : List ℕ) (k : ℕ) → k ≤ length xs → length (take k xs) ≡ k
      length-front xs zero h = refl
      length-front [] (suc k) h = absurd (omega (arith, h))
      length-front (x ∷ xs) (suc k) h = ap suc (length-front xs k (omega (arith, h)))

  row-there : (place m : ℕ) → place < count → slice_get order.numbers place ≡ Some m → slice_get (standing_rows order count rows) place ≡ Some (row_of rows m)
  row-there place m front at = get-front (row_of rows) order.numbers count place m front at

  -- a count is small
  pub uses-few : (n : ℕ) → n < length uses → get_or uses n 0 ≤ 131070
  uses-few n within =
      let is = counted.each n (omega (arith, within, counted.as_many)) in
      let few = sum-few (row_uses n) (standing_rows order count rows) (λ row. row_uses-few n row) in
      omega (arith, is, few, length-standing, t.within, t.places.few)

  -- what a row that stands has is counted
  pub row-counted : (place m n : ℕ) → place < count → slice_get order.numbers place ≡ Some m → n < length uses → row_uses n (row_of rows m) ≤ get_or uses n 0
  row-counted place m n front at within =
      let there = row-there place m front at in
      let is = counted.each n (omega (arith, within, counted.as_many)) in
      let one = get_or-le-sum_by (row_uses n) (standing_rows order count rows) place no_row (slice_get_within (standing_rows order count rows) place (row_of rows m) there) in
      let its = ap (row_uses n) (get_or_from_slice_get (standing_rows order count rows) place (row_of rows m) no_row there) in
      omega (arith, is, one, its)

  -- the counts after a row that stands was written anew
  pub counted-written : (at m : ℕ) (old row : Row) (mid after : List ℕ) → at < count → slice_get order.numbers at ≡ Some m → old ≡ row_of rows m → m < length rows
      → length mid ≡ length uses → ((n : ℕ) → n < length uses → get_or mid n 0 + row_uses n old ≡ get_or uses n 0)
      → length after ≡ length mid → ((n : ℕ) → n < length mid → get_or after n 0 ≡ get_or mid n 0 + row_uses n row)
      → AreCounted (length order.numbers) (standing_rows order count (set rows m row)) after
  counted-written at m old row mid after front number old_is within mid_long mid_is after_long after_is = record {
    as_many = omega (arith, after_long, mid_long, counted.as_many);
    each = λ n less.
        let u = counted.each n less in
        let m_is = mid_is n (omega (arith, less, counted.as_many)) in
        let a_is = after_is n (omega (arith, less, counted.as_many, mid_long)) in
        let o_is = ap (row_uses n) old_is in
        let there = row-there at m front number in
        let its = ap (row_uses n) (get_or_from_slice_get (standing_rows order count rows) at (row_of rows m) no_row there) in
        let sums = sum_by-set (row_uses n) (standing_rows order count rows) at row no_row (slice_get_within (standing_rows order count rows) at (row_of rows m) there) in
        let whole = ap (sum_by (row_uses n)) written in
        omega (arith, u, m_is, a_is, o_is, its, sums, whole);
  }
    where
      get-taken : (xs : List ℕ) (k j x : ℕ) → j < k → slice_get xs j ≡ Some x → slice_get (take k xs) j ≡ Some x
      get-taken [] k j x h e = (cc)
      get-taken (y ∷ ys) zero j x h e = absurd (omega (arith, h))
      get-taken (y ∷ ys) (suc k) zero x h e = e
      get-taken (y ∷ ys) (suc k) (suc j) x h e = get-taken ys k j x (omega (arith, h)) e

      place-same : (k n : ℕ) → slice_get order.numbers k ≡ Some n → n ≡ m → k ≡ at
      place-same k n e same = same_Some _ _ (sym (t.places.there k n e) ∙ ap (slice_get order.places) same ∙ t.places.there at m number)

      written : standing_rows order count (set rows m row) ≡ set (standing_rows order count rows) at row
      written =
          map-but-one (row_of (set rows m row)) (row_of rows) (take count order.numbers) at m (get-taken order.numbers count at m front number)
          (λ k n other e. let got = get-take order.numbers count k n e in row-kept order count rows names t m n row (λ same. other (place-same k n got.1 same)))
          ∙ ap (λ r. set (standing_rows order count rows) at r) (row-is (set rows m row) m row (get-set rows m row within))

  -- the counts after a row was taken out
  pub counted-removed : (new : Standing) (at last m : ℕ) (old : Row) (after : List ℕ) → suc last ≡ count → at < count → slice_get order.numbers at ≡ Some m → old ≡ row_of rows m
      → new.numbers ≡ move_index order.numbers at last → length new.numbers ≡ length order.numbers
      → length after ≡ length uses → ((n : ℕ) → n < length uses → get_or after n 0 + row_uses n old ≡ get_or uses n 0)
      → AreCounted (length new.numbers) (standing_rows new last rows) after
  counted-removed new at last m old after ends front number old_is is long after_long after_is = record {
    as_many = omega (arith, after_long, counted.as_many, long);
    each = λ n less.
        let u = counted.each n (omega (arith, less, long)) in
        let a_is = after_is n (omega (arith, less, counted.as_many, long)) in
        let o_is = ap (row_uses n) old_is in
        let there = row-there at m front number in
        let its = ap (row_uses n) (get_or_from_slice_get (standing_rows order count rows) at (row_of rows m) no_row there) in
        let sums = sum_by-remove (row_uses n) (standing_rows order count rows) at no_row (slice_get_within (standing_rows order count rows) at (row_of rows m) there) in
        let whole = ap (sum_by (row_uses n)) taken in
        omega (arith, u, a_is, o_is, its, sums, whole);
  }
    where
      taken : standing_rows new last rows ≡ remove (standing_rows order count rows) at
      taken = ap (map (row_of rows)) (front-removed order count rows names t new at last m ends front number is) ∙ map-cut (row_of rows) (take count order.numbers) at

  -- the counts after a row was put in for a number that did not stand
  pub counted-stood : (new : Standing) (at from m : ℕ) (row : Row) (after : List ℕ) → at ≤ count → count ≤ from → slice_get order.numbers from ≡ Some m → m < length rows
      → new.numbers ≡ move_index order.numbers from at → length new.numbers ≡ length order.numbers
      → length after ≡ length uses → ((n : ℕ) → n < length uses → get_or after n 0 ≡ get_or uses n 0 + row_uses n row)
      → AreCounted (length new.numbers) (standing_rows new (count + 1) (set rows m row)) after
  counted-stood new at from m row after front behind number within is long after_long after_is = record {
    as_many = omega (arith, after_long, counted.as_many, long);
    each = λ n less.
        let u = counted.each n (omega (arith, less, long)) in
        let a_is = after_is n (omega (arith, less, counted.as_many, long)) in
        let sums = sum_by-insert (row_uses n) (standing_rows order count rows) at row in
        let whole = ap (sum_by (row_uses n)) put in
        omega (arith, u, a_is, sums, whole);
  }
    where
      standing-not : (k n : ℕ) → k < count → slice_get order.numbers k ≡ Some n → n ≡ m → ⊥
      standing-not k n less e same =
          let is : k ≡ from = same_Some _ _ (sym (t.places.there k n e) ∙ ap (slice_get order.places) same ∙ t.places.there from m number) in
          omega (arith, is, less, behind)

      put : standing_rows new (count + 1) (set rows m row) ≡ insert (standing_rows order count rows) at row
      put =
          ap (map (row_of (set rows m row))) (front-stood order count rows names t new at from m front behind number is)
          ∙ map-put (row_of (set rows m row)) (take count order.numbers) at m
          ∙ ap (λ r. insert (map (row_of (set rows m row)) (take count order.numbers)) at r) (row-is (set rows m row) m row (get-set rows m row within))
          ∙ ap (λ rs. insert rs at row)
          (map-alike (row_of (set rows m row)) (row_of rows) (take count order.numbers)
          (λ k n e. let got = get-take order.numbers count k n e in row-kept order count rows names t m n row (λ same. standing-not k n got.0 got.1 same)))

  -- a number that no row has is no operand
  pub unused : (at n : ℕ) → AreInOrder (clauses_of order count rows names) → slice_get order.numbers at ≡ Some n → get_or uses n 0 ≡ 0
      → position (reads at) (clauses_of order count rows names) ≡ None
  unused at n in_order number none = position-none (reads at) (clauses_of order count rows names) (λ k c e.
      let is = in-front (clause_of order rows names) order.numbers count k c e in
      let known = number-within order count rows names t at n number in
      let few = row-counted k is.item n is.front is.there (omega (arith, known, counted.as_many)) in
      ap (reads at) is.is ∙ reader-is order count rows names t at n k is.item in_order number is.front is.there
      ∙ reads-not (row_of rows is.item) n (omega (arith, few, none)))

  -- the counts with one more number, which no row has
  pub counted-grown : AreCounted (length (grown order).numbers) (standing_rows (grown order) count (rows ++ no_row ∷ [])) (uses ++ 0 ∷ [])
  counted-grown = record {
    as_many = omega (arith, counted.as_many, length-append uses (0 ∷ []), length-append order.numbers (length order.numbers ∷ []));
    each = λ n less. elim (cases_lt n (length order.numbers)) [
      | inl before ↦
          get_or_append_left uses (0 ∷ []) 0 n (omega (arith, before, counted.as_many)) ∙ counted.each n before ∙ ap (sum_by (row_uses n)) (sym same)
      | inr le ↦
          let is : length uses ≡ n = omega (arith, le, less, counted.as_many, length-append order.numbers (length order.numbers ∷ [])) in
          subst (λ k. get_or (uses ++ 0 ∷ []) k 0 ≡ sum_by (row_uses n) (standing_rows (grown order) count (rows ++ no_row ∷ []))) is
          (get_or-append_seam uses 0 [] 0
          ∙ sym (ap (sum_by (row_uses n)) same ∙ sum-none (row_uses n) (standing_rows order count rows) (λ k r e.
          let f = in-front (row_of rows) order.numbers count k r e in
          let known = number-within order count rows names t k f.item f.there in
          let there : slice_get rows f.item ≡ Some r = slice_get-get_or rows f.item no_row (omega (arith, known, t.rows_are)) ∙ ap Some (sym f.is) in
          no-use r n (λ h. omega (arith, le, t.first f.item r there h)) (λ h. omega (arith, le, t.second f.item r there h)))))
    ];
  }
    where
      same : standing_rows (grown order) count (rows ++ no_row ∷ []) ≡ standing_rows order count rows
      same = standing-grown order count rows names t
