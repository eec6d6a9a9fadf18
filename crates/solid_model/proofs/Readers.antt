-- Which clauses have a number as an operand, and which is the first.
use Rattle.std.proofs.Common.{◌≡◌, ℕ, ◌+◌, ◌<◌, ◌≤◌, ◌==◌, ◌⊎◌, inl, inr, Bool, true, false, cond, nat_le, ◌&&◌, ◌||◌, List, length, get_or, Option, None, Some, IfNone, IfSome, slice_get, refl, ap, sym, subst, ◌∙◌, arith, take}
use Rattle.std.specs.List.{position}
use Rattle.std.proofs.lemmas.Bool.{cases_lt}
use Rattle.std.proofs.lemmas.Bool.Decides.{nat_tests}
use Rattle.std.proofs.lemmas.Option.{get_or_from_slice_get, same_Some, slice_get-get_or, slice_get_cases}
use Rattle.fixed_ops.specs.Arity.{arity_of}
use Rattle.solid_model.specs.declared.clause.Clause.{Clause}
use Rattle.solid_model.specs.declared.row.Row.{Row}
use Rattle.solid_model.specs.Clauses.{AreInOrder}
use Rattle.solid_model.specs.Surgery.{reads}
use Rattle.solid_model.specs.Tables.{clause_by, clause_of, clauses_of, label_of, row_of, row_reads, standing_place, AreUnread, IsReader, IsTable, Standing, standing_rows}
use Rattle.solid_model.proofs.ListLemmas.{in-front, position-at, position-none, get-take}
use Rattle.solid_model.proofs.SurgeryLemmas.{unread}
use Rattle.solid_model.proofs.OperandPlaces.{first-operand, operand-known, second-operand}
use Rattle.solid_model.proofs.Lookups.{label-is, row-is, clause-there}
use Rattle.solid_model.proofs.NamePlaces.{position-alike}
use Rattle.solid_model.proofs.Places.{position-map}

-- the row of a number that was read
pub read-is : (numbers : List ℕ) (rows : List Row) (place n user : ℕ) (row : Row) → n ≡ get_or numbers place n → row ≡ get_or rows n row → user < length rows
    → slice_get numbers place ≡ Some user → (P : Row → Type 0) → P row → P (row_of rows user)
read-is numbers rows place n user row is row_is within e P holds =
    let number : n ≡ user = is ∙ get_or_from_slice_get numbers place user n e in
    let there : slice_get rows user ≡ Some row = slice_get-get_or rows user row within ∙ ap Some (ap (λ k. get_or rows k row) (sym number) ∙ sym row_is) in
    subst P (sym (row-is rows user row there)) holds

pub unread-more : (numbers : List ℕ) (rows : List Row) (number first place : ℕ) → AreUnread numbers rows number first place
    → ((user : ℕ) → slice_get numbers place ≡ Some user → row_reads number (row_of rows user) ≡ false) → AreUnread numbers rows number first (place + 1)
unread-more numbers rows number first place unread here k user later before e = elim (cases_lt k place) [
  | inl less ↦ unread k user later less e
  | inr le ↦ here user (subst (λ j. slice_get numbers j ≡ Some user) (omega (arith, le, before)) e)
]

-- no clause up to a place reads it
pub unread-before : (clauses : List Clause) (at k : ℕ) (c : Clause) → AreInOrder clauses → k < at + 1 → slice_get clauses k ≡ Some c → reads at c ≡ false
unread-before clauses at k c order h there =
    let stands = order k c there in
    by (cases_lt 0 (arity_of c.op)) (cases_lt 1 (arity_of c.op)) (λ e. omega (arith, h, stands.fits.first e)) (λ e. omega (arith, h, stands.fits.second e))
  where
    by : (0 < arity_of c.op) ⊎ (arity_of c.op ≤ 0) → (1 < arity_of c.op) ⊎ (arity_of c.op ≤ 1) → (0 < arity_of c.op → c.a < at) → (1 < arity_of c.op → c.b < at)
        → reads at c ≡ false
    by (inl one) (inl two) first second = let before = first one in let after = second two in grind (arith, nat_tests)
    by (inl one) (inr few) first second = let before = first one in grind (arith, nat_tests)
    by (inr none) (inl two) first second = absurd (omega (arith, none, two))
    by (inr none) (inr few) first second = grind (arith, nat_tests)

eq-alike : (a b c d : ℕ) → (a ≡ b → c ≡ d) → (c ≡ d → a ≡ b) → (a == b) ≡ (c == d)
eq-alike a b c d f g = by (a == b) refl (c == d) refl
  where
    by : (p : Bool) → (a == b) ≡ p → (q : Bool) → (c == d) ≡ q → p ≡ q
    by true x true y = refl
    by false x false y = refl
    by true x false y = let same : a ≡ b = grind (arith, nat_tests) in let too = f same in grind (arith, nat_tests)
    by false x true y = let same : c ≡ d = grind (arith, nat_tests) in let too = g same in grind (arith, nat_tests)

module _ (order : Standing) (count : ℕ) (rows : List Row) (names : List (List ℕ)) (t : IsTable order count rows names) where
  -- a clause reads a place where its row has the number that stands there
  pub reader-is : (at n place user : ℕ) → AreInOrder (clauses_of order count rows names) → slice_get order.numbers at ≡ Some n → place < count → slice_get order.numbers place ≡ Some user
      → reads at (clause_of order rows names user) ≡ row_reads n (row_of rows user)
  reader-is at n place user in_order number front e =
      ap (λ p. p || (nat_le 2 (arity_of row.op) && cond (nat_le 2 (arity_of row.op)) (standing_place order row.b) 0 == at))
      (pick (nat_le 1 (arity_of row.op)) (standing_place order row.a) (row.a == n)
      (λ h. same-test row.a (first-operand order count rows names t place user in_order front e (grind (arith, nat_tests))).0))
      ∙ ap (λ p. (nat_le 1 (arity_of row.op) && row.a == n) || p)
      (pick (nat_le 2 (arity_of row.op)) (standing_place order row.b) (row.b == n)
      (λ h. same-test row.b (second-operand order count rows names t place user in_order front e (grind (arith, nat_tests))).0))
    where
      row : Row
      row = row_of rows user

      same-test : (a : ℕ) → a < length order.numbers → (standing_place order a == at) ≡ (a == n)
      same-test a known =
          let stood = operand-known order count rows names t a known in
          eq-alike (standing_place order a) at a n
          (λ same. same_Some _ _ (sym (t.places.back a (standing_place order a) stood) ∙ ap (slice_get order.numbers) same ∙ number))
          (λ same. same_Some _ _ (sym stood ∙ ap (slice_get order.places) same ∙ t.places.there at n number))

      pick : (p : Bool) (m : ℕ) (z : Bool) → (p ≡ true → (m == at) ≡ z) → (p && cond p m 0 == at) ≡ (p && z)
      pick true m z h = h refl
      pick false m z h = refl

  -- so the first clause that reads the place is that of the first row that has the number
  pub readers-alike : (at n : ℕ) → AreInOrder (clauses_of order count rows names) → slice_get order.numbers at ≡ Some n
      → position (reads at) (clauses_of order count rows names) ≡ position (row_reads n) (standing_rows order count rows)
  readers-alike at n in_order number =
      position-map (clause_of order rows names) (reads at) (take count order.numbers)
      ∙ position-alike (λ m. reads at (clause_of order rows names m)) (λ m. row_reads n (row_of rows m)) (take count order.numbers)
      (λ place user e. let got = get-take order.numbers count place user e in reader-is at n place user in_order number got.0 got.1)
      ∙ sym (position-map (row_of rows) (row_reads n) (take count order.numbers))

  pub first-user : (at n : ℕ) (result : Option ℕ) → AreInOrder (clauses_of order count rows names) → slice_get order.numbers at ≡ Some n
      → IfNone result (AreUnread order.numbers rows n (at + 1) count)
      → IfSome result (λ place. IsReader order.numbers rows n place × (at + 1 ≤ place) × (place < count) × AreUnread order.numbers rows n (at + 1) place)
      → result ≡ position (reads at) (clauses_of order count rows names)
  first-user at n None in_order number none some = sym (position-none (reads at) (clauses_of order count rows names) (λ k c e.
      let is = in-front (clause_of order rows names) order.numbers count k c e in
      elim (cases_lt k (at + 1)) [
        | inl before ↦ unread-before (clauses_of order count rows names) at k c in_order before e
        | inr later ↦ ap (reads at) is.is ∙ reader-is at n k is.item in_order number is.front is.there ∙ none k is.item later is.front is.there
      ]))
  first-user at n (Some place) in_order number none some = elim (slice_get_cases order.numbers place).1 [
    | inl known ↦
        sym (position-at (reads at) (clauses_of order count rows names) place (clause_of order rows names known.0)
        (clause-there order count rows names t place known.0 some.2 known.2)
        (reader-is at n place known.0 in_order number some.2 known.2 ∙ some.0 known.0 known.2)
        (λ k c less e.
        let is = in-front (clause_of order rows names) order.numbers count k c e in
        elim (cases_lt k (at + 1)) [
          | inl before ↦ unread-before (clauses_of order count rows names) at k c in_order before e
          | inr later ↦ ap (reads at) is.is ∙ reader-is at n k is.item in_order number is.front is.there ∙ some.3 k is.item later less is.there
        ]))
    | inr past ↦ absurd (omega (arith, past.0, some.2, t.within))
  ]

  -- what is read of a number is its clause
  pub clause-seen : (at n : ℕ) (row : Row) (key : List ℕ) (name : List ℕ) (a b : ℕ) → at < count → slice_get order.numbers at ≡ Some n → slice_get rows n ≡ Some row
      → slice_get names n ≡ Some key → name ≡ key → a ≡ cond (nat_le 1 (arity_of row.op)) (standing_place order row.a) 0
      → b ≡ cond (nat_le 2 (arity_of row.op)) (standing_place order row.b) 0
      → slice_get (clauses_of order count rows names) at ≡ Some (record { name = name; op = row.op; a = a; b = b; value = row.value })
  clause-seen at n row key name a b there number row_there key_there name_is a_is b_is =
      clause-there order count rows names t at n there number
      ∙ ap Some
      (ap (clause_by order (label_of names n)) (row-is rows n row row_there)
      ∙ ap (λ s. clause_by order s row) (label-is names n key key_there ∙ sym name_is)
      ∙ ap (λ (k : ℕ). record { name = name; op = row.op; a = k; b = (clause_by order name row).b; value = row.value }) (sym a_is)
      ∙ ap (λ (k : ℕ). record { name = name; op = row.op; a = a; b = k; value = row.value }) (sym b_is))
