-- A model that is written is read back.
use Rattle.std.proofs.Common.{◌≡◌, ◌≢◌, ℕ, zero, suc, ◌+◌, ◌<◌, ◌≤◌, ℤ, Bool, true, false, ◌⊎◌, eqb, ltb, nat_le, List, [], ◌∷◌, ◌++◌, length, map, take, append-nil, append_assoc, get_or, inl, inr, Some, None, Ok, is_none, slice_get, refl, ap, sym, subst, ◌∙◌, arith}
use Rattle.std.specs.Prelude.{All}
use Rattle.std.specs.List.{list_any}
use Rattle.std.specs.Str.{bytes_eq}
use Rattle.std.specs.Cmp.Lexicographic.{bytes_decides}
use Rattle.std.proofs.lemmas.Bool.{lt-ltb}
use Rattle.std.proofs.lemmas.Bool.Decides.{nat_tests}
use Rattle.std.proofs.lemmas.List.Elements.{All-nil, All-cons}
use Rattle.std.proofs.lemmas.List.Sums.{position_or_len_is}
use Rattle.std.proofs.lemmas.Option.{slice_get-get_or, slice_get_within, slice_get_cases, get_or_from_slice_get}
use Rattle.fixed_ops.specs.declared.operation.Op.{Op}
use Rattle.fixed_ops.specs.declared.operation.Op.TheVariants.{Const}
use Rattle.fixed_ops.specs.Arity.{arity_of}
use Rattle.fixed_ops.specs.NumberTexts.{number_text}
use Rattle.fixed_ops.specs.OpNames.{name_of}
use Rattle.solid_model.specs.declared.clause.Clause.{Clause}
use Rattle.solid_model.specs.Clauses.{place_of, HaveDistinctNames, IsClauseAt, AreClauses, IsModel}
use Rattle.solid_model.specs.Named.{name_at}
use Rattle.solid_model.specs.Names.{IsName}
use Rattle.clause_reader.specs.Forms.{takes, operands, numerals}
use Rattle.clause_reader.specs.LineLaws.{HasNoFeed}
use Rattle.clause_reader.specs.Lines.{begins_comment}
use Rattle.clause_reader.specs.ModelText.{arguments, arguments_with, model_text, spaced}
use Rattle.clause_reader.specs.Reading.{clauses_with, line_read, lines_read, place_or_zero, text_read, unless_empty}
use Rattle.clause_reader.specs.WritingLaws.{WrittenModelsAreSaid}
use Rattle.clause_reader.proofs.OpLemmas.{operation_of-name}
use Rattle.clause_reader.proofs.Said.{reads_exactly}
use Rattle.clause_reader.proofs.WriterLemmas.{name_at_place}
use Rattle.clause_reader.proofs.WrittenTokens.{IsToken, lines_of-written, name_is_token, no_feed, number_is_token, op_is_token, tokens_of-spaced}
use Rattle.fixed_ops.proofs.TextLaws.{number_text_reads}
use Rattle.fixed_ops.proofs.Lists.{slice_get-front}
use Rattle.solid_model.proofs.NamedLemmas.{has}

-- and the next one follows it
slice_get-next : (xs : List Clause) (c : Clause) (ys : List Clause) → slice_get (xs ++ c ∷ ys) (length xs) ≡ Some c
slice_get-next [] c ys = refl
slice_get-next (x ∷ xs) c ys = slice_get-next xs c ys

-- a name stands at the place of its clause
place_of-own : (xs : List Clause) (at : ℕ) (c : Clause) → HaveDistinctNames xs → slice_get xs at ≡ Some c → place_of xs c.name ≡ Some at
place_of-own xs at c distinct is =
    let within = slice_get_within xs at c is in
    let place = position_or_len_is (has c.name) xs at c (omega arith)
    (λ k less. other k less (bytes_eq c.name (get_or xs k c).name) refl)
    (λ h. rw (get_or_from_slice_get xs at c c is) ((bytes_decides c.name c.name).1 refl)) in
    rw (place, lt-ltb at (length xs) within) refl
  where
    other : (k : ℕ) → k < at → (b : Bool) → bytes_eq c.name (get_or xs k c).name ≡ b → bytes_eq c.name (get_or xs k c).name ≡ false
    other k less true e =
        let within = slice_get_within xs at c is in
        let there = slice_get-get_or xs k c (omega arith) in
        let same = distinct at k c (get_or xs k c) is there ((bytes_decides c.name (get_or xs k c).name).0 e) in
        absurd (omega arith)
    other k less false e = e

-- a name that no clause has stands nowhere
place_of-new : (xs : List Clause) (c : Clause) → ((k : ℕ) (d : Clause) → slice_get xs k ≡ Some d → c.name ≡ d.name → ⊥) → place_of xs c.name ≡ None
place_of-new xs c new =
    let place = position_or_len_is (has c.name) xs (length xs) c (omega arith)
    (λ k less. other k less (bytes_eq c.name (get_or xs k c).name) refl)
    (λ h. absurd (omega arith)) in
    let past : ltb (length xs) (length xs) ≡ false = grind (arith, nat_tests) in
    rw (place, past) refl
  where
    other : (k : ℕ) → k < length xs → (b : Bool) → bytes_eq c.name (get_or xs k c).name ≡ b → bytes_eq c.name (get_or xs k c).name ≡ false
    other k less true e = absurd (new k (get_or xs k c) (slice_get-get_or xs k c less) ((bytes_decides c.name (get_or xs k c).name).0 e))
    other k less false e = e

-- what the writer and the reader make of an operation that is no constant
record IsPlain (op : Op) : Type 0 where
  few : arity_of op ≤ 2
  takes_operands : takes op ≡ arity_of op
  names : (args : List (List ℕ)) → operands op args ≡ args
  no_numeral : (args : List (List ℕ)) → numerals op args ≡ []
  written : (number : List ℕ) (names : List (List ℕ)) → arguments_with op number names ≡ names
  other : op ≢ Const

kinds : (op : Op) → (op ≡ Const) ⊎ IsPlain op
kinds Const = inl refl
kinds op = inr (record {
  few = omega arith;
  takes_operands = refl;
  names = λ args. refl;
  no_numeral = λ args. refl;
  written = λ number names. refl;
  other = λ e. (cc);
})

-- names of operands that stand, as many as an operation has, are found at their places
record AreFound (before : List Clause) (names : List (List ℕ)) (n a b : ℕ) : Type 0 where
  as_many : eqb (length names) n ≡ true
  known : list_any (λ name. is_none (place_of before name)) names ≡ false
  first : place_or_zero before names 0 ≡ a
  second : place_or_zero before names 1 ≡ b

names_found : (before : List Clause) (n a b : ℕ) (x y : List ℕ) → n ≤ 2 → (0 < n → place_of before x ≡ Some a) → (1 < n → place_of before y ≡ Some b)
    → (n ≡ 0 → a ≡ 0) → (n ≤ 1 → b ≡ 0) → AreFound before (take n (x ∷ y ∷ [])) n a b
names_found before zero a b x y few one two no_one no_two =
    record { as_many = refl; known = refl; first = sym (no_one refl); second = sym (no_two (omega arith)) }
names_found before (suc zero) a b x y few one two no_one no_two =
    let at = one (omega arith) in
    record { as_many = refl; known = rw at refl; first = rw at refl; second = sym (no_two (omega arith)) }
names_found before (suc (suc zero)) a b x y few one two no_one no_two =
    let at = one (omega arith) in
    let next = two (omega arith) in
    record { as_many = refl; known = rw (at, next) refl; first = rw at refl; second = rw next refl }
names_found before (suc (suc (suc n))) a b x y few one two no_one no_two = absurd (omega arith)

names_are_tokens : (n : ℕ) (x y : List ℕ) → n ≤ 2 → (0 < n → IsToken x) → (1 < n → IsToken y) → All IsToken (take n (x ∷ y ∷ []))
names_are_tokens zero x y few one two = All-nil IsToken
names_are_tokens (suc zero) x y few one two = All-cons IsToken x [] (one (omega arith)) (All-nil IsToken)
names_are_tokens (suc (suc zero)) x y few one two = All-cons IsToken x (y ∷ []) (one (omega arith)) (All-cons IsToken y [] (two (omega arith)) (All-nil IsToken))
names_are_tokens (suc (suc (suc n))) x y few one two = absurd (omega arith)

-- a name begins no comment
name_no_comment : (name : List ℕ) → IsName name → begins_comment name ≡ false
name_no_comment [] is = (cc)
name_no_comment (byte ∷ bytes) is = by (eqb byte 35) refl is
  where
    by : (t : Bool) → eqb byte 35 ≡ t → IsName (byte ∷ bytes) → eqb byte 35 ≡ false
    by true e h = let no : false ≡ true = rw e at h in (cc)
    by false e h = e

-- the clauses of a model, of which one stands after some and before others
module _ (all : List Clause) (are : AreClauses all) (before : List Clause) (c : Clause) (after : List Clause) (parts : before ++ c ∷ after ≡ all) where
  place : ℕ
  place = length before

  is_here : slice_get all (length before) ≡ Some c
  is_here = subst (λ xs. slice_get xs (length before) ≡ Some c) parts (slice_get-next before c after)

  stands : IsClauseAt (length before) c
  stands = are.each (length before) c is_here

  -- a clause before it
  earlier : (k : ℕ) (d : Clause) → slice_get before k ≡ Some d → slice_get all k ≡ Some d
  earlier k d is = subst (λ xs. slice_get xs k ≡ Some d) parts (slice_get-front before (c ∷ after) k d is)

  distinct : HaveDistinctNames before
  distinct i j a b at_i at_j same = are.distinct i j a b (earlier i a at_i) (earlier j b at_j) same

  -- the name at an earlier place is a token, and found there
  operand_at : (k : ℕ) → k < length before → IsToken (name_at all k) × (place_of before (name_at all k) ≡ Some k)
  operand_at k less =
      elim (slice_get_cases before k).1 [
        | inl (d, within, is, same) ↦
            let name = name_at_place all k d (earlier k d is) in
            (subst IsToken (sym name) (name_is_token d.name (are.each k d (earlier k d is)).name), ap (place_of before) name ∙ place_of-own before k d distinct is)
        | inr (past, none) ↦ absurd (omega arith)
      ]

  -- its own name is new
  is_new : place_of before c.name ≡ None
  is_new = place_of-new before c (λ k d is same.
      let within = slice_get_within before k d is in
      let one = are.distinct (length before) k c d is_here (earlier k d is) same in
      absurd (omega arith))

  -- and there is room for it
  has_room : nat_le 65535 (length before) ≡ false
  has_room =
      let within = slice_get_within all (length before) c is_here in
      let few = are.few in
      grind (arith, nat_tests)

  -- its arguments are tokens
  tokens : All IsToken (name_of c.op ∷ arguments all c)
  tokens = All-cons IsToken (name_of c.op) (arguments all c) (op_is_token c.op) (elim (kinds c.op) [
    | inl constant ↦ rw constant (All-cons IsToken (number_text c.value) [] (number_is_token c.value stands.raw) (All-nil IsToken))
    | inr plain ↦ rw plain.written (names_are_tokens (arity_of c.op) (name_at all c.a) (name_at all c.b) plain.few
        (λ h. (operand_at c.a (stands.fits.first h)).0) (λ h. (operand_at c.b (stands.fits.second h)).0))
  ])

  -- and say it after the clauses before it
  is_said : clauses_with before (c.name ∷ name_of c.op ∷ arguments all c) ≡ Ok (before ++ c ∷ [])
  is_said = elim (kinds c.op) [
    | inl constant ↦
        let read = number_text_reads c.value stands.raw in
        let no_first = stands.fits.no_first (rw constant refl) in
        let no_second = stands.fits.no_second (rw constant (omega arith)) in
        rw (operation_of-name c.op, constant, read, is_new, has_room, no_first, no_second) refl
    | inr plain ↦
        let found = names_found before (arity_of c.op) c.a c.b (name_at all c.a) (name_at all c.b) plain.few
        (λ h. (operand_at c.a (stands.fits.first h)).1) (λ h. (operand_at c.b (stands.fits.second h)).1) stands.fits.no_first stands.fits.no_second in
        rw (operation_of-name c.op, plain.written, plain.takes_operands, found.as_many, plain.no_numeral, plain.names, found.known, is_new, has_room, found.first, found.second)
        (ap (λ (v : ℤ). Ok (before ++ record { name = c.name; op = c.op; a = c.a; b = c.b; value = v } ∷ [])) (sym (stands.fits.no_value plain.other)))
  ]

  -- so does its line
  line_is_read : line_read before (c.name ++ spaced (name_of c.op ∷ arguments all c)) ≡ Ok (before ++ c ∷ [])
  line_is_read =
      rw (tokens_of-spaced c.name (name_of c.op ∷ arguments all c) (name_is_token c.name stands.name) tokens, name_no_comment c.name stands.name) is_said

-- the line of a clause without its line feed
abbrev line_of_clause : List Clause → Clause → List ℕ
line_of_clause all c = c.name ++ spaced (name_of c.op ∷ arguments all c)

-- the lines of the clauses that follow say them
lines_are_read : (all : List Clause) → AreClauses all → (before after : List Clause) (number : ℕ) → before ++ after ≡ all
    → lines_read before number (map (line_of_clause all) after) ≡ Ok all
lines_are_read all are before [] number parts = ap (λ (xs : List Clause). Ok xs) (sym (append-nil before) ∙ parts)
lines_are_read all are before (c ∷ after) number parts =
    rw (line_is_read all are before c after parts)
    (lines_are_read all are (before ++ c ∷ []) after (number + 1) (append_assoc before (c ∷ []) after ∙ parts))

-- and hold no line feed
lines_have_no_feed : (all : List Clause) → AreClauses all → (before after : List Clause) → before ++ after ≡ all
    → All HasNoFeed (map (line_of_clause all) after)
lines_have_no_feed all are before [] parts = All-nil HasNoFeed
lines_have_no_feed all are before (c ∷ after) parts =
    let name = name_is_token c.name (stands all are before c after parts).name in
    All-cons HasNoFeed (line_of_clause all c) (map (line_of_clause all) after)
    (no_feed c.name (name_of c.op ∷ arguments all c) name (tokens all are before c after parts))
    (lines_have_no_feed all are (before ++ c ∷ []) after (append_assoc before (c ∷ []) after ∙ parts))

some_are_read : (all : List Clause) → 0 < length all → unless_empty (Ok all) ≡ Ok all
some_are_read [] some = absurd (omega arith)
some_are_read (c ∷ all) some = refl

-- the text of a model is read as the model
pub model_text_is_read : (all : List Clause) → IsModel all → text_read (model_text all) ≡ Ok all
model_text_is_read all is =
    let are = is.clauses_are in
    let lines = lines_of-written (line_of_clause all) all (lines_have_no_feed all are [] all refl) in
    let read = lines_are_read all are [] all 1 refl in
    ap (λ ls. unless_empty (lines_read [] 1 ls)) lines ∙ ap unless_empty read ∙ some_are_read all is.some

-- so it says the model
pub written_models_are_said : WrittenModelsAreSaid
written_models_are_said clauses is = (reads_exactly (model_text clauses) clauses).0 (model_text_is_read clauses is)
