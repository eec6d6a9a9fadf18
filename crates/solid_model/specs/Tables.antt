-- How a table keeps clauses: by numbers, which stand in an order.
use Rattle.std.specs.Prelude.{◌≡◌, ℕ, ◌<◌, ◌≤◌, ◌+◌, ◌==◌, nat_le, pos, Bool, true, false, ◌&&◌, ◌||◌, List, [], length, map, sum_by, take, slice_get, slice_index_or, Some, if◌then◌else◌}
use Rattle.std.specs.List.{position}
use Rattle.fixed_ops.specs.declared.operation.Op.TheVariants.{X}
use Rattle.fixed_ops.specs.Arity.{arity_of}
use Rattle.solid_model.specs.declared.clause.Clause.{Clause}
use Rattle.solid_model.specs.declared.row.Row.{Row}

-- numbers in an order, and where each of them stands
pub record Standing : Type 0 where
  pub numbers : List ℕ
  pub places : List ℕ

-- The numbers below their count stand in an order, each of them once; and the second list says where.
pub record ArePlaces (order : Standing) : Type 0 where
  pub few : length order.numbers ≤ 65535
  pub as_many : length order.places ≡ length order.numbers
  pub there : (place number : ℕ) → slice_get order.numbers place ≡ Some number
      → slice_get order.places number ≡ Some place
  pub back : (number place : ℕ) → slice_get order.places number ≡ Some place
      → slice_get order.numbers place ≡ Some number

-- what the clause of a number says, and its name
abbrev pub no_row : Row
no_row = record { op = X; a = 0; b = 0; value = pos 0 }

abbrev pub row_of : List Row → ℕ → Row
row_of rows number = slice_index_or rows number no_row

abbrev pub label_of : List (List ℕ) → ℕ → List ℕ
label_of names number = slice_index_or names number []

-- where the clause of a number stands
abbrev pub standing_place : Standing → ℕ → ℕ
standing_place order number = slice_index_or order.places number 0

-- a clause of this name that says this, with the places of its operands
abbrev pub clause_by : Standing → List ℕ → Row → Clause
clause_by order name row = record {
  name = name;
  op = row.op;
  a = if nat_le 1 (arity_of row.op) then standing_place order row.a else 0;
  b = if nat_le 2 (arity_of row.op) then standing_place order row.b else 0;
  value = row.value;
}

-- the clause of a number
abbrev pub clause_of : Standing → List Row → List (List ℕ) → ℕ → Clause
clause_of order rows names number = clause_by order (label_of names number) (row_of rows number)

-- the clauses of the numbers that stand first
abbrev pub clauses_of : Standing → ℕ → List Row → List (List ℕ) → List Clause
clauses_of order count rows names = map (clause_of order rows names) (take count order.numbers)

-- What a clause says, its operands by their places and by their numbers.
pub record IsNumbered (numbers : List ℕ) (clause : Clause) (row : Row) : Type 0 where
  pub op : row.op ≡ clause.op
  pub value : row.value ≡ clause.value
  pub first : 0 < arity_of clause.op → slice_get numbers clause.a ≡ Some row.a
  pub second : 1 < arity_of clause.op → slice_get numbers clause.b ≡ Some row.b

-- the operands that a clause has stand before a place, and those that it lacks are 0
pub record HasOperandsBefore (place : ℕ) (clause : Clause) : Type 0 where
  pub first : 0 < arity_of clause.op → clause.a < place
  pub second : 1 < arity_of clause.op → clause.b < place
  pub no_first : arity_of clause.op ≡ 0 → clause.a ≡ 0
  pub no_second : arity_of clause.op ≤ 1 → clause.b ≡ 0

-- whether a number is an operand of a row
abbrev pub row_reads : ℕ → Row → Bool
row_reads number row =
    (nat_le 1 (arity_of row.op) && row.a == number) || (nat_le 2 (arity_of row.op) && row.b == number)

-- the clause at a place has a number as an operand, and none of those from a place up to another has
abbrev pub IsReader : List ℕ → List Row → ℕ → ℕ → Type 0
IsReader numbers rows number place = (user : ℕ) → slice_get numbers place ≡ Some user
    → row_reads number (row_of rows user) ≡ true

abbrev pub AreUnread : List ℕ → List Row → ℕ → ℕ → ℕ → Type 0
AreUnread numbers rows number first end = (place user : ℕ) → first ≤ place → place < end
    → slice_get numbers place ≡ Some user → row_reads number (row_of rows user) ≡ false

-- Numbers with a name and a row each, of which a count stand as clauses. The names are distinct, also
-- those of numbers that stand no more, and no operand is past the numbers.
pub record IsTable (order : Standing) (count : ℕ) (rows : List Row) (names : List (List ℕ))
    : Type 0 where
  pub places : ArePlaces order
  pub within : count ≤ length order.numbers
  pub rows_are : length rows ≡ length order.numbers
  pub names_are : length names ≡ length order.numbers
  pub first : (number : ℕ) (row : Row) → slice_get rows number ≡ Some row → 0 < arity_of row.op
      → row.a < length order.numbers
  pub second : (number : ℕ) (row : Row) → slice_get rows number ≡ Some row → 1 < arity_of row.op
      → row.b < length order.numbers
  pub distinct : (i j : ℕ) (x y : List ℕ) → slice_get names i ≡ Some x → slice_get names j ≡ Some y
      → x ≡ y → i ≡ j

-- a number has this name
pub record HasName (names : List (List ℕ)) (name : List ℕ) (number : ℕ) : Type 0 where
  pub known : number < length names
  pub is : label_of names number ≡ name

-- what the clauses that stand say, in order
abbrev pub standing_rows : Standing → ℕ → List Row → List Row
standing_rows order count rows = map (row_of rows) (take count order.numbers)

-- how often a number is an operand of a row
abbrev pub row_uses : ℕ → Row → ℕ
row_uses number row =
    (if nat_le 1 (arity_of row.op) && row.a == number then 1 else 0)
    + (if nat_le 2 (arity_of row.op) && row.b == number then 1 else 0)

-- how often each of the numbers below a count is an operand of some rows
pub record AreCounted (total : ℕ) (standing : List Row) (uses : List ℕ) : Type 0 where
  pub as_many : length uses ≡ total
  pub each : (number : ℕ) → number < total
      → slice_index_or uses number 0 ≡ sum_by (row_uses number) standing

-- for each number 0, or the place of the first of some rows that has it as an operand
abbrev pub AreFirstUsers : List Row → List ℕ → Type 0
AreFirstUsers standing users = (number : ℕ) → 0 < slice_index_or users number 0
    → position (row_reads number) standing ≡ Some (slice_index_or users number 0)

-- what a table keeps: numbers in an order, how many of them stand as clauses, and the row and name
-- of each
pub record Kept : Type 0 where
  pub order : Standing
  pub count : ℕ
  pub rows : List Row
  pub names : List (List ℕ)

-- its clauses
abbrev pub clauses_in : Kept → List Clause
clauses_in kept = clauses_of kept.order kept.count kept.rows kept.names

-- each number's uses are counted, and each first user that is told is one
pub record IsKept (kept : Kept) (uses told : List ℕ) : Type 0 where
  pub table : IsTable kept.order kept.count kept.rows kept.names
  pub counted : AreCounted (length kept.order.numbers)
      (standing_rows kept.order kept.count kept.rows) uses
  pub users : AreFirstUsers (standing_rows kept.order kept.count kept.rows) told
