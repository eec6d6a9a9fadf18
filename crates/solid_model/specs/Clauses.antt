-- Which lists of clauses are a model, and where a name stands in one.
use Rattle.std.specs.Prelude.{◌≡◌, ◌≢◌, ℕ, ◌<◌, ◌≤◌, ℤ, pos, List, length, map, position, Option, slice_get, Some}
use Rattle.std.specs.Str.{bytes_eq}
use Rattle.fixed_ops.specs.declared.operation.Op.{Op}
use Rattle.fixed_ops.specs.declared.operation.Op.TheVariants.{Const}
use Rattle.fixed_ops.specs.Arity.{arity_of}
use Rattle.fixed_ops.specs.Raw.{IsRaw}
use Rattle.solid_model.specs.declared.clause.Clause.{Clause}
use Rattle.solid_model.specs.Names.{IsName}

-- the place of the first clause of this name
abbrev pub place_of : List Clause → List ℕ → Option ℕ
place_of clauses name = position (λ c. bytes_eq name c.name) clauses

-- the names, in the order of the clauses
abbrev pub names_of : List Clause → List (List ℕ)
names_of clauses = map (λ c. c.name) clauses

-- What a clause may say at a place: the operands that its operation has stand before the place,
-- those that it lacks are 0, and its number is 0 where it is no constant.
pub record FitsAt (place : ℕ) (op : Op) (a b : ℕ) (value : ℤ) : Type 0 where
  pub first : 0 < arity_of op → a < place
  pub second : 1 < arity_of op → b < place
  pub no_first : arity_of op ≡ 0 → a ≡ 0
  pub no_second : arity_of op ≤ 1 → b ≡ 0
  pub no_value : op ≢ Const → value ≡ pos 0

-- a clause at a place: its name is a name, its number is a raw number, and what it says fits there
pub record IsClauseAt (place : ℕ) (clause : Clause) : Type 0 where
  pub name : IsName clause.name
  pub raw : IsRaw clause.value
  pub fits : FitsAt place clause.op clause.a clause.b clause.value

-- each clause may stand at its place, so its operands stand before it
abbrev pub AreInOrder : List Clause → Type 0
AreInOrder clauses =
    (place : ℕ) (clause : Clause) → slice_get clauses place ≡ Some clause → IsClauseAt place clause

-- no two clauses have one name
abbrev pub HaveDistinctNames : List Clause → Type 0
HaveDistinctNames clauses = (i j : ℕ) (a b : Clause) → slice_get clauses i ≡ Some a
    → slice_get clauses j ≡ Some b → a.name ≡ b.name → i ≡ j

-- at most 65,535 clauses of distinct names, whose operands stand before them
pub record AreClauses (clauses : List Clause) : Type 0 where
  pub few : length clauses ≤ 65535
  pub each : AreInOrder clauses
  pub distinct : HaveDistinctNames clauses

-- a model: such clauses, and at least one
pub record IsModel (clauses : List Clause) : Type 0 where
  pub some : 0 < length clauses
  pub clauses_are : AreClauses clauses
