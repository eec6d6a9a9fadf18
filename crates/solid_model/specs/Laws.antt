-- What always holds of plain values, of names and places, and of edits.
use Rattle.std.specs.Prelude.{◌≡◌, ℕ, ℤ, pos, List, length, Some, Ok, slice_get, slice_index_or}
use Rattle.fixed_ops.specs.Points.{Point, IsRawPoint}
use Rattle.fixed_ops.specs.Raw.{IsRaw}
use Rattle.solid_model.specs.declared.clause.Clause.{Clause}
use Rattle.solid_model.specs.declared.edit.Edit.{Edit}
use Rattle.solid_model.specs.Clauses.{AreInOrder, AreClauses, IsModel}
use Rattle.solid_model.specs.Edits.{edited, IsEdit}
use Rattle.solid_model.specs.Inverses.{inverse_of}
use Rattle.solid_model.specs.Named.{named_of, placed}
use Rattle.solid_model.specs.Values.{clause_value, values, solid_value}

-- The equations of plain evaluation: there is one value for each clause, and it is what the clause
-- makes of the values of its operands, read in the same list.
pub record AreValues (p : Point) (clauses : List Clause) (all : List ℤ) : Type 0 where
  pub as_many : length all ≡ length clauses
  pub each : (place : ℕ) (clause : Clause) → slice_get clauses place ≡ Some clause
      → slice_get all place ≡ Some (clause_value p all clause)

-- the plain values satisfy the equations
abbrev pub PlainValuesHold : Type 0
PlainValuesHold = (p : Point) (clauses : List Clause) → AreInOrder clauses
    → AreValues p clauses (values p clauses)

-- and no other list does
abbrev pub OnlyPlainValuesHold : Type 0
OnlyPlainValuesHold = (p : Point) (clauses : List Clause) (all : List ℤ) → AreInOrder clauses
    → AreValues p clauses all → all ≡ values p clauses

-- at a point of raw numbers each of them is a raw number, and so is the solid's
abbrev pub PlainValuesAreRaw : Type 0
PlainValuesAreRaw = (p : Point) (clauses : List Clause) → IsRawPoint p → AreInOrder clauses
    → ((place : ℕ) → IsRaw (slice_index_or (values p clauses) place (pos 0)))
    × IsRaw (solid_value p clauses)

-- clauses by names, resolved to places, are the clauses
abbrev pub NamesGivePlaces : Type 0
NamesGivePlaces = (clauses : List Clause) → AreClauses clauses → placed (named_of clauses) ≡ clauses

-- an edit of clauses that is not refused gives a model
abbrev pub EditsGiveModels : Type 0
EditsGiveModels = (clauses : List Clause) (edit : Edit) (new : List Clause)
    → AreClauses clauses → IsEdit edit → edited clauses edit ≡ Ok new → IsModel new

-- After an edit that a model accepts, its inverse is an edit that is accepted, and gives the model again.
pub record IsTakenBack (clauses : List Clause) (edit : Edit) (new : List Clause) : Type 0 where
  pub edit_is : IsEdit (inverse_of clauses edit)
  pub back : edited new (inverse_of clauses edit) ≡ Ok clauses

abbrev pub EditsAreTakenBack : Type 0
EditsAreTakenBack = (clauses : List Clause) (edit : Edit) (new : List Clause)
    → IsModel clauses → IsEdit edit → edited clauses edit ≡ Ok new → IsTakenBack clauses edit new
