-- The operation and the arguments of a line, before names are looked up.
use Rattle.std.specs.Prelude.{ℕ, nat_le, List, [], ◌∷◌, ◌++◌, length, is_some, Result, Ok, Err, if◌then◌else◌}
use Rattle.solid_model.specs.declared.clause.Clause.{Clause}
use Rattle.solid_model.specs.declared.push_fault.PushFault.{PushFault}
use Rattle.solid_model.specs.declared.push_fault.PushFault.TheVariants as push
use Rattle.solid_model.specs.Clauses.{place_of}
use Rattle.solid_model.specs.Parts.{Parts}
use Rattle.clause_reader.specs.declared.form_fault.FormFault.{FormFault}
use Rattle.clause_reader.specs.declared.form_fault.FormFault.TheVariants as form
use Rattle.clause_reader.specs.declared.form_defect.FormDefect.{FormDefect}
use Rattle.clause_reader.specs.declared.form_defect.FormDefect.TheVariants.{NoOperation, UnknownOperation, WrongArity, BadNumeral}
use Rattle.clause_reader.specs.declared.operands.Operands.{Operands}
use Rattle.clause_reader.specs.declared.operands.Operands.TheVariants.{Zero, One, Two}
use Rattle.clause_reader.specs.declared.read_error.ReadError.{ReadError}
use Rattle.clause_reader.specs.declared.read_error.ReadError.TheVariants.{Memory, Defect}
use Rattle.clause_reader.specs.declared.text_reason.TextReason.{TextReason}
use Rattle.clause_reader.specs.declared.text_reason.TextReason.TheVariants as text
use Rattle.clause_reader.specs.declared.written_form.WrittenForm.{WrittenForm}
use Rattle.clause_reader.specs.Reading.{has_unknown, place_or_zero}

-- operands as a list of their bytes
abbrev pub names_in : Operands → List (List ℕ)
names_in Zero = []
names_in (One x) = x.now ∷ []
names_in (Two x y) = x.now ∷ y.now ∷ []

-- a form by its parts
abbrev pub parts_in : WrittenForm → Parts
parts_in w = record { op = w.op; args = names_in w.operands; value = w.value }

-- a defect of a form as its fault, beside want of memory
abbrev pub as_fault : ReadError FormDefect → FormFault
as_fault Memory = form.NoMemory
as_fault (Defect NoOperation) = form.NoOperation
as_fault (Defect UnknownOperation) = form.UnknownOperation
as_fault (Defect WrongArity) = form.WrongArity
as_fault (Defect BadNumeral) = form.BadNumeral

-- and as a reason to refuse a text
abbrev pub as_reason : FormDefect → TextReason
as_reason NoOperation = text.NoOperation
as_reason UnknownOperation = text.UnknownOperation
as_reason WrongArity = text.WrongArity
as_reason BadNumeral = text.BadNumeral

-- why a clause did not go last, as a reason to refuse a text, beside want of memory
abbrev pub as_error : PushFault → ReadError TextReason
as_error push.DoubleName = Defect text.DoubleName
as_error push.Full = Defect text.TooMany
as_error push.NoMemory = Memory

-- clauses with one more of this name, from what its tokens say
abbrev pub extended : List Clause → List ℕ → Result Parts FormDefect
    → Result (List Clause) TextReason
extended clauses name (Err defect) = Err (as_reason defect)
extended clauses name (Ok parts) =
    if has_unknown clauses parts.args then Err text.UnknownName
    else if is_some (place_of clauses name) then Err text.DoubleName
    else if nat_le 65535 (length clauses) then Err text.TooMany
    else Ok (clauses ++ record {
      name = name;
      op = parts.op;
      a = place_or_zero clauses parts.args 0;
      b = place_or_zero clauses parts.args 1;
      value = parts.value;
    } ∷ [])
