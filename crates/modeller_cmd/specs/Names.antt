-- The names of reasons and faults in the lines that a run writes.
use Rattle.std.specs.Prelude.{ℕ, List, codes}
use Rattle.clause_reader.specs.declared.text_reason.TextReason.{TextReason}
use Rattle.clause_reader.specs.declared.text_reason.TextReason.TheVariants as text
use Rattle.edit_script.specs.declared.script_reason.ScriptReason.{ScriptReason}
use Rattle.edit_script.specs.declared.script_reason.ScriptReason.TheVariants as script
use Rattle.ply_check.specs.declared.ply_reason.PlyReason.{PlyReason}
use Rattle.ply_check.specs.declared.ply_reason.PlyReason.TheVariants as mesh
use Rattle.solid_lang.specs.declared.solid_reason.SolidReason.{SolidReason}
use Rattle.solid_lang.specs.declared.solid_reason.SolidReason.TheVariants as forms
use Rattle.solid_model.specs.declared.edit.EditFault.{EditFault}
use Rattle.solid_model.specs.declared.edit.EditFault.TheVariants as fault
use Rattle.view_settings.specs.declared.word_fault.WordReason.{WordReason}
use Rattle.view_settings.specs.declared.word_fault.WordReason.TheVariants as word

-- the name of a reason why a word is refused
abbrev pub word_reason_name : WordReason → List ℕ
word_reason_name word.NoVerb = codes "NoVerb"
word_reason_name word.UnknownVerb = codes "UnknownVerb"
word_reason_name word.NotASetting = codes "NotASetting"
word_reason_name word.UnknownSetting = codes "UnknownSetting"
word_reason_name word.Twice = codes "Twice"
word_reason_name word.BadValue = codes "BadValue"
word_reason_name word.OutOfRange = codes "OutOfRange"
word_reason_name word.EmptySpan = codes "EmptySpan"
word_reason_name word.CellTooSmall = codes "CellTooSmall"
word_reason_name word.TooManyCells = codes "TooManyCells"

-- the name of a reason why a model's text is refused
abbrev pub text_reason_name : TextReason → List ℕ
text_reason_name text.NoOperation = codes "NoOperation"
text_reason_name text.UnknownOperation = codes "UnknownOperation"
text_reason_name text.WrongArity = codes "WrongArity"
text_reason_name text.BadNumeral = codes "BadNumeral"
text_reason_name text.UnknownName = codes "UnknownName"
text_reason_name text.DoubleName = codes "DoubleName"
text_reason_name text.TooMany = codes "TooMany"
text_reason_name text.Empty = codes "Empty"
text_reason_name text.NoMemory = codes "NoMemory"

-- the name of a reason why the text of a solid, written as forms, is refused
abbrev pub solid_reason_name : SolidReason → List ℕ
solid_reason_name forms.UnknownForm = codes "UnknownForm"
solid_reason_name forms.TooDeep = codes "TooDeep"
solid_reason_name forms.BadNumeral = codes "BadNumeral"
solid_reason_name forms.NotPositive = codes "NotPositive"
solid_reason_name forms.Unended = codes "Unended"
solid_reason_name forms.Trailing = codes "Trailing"
solid_reason_name forms.TooMany = codes "TooMany"
solid_reason_name forms.Empty = codes "Empty"
solid_reason_name forms.NoMemory = codes "NoMemory"

-- the name of a reason why a mesh is refused
abbrev pub ply_reason_name : PlyReason → List ℕ
ply_reason_name mesh.NotPly = codes "NotPly"
ply_reason_name mesh.BadHeader = codes "BadHeader"
ply_reason_name mesh.BadVertex = codes "BadVertex"
ply_reason_name mesh.BadFace = codes "BadFace"
ply_reason_name mesh.BadIndex = codes "BadIndex"
ply_reason_name mesh.TooShort = codes "TooShort"
ply_reason_name mesh.TooLong = codes "TooLong"
ply_reason_name mesh.NoMemory = codes "NoMemory"

-- the name of a reason why a script is refused
abbrev pub script_reason_name : ScriptReason → List ℕ
script_reason_name script.NoMark = codes "NoMark"
script_reason_name script.UnknownCommand = codes "UnknownCommand"
script_reason_name script.TooShort = codes "TooShort"
script_reason_name script.BadName = codes "BadName"
script_reason_name script.UnknownOperation = codes "UnknownOperation"
script_reason_name script.WrongArity = codes "WrongArity"
script_reason_name script.BadNumeral = codes "BadNumeral"
script_reason_name script.BadSetting = codes "BadSetting"
script_reason_name script.NoMemory = codes "NoMemory"

-- the name of a fault for which an edit, or taking the last one back, is refused
abbrev pub edit_fault_name : EditFault → List ℕ
edit_fault_name fault.UnknownName = codes "UnknownName"
edit_fault_name fault.DoubleName = codes "DoubleName"
edit_fault_name fault.NotEarlier = codes "NotEarlier"
edit_fault_name (fault.InUse place) = codes "InUse"
edit_fault_name fault.LastClause = codes "LastClause"
edit_fault_name fault.Full = codes "Full"
edit_fault_name fault.NoMemory = codes "NoMemory"
edit_fault_name fault.NothingToUndo = codes "NothingToUndo"
