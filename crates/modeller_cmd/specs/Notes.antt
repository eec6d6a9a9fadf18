-- The one line that says why a run has not done its work.
use Rattle.std.specs.Prelude.{ℕ, List, ◌++◌, codes, decimal}
use Rattle.modeller_cmd.specs.Names.{ply_reason_name, script_reason_name, solid_reason_name, text_reason_name, word_reason_name}
use Rattle.modeller_cmd.specs.declared.bad_text.BadText.{BadText}
use Rattle.modeller_cmd.specs.declared.bad_text.BadText.TheVariants.{Mesh, Model, Solid}
use Rattle.modeller_cmd.specs.declared.refusal.Refusal.{Refusal}
use Rattle.modeller_cmd.specs.declared.refusal.Refusal.TheVariants.{Words, TooLong, Text, Script}
use Rattle.modeller_cmd.specs.declared.stop.Stop.{Stop}
use Rattle.modeller_cmd.specs.declared.stop.Stop.TheVariants.{Refused, ReadFault, WriteFault, NoMemory}

-- what is wrong in the place of this number
abbrev pub fault_line : List ℕ → ℕ → List ℕ → List ℕ
fault_line place number reason =
    codes "modeller: " ++ place ++ codes " " ++ decimal number ++ codes ": " ++ reason ++ codes "\n"

-- the line that is written for a text that is refused
abbrev pub bad_text_line : BadText → List ℕ
bad_text_line (Model fault) =
    fault_line (codes "line") fault.line (text_reason_name fault.reason)
bad_text_line (Solid fault) =
    fault_line (codes "line") fault.line (solid_reason_name fault.reason)
bad_text_line (Mesh fault) =
    fault_line (codes "line") fault.line (ply_reason_name fault.reason)

-- the line that is written for a refusal
abbrev pub refusal_line : Refusal → List ℕ
refusal_line (Words fault) = fault_line (codes "word") fault.at (word_reason_name fault.reason)
refusal_line TooLong = codes "modeller: input too long\n"
refusal_line (Text bad) = bad_text_line bad
refusal_line (Script fault) =
    fault_line (codes "script line") fault.line (script_reason_name fault.reason)

-- the line that is written for a stop
abbrev pub line_of : Stop → List ℕ
line_of (Refused refusal) = refusal_line refusal
line_of ReadFault = codes "modeller: read fault\n"
line_of WriteFault = codes "modeller: write fault\n"
line_of NoMemory = codes "modeller: no memory\n"
