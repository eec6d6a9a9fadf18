-- The blocks that the commands of a script write: frames, and the lines of what is refused.
use Rattle.std.specs.Prelude.{ℕ, List, ◌++◌, length, codes, decimal}
use Rattle.solid_model.specs.declared.edit.EditFault.{EditFault}
use Rattle.modeller_cmd.specs.Names.{edit_fault_name}

-- the line before the bytes of a frame: the word for its kind, and how many bytes they are
abbrev pub frame_header : List ℕ → ℕ → List ℕ
frame_header name count = codes "@ " ++ name ++ codes " " ++ decimal count ++ codes "\n"

-- a frame: that line, and the bytes
abbrev pub frame_of : List ℕ → List ℕ → List ℕ
frame_of name bytes = frame_header name (length bytes) ++ bytes

-- the line of an edit or an undo that is refused: the number of its own line, as lines are counted from the
-- start of the input, and why
abbrev pub refused_line : ℕ → EditFault → List ℕ
refused_line line fault =
    codes "@ refused " ++ decimal line ++ codes " " ++ edit_fault_name fault ++ codes "\n"
