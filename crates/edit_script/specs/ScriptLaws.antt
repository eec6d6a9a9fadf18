-- What always holds of scripts: an input says what its lines say one by one, and nothing else.
use Rattle.std.specs.Prelude.{◌≡◌, ◌↔◌, ℕ, ◌+◌, List, ◌∷◌, ◌++◌, ◌⊎◌, map, take, drop, Some, None, Result, Ok, Err, All, IfOk}
use Rattle.clause_reader.specs.Lines.{lines_of}
use Rattle.edit_script.specs.declared.command.Command.{Command}
use Rattle.edit_script.specs.declared.script_fault.ScriptFault.{ScriptFault}
use Rattle.edit_script.specs.declared.script_reason.ScriptReason.TheVariants.{NoMark}
use Rattle.edit_script.specs.Commands.{IsCommand, MayBeDrawn}
use Rattle.edit_script.specs.Marks.{mark_ends, mark_place}
use Rattle.edit_script.specs.Scripts.{command_lines, command_at, script_read}

-- there is a mark line, and each command line after it says one of the commands, in their order
pub record SaysCommands (input : List ℕ) (commands : List Command) : Type 0 where
  pub mark : ℕ
  pub marked : mark_place input ≡ Some mark
  pub said : map command_at (command_lines input mark) ≡ map Ok commands

-- there is no mark line, which is told as line 0
pub record HasNoMark (input : List ℕ) (fault : ScriptFault) : Type 0 where
  pub none : mark_place input ≡ None
  pub told : fault ≡ record { line = 0; reason = NoMark }

-- there is a mark line, and of the command lines after it those before the refused one say commands
pub record HasBadLine (input : List ℕ) (fault : ScriptFault) : Type 0 where
  pub mark : ℕ
  pub marked : mark_place input ≡ Some mark
  pub before : List Command
  pub after : List (Result Command ScriptFault)
  pub first : map command_at (command_lines input mark) ≡ map Ok before ++ Err fault ∷ after

-- reading answers commands exactly where the lines say them
abbrev pub ScriptsAreExact : Type 0
ScriptsAreExact =
    (input : List ℕ) (commands : List Command)
    → (script_read input ≡ Ok commands) ↔ SaysCommands input commands

-- reading answers a line and a reason exactly where the input has no mark line, or this line is the
-- first that is refused
abbrev pub RefusalsAreExact : Type 0
RefusalsAreExact =
    (input : List ℕ) (fault : ScriptFault)
    → (script_read input ≡ Err fault) ↔ (HasNoMark input fault ⊎ HasBadLine input fault)

-- what stands around a mark line: the lines before it, and the lines after it
pub record Splits (input : List ℕ) (start end : ℕ) : Type 0 where
  pub mark : ℕ
  pub marked : mark_place input ≡ Some mark
  pub before : lines_of (take start input) ≡ take mark (lines_of input)
  pub after : lines_of (drop end input) ≡ drop (mark + 1) (lines_of input)

-- the input splits so at its first mark line
abbrev pub InputsAreSplit : Type 0
InputsAreSplit =
    (input : List ℕ) (start end : ℕ) → mark_ends input ≡ Some (start, end) → Splits input start end

-- the commands of an input keep what commands keep
abbrev pub ReadScriptsAreCommands : Type 0
ReadScriptsAreCommands = (input : List ℕ) → IfOk (script_read input) (All IsCommand)

-- what the commands of an input draw may be drawn of their views
abbrev pub DrawsMayBeDrawn : Type 0
DrawsMayBeDrawn = (input : List ℕ) → IfOk (script_read input) (All MayBeDrawn)
