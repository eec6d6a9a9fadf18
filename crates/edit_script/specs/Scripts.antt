-- What an input says as a script: its commands, or the line on which it is refused and the reason.
use Rattle.std.specs.Prelude.{◌≡◌, ◌≢◌, ℕ, ◌+◌, ◌-◌, ◌<◌, true, List, [], ◌∷◌, ◌++◌, map, filter, drop, slice_index_or, Option, Some, None, Result, Ok, Err, IfErr}
use Rattle.clause_reader.specs.Lines.{lines_of, tokens_of, is_clause}
use Rattle.clause_reader.specs.NumberedLines.{numbered_lines}
use Rattle.clause_reader.specs.Reading.{on_result}
use Rattle.edit_script.specs.declared.command.Command.{Command}
use Rattle.edit_script.specs.declared.script_fault.ScriptFault.{ScriptFault}
use Rattle.edit_script.specs.declared.script_reason.ScriptReason.{ScriptReason}
use Rattle.edit_script.specs.declared.script_reason.ScriptReason.TheVariants.{NoMark, NoMemory}
use Rattle.edit_script.specs.Commands.{command_read}
use Rattle.edit_script.specs.Marks.{mark_place}

-- the lines after the mark line at a place that are neither blank nor comments, each as its number
-- among all lines of the input and its tokens
abbrev pub command_lines : List ℕ → ℕ → List (ℕ × List (List ℕ))
command_lines input mark =
    filter (λ line. is_clause line.1) (drop (mark + 1) (numbered_lines input))

-- the command of a line, or the line with the reason to refuse it
abbrev pub command_at : ℕ × List (List ℕ) → Result Command ScriptFault
command_at line =
    on_result (command_read line.0 line.1) (λ command. Ok command)
    (λ reason. Err (record { line = line.0; reason = reason }))

-- all the values, or the first fault
abbrev pub all_or_first : {A E : Type 0} → List (Result A E) → Result (List A) E
all_or_first [] = Ok []
all_or_first (result ∷ results) =
    on_result result
    (λ value. on_result (all_or_first results) (λ values. Ok (value ∷ values)) (λ fault. Err fault))
    (λ fault. Err fault)

-- what lines say as commands, or the first fault
abbrev pub lines_read : List (ℕ × List (List ℕ)) → Result (List Command) ScriptFault
lines_read lines = all_or_first (map command_at lines)

-- the commands that lines say, none of which is refused
abbrev pub commands_of : List (ℕ × List (List ℕ)) → List Command
commands_of lines = on_result (lines_read lines) (λ commands. commands) (λ fault. [])

-- the commands after the mark line, or line 0 where there is none
abbrev pub commands_after : List ℕ → Option ℕ → Result (List Command) ScriptFault
commands_after input None = Err (record { line = 0; reason = NoMark })
commands_after input (Some mark) = lines_read (command_lines input mark)

-- the commands of an input, or the line on which it is refused and the reason
abbrev pub script_read : List ℕ → Result (List Command) ScriptFault
script_read input = commands_after input (mark_place input)

-- commands with one more, where there is one
abbrev pub pushed : List Command → Result Command ScriptReason → Result (List Command) ScriptReason
pushed commands (Ok command) = Ok (commands ++ command ∷ [])
pushed commands (Err reason) = Err reason

-- a fault of an input: the very line and reason for which it is refused, or want of memory on a
-- line up to which no line is refused
pub record RefusesScript (input : List ℕ) (fault : ScriptFault) : Type 0 where
  pub refused : fault.reason ≢ NoMemory → script_read input ≡ Err fault
  pub no_memory : fault.reason ≡ NoMemory
      → IfErr (script_read input) (λ first. fault.line < first.line)

-- the line of this number stands after the mark line, and is neither blank nor a comment
pub record IsCommandLine (input : List ℕ) (number : ℕ) : Type 0 where
  pub mark : ℕ
  pub marked : mark_place input ≡ Some mark
  pub after : mark + 1 < number
  pub says : is_clause (tokens_of (slice_index_or (lines_of input) (number - 1) [])) ≡ true
