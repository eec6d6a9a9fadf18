-- How the lines after the mark are read one after the other.
use Rattle.std.proofs.Common.{All, ◌≡◌, ℕ, zero, suc, ◌+◌, ◌-◌, ◌<◌, ◌≤◌, Bool, true, false, cond, List, [], ◌∷◌, ◌++◌, map, drop, slice_index_or, Some, None, Result, Ok, Err, IsOk, IfErr, refl, ap, sym, subst, ◌∙◌, arith, append_assoc, append-nil}
use Rattle.std.specs.List.{filter}
use Rattle.clause_reader.specs.declared.comments.Comments.TheVariants.{Skipped}
use Rattle.clause_reader.specs.declared.read_error.ReadError.{ReadError}
use Rattle.clause_reader.specs.declared.read_error.ReadError.TheVariants.{Memory, Defect}
use Rattle.clause_reader.specs.Gives.{Gives, defect_or}
use Rattle.clause_reader.specs.GivenLines.{IsGiven}
use Rattle.clause_reader.specs.Lines.{lines_of, tokens_of, is_clause}
use Rattle.clause_reader.specs.NumberedLines.{numbered_from, numbered_lines, given_from}
use Rattle.clause_reader.specs.Reading.{on_result}
use Rattle.edit_script.specs.declared.command.Command.{Command}
use Rattle.edit_script.specs.declared.script_fault.ScriptFault.{ScriptFault}
use Rattle.edit_script.specs.declared.script_reason.ScriptReason.{ScriptReason}
use Rattle.edit_script.specs.declared.script_reason.ScriptReason.TheVariants.{NoMark, NoMemory}
use Rattle.edit_script.specs.Commands.{command_read, IsCommand}
use Rattle.edit_script.specs.Marks.{line_start, mark_place}
use Rattle.edit_script.specs.Scripts.{all_or_first, command_at, commands_after, commands_of, lines_read, pushed, script_read, IsCommandLine, RefusesScript}
use Rattle.edit_script.proofs.LineStarts.{lines_of-from_line}
use Rattle.edit_script.proofs.ReasonLemmas.{never-memory}
use Rattle.clause_reader.proofs.LineWalk.{given-lines-stand}

-- without the first of them
numbered-drop : (k : ℕ) (number : ℕ) (lines : List (List ℕ)) → drop k (numbered_from number lines) ≡ numbered_from (number + k) (drop k lines)
numbered-drop zero number lines = let same : number + 0 ≡ number = omega arith in rw same refl
numbered-drop (suc k) number [] = refl
numbered-drop (suc k) number (line ∷ lines) =
    let same : number + suc k ≡ number + 1 + k = omega arith in rw same (numbered-drop k (number + 1) lines)

-- what command lines say
abbrev said : List (ℕ × List (List ℕ)) → Result (List Command) ScriptFault
said lines = all_or_first (map command_at lines)

-- commands, and then these
abbrev joined : List Command → Result (List Command) ScriptFault → Result (List Command) ScriptFault
joined commands later = on_result later (λ more. Ok (commands ++ more)) (λ fault. Err fault)

joined-none : (later : Result (List Command) ScriptFault) → later ≡ joined [] later
joined-none (Ok commands) = refl
joined-none (Err fault) = refl

-- no line before the first of them is refused
late : (lines : List (List ℕ)) (number : ℕ) → IfErr (said (given_from Skipped number lines)) (λ fault. number ≤ fault.line)
late [] number = tt
late (line ∷ lines) number =
    by (is_clause (tokens_of line)) (command_read number (tokens_of line)) (said (given_from Skipped (number + 1) lines)) refl refl (late lines (number + 1))
  where
    by : (b : Bool) (r : Result Command ScriptReason) (later : Result (List Command) ScriptFault) → command_read number (tokens_of line) ≡ r
        → said (given_from Skipped (number + 1) lines) ≡ later → IfErr later (λ fault. number + 1 ≤ fault.line)
        → IfErr (said (cond b ((number, tokens_of line) ∷ given_from Skipped (number + 1) lines) (given_from Skipped (number + 1) lines))) (λ fault. number ≤ fault.line)
    by true (Ok command) (Ok more) is rest h = rw (is, rest) tt
    by true (Ok command) (Err fault) is rest h = rw (is, rest) (omega arith)
    by true (Err reason) later is rest h = rw is (omega arith)
    by false r (Ok more) is rest h = rw rest tt
    by false r (Err fault) is rest h = rw rest (omega arith)

-- the commands are what the first lines after the mark say, and the others are left
pub record Reads (input : List ℕ) (commands : List Command) (left : List (ℕ × List (List ℕ))) : Type 0 where
  pub mark : ℕ
  pub marked : mark_place input ≡ Some mark
  pub before : List (ℕ × List (List ℕ))
  pub parts : given_from Skipped (mark + 1 + 1) (drop (mark + 1) (lines_of input)) ≡ before ++ left
  pub so_far : script_read input ≡ joined commands (said left)

-- the lines after the mark
pub reads-none : (input : List ℕ) (place end : ℕ) → Some place ≡ mark_place input → end ≡ line_start input (place + 1)
    → Reads input [] (given_from Skipped (place + 1 + 1) (lines_of (drop end input)))
reads-none input place end marked is =
    let same : 1 + (place + 1) ≡ place + 1 + 1 = omega arith in
    let lines : drop (place + 1) (lines_of input) ≡ lines_of (drop end input) = sym (ap (λ n. lines_of (drop n input)) is ∙ lines_of-from_line input (place + 1)) in
    let behind : drop (place + 1) (numbered_lines input) ≡ numbered_from (place + 1 + 1) (lines_of (drop end input)) =
    numbered-drop (place + 1) 1 (lines_of input) ∙ ap (λ n. numbered_from n (drop (place + 1) (lines_of input))) same ∙ ap (numbered_from (place + 1 + 1)) lines in
    record {
      mark = place;
      marked = sym marked;
      before = [];
      parts = ap (given_from Skipped (place + 1 + 1)) lines;
      so_far = ap (commands_after input) (sym marked)
          ∙ ap (λ (numbers : List (ℕ × List (List ℕ))). said (filter (λ line. is_clause line.1) numbers)) behind
          ∙ joined-none (said (given_from Skipped (place + 1 + 1) (lines_of (drop end input))));
    }

-- where there is no mark
pub refuses-unmarked : (input : List ℕ) → None ≡ mark_place input → RefusesScript input (record { line = 0; reason = NoMark })
refuses-unmarked input none = record { refused = λ h. ap (commands_after input) (sym none); no_memory = λ h. (cc) }

-- one line more
pub reads-more : (input : List ℕ) (commands new : List Command) (number : ℕ) (tokens : List (List ℕ)) (left : List (ℕ × List (List ℕ)))
    → Reads input commands ((number, tokens) ∷ left) → pushed commands (command_read number tokens) ≡ Ok new → Reads input new left
reads-more input commands new number tokens left reads ok = record {
  mark = reads.mark;
  marked = reads.marked;
  before = reads.before ++ (number, tokens) ∷ [];
  parts = reads.parts ∙ sym (append_assoc reads.before ((number, tokens) ∷ []) left);
  so_far = reads.so_far ∙ by (command_read number tokens) (said left) refl refl ok;
}
  where
    by : (r : Result Command ScriptReason) (later : Result (List Command) ScriptFault) → command_read number tokens ≡ r → said left ≡ later
        → pushed commands r ≡ Ok new → joined commands (said ((number, tokens) ∷ left)) ≡ joined new (said left)
    by (Ok command) (Ok more) is rest e =
        let same : commands ++ command ∷ [] ≡ new = cc in
        rw (is, rest) (ap Ok (sym (append_assoc commands (command ∷ []) more) ∙ ap (λ xs. xs ++ more) same))
    by (Ok command) (Err fault) is rest e = rw (is, rest) refl
    by (Err reason) later is rest e = (cc)

-- where a line stands after some
index-drop : (k place : ℕ) (lines : List (List ℕ)) → slice_index_or (drop k lines) place [] ≡ slice_index_or lines (k + place) []
index-drop zero place lines = let same : 0 + place ≡ place = omega arith in rw same refl
index-drop (suc k) place [] = refl
index-drop (suc k) place (line ∷ lines) = let same : suc k + place ≡ suc (k + place) = omega arith in rw same (index-drop k place lines)

-- a line that is refused, or for which memory is wanted
pub line-refused : (input : List ℕ) (commands : List Command) (number : ℕ) (tokens : List (List ℕ)) (left : List (ℕ × List (List ℕ)))
    → Reads input commands ((number, tokens) ∷ left) → IsCommandLine input number
line-refused input commands number tokens left reads =
    let at = given-lines-stand Skipped (reads.mark + 1 + 1) (drop (reads.mark + 1) (lines_of input)) reads.before number tokens left reads.parts in
    let place : number - 1 ≡ reads.mark + 1 + at.place = omega (arith, at.numbered) in
    record {
      mark = reads.mark;
      marked = reads.marked;
      after = omega (arith, at.numbered);
      says = rw (place, ← index-drop (reads.mark + 1) at.place (lines_of input)) (ap is_clause at.line ∙ at.given);
    }

pushed-refused : (commands : List Command) (r : Result Command ScriptReason) (reason : ScriptReason) → pushed commands r ≡ Err reason → r ≡ Err reason
pushed-refused commands (Ok command) reason e = (cc)
pushed-refused commands (Err other) reason e = let same : other ≡ reason = cc in ap Err same

pushed-said : (commands : List Command) (r : Result Command ScriptReason) → IsOk (pushed commands r) → IsOk r
pushed-said commands (Ok command) ok = refl
pushed-said commands (Err reason) ok = (cc)

pub reads-refused : (input : List ℕ) (commands : List Command) (number : ℕ) (tokens : List (List ℕ)) (left : List (ℕ × List (List ℕ))) (error : ReadError ScriptReason)
    → Reads input commands ((number, tokens) ∷ left)
    → Gives (pushed commands (command_read number tokens)) (Err error) → RefusesScript input (record { line = number; reason = defect_or NoMemory error })
reads-refused input commands number tokens left Memory reads accepted = record {
  refused = λ other. absurd (other refl);
  no_memory = λ same. subst (λ (r : Result (List Command) ScriptFault). IfErr r (λ first. number < first.line)) (sym reads.so_far)
      (by (command_read number tokens) (said left) refl refl (pushed-said commands (command_read number tokens) accepted)
      (subst (λ (lines : List (ℕ × List (List ℕ))). IfErr (said lines) (λ fault. number + 1 ≤ fault.line)) at.later
      (late (drop (at.place + 1) (drop (reads.mark + 1) (lines_of input))) (number + 1))));
}
  where
    at : IsGiven Skipped (reads.mark + 1 + 1) (drop (reads.mark + 1) (lines_of input)) reads.before number tokens left
    at = given-lines-stand Skipped (reads.mark + 1 + 1) (drop (reads.mark + 1) (lines_of input)) reads.before number tokens left reads.parts

    by : (r : Result Command ScriptReason) (later : Result (List Command) ScriptFault) → command_read number tokens ≡ r → said left ≡ later → IsOk r
        → IfErr (said left) (λ fault. number + 1 ≤ fault.line) → IfErr (joined commands (said ((number, tokens) ∷ left))) (λ first. number < first.line)
    by (Ok command) (Ok more) is rest ok h = rw (is, rest) tt
    by (Ok command) (Err fault) is rest ok h = let last = rw rest at h in rw (is, rest) (omega arith)
    by (Err reason) later is rest ok h = (cc)
reads-refused input commands number tokens left (Defect reason) reads refused =
    let is = pushed-refused commands (command_read number tokens) reason refused in
    record {
      refused = λ other. reads.so_far ∙ rw is refl;
      no_memory = λ same. absurd (never-memory number tokens (is ∙ ap Err same));
    }

-- the end of the input
pub reads-all : (input : List ℕ) (commands : List Command) → Reads input commands [] → script_read input ≡ Ok commands
reads-all input commands reads = reads.so_far ∙ ap Ok (append-nil commands)

-- no command breaks a law
pub keeps-none : All IsCommand []
keeps-none = λ k d h. absurd (omega arith)

-- a line that is refused, where the lines before it say commands
pub reads-stopped : (input : List ℕ) (commands : List Command) (number : ℕ) (tokens : List (List ℕ)) (left : List (ℕ × List (List ℕ))) (reason : ScriptReason)
    → Reads input commands ((number, tokens) ∷ left) → command_read number tokens ≡ Err reason → RefusesScript input (record { line = number; reason = reason })
reads-stopped input commands number tokens left reason reads refused =
    reads-refused input commands number tokens left (Defect reason) reads (ap (pushed commands) refused)

-- the commands so far, whatever they are
pub record Checks (input : List ℕ) (left : List (ℕ × List (List ℕ))) : Type 0 where
  pub commands : List Command
  pub reads : Reads input commands left

pub checks-more : (input : List ℕ) (number : ℕ) (tokens : List (List ℕ)) (left : List (ℕ × List (List ℕ))) (command : Command)
    → Checks input ((number, tokens) ∷ left) → command_read number tokens ≡ Ok command → Checks input left
checks-more input number tokens left command checks said = record {
  commands = checks.commands ++ command ∷ [];
  reads = reads-more input checks.commands (checks.commands ++ command ∷ []) number tokens left checks.reads (ap (pushed checks.commands) said);
}

-- the lines after the mark are read where all of them were looked at
whole : (input : List ℕ) (lines : List (ℕ × List (List ℕ))) (commands : List Command) → Reads input [] lines → script_read input ≡ Ok commands → lines_read lines ≡ Ok commands
whole input lines commands reads is = joined-none (lines_read lines) ∙ sym reads.so_far ∙ is

pub opens-read : (input : List ℕ) (lines : List (ℕ × List (List ℕ))) → Reads input [] lines → Checks input [] → IsOk (lines_read lines)
opens-read input lines reads checks = rw (whole input lines checks.commands reads (reads-all input checks.commands checks.reads)) refl

pub opens-said : (input : List ℕ) (lines : List (ℕ × List (List ℕ))) → Reads input [] lines → Checks input [] → script_read input ≡ Ok (commands_of lines)
opens-said input lines reads checks =
    let all = reads-all input checks.commands checks.reads in
    rw (whole input lines checks.commands reads all) all

-- of lines that are read the first says the first command, and the others say the others
pub first-said : (number : ℕ) (tokens : List (List ℕ)) (left : List (ℕ × List (List ℕ))) (command : Command)
    → IsOk (lines_read ((number, tokens) ∷ left)) → command_read number tokens ≡ Ok command → commands_of ((number, tokens) ∷ left) ≡ command ∷ commands_of left
first-said number tokens left command ok is = by (lines_read left) refl
  where
    by : (later : Result (List Command) ScriptFault) → lines_read left ≡ later → commands_of ((number, tokens) ∷ left) ≡ command ∷ commands_of left
    by (Ok more) rest = rw (is, rest) refl
    by (Err fault) rest = let none = rw (is, rest) at ok in (cc)

pub later-read : (number : ℕ) (tokens : List (List ℕ)) (left : List (ℕ × List (List ℕ))) → IsOk (lines_read ((number, tokens) ∷ left)) → IsOk (lines_read left)
later-read number tokens left ok = by (command_read number tokens) (lines_read left) refl refl
  where
    by : (r : Result Command ScriptReason) (later : Result (List Command) ScriptFault) → command_read number tokens ≡ r → lines_read left ≡ later → IsOk (lines_read left)
    by (Ok command) (Ok more) is rest = rw rest refl
    by (Ok command) (Err fault) is rest = let none = rw (is, rest) at ok in (cc)
    by (Err reason) later is rest = let none = rw is at ok in (cc)

pub none-refused : (number : ℕ) (tokens : List (List ℕ)) (left : List (ℕ × List (List ℕ))) (reason : ScriptReason)
    → IsOk (lines_read ((number, tokens) ∷ left)) → command_read number tokens ≡ Err reason → ⊥
none-refused number tokens left reason ok is = let none = rw is at ok in (cc)
