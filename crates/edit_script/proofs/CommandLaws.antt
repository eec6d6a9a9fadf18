-- What the lines of a script say keeps what commands keep.
use Rattle.std.proofs.Common.{◌≡◌, ℕ, ◌+◌, Bool, true, false, cond, List, [], ◌∷◌, length, drop, map, zip, Option, Some, None, Result, Ok, Err, refl, IfOk}
use Rattle.std.specs.Prelude.{IfSome}
use Rattle.std.specs.List.{All, range_with_len}
use Rattle.std.proofs.lemmas.List.Elements.{All-cons, All-drop, All-filter, All-head, All-nil, All-tail}
use Rattle.solid_model.specs.Edits.{IsEdit}
use Rattle.solid_model.specs.Names.{IsName}
use Rattle.solid_model.specs.Parts.{IsForm, Parts}
use Rattle.solid_model.specs.declared.edit.Edit.{Edit}
use Rattle.solid_model.specs.declared.edit.Edit.TheVariants as edits
use Rattle.clause_reader.specs.Forms.{form_said}
use Rattle.clause_reader.specs.Lines.{begins_comment, is_clause, lines_of, tokens_of}
use Rattle.clause_reader.specs.NumberedLines.{numbered_lines}
use Rattle.clause_reader.specs.ReadModels.{MayName}
use Rattle.clause_reader.specs.Reading.{on_result}
use Rattle.clause_reader.specs.declared.form_defect.FormDefect.{FormDefect}
use Rattle.view_settings.specs.Verbs.{IsJob}
use Rattle.view_settings.specs.declared.job.Job.{Job}
use Rattle.view_settings.specs.declared.job.Job.TheVariants as jobs
use Rattle.view_settings.specs.declared.verb.Verb.{Verb}
use Rattle.view_settings.specs.declared.verb.Verb.TheVariants as verbs
use Rattle.view_settings.specs.declared.word_fault.WordFault.{WordFault}
use Rattle.view_settings.specs.Words.{job_after}
use Rattle.edit_script.specs.declared.command.Command.{Command}
use Rattle.edit_script.specs.declared.command.Command.TheVariants as commands
use Rattle.edit_script.specs.declared.keyword.Keyword.{Keyword}
use Rattle.edit_script.specs.declared.keyword.Keyword.TheVariants as keywords
use Rattle.edit_script.specs.declared.script_fault.ScriptFault.{ScriptFault}
use Rattle.edit_script.specs.declared.script_reason.ScriptReason.{ScriptReason}
use Rattle.edit_script.specs.Commands.{IsCommand, MayBeDrawn, after_keyword, command_read, draw_of, edit_or_stray, edit_with, form_found, job_or_bad, name_found, under_name}
use Rattle.edit_script.specs.Keywords.{keyword_named}
use Rattle.edit_script.specs.Marks.{mark_place}
use Rattle.edit_script.specs.Scripts.{all_or_first, command_at, command_lines, script_read}
use Rattle.edit_script.specs.ScriptLaws.{DrawsMayBeDrawn, ReadScriptsAreCommands}
use Rattle.view_settings.proofs.JobLaws.{jobs-hold}
use Rattle.clause_reader.proofs.ReadModels.{said-forms-are-forms, tokens-may-name}

-- where a result is read, its command keeps what commands keep
abbrev Holds : Result Command ScriptReason → Type 0
Holds read = IfOk read IsCommand

-- the name that a token is
found-name : (token name : List ℕ) → MayName token → name_found token ≡ Some name → IsName name
found-name token name may e = by (begins_comment token) refl
  where
    by : (t : Bool) → begins_comment token ≡ t → IsName name
    by true c = let got = rw c at e in (cc)
    by false c = let got = rw c at e in let same : token ≡ name = cc in rw same at (may c)

edit-holds : (line : ℕ) (edit : Option Edit) → IfSome edit IsEdit → IsCommand (edit_or_stray line edit)
edit-holds line None is = tt
edit-holds line (Some edit) is = is

-- a form that is read makes an edit with a name that is one
form-holds : (line : ℕ) (edit : List ℕ → Parts → Edit) (name : Option (List ℕ)) (tokens : List (List ℕ))
    → ((given : List ℕ) (form : Parts) → name ≡ Some given → IsForm form → IsEdit (edit given form))
    → Holds (on_result (form_found (form_said tokens)) (λ found. Ok (edit_or_stray line (edit_with edit name found))) (λ reason. Err reason))
form-holds line edit name tokens makes = by (form_said tokens) refl
  where
    with : (given : Option (List ℕ)) → name ≡ given → (found : Option Parts) → ((form : Parts) → found ≡ Some form → IsForm form)
        → IfSome (edit_with edit given found) IsEdit
    with None is found are = tt
    with (Some given) is None are = tt
    with (Some given) is (Some form) are = makes given form is (are form refl)

    by : (r : Result (Option Parts) FormDefect) → form_said tokens ≡ r
        → Holds (on_result (form_found r) (λ found. Ok (edit_or_stray line (edit_with edit name found))) (λ reason. Err reason))
    by (Err defect) said = tt
    by (Ok found) said = edit-holds line (edit_with edit name found) (with name refl found (λ form is. said-forms-are-forms tokens form (rw is at said)))

under-holds : (name : List ℕ) (form : List (List ℕ)) (said : Result Command ScriptReason) → (begins_comment name ≡ false → Holds said)
    → Holds (under_name name form said)
under-holds name [] said holds = tt
under-holds name (word ∷ args) said holds = by (begins_comment name) refl
  where
    by : (t : Bool) → begins_comment name ≡ t → Holds (under_name name (word ∷ args) said)
    by true c = rw c tt
    by false c = rw c (holds c)

cut-holds : (line : ℕ) (name : List ℕ) → MayName name
    → IsCommand (cond (begins_comment name) (commands.Stray line) (commands.Edit line (edits.Cut name)))
cut-holds line name may = by (begins_comment name) refl
  where
    by : (t : Bool) → begins_comment name ≡ t → IsCommand (cond t (commands.Stray line) (commands.Edit line (edits.Cut name)))
    by true c = tt
    by false c = may c

job-holds : (job : Job) → IsJob job → Holds (draw_of job)
job-holds (jobs.Render view) is = is
job-holds (jobs.Height view) is = is
job-holds (jobs.Mesh view) is = is
job-holds other is = tt

draw-holds : (verb : Verb) (tokens : List (List ℕ)) (read : Result Job WordFault) → job_after tokens verb ≡ read
    → Holds (on_result (job_or_bad read) draw_of (λ reason. Err reason))
draw-holds verb tokens (Ok job) is = job-holds job (jobs-hold verb tokens job is)
draw-holds verb tokens (Err fault) is = tt

keyword-holds : (line : ℕ) (keyword : Keyword) (tokens : List (List ℕ)) → All MayName tokens → Holds (after_keyword line keyword tokens)
keyword-holds line keywords.Set [] may = tt
keyword-holds line keywords.Set (name ∷ form) may =
    form-holds line edits.Set (name_found name) form (λ given said is are. (found-name name given (All-head MayName name form may) is, are))
keyword-holds line keywords.Add [] may = tt
keyword-holds line keywords.Add (name ∷ form) may = under-holds name form _
    (λ other. form-holds line edits.Add (name_found name) form (λ given said is are. (found-name name given (All-head MayName name form may) is, are)))
keyword-holds line keywords.Put [] may = tt
keyword-holds line keywords.Put (before ∷ []) may = tt
keyword-holds line keywords.Put (before ∷ name ∷ form) may = under-holds name form _
    (λ other. form-holds line (λ next said. edits.Put next name said) (name_found before) form
    (λ given said is are. (All-head MayName name form (All-tail MayName before (name ∷ form) may) other, are)))
keyword-holds line keywords.Cut [] may = tt
keyword-holds line keywords.Cut (name ∷ []) may = cut-holds line name (All-head MayName name [] may)
keyword-holds line keywords.Cut (name ∷ next ∷ others) may = tt
keyword-holds line keywords.Undo [] may = tt
keyword-holds line keywords.Undo (next ∷ others) may = tt
keyword-holds line keywords.Render tokens may = draw-holds verbs.Render tokens (job_after tokens verbs.Render) refl
keyword-holds line keywords.Height tokens may = draw-holds verbs.Height tokens (job_after tokens verbs.Height) refl
keyword-holds line keywords.Mesh tokens may = draw-holds verbs.Mesh tokens (job_after tokens verbs.Mesh) refl
keyword-holds line keywords.Text [] may = tt
keyword-holds line keywords.Text (next ∷ others) may = tt
keyword-holds line keywords.Cost [] may = tt
keyword-holds line keywords.Cost (next ∷ others) may = tt

command-holds : (line : ℕ) (tokens : List (List ℕ)) → All MayName tokens → Holds (command_read line tokens)
command-holds line [] may = tt
command-holds line (word ∷ tokens) may = by (keyword_named word) refl (λ keyword. keyword-holds line keyword tokens (All-tail MayName word tokens may))
  where
    by : (o : Option Keyword) → keyword_named word ≡ o → ((keyword : Keyword) → Holds (after_keyword line keyword tokens))
        → Holds (command_read line (word ∷ tokens))
    by None k holds = rw k tt
    by (Some keyword) k holds = rw k (holds keyword)

-- and so do those of all lines
all-hold : (lines : List (ℕ × List (List ℕ))) → All (λ line. All MayName line.1) lines → IfOk (all_or_first (map command_at lines)) (All IsCommand)
all-hold [] may = All-nil IsCommand
all-hold (line ∷ lines) may =
    by (command_read line.0 line.1) refl (command-holds line.0 line.1 (All-head (λ l. All MayName l.1) line lines may))
    (all_or_first (map command_at lines)) refl (all-hold lines (All-tail (λ l. All MayName l.1) line lines may))
  where
    by : (r : Result Command ScriptReason) → command_read line.0 line.1 ≡ r → Holds r → (rest : Result (List Command) ScriptFault)
        → all_or_first (map command_at lines) ≡ rest → IfOk rest (All IsCommand) → IfOk (all_or_first (map command_at (line ∷ lines))) (All IsCommand)
    by (Err reason) is holds rest others all = rw is tt
    by (Ok command) is holds (Err fault) others all = rw (is, others) tt
    by (Ok command) is holds (Ok values) others all = rw (is, others) (All-cons IsCommand command values holds all)

-- what numbers are put to keeps what it kept
numbered : (numbers : List ℕ) (lines : List (List (List ℕ))) → All (All MayName) lines → All (λ line. All MayName line.1) (zip numbers lines)
numbered [] lines all = All-nil (λ line. All MayName line.1)
numbered (number ∷ numbers) [] all = All-nil (λ line. All MayName line.1)
numbered (number ∷ numbers) (line ∷ lines) all =
    All-cons (λ l. All MayName l.1) (number, line) (zip numbers lines) (All-head (All MayName) line lines all)
    (numbered numbers lines (All-tail (All MayName) line lines all))

pub read-scripts-are-commands : ReadScriptsAreCommands
read-scripts-are-commands input = by (mark_place input) refl
  where
    may : (mark : ℕ) → All (λ line. All MayName line.1) (command_lines input mark)
    may mark = All-filter (λ line. is_clause line.1) (λ line. All MayName line.1) (drop (mark + 1) (numbered_lines input))
        (All-drop (λ line. All MayName line.1) (mark + 1) (numbered_lines input)
        (numbered (range_with_len 1 (length (lines_of input))) (map tokens_of (lines_of input)) (tokens-may-name input)))

    by : (o : Option ℕ) → mark_place input ≡ o → IfOk (script_read input) (All IsCommand)
    by None m = rw m tt
    by (Some mark) m = rw m (all-hold (command_lines input mark) (may mark))

-- so what they draw may be drawn
drawn : (command : Command) → IsCommand command → MayBeDrawn command
drawn (commands.Render view) is = is
drawn (commands.Height view) is = is
drawn (commands.Mesh view) is = is
drawn other is = tt

pub draws-may-be-drawn : DrawsMayBeDrawn
draws-may-be-drawn input = by (script_read input) (read-scripts-are-commands input)
  where
    by : (r : Result (List Command) ScriptFault) → IfOk r (All IsCommand) → IfOk r (All MayBeDrawn)
    by (Ok commands) all = λ k d less. drawn _ (all k d less)
    by (Err fault) all = tt
