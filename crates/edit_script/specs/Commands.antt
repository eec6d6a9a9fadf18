-- What the tokens of a line say as a command, or the first reason to refuse the line.
use Rattle.std.specs.Prelude.{ℕ, List, [], ◌∷◌, Option, Some, None, Result, Ok, Err, if◌then◌else◌, ⊤}
use Rattle.solid_model.specs.Edits.{IsEdit}
use Rattle.solid_model.specs.Parts.{Parts}
use Rattle.solid_model.specs.declared.edit.Edit.{Edit}
use Rattle.solid_model.specs.declared.edit.Edit.TheVariants as edits
use Rattle.clause_reader.specs.declared.form_defect.FormDefect.{FormDefect}
use Rattle.clause_reader.specs.declared.form_defect.FormDefect.TheVariants as defects
use Rattle.clause_reader.specs.Forms.{form_said}
use Rattle.clause_reader.specs.Lines.{begins_comment}
use Rattle.clause_reader.specs.Reading.{on_result}
use Rattle.view_settings.specs.declared.job.Job.{Job}
use Rattle.view_settings.specs.declared.job.Job.TheVariants as jobs
use Rattle.view_settings.specs.declared.verb.Verb.{Verb}
use Rattle.view_settings.specs.declared.verb.Verb.TheVariants as verbs
use Rattle.view_settings.specs.declared.word_fault.WordFault.{WordFault}
use Rattle.view_places.specs.Window.{IsWindow, FitsHeight, FitsMesh}
use Rattle.view_settings.specs.Words.{job_after}
use Rattle.edit_script.specs.declared.command.Command.{Command}
use Rattle.edit_script.specs.declared.command.Command.TheVariants as commands
use Rattle.edit_script.specs.declared.keyword.Keyword.{Keyword}
use Rattle.edit_script.specs.declared.keyword.Keyword.TheVariants as keywords
use Rattle.edit_script.specs.declared.script_reason.ScriptReason.{ScriptReason}
use Rattle.edit_script.specs.declared.script_reason.ScriptReason.TheVariants.{UnknownCommand, TooShort, BadName, UnknownOperation, WrongArity, BadNumeral, BadSetting}
use Rattle.edit_script.specs.Keywords.{keyword_named}

-- the reason to refuse an edit whose form has this defect
abbrev pub form_reason : FormDefect → ScriptReason
form_reason defects.NoOperation = TooShort
form_reason defects.UnknownOperation = UnknownOperation
form_reason defects.WrongArity = WrongArity
form_reason defects.BadNumeral = BadNumeral

-- the form of an edit, or none where an argument begins with `#`, or the reason to refuse it
abbrev pub form_found : Result (Option Parts) FormDefect → Result (Option Parts) ScriptReason
form_found (Ok form) = Ok form
form_found (Err defect) = Err (form_reason defect)

-- a name that stands in a model, or none where the token begins with `#`
abbrev pub name_found : List ℕ → Option (List ℕ)
name_found token = if begins_comment token then None else Some token

-- an edit, or one with a token that begins with `#`, so that it can name no clause
abbrev pub edit_or_stray : ℕ → Option Edit → Command
edit_or_stray line (Some edit) = commands.Edit line edit
edit_or_stray line None = commands.Stray line

-- an edit of a name and a form, where both are there
abbrev pub edit_with : (List ℕ → Parts → Edit) → Option (List ℕ) → Option Parts → Option Edit
edit_with edit (Some name) (Some form) = Some (edit name form)
edit_with edit (Some name) None = None
edit_with edit None form = None

-- an edit of a name and of the form that tokens say
abbrev pub edit_read : ℕ → (List ℕ → Parts → Edit) → List ℕ → List (List ℕ)
    → Result Command ScriptReason
edit_read line edit name form =
    on_result (form_found (form_said form))
    (λ found. Ok (edit_or_stray line (edit_with edit (name_found name) found)))
    (λ reason. Err reason)

-- the first fault of the name of a new clause: no operation follows it, or it begins with `#`
abbrev pub name_checked : List ℕ → List (List ℕ) → Result ⊤ ScriptReason
name_checked name [] = Err TooShort
name_checked name (word ∷ args) = if begins_comment name then Err BadName else Ok tt

-- what is said under the name of a new clause
abbrev pub under_name : List ℕ → List (List ℕ) → Result Command ScriptReason
    → Result Command ScriptReason
under_name name form said =
    on_result (name_checked name form) (λ checked. said) (λ reason. Err reason)

-- `set NAME OP ARGS`
abbrev pub set_read : ℕ → List (List ℕ) → Result Command ScriptReason
set_read line [] = Err TooShort
set_read line (name ∷ form) = edit_read line edits.Set name form

-- `add NAME OP ARGS`
abbrev pub add_read : ℕ → List (List ℕ) → Result Command ScriptReason
add_read line [] = Err TooShort
add_read line (name ∷ form) = under_name name form (edit_read line edits.Add name form)

-- `put BEFORE NAME OP ARGS`
abbrev pub put_read : ℕ → List (List ℕ) → Result Command ScriptReason
put_read line [] = Err TooShort
put_read line (before ∷ []) = Err TooShort
put_read line (before ∷ name ∷ form) =
    under_name name form (edit_read line (λ next said. edits.Put next name said) before form)

-- `cut NAME`
abbrev pub cut_read : ℕ → List (List ℕ) → Result Command ScriptReason
cut_read line [] = Err TooShort
cut_read line (name ∷ []) =
    Ok (if begins_comment name then commands.Stray line else commands.Edit line (edits.Cut name))
cut_read line (name ∷ next ∷ others) = Err WrongArity

-- a command that is one word
abbrev pub alone_read : Command → List (List ℕ) → Result Command ScriptReason
alone_read command [] = Ok command
alone_read command (next ∷ others) = Err WrongArity

-- the command of a job that draws: a script draws what is named here, and nothing else
abbrev pub draw_of : Job → Result Command ScriptReason
draw_of (jobs.Render view) = Ok (commands.Render view)
draw_of (jobs.Height view) = Ok (commands.Height view)
draw_of (jobs.Mesh view) = Ok (commands.Mesh view)
draw_of other = Err BadSetting

-- the job of settings, all of whose faults are one reason
abbrev pub job_or_bad : Result Job WordFault → Result Job ScriptReason
job_or_bad (Ok job) = Ok job
job_or_bad (Err fault) = Err BadSetting

-- a draw with its settings, which are those of this verb, and have its defaults
abbrev pub draw_read : Verb → List (List ℕ) → Result Command ScriptReason
draw_read verb settings =
    on_result (job_or_bad (job_after settings verb)) draw_of (λ reason. Err reason)

-- what follows a keyword
abbrev pub after_keyword : ℕ → Keyword → List (List ℕ) → Result Command ScriptReason
after_keyword line keywords.Set tokens = set_read line tokens
after_keyword line keywords.Add tokens = add_read line tokens
after_keyword line keywords.Put tokens = put_read line tokens
after_keyword line keywords.Cut tokens = cut_read line tokens
after_keyword line keywords.Undo tokens = alone_read (commands.Undo line) tokens
after_keyword line keywords.Render tokens = draw_read verbs.Render tokens
after_keyword line keywords.Height tokens = draw_read verbs.Height tokens
after_keyword line keywords.Mesh tokens = draw_read verbs.Mesh tokens
after_keyword line keywords.Text tokens = alone_read commands.Text tokens
after_keyword line keywords.Cost tokens = alone_read commands.Cost tokens

-- the command of a keyword and the tokens after it
abbrev pub keyword_read : ℕ → Option Keyword → List (List ℕ) → Result Command ScriptReason
keyword_read line None tokens = Err UnknownCommand
keyword_read line (Some keyword) tokens = after_keyword line keyword tokens

-- The command that the tokens of the line of this number say, or the lowest reason to refuse it, in
-- this order: the first token is no command; too few follow it; the name of a new clause begins
-- with `#`; the operation is none; its arguments are not as many as it takes, or a token follows
-- the last of another command; the argument of a constant is no numeral; the settings of a draw
-- have a fault.
abbrev pub command_read : ℕ → List (List ℕ) → Result Command ScriptReason
command_read line [] = Err UnknownCommand
command_read line (word ∷ tokens) = keyword_read line (keyword_named word) tokens

-- what a command always keeps: its edit is one, and what it draws may be drawn of its view
abbrev pub IsCommand : Command → Type 0
IsCommand (commands.Edit line edit) = IsEdit edit
IsCommand (commands.Stray line) = ⊤
IsCommand (commands.Undo line) = ⊤
IsCommand (commands.Render view) = IsWindow view
IsCommand (commands.Height view) = IsWindow view × FitsHeight view
IsCommand (commands.Mesh view) = IsWindow view × FitsMesh view
IsCommand commands.Text = ⊤
IsCommand commands.Cost = ⊤

-- what a command draws may be drawn of its view
abbrev pub MayBeDrawn : Command → Type 0
MayBeDrawn (commands.Edit line edit) = ⊤
MayBeDrawn (commands.Stray line) = ⊤
MayBeDrawn (commands.Undo line) = ⊤
MayBeDrawn (commands.Render view) = IsWindow view
MayBeDrawn (commands.Height view) = IsWindow view × FitsHeight view
MayBeDrawn (commands.Mesh view) = IsWindow view × FitsMesh view
MayBeDrawn commands.Text = ⊤
MayBeDrawn commands.Cost = ⊤
