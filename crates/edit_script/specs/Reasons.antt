-- Where each reason against a line holds, whichever others hold there too.
use Rattle.std.specs.Prelude.{◌≡◌, ℕ, ◌==◌, nat_lt, Bool, true, false, not, ◌||◌, List, [], ◌∷◌, length, drop, find, slice_get, Option, Some, None, is_none, Result, Ok, Err}
use Rattle.std.specs.List.{list_any}
use Rattle.std.specs.Option.{option_map_or}
use Rattle.std.specs.Result.{is_err}
use Rattle.fixed_ops.specs.declared.operation.Op.{Op}
use Rattle.clause_reader.specs.Forms.{operation_of, takes, numerals, is_no_numeral}
use Rattle.clause_reader.specs.Lines.{begins_comment}
use Rattle.view_settings.specs.declared.verb.Verb.TheVariants as verbs
use Rattle.view_settings.specs.Words.{job_after}
use Rattle.edit_script.specs.declared.command.Command.{Command}
use Rattle.edit_script.specs.declared.keyword.Keyword.{Keyword}
use Rattle.edit_script.specs.declared.keyword.Keyword.TheVariants.{Set, Add, Put, Cut, Undo, Render, Height, Mesh, Text, Cost}
use Rattle.edit_script.specs.declared.script_reason.ScriptReason.{ScriptReason}
use Rattle.edit_script.specs.declared.script_reason.ScriptReason.TheVariants.{UnknownCommand, TooShort, BadName, UnknownOperation, WrongArity, BadNumeral, BadSetting}
use Rattle.edit_script.specs.Commands.{command_read}
use Rattle.edit_script.specs.Keywords.{keyword_named}

-- the keyword of a line
abbrev pub keyword_of : List (List ℕ) → Option Keyword
keyword_of [] = None
keyword_of (word ∷ others) = keyword_named word

-- how many tokens have to follow a keyword
abbrev pub least_after : Keyword → ℕ
least_after Set = 2
least_after Add = 2
least_after Put = 3
least_after Cut = 1
least_after Undo = 0
least_after Render = 0
least_after Height = 0
least_after Mesh = 0
least_after Text = 0
least_after Cost = 0

-- the new name among the tokens after a keyword
abbrev pub new_name : Keyword → List (List ℕ) → Option (List ℕ)
new_name Add tokens = slice_get tokens 0
new_name Put tokens = slice_get tokens 1
new_name keyword tokens = None

-- the operation and its arguments among the tokens after a keyword
abbrev pub form_of : Keyword → List (List ℕ) → List (List ℕ)
form_of Set tokens = drop 1 tokens
form_of Add tokens = drop 1 tokens
form_of Put tokens = drop 2 tokens
form_of keyword tokens = []

-- the operation is none
abbrev pub is_unknown : List (List ℕ) → Bool
is_unknown [] = false
is_unknown (word ∷ args) = is_none (operation_of word)

-- a test of an operation and its arguments, where there is one
abbrev pub of_form : (Op → List (List ℕ) → Bool) → List (List ℕ) → Bool
of_form test [] = false
of_form test (word ∷ args) = option_map_or (λ op. test op args) (operation_of word) false

-- a token follows the last one of a command that has no arguments of an operation
abbrev pub has_more : Keyword → List (List ℕ) → Bool
has_more Cut tokens = nat_lt 1 (length tokens)
has_more Undo tokens = nat_lt 0 (length tokens)
has_more Text tokens = nat_lt 0 (length tokens)
has_more Cost tokens = nat_lt 0 (length tokens)
has_more keyword tokens = false

-- the settings of a draw have a fault
abbrev pub is_bad_draw : Keyword → List (List ℕ) → Bool
is_bad_draw Render tokens = is_err (job_after tokens verbs.Render)
is_bad_draw Height tokens = is_err (job_after tokens verbs.Height)
is_bad_draw Mesh tokens = is_err (job_after tokens verbs.Mesh)
is_bad_draw keyword tokens = false

-- a reason holds for the tokens after a keyword
abbrev pub holds_after : ScriptReason → Keyword → List (List ℕ) → Bool
holds_after TooShort keyword tokens = nat_lt (length tokens) (least_after keyword)
holds_after BadName keyword tokens = option_map_or begins_comment (new_name keyword tokens) false
holds_after UnknownOperation keyword tokens = is_unknown (form_of keyword tokens)
holds_after WrongArity keyword tokens =
    has_more keyword tokens
    || of_form (λ op args. not (length args == takes op)) (form_of keyword tokens)
holds_after BadNumeral keyword tokens =
    of_form (λ op args. list_any is_no_numeral (numerals op args)) (form_of keyword tokens)
holds_after BadSetting keyword tokens = is_bad_draw keyword tokens
holds_after reason keyword tokens = false

-- a reason holds under a keyword, or where there is none
abbrev pub holds_under : Option Keyword → List (List ℕ) → ScriptReason → Bool
holds_under None tokens UnknownCommand = true
holds_under None tokens reason = false
holds_under (Some keyword) tokens reason = holds_after reason keyword tokens

-- a reason holds in the tokens of a line
abbrev pub holds : List (List ℕ) → ScriptReason → Bool
holds tokens reason = holds_under (keyword_of tokens) (drop 1 tokens) reason

-- the reasons against a line, the lowest first
abbrev pub reasons : List ScriptReason
reasons =
    UnknownCommand ∷ TooShort ∷ BadName ∷ UnknownOperation ∷ WrongArity ∷ BadNumeral ∷ BadSetting ∷ []

-- the reason for which a line is refused
abbrev pub reason_in : Result Command ScriptReason → Option ScriptReason
reason_in (Ok command) = None
reason_in (Err reason) = Some reason

-- a line is refused for the lowest reason that holds in it, and says a command where none does
abbrev pub ReasonsAreLowest : Type 0
ReasonsAreLowest =
    (line : ℕ) (tokens : List (List ℕ))
    → reason_in (command_read line tokens) ≡ find (λ reason. holds tokens reason) reasons
