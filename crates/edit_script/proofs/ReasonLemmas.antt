-- A line is refused for the lowest reason that holds in it.
use Rattle.std.proofs.Common.{◌≡◌, ℕ, suc, ◌<◌, Bool, true, false, cond, not, eqb, nat_lt, List, [], ◌∷◌, ◌++◌, length, Option, Some, None, is_none, Result, Ok, Err, refl, ap, sym, subst, ◌∙◌, arith}
use Rattle.std.specs.List.{find, list_any}
use Rattle.std.specs.Result.{is_err}
use Rattle.std.proofs.lemmas.Bool.Decides.{nat_tests}
use Rattle.fixed_ops.specs.declared.operation.Op.{Op}
use Rattle.solid_model.specs.Parts.{Parts}
use Rattle.solid_model.specs.declared.edit.Edit.TheVariants as edits
use Rattle.clause_reader.specs.Forms.{form_said, operation_of, takes, numerals, is_no_numeral}
use Rattle.clause_reader.specs.Lines.{begins_comment}
use Rattle.clause_reader.specs.Reading.{on_result}
use Rattle.view_settings.specs.declared.job.Job.{Job}
use Rattle.view_settings.specs.declared.job.Job.TheVariants as jobs
use Rattle.view_settings.specs.declared.setting.Setting.{Setting}
use Rattle.view_settings.specs.declared.verb.Verb.{Verb}
use Rattle.view_settings.specs.declared.verb.Verb.TheVariants as verbs
use Rattle.view_settings.specs.declared.word_fault.WordFault.{WordFault}
use Rattle.view_settings.specs.declared.word_fault.WordReason.{WordReason}
use Rattle.view_settings.specs.declared.word_fault.WordReason.TheVariants.{EmptySpan, CellTooSmall, TooManyCells}
use Rattle.view_settings.specs.Setting.{setting_of}
use Rattle.view_settings.specs.Settings.{Given, begun, finished, settled}
use Rattle.view_settings.specs.Verbs.{job_with}
use Rattle.view_settings.specs.Views.{is_empty, window_of}
use Rattle.view_settings.specs.Steps.{◌>>=◌}
use Rattle.view_places.specs.Window.{cells_are_few, cells_have_room}
use Rattle.view_settings.specs.Words.{after_words, job_after, refused_at}
use Rattle.edit_script.specs.declared.keyword.Keyword.{Keyword}
use Rattle.edit_script.specs.declared.keyword.Keyword.TheVariants.{Set, Add, Put, Cut, Undo, Render, Height, Mesh, Text, Cost}
use Rattle.edit_script.specs.declared.script_reason.ScriptReason.{ScriptReason}
use Rattle.edit_script.specs.declared.script_reason.ScriptReason.TheVariants.{UnknownCommand, TooShort, BadName, UnknownOperation, WrongArity, BadNumeral, BadSetting, NoMemory}
use Rattle.edit_script.specs.declared.command.Command.{Command}
use Rattle.edit_script.specs.Commands.{after_keyword, command_read, draw_of, edit_or_stray, edit_with, form_found, job_or_bad, keyword_read, name_found}
use Rattle.edit_script.specs.Keywords.{keyword_named}
use Rattle.edit_script.specs.Reasons.{holds, holds_under, of_form, reason_in, reasons, ReasonsAreLowest}

-- tests of how many tokens there are
not_below : (n k : ℕ) → k < suc n → nat_lt n k ≡ false
not_below n k h = grind (arith, nat_tests)

below : (n k : ℕ) → n < k → nat_lt n k ≡ true
below n k h = grind (arith, nat_tests)

-- the faults of a form, the lowest first
abbrev form_fault : List ℕ → List (List ℕ) → Option ScriptReason
form_fault word args =
    cond (is_none (operation_of word)) (Some UnknownOperation)
    (cond (of_form (λ op given. not (eqb (length given) (takes op))) (word ∷ args)) (Some WrongArity)
    (cond (of_form (λ op given. list_any is_no_numeral (numerals op given)) (word ∷ args)) (Some BadNumeral) None))

-- an edit is refused for the lowest fault of its form
form-lowest : (next : Option Parts → Command) (word : List ℕ) (args : List (List ℕ))
    → reason_in (on_result (form_found (form_said (word ∷ args))) (λ found. Ok (next found)) (λ reason. Err reason)) ≡ form_fault word args
form-lowest next word args = by (operation_of word) refl
  where
    by : (o : Option Op) → operation_of word ≡ o
        → reason_in (on_result (form_found (form_said (word ∷ args))) (λ found. Ok (next found)) (λ reason. Err reason)) ≡ form_fault word args
    by None e = rw e refl
    by (Some op) e = at (not (eqb (length args) (takes op))) (list_any is_no_numeral (numerals op args)) refl refl
      where
        at : (arity number : Bool) → not (eqb (length args) (takes op)) ≡ arity → list_any is_no_numeral (numerals op args) ≡ number
            → reason_in (on_result (form_found (form_said (word ∷ args))) (λ found. Ok (next found)) (λ reason. Err reason)) ≡ form_fault word args
        at true number a n = rw (e, a) refl
        at false true a n = rw (e, a, n) refl
        at false false a n = rw (e, a, n) refl

-- words do not change their verb
after_words-verb : (words : List (List ℕ)) (given all : Given) → after_words given words ≡ Ok all → given.verb ≡ all.verb
after_words-verb [] given all e = let same : given ≡ all = cc in ap (λ (g : Given). g.verb) same
after_words-verb (word ∷ words) given all e =
    by (setting_of given.verb given.settings word) refl (λ next h. after_words-verb words next all h)
  where
    by : (r : Result Setting WordReason) → setting_of given.verb given.settings word ≡ r → ((next : Given) → after_words next words ≡ Ok all → next.verb ≡ all.verb)
        → given.verb ≡ all.verb
    by (Ok setting) is later = later (record given { settings = given.settings ++ setting ∷ [] }) (rw is at e)
    by (Err reason) is later = let got = rw is at e in (cc)

-- what a draw of a job is refused for
abbrev DrawnOf : Result Job WordFault → Type 0
DrawnOf job = reason_in (on_result (job_or_bad job) draw_of (λ reason. Err reason)) ≡ cond (is_err job) (Some BadSetting) None

render-settled : (settings : List Setting) → DrawnOf (refused_at 0 (settled verbs.Render settings))
render-settled settings = by (is_empty (window_of settings))
  where
    by : (b : Bool) → DrawnOf (refused_at 0 (cond b (Err EmptySpan) (job_with verbs.Render settings)))
    by true = refl
    by false = refl

height-settled : (settings : List Setting) → DrawnOf (refused_at 0 (settled verbs.Height settings))
height-settled settings = by (is_empty (window_of settings))
  where
    by : (b : Bool) → DrawnOf (refused_at 0 (cond b (Err EmptySpan) (job_with verbs.Height settings)))
    by true = refl
    by false = refl

mesh-settled : (settings : List Setting) → DrawnOf (refused_at 0 (settled verbs.Mesh settings))
mesh-settled settings =
    by (is_empty (window_of settings)) (cells_have_room (window_of settings)) (cells_are_few (window_of settings))
  where
    by : (b room few : Bool)
        → DrawnOf (refused_at 0 (cond b (Err EmptySpan) (cond room (cond few (Ok (jobs.Mesh (window_of settings))) (Err TooManyCells)) (Err CellTooSmall))))
    by true room few = refl
    by false false few = refl
    by false true false = refl
    by false true true = refl

draw-lowest : (verb : Verb) (tokens : List (List ℕ)) → ((settings : List Setting) → DrawnOf (refused_at 0 (settled verb settings))) → DrawnOf (job_after tokens verb)
draw-lowest verb tokens all = by (after_words (begun verb) tokens) refl
  where
    by : (r : Result Given WordFault) → after_words (begun verb) tokens ≡ r → DrawnOf (r >>= λ given. refused_at 0 (finished given))
    by (Ok given) is = subst (λ v. DrawnOf (refused_at 0 (settled v given.settings))) (after_words-verb tokens (begun verb) given is) (all given.settings)
    by (Err fault) is = refl

-- what follows a keyword is refused for the lowest reason that holds for it
after-lowest : (line : ℕ) (keyword : Keyword) (tokens : List (List ℕ))
    → reason_in (after_keyword line keyword tokens) ≡ find (λ reason. holds_under (Some keyword) tokens reason) reasons
after-lowest line Set [] = refl
after-lowest line Set (name ∷ []) = refl
after-lowest line Set (name ∷ word ∷ args) =
    rw (not_below (suc (suc (length args))) 2 (omega arith)) (form-lowest (λ found. edit_or_stray line (edit_with edits.Set (name_found name) found)) word args)
after-lowest line Add [] = refl
after-lowest line Add (name ∷ []) = refl
after-lowest line Add (name ∷ word ∷ args) = by (begins_comment name) refl
  where
    by : (b : Bool) → begins_comment name ≡ b
        → reason_in (after_keyword line Add (name ∷ word ∷ args)) ≡ find (λ reason. holds_under (Some Add) (name ∷ word ∷ args) reason) reasons
    by true e = rw (not_below (suc (suc (length args))) 2 (omega arith), e) refl
    by false e =
        rw (not_below (suc (suc (length args))) 2 (omega arith), e) (form-lowest (λ found. edit_or_stray line (edit_with edits.Add (Some name) found)) word args)
after-lowest line Put [] = refl
after-lowest line Put (next ∷ []) = refl
after-lowest line Put (next ∷ name ∷ []) = refl
after-lowest line Put (next ∷ name ∷ word ∷ args) = by (begins_comment name) refl
  where
    by : (b : Bool) → begins_comment name ≡ b
        → reason_in (after_keyword line Put (next ∷ name ∷ word ∷ args)) ≡ find (λ reason. holds_under (Some Put) (next ∷ name ∷ word ∷ args) reason) reasons
    by true e = rw (not_below (suc (suc (suc (length args)))) 3 (omega arith), e) refl
    by false e =
        rw (not_below (suc (suc (suc (length args)))) 3 (omega arith), e)
        (form-lowest (λ found. edit_or_stray line (edit_with (λ before said. edits.Put before name said) (name_found next) found)) word args)
after-lowest line Cut [] = refl
after-lowest line Cut (name ∷ []) = refl
after-lowest line Cut (name ∷ next ∷ others) =
    rw (not_below (suc (suc (length others))) 1 (omega arith), below 1 (suc (suc (length others))) (omega arith)) refl
after-lowest line Undo [] = refl
after-lowest line Undo (next ∷ others) = rw (not_below (suc (length others)) 0 (omega arith), below 0 (suc (length others)) (omega arith)) refl
after-lowest line Render tokens = rw (not_below (length tokens) 0 (omega arith)) (draw-lowest verbs.Render tokens render-settled)
after-lowest line Height tokens = rw (not_below (length tokens) 0 (omega arith)) (draw-lowest verbs.Height tokens height-settled)
after-lowest line Mesh tokens = rw (not_below (length tokens) 0 (omega arith)) (draw-lowest verbs.Mesh tokens mesh-settled)
after-lowest line Text [] = refl
after-lowest line Text (next ∷ others) = rw (not_below (suc (length others)) 0 (omega arith), below 0 (suc (length others)) (omega arith)) refl
after-lowest line Cost [] = refl
after-lowest line Cost (next ∷ others) = rw (not_below (suc (length others)) 0 (omega arith), below 0 (suc (length others)) (omega arith)) refl

pub reasons-lowest : ReasonsAreLowest
reasons-lowest line [] = refl
reasons-lowest line (word ∷ tokens) = by (keyword_named word)
  where
    by : (k : Option Keyword) → reason_in (keyword_read line k tokens) ≡ find (λ reason. holds_under k tokens reason) reasons
    by None = refl
    by (Some keyword) = after-lowest line keyword tokens

-- so none is refused for want of memory
pub never-memory : (line : ℕ) (tokens : List (List ℕ)) → command_read line tokens ≡ Err NoMemory → ⊥
never-memory line tokens e = by (holds tokens) (sym (ap reason_in e) ∙ reasons-lowest line tokens)
  where
    by : (p : ScriptReason → Bool) → Some NoMemory ≡ find (λ reason. p reason) reasons → ⊥
    by p found =
        first (p UnknownCommand) (p TooShort) (p BadName) (p UnknownOperation) (p WrongArity) (p BadNumeral) (p BadSetting) found
      where
        first : (a b c d e f g : Bool)
            → Some NoMemory
            ≡ cond a (Some UnknownCommand) (cond b (Some TooShort) (cond c (Some BadName) (cond d (Some UnknownOperation)
            (cond e (Some WrongArity) (cond f (Some BadNumeral) (cond g (Some BadSetting) None)))))) → ⊥
        first true b c d e f g h = (cc)
        first false true c d e f g h = (cc)
        first false false true d e f g h = (cc)
        first false false false true e f g h = (cc)
        first false false false false true f g h = (cc)
        first false false false false false true g h = (cc)
        first false false false false false false true h = (cc)
        first false false false false false false false h = (cc)
