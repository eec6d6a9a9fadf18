-- Settings are taken one after the other.
use Rattle.std.proofs.Common.{◌≡◌, ℕ, List, [], ◌∷◌, Result, Ok, Err, IfErr, true, false, refl, sym, ap, ◌∙◌}
use Rattle.std.specs.Prelude.{OnOk}
use Rattle.std.specs.Result.{is_err}
use Rattle.view_settings.specs.declared.job.Job.{Job}
use Rattle.view_settings.specs.declared.verb.Verb.{Verb}
use Rattle.view_settings.specs.declared.word_fault.WordReason.{WordReason}
use Rattle.view_settings.specs.Settings.{Given, after_word, begun, finished}
use Rattle.view_settings.specs.Words.{after_words, job_after, refused_at}
use Rattle.edit_script.specs.declared.script_reason.ScriptReason.TheVariants.{BadSetting}
use Rattle.edit_script.specs.Commands.{job_or_bad}

-- the settings so far with the words that are left are those of all words
abbrev pub Takes : Verb → List (List ℕ) → Given → List (List ℕ) → Type 0
Takes verb all given words = after_words (begun verb) all ≡ after_words given words

-- one word more
pub takes-more : {A : Type 0} (verb : Verb) (all : List (List ℕ)) (given next : Given) (word : List ℕ) (words tokens : List (List ℕ)) (r : Result A WordReason)
    → Takes verb all given tokens → tokens ≡ word ∷ words → OnOk r (after_word given word ≡ Ok next) → is_err r ≡ false → Takes verb all next words
takes-more verb all given next word words tokens (Ok taken) so_far is ok none = so_far ∙ ap (after_words given) is ∙ rw ok refl
takes-more verb all given next word words tokens (Err reason) so_far is ok none = (cc)

-- a word that is refused
pub takes-none : {A : Type 0} (verb : Verb) (all : List (List ℕ)) (given : Given) (word : List ℕ) (words tokens : List (List ℕ)) (r : Result A WordReason)
    → Takes verb all given tokens → tokens ≡ word ∷ words → IfErr r (λ reason. after_word given word ≡ Err reason) → is_err r ≡ true
    → Err BadSetting ≡ job_or_bad (job_after all verb)
takes-none verb all given word words tokens (Ok taken) so_far is refused some = (cc)
takes-none verb all given word words tokens (Err reason) so_far is refused some =
    let all_refused = so_far ∙ ap (after_words given) is in
    rw all_refused (rw refused refl)

-- no word is left
pub takes-all : (verb : Verb) (all : List (List ℕ)) (given : Given) (tokens : List (List ℕ)) (r : Result Job WordReason) → Takes verb all given tokens → tokens ≡ []
    → finished given ≡ r → job_or_bad (refused_at 0 r) ≡ job_or_bad (job_after all verb)
takes-all verb all given tokens r so_far none is =
    let whole = so_far ∙ ap (after_words given) none in
    rw whole (ap (λ job. job_or_bad (refused_at 0 job)) (sym is))
