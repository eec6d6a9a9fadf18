-- What words give, word by word: which settings, or which word is the first to be refused.
use Rattle.std.specs.Prelude.{◌≡◌, ◌↔◌, ℕ, ◌+◌, ◌<◌, List, [], ◌++◌, length, take, slice_index_or, Ok, Err}
use Rattle.view_settings.specs.declared.job.Job.{Job}
use Rattle.view_settings.specs.declared.setting.Setting.{Setting}
use Rattle.view_settings.specs.declared.verb.Verb.{Verb}
use Rattle.view_settings.specs.declared.word_fault.WordReason.{WordReason}
use Rattle.view_settings.specs.Setting.{setting_of}
use Rattle.view_settings.specs.Settings.{begun}
use Rattle.view_settings.specs.Verbs.{IsJob}
use Rattle.view_settings.specs.Words.{after_words, job_after}

-- each word gives one setting, after those that were taken and those of the words before it
pub record GiveAfter (verb : Verb) (taken : List Setting)
    (words : List (List ℕ)) (settings : List Setting) : Type 0 where
  pub as_many : length settings ≡ length words
  pub each : (k : ℕ) (word : List ℕ) (setting : Setting) → k < length words
      → setting_of verb (taken ++ take k settings) (slice_index_or words k word)
      ≡ Ok (slice_index_or settings k setting)

-- the words of a verb give these settings
abbrev pub Give : Verb → List (List ℕ) → List Setting → Type 0
Give verb words settings = GiveAfter verb [] words settings

-- the first word that gives none, counted from 0, and the lowest reason against it, after the
-- settings taken
pub record RefusesAfter (verb : Verb) (taken : List Setting)
    (words : List (List ℕ)) (k : ℕ) (reason : WordReason) : Type 0 where
  pub within : k < length words
  pub before : List Setting
  pub given : GiveAfter verb taken (take k words) before
  pub refused : setting_of verb (taken ++ before) (slice_index_or words k []) ≡ Err reason

-- the first word of a verb that is refused, and the lowest reason against it
abbrev pub Refuse : Verb → List (List ℕ) → ℕ → WordReason → Type 0
Refuse verb words k reason = RefusesAfter verb [] words k reason

-- the settings of words are those that they give, one by one
abbrev pub GivenSettingsAreExact : Type 0
GivenSettingsAreExact =
    (verb : Verb) (words : List (List ℕ)) (settings : List Setting)
    → (after_words (begun verb) words ≡ Ok (record {
      verb = verb;
      settings = settings;
    })) ↔ Give verb words settings

-- the refused word is the first that gives none; the verb and the words before it are counted too
abbrev pub RefusedWordIsExact : Type 0
RefusedWordIsExact =
    (verb : Verb) (words : List (List ℕ)) (k : ℕ) (reason : WordReason)
    → (after_words (begun verb) words ≡ Err (record {
      at = k + 2;
      reason = reason;
    })) ↔ Refuse verb words k reason

-- the job that words ask for keeps what each job keeps: its view is one, and may be drawn so
abbrev pub JobsHold : Type 0
JobsHold =
    (verb : Verb) (words : List (List ℕ)) (job : Job) → job_after words verb ≡ Ok job → IsJob job
