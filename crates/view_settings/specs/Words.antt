-- What words ask for, or which of them is refused, and why.
use Rattle.std.specs.Prelude.{ℕ, ◌+◌, List, [], ◌∷◌, length, map, String, string_bytes, Result, Ok, Err}
use Rattle.std.specs.Global.{Global}
use Rattle.view_settings.specs.declared.job.Job.{Job}
use Rattle.view_settings.specs.declared.verb.Verb.{Verb}
use Rattle.view_settings.specs.declared.word_fault.WordFault.{WordFault}
use Rattle.view_settings.specs.declared.word_fault.WordReason.{WordReason}
use Rattle.view_settings.specs.declared.word_fault.WordReason.TheVariants.{NoVerb, UnknownVerb}
use Rattle.view_settings.specs.Settings.{Given, begun, after_word, finished}
use Rattle.view_settings.specs.Steps.{◌>>=◌, or_refused}
use Rattle.view_settings.specs.Verbs.{verb_named}

-- the bytes of the words
abbrev pub bytes_of : List (String Global) → List (List ℕ)
bytes_of words = map (λ word. string_bytes word) words

-- a refusal of the word of this number
abbrev pub refused_at : {A : Type 0} → ℕ → Result A WordReason → Result A WordFault
refused_at at (Ok x) = Ok x
refused_at at (Err reason) = Err (record { at = at; reason = reason })

-- the number of the next word: the verb and a word for each setting stand before it
abbrev pub next_word : Given → ℕ
next_word given = length given.settings + 2

-- the settings after these words, or the first that is refused
abbrev pub after_words : Given → List (List ℕ) → Result Given WordFault
after_words given [] = Ok given
after_words given (word ∷ words) =
    refused_at (next_word given) (after_word given word) >>= λ next. after_words next words

-- the job of a verb with the settings of these words
abbrev pub job_after : List (List ℕ) → Verb → Result Job WordFault
job_after words verb = after_words (begun verb) words >>= λ given. refused_at 0 (finished given)

-- The job that words ask for, or the first word that is refused with the lowest reason against it.
-- Where all words are good, the settings may be refused together, under the number 0.
abbrev pub job_of : List (List ℕ) → Result Job WordFault
job_of [] = Err (record { at = 0; reason = NoVerb })
job_of (word ∷ words) = refused_at 1 (or_refused (verb_named word) UnknownVerb) >>= job_after words
