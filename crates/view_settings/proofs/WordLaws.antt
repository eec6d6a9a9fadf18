-- Words are taken one after the other.
use Rattle.std.proofs.Common.{◌≡◌, ℕ, suc, ◌+◌, ◌<◌, ◌≤◌, List, [], ◌∷◌, length, get_or, drop, Ok, Err, None, refl, sym, ap, ◌∙◌, add-one, drop-cons, arith}
use Rattle.std.specs.Prelude.{String, string_bytes}
use Rattle.std.specs.Global.{Global}
use Rattle.std.proofs.Math.ListN.{drop_of_length-le}
use Rattle.view_settings.specs.declared.word_fault.WordReason.{WordReason}
use Rattle.view_settings.specs.declared.word_fault.WordReason.TheVariants.{UnknownVerb}
use Rattle.view_settings.specs.Settings.{Given, after_word}
use Rattle.view_settings.specs.Verbs.{verb_named}
use Rattle.view_settings.specs.Words.{after_words, bytes_of, job_of, next_word}

-- the words from one on, as that word and those after it
words_from : (words : List (String Global)) (i : ℕ) (word : String Global) → i < length words → word ≡ get_or words i word → bytes_of (drop i words) ≡ string_bytes word ∷ bytes_of (drop (i + 1) words)
words_from words i word lt is = rw (add-one, drop-cons words i word lt) (ap (λ w. string_bytes w ∷ bytes_of (drop (suc i) words)) (sym is))

-- a word that is taken
pub taken_next : (given next : Given) (words : List (String Global)) (i : ℕ) (word : String Global) → i < length words → word ≡ get_or words i word → after_word given (string_bytes word) ≡ Ok next
    → after_words next (bytes_of (drop (i + 1) words)) ≡ after_words given (bytes_of (drop i words))
taken_next given next words i word lt is taken = rw (words_from words i word lt is, taken) refl

-- a word that is refused
pub refused_next : (given : Given) (reason : WordReason) (words : List (String Global)) (i : ℕ) (word : String Global) → i < length words → word ≡ get_or words i word → after_word given (string_bytes word) ≡ Err reason
    → Err (record { at = next_word given; reason = reason }) ≡ after_words given (bytes_of (drop i words))
refused_next given reason words i word lt is refused = rw (words_from words i word lt is, refused) refl

-- all words are taken
pub all_taken : (given : Given) (words : List (String Global)) (i : ℕ) → length words ≤ i → after_words given (bytes_of (drop i words)) ≡ Ok given
all_taken given words i le = rw (drop_of_length-le words le) refl

-- a first word that is no verb
pub no_verb : (words : List (String Global)) (first : String Global) → 0 < length words → first ≡ get_or words 0 first → verb_named (string_bytes first) ≡ None → job_of (bytes_of words) ≡ Err (record { at = 1; reason = UnknownVerb })
no_verb [] first some is none = absurd (omega (arith, some))
no_verb (word ∷ words) first some is none =
    let unknown : verb_named (string_bytes word) ≡ None = ap (λ w. verb_named (string_bytes w)) (sym is) ∙ none in
    rw unknown refl
