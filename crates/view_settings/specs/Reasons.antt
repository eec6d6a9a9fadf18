-- Where each reason against the word of a setting holds, whichever others hold there too.
use Rattle.std.specs.Prelude.{◌≡◌, ℕ, Bool, false, ◌&&◌, not, nat_le, List, [], ◌∷◌, find, Option, Some, None, is_none, Result, Ok, Err}
use Rattle.std.specs.Option.{option_map_or}
use Rattle.fixed_ops.specs.Numerals.{digits_read, numeral}
use Rattle.view_settings.specs.declared.kind.Kind.{Kind}
use Rattle.view_settings.specs.declared.kind.Kind.TheVariants as kinds
use Rattle.view_settings.specs.declared.name.Name.{Name}
use Rattle.view_settings.specs.declared.setting.Setting.{Setting}
use Rattle.view_settings.specs.declared.verb.Verb.{Verb}
use Rattle.view_settings.specs.declared.word_fault.WordReason.{WordReason}
use Rattle.view_settings.specs.declared.word_fault.WordReason.TheVariants.{NotASetting, UnknownSetting, Twice, BadValue, OutOfRange}
use Rattle.view_settings.specs.Setting.{is_given, known, parts_of, setting_of}

-- a test of what a verb calls so and of the text of its value, where the verb has such a setting
abbrev pub of_setting : (Name → Kind → List ℕ → Bool) → Verb → List ℕ → Bool
of_setting test verb word =
    option_map_or (λ parts. option_map_or (λ named. test named.0 named.1 parts.1)
    (known verb parts.0) false) (parts_of word) false

-- a text is no value of this kind
abbrev pub is_bad : Kind → List ℕ → Bool
is_bad kinds.Numeral text = is_none (numeral text)
is_bad (kinds.Count least greatest) text = is_none (digits_read 20 text)

-- a text is a count that is out of the range of its kind
abbrev pub is_out : Kind → List ℕ → Bool
is_out kinds.Numeral text = false
is_out (kinds.Count least greatest) text =
    option_map_or (λ n. not (nat_le least n && nat_le n greatest)) (digits_read 20 text) false

-- a reason holds in a word of a verb that comes after these settings
abbrev pub holds : Verb → List Setting → List ℕ → WordReason → Bool
holds verb taken word NotASetting = is_none (parts_of word)
holds verb taken word UnknownSetting =
    option_map_or (λ parts. is_none (known verb parts.0)) (parts_of word) false
holds verb taken word Twice = of_setting (λ name kind text. is_given name taken) verb word
holds verb taken word BadValue = of_setting (λ name kind text. is_bad kind text) verb word
holds verb taken word OutOfRange = of_setting (λ name kind text. is_out kind text) verb word
holds verb taken word reason = false

-- the reasons against the word of a setting, the lowest first
abbrev pub reasons : List WordReason
reasons = NotASetting ∷ UnknownSetting ∷ Twice ∷ BadValue ∷ OutOfRange ∷ []

-- the reason for which a word is refused
abbrev pub reason_in : Result Setting WordReason → Option WordReason
reason_in (Ok setting) = None
reason_in (Err reason) = Some reason

-- a word is refused for the lowest reason that holds in it, and gives a setting where none does
abbrev pub WordReasonsAreLowest : Type 0
WordReasonsAreLowest =
    (verb : Verb) (taken : List Setting) (word : List ℕ)
    → reason_in (setting_of verb taken word)
    ≡ find (λ reason. holds verb taken word reason) reasons
