-- What a word sets: one setting, or the lowest reason against it.
use Rattle.std.specs.Prelude.{◌≡◌, ℕ, ◌+◌, ◌≤◌, ◌==◌, Bool, ◌&&◌, nat_le, List, take, drop, position, Option, Some, Result, Ok, Err, if◌then◌else◌}
use Rattle.std.specs.List.{list_any}
use Rattle.std.specs.Option.{option_and_then, option_map}
use Rattle.fixed_ops.specs.Numerals.{digits_read, numeral}
use Rattle.fixed_ops.specs.Raw.{IsRaw}
use Rattle.view_settings.specs.declared.kind.Kind.{Kind}
use Rattle.view_settings.specs.declared.kind.Kind.TheVariants as kinds
use Rattle.view_settings.specs.declared.name.Name.{Name}
use Rattle.view_settings.specs.declared.setting.Setting.{Setting}
use Rattle.view_settings.specs.declared.setting.Value.{Value}
use Rattle.view_settings.specs.declared.setting.Value.TheVariants.{Raw, Count}
use Rattle.view_settings.specs.declared.verb.Verb.{Verb}
use Rattle.view_settings.specs.declared.word_fault.WordReason.{WordReason}
use Rattle.view_settings.specs.declared.word_fault.WordReason.TheVariants.{NotASetting, UnknownSetting, Twice, BadValue, OutOfRange}
use Rattle.view_settings.specs.Names.{name_called, is_same}
use Rattle.view_settings.specs.Steps.{◌>>=◌, or_refused}
use Rattle.view_settings.specs.Verbs.{kind_of}

-- the sign between name and value
abbrev pub is_equals : ℕ → Bool
is_equals byte = byte == 61

-- what stands before and after the first `=` of a word, and None where it has none
abbrev pub parts_of : List ℕ → Option (List ℕ × List ℕ)
parts_of word = option_map (λ at. (take at word, drop (at + 1) word)) (position is_equals word)

-- the setting of a verb that is called so, with the values that it may have
abbrev pub known : Verb → List ℕ → Option (Name × Kind)
known verb text =
    option_and_then (λ name. option_map (λ kind. (name, kind)) (kind_of verb name))
    (name_called text)

-- a setting of this name was taken
abbrev pub is_given : Name → List Setting → Bool
is_given name taken = list_any (λ setting. is_same name setting.name) taken

-- a count within these ends
abbrev pub count_within : ℕ → ℕ → ℕ → Result Value WordReason
count_within least greatest count =
    if nat_le least count && nat_le count greatest then Ok (Count count) else Err OutOfRange

-- the value of this kind that a text means
abbrev pub value_read : Kind → List ℕ → Result Value WordReason
value_read kinds.Numeral text = or_refused (option_map Raw (numeral text)) BadValue
value_read (kinds.Count least greatest) text =
    or_refused (digits_read 20 text) BadValue >>= count_within least greatest

-- this name, where it was not taken before
abbrev pub once : Name → List Setting → Result Name WordReason
once name taken = if is_given name taken then Err Twice else Ok name

-- The setting that a word gives after those that were taken, or the lowest reason against it. Its
-- reasons in their order: it has no `=`; the verb has no setting of this name; the name was given
-- before; the value is none of its kind; the count is out of range.
unfoldable pub setting_of : Verb → List Setting → List ℕ → Result Setting WordReason
setting_of verb taken word = do
  parts ← or_refused (parts_of word) NotASetting
  named ← or_refused (known verb parts.0) UnknownSetting
  name ← once named.0 taken
  value ← value_read named.1 parts.1
  Ok (record { name = name; value = value })

-- a value of this kind
abbrev pub IsValue : Kind → Value → Type 0
IsValue kinds.Numeral (Raw v) = IsRaw v
IsValue kinds.Numeral (Count n) = ⊥
IsValue (kinds.Count least greatest) (Raw v) = ⊥
IsValue (kinds.Count least greatest) (Count n) = (least ≤ n) × (n ≤ greatest)

-- a setting of the verb, with a value that it may have
pub record IsSetting (verb : Verb) (setting : Setting) : Type 0 where
  pub kind : Kind
  pub taken : kind_of verb setting.name ≡ Some kind
  pub value : IsValue kind setting.value
