-- A word is refused for the lowest reason that holds in it.
use Rattle.std.proofs.Common.{◌≡◌, ℕ, ℤ, Bool, true, false, ◌&&◌, nat_le, List, Option, Some, None, refl}
use Rattle.std.specs.List.{find}
use Rattle.fixed_ops.specs.Numerals.{digits_read, numeral}
use Rattle.view_settings.specs.declared.kind.Kind.{Kind}
use Rattle.view_settings.specs.declared.kind.Kind.TheVariants as kinds
use Rattle.view_settings.specs.declared.name.Name.{Name}
use Rattle.view_settings.specs.declared.setting.Setting.{Setting}
use Rattle.view_settings.specs.declared.verb.Verb.{Verb}
use Rattle.view_settings.specs.Reasons.{WordReasonsAreLowest, holds, reason_in, reasons}
use Rattle.view_settings.specs.Setting.{is_given, known, parts_of, setting_of}

-- what is said of a word
abbrev IsLowest : Verb → List Setting → List ℕ → Type 0
IsLowest verb taken word =
    reason_in (setting_of verb taken word) ≡ find (λ reason. holds verb taken word reason) reasons

-- where a word has a value for a setting of the verb that was not given before
valued : (verb : Verb) (taken : List Setting) (word name text : List ℕ) (called : Name) (kind : Kind)
    → parts_of word ≡ Some (name, text) → known verb name ≡ Some (called, kind)
    → is_given called taken ≡ false → IsLowest verb taken word
unfolding setting_of
valued verb taken word name text called kinds.Numeral p k g = by (numeral text) refl
  where
    by : (o : Option ℤ) → numeral text ≡ o → IsLowest verb taken word
    by None e = rw (p, k, g, e) refl
    by (Some v) e = rw (p, k, g, e) refl
valued verb taken word name text called (kinds.Count least greatest) p k g =
    by (digits_read 20 text) refl
  where
    by : (o : Option ℕ) → digits_read 20 text ≡ o → IsLowest verb taken word
    by None e = rw (p, k, g, e) refl
    by (Some n) e = within (nat_le least n && nat_le n greatest) refl
      where
        within : (t : Bool) → nat_le least n && nat_le n greatest ≡ t → IsLowest verb taken word
        within true r = rw (p, k, g, e, r) refl
        within false r = rw (p, k, g, e, r) refl

pub word-reasons-lowest : WordReasonsAreLowest
unfolding setting_of
word-reasons-lowest verb taken word = by (parts_of word) refl
  where
    by : (o : Option (List ℕ × List ℕ)) → parts_of word ≡ o → IsLowest verb taken word
    by None p = rw p refl
    by (Some (name, text)) p = under (known verb name) refl
      where
        under : (o : Option (Name × Kind)) → known verb name ≡ o → IsLowest verb taken word
        under None k = rw (p, k) refl
        under (Some (called, kind)) k = given (is_given called taken) refl
          where
            given : (t : Bool) → is_given called taken ≡ t → IsLowest verb taken word
            given true g = rw (p, k, g) refl
            given false g = valued verb taken word name text called kind p k g
