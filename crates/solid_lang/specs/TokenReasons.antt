-- Where each reason against a token holds, whichever others hold there too.
use Rattle.std.specs.Prelude.{◌≡◌, ℕ, Bool, true, false, not, ◌&&◌, nat_le, List, [], ◌∷◌, find, Option, Some, None, is_none, is_some, Result, Ok, Err}
use Rattle.std.specs.Int.{is_positive}
use Rattle.std.specs.Option.{option_map_or}
use Rattle.fixed_ops.specs.Numerals.{numeral}
use Rattle.solid_lang.specs.declared.solid_reason.SolidReason.{SolidReason}
use Rattle.solid_lang.specs.declared.solid_reason.SolidReason.TheVariants.{UnknownForm, TooDeep, BadNumeral, NotPositive, Trailing}
use Rattle.solid_lang.specs.declared.want.Want.{Want}
use Rattle.solid_lang.specs.declared.want.Want.TheVariants.{Numeral, Size, Whole}
use Rattle.solid_lang.specs.Forms.{form_named}
use Rattle.solid_lang.specs.Wants.{take_token}

-- a reason holds of a token where these are wanted
abbrev pub holds : List Want → List ℕ → SolidReason → Bool
holds (Whole within ∷ wants) token UnknownForm = is_none (form_named token)
holds (Whole within ∷ wants) token TooDeep = is_some (form_named token) && nat_le 256 within
holds (Numeral ∷ wants) token BadNumeral = is_none (numeral token)
holds (Size ∷ wants) token BadNumeral = is_none (numeral token)
holds (Size ∷ wants) token NotPositive =
    option_map_or (λ number. not (is_positive number)) (numeral token) false
holds [] token Trailing = true
holds wants token reason = false

-- the reasons against a token, the lowest first
abbrev pub reasons : List SolidReason
reasons = UnknownForm ∷ TooDeep ∷ BadNumeral ∷ NotPositive ∷ Trailing ∷ []

-- the reason for which a token is refused
abbrev pub reason_in : Result (List Want) SolidReason → Option SolidReason
reason_in (Ok wants) = None
reason_in (Err reason) = Some reason

-- a token is refused for the lowest reason that holds of it, and taken where none does
abbrev pub TokenReasonsAreLowest : Type 0
TokenReasonsAreLowest = (wants : List Want) (token : List ℕ)
    → reason_in (take_token wants token) ≡ find (λ reason. holds wants token reason) reasons
