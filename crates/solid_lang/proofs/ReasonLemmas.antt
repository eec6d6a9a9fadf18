-- A token is refused for the lowest reason that holds of it.
use Rattle.std.proofs.Common.{◌≡◌, ℕ, ℤ, pos, Bool, true, false, cond, not, ◌&&◌, nat_le, if◌then◌else◌, List, [], ◌∷◌, Option, Some, None, Ok, Err, is_none, is_some, refl}
use Rattle.std.specs.Prelude.{find}
use Rattle.std.specs.Int.{is_positive}
use Rattle.std.specs.Option.{option_map_or}
use Rattle.fixed_ops.specs.Numerals.{numeral}
use Rattle.solid_lang.specs.declared.form.Form.{Form}
use Rattle.solid_lang.specs.declared.solid_reason.SolidReason.{SolidReason}
use Rattle.solid_lang.specs.declared.solid_reason.SolidReason.TheVariants.{UnknownForm, TooDeep, BadNumeral, NotPositive, Trailing}
use Rattle.solid_lang.specs.declared.want.Want.{Want}
use Rattle.solid_lang.specs.declared.want.Want.TheVariants.{Numeral, Size, Whole}
use Rattle.solid_lang.specs.Forms.{form_named}
use Rattle.solid_lang.specs.TokenReasons.{holds, reason_in, reasons}
use Rattle.solid_lang.specs.Wants.{form_wants, in_front, numeral_wants, size_wants, take_token, wants_of}

-- the first of two reasons that holds
abbrev first_of_two : Bool → SolidReason → Bool → SolidReason → Option SolidReason
first_of_two a x b y = cond a (Some x) (cond b (Some y) None)

form-lowest : (within : ℕ) (wants : List Want) (named : Option Form)
    → reason_in (in_front wants (form_wants within named)) ≡ first_of_two (is_none named) UnknownForm (is_some named && nat_le 256 within) TooDeep
form-lowest within wants None = refl
form-lowest within wants (Some form) = by (nat_le 256 within)
  where
    by : (b : Bool) → reason_in (in_front wants (if b then Err TooDeep else Ok (wants_of within form))) ≡ first_of_two false UnknownForm (true && b) TooDeep
    by true = refl
    by false = refl

numeral-lowest : (wants : List Want) (value : Option ℤ)
    → reason_in (in_front wants (numeral_wants value)) ≡ cond (is_none value) (Some BadNumeral) None
numeral-lowest wants None = refl
numeral-lowest wants (Some n) = refl

size-lowest : (wants : List Want) (value : Option ℤ)
    → reason_in (in_front wants (size_wants value)) ≡ first_of_two (is_none value) BadNumeral (option_map_or (λ number. not (is_positive number)) value false) NotPositive
size-lowest wants None = refl
size-lowest wants (Some n) = by (is_positive n)
  where
    by : (b : Bool) → reason_in (in_front wants (if b then Ok [] else Err NotPositive)) ≡ first_of_two false BadNumeral (not b) NotPositive
    by true = refl
    by false = refl

pub token-lowest : (wants : List Want) (token : List ℕ) → reason_in (take_token wants token) ≡ find (λ reason. holds wants token reason) reasons
token-lowest [] token = refl
token-lowest (Whole within ∷ wants) token = form-lowest within wants (form_named token)
token-lowest (Numeral ∷ wants) token = numeral-lowest wants (numeral token)
token-lowest (Size ∷ wants) token = size-lowest wants (numeral token)
