-- What is still wanted of a text after some of its tokens.
use Rattle.std.specs.Prelude.{ℕ, ◌+◌, ℤ, List, [], ◌∷◌, ◌++◌, Option, Some, None, Result, Ok, Err, nat_le, if◌then◌else◌}
use Rattle.std.specs.Int.{is_positive}
use Rattle.fixed_ops.specs.Numerals.{numeral}
use Rattle.solid_lang.specs.declared.form.Form.{Form}
use Rattle.solid_lang.specs.declared.form.Form.TheVariants.{Ball, Block, Cylinder, Move, Scale}
use Rattle.solid_lang.specs.declared.solid_reason.SolidReason.{SolidReason}
use Rattle.solid_lang.specs.declared.solid_reason.SolidReason.TheVariants.{UnknownForm, TooDeep, BadNumeral, NotPositive, Trailing}
use Rattle.solid_lang.specs.declared.want.Want.{Want}
use Rattle.solid_lang.specs.declared.want.Want.TheVariants.{Numeral, Size, Whole}
use Rattle.solid_lang.specs.Forms.{form_named}

-- what a form within so many others wants: its numbers, those that must be above 0 as sizes, and
-- then its solids, which stand within one form more
abbrev pub wants_of : ℕ → Form → List Want
wants_of within Ball = Size ∷ []
wants_of within Block = Size ∷ Size ∷ Size ∷ []
wants_of within Cylinder = Size ∷ Size ∷ []
wants_of within Move = Numeral ∷ Numeral ∷ Numeral ∷ Whole (within + 1) ∷ []
wants_of within Scale = Size ∷ Whole (within + 1) ∷ []
wants_of within form = Whole (within + 1) ∷ Whole (within + 1) ∷ []

-- what a word wants where a solid within so many forms is wanted
abbrev pub form_wants : ℕ → Option Form → Result (List Want) SolidReason
form_wants within None = Err UnknownForm
form_wants within (Some form) = if nat_le 256 within then Err TooDeep else Ok (wants_of within form)

-- what a token wants where a numeral is wanted: nothing
abbrev pub numeral_wants : Option ℤ → Result (List Want) SolidReason
numeral_wants None = Err BadNumeral
numeral_wants (Some number) = Ok []

-- and where the numeral of a size is wanted
abbrev pub size_wants : Option ℤ → Result (List Want) SolidReason
size_wants None = Err BadNumeral
size_wants (Some number) = if is_positive number then Ok [] else Err NotPositive

-- what a token wants in turn where this is wanted, or why it is bad there
abbrev pub token_wants : Want → List ℕ → Result (List Want) SolidReason
token_wants (Whole within) token = form_wants within (form_named token)
token_wants Numeral token = numeral_wants (numeral token)
token_wants Size token = size_wants (numeral token)

-- wants before others
abbrev pub in_front : List Want → Result (List Want) SolidReason → Result (List Want) SolidReason
in_front wants (Err reason) = Err reason
in_front wants (Ok own) = Ok (own ++ wants)

-- a token takes the first want and puts its own in front of the others; where nothing is wanted,
-- each token is bad
abbrev pub take_token : List Want → List ℕ → Result (List Want) SolidReason
take_token [] token = Err Trailing
take_token (want ∷ wants) token = in_front wants (token_wants want token)

-- on with what is wanted, unless a token was bad
abbrev pub and_then : Result (List Want) SolidReason → (List Want → Result (List Want) SolidReason)
    → Result (List Want) SolidReason
and_then (Err reason) next = Err reason
and_then (Ok wants) next = next wants

-- what is wanted after these tokens, or why the first bad one is bad
abbrev pub wants_after : List Want → List (ℕ × List ℕ) → Result (List Want) SolidReason
wants_after wants [] = Ok wants
wants_after wants (token ∷ tokens) = and_then (take_token wants token.1) (λ left. wants_after left tokens)

-- what is wanted of a text: one solid
abbrev pub whole_solid : List Want
whole_solid = Whole 0 ∷ []
