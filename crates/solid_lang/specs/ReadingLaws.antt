-- What always holds of reading a solid: each text is read as one solid, or refused for one reason on
-- one line, and never both.
use Rattle.std.specs.Prelude.{◌≡◌, ◌≢◌, ◌↔◌, ◌⊎◌, ℕ, List, [], Ok}
use Rattle.solid_lang.specs.declared.solid_fault.SolidFault.{SolidFault}
use Rattle.solid_lang.specs.declared.solid_reason.SolidReason.{SolidReason}
use Rattle.solid_lang.specs.declared.solid_reason.SolidReason.TheVariants.{NoMemory}
use Rattle.solid_lang.specs.NumberedTokens.{numbered_tokens}
use Rattle.solid_lang.specs.Reading.{SolidReads}
use Rattle.solid_lang.specs.Refusing.{NoSolid}
use Rattle.solid_lang.specs.Solids.{SolidTree}
use Rattle.solid_lang.specs.Wants.{wants_after, whole_solid}

-- a text is read as some solid exactly where its tokens are all taken and nothing is wanted after
-- them
abbrev pub ReadingIsExact : Type 0
ReadingIsExact = (text : List ℕ)
    → (wants_after whole_solid (numbered_tokens text) ≡ Ok []) ↔ ((solid : SolidTree) × SolidReads text solid)

-- no text is read as two solids
abbrev pub OneReading : Type 0
OneReading = (text : List ℕ) (a b : SolidTree) → SolidReads text a → SolidReads text b → a ≡ b

-- each text is read as some solid, or is none on some line
abbrev pub EachTextIsAnswered : Type 0
EachTextIsAnswered = (text : List ℕ) → ((solid : SolidTree) × SolidReads text solid)
    ⊎ ((fault : SolidFault) × NoSolid text fault.line fault.reason)

-- no text that is read as a solid is none
abbrev pub NoneIsReadAndRefused : Type 0
NoneIsReadAndRefused = (text : List ℕ) (solid : SolidTree) (line : ℕ) (reason : SolidReason)
    → SolidReads text solid → NoSolid text line reason → ⊥

-- no text is none on two lines, or for two reasons
abbrev pub OneRefusal : Type 0
OneRefusal = (text : List ℕ) (a b : SolidFault) → NoSolid text a.line a.reason
    → NoSolid text b.line b.reason → a ≡ b
