-- Where a text is refused as a solid, and why.
use Rattle.std.specs.Prelude.{◌≡◌, ℕ, ◌<◌, ◌⊎◌, List, [], ◌∷◌, ◌++◌, Ok, Err}
use Rattle.solid_lang.specs.declared.solid_reason.SolidReason.{SolidReason}
use Rattle.solid_lang.specs.declared.solid_reason.SolidReason.TheVariants.{Unended, TooMany, Empty}
use Rattle.solid_lang.specs.declared.want.Want.{Want}
use Rattle.solid_lang.specs.Counts.{clause_count}
use Rattle.solid_lang.specs.NumberedTokens.{numbered_tokens}
use Rattle.solid_lang.specs.Reading.{TokensRead}
use Rattle.solid_lang.specs.Solids.{SolidTree}
use Rattle.solid_lang.specs.Wants.{take_token, wants_after, whole_solid}

-- there is no token, which is told as line 0
pub record HasNone (tokens : List (ℕ × List ℕ)) (line : ℕ) (reason : SolidReason) : Type 0 where
  pub none : tokens ≡ []
  pub zero : line ≡ 0
  pub empty : reason ≡ Empty

-- a token on this line is bad for this reason, and those before it are not
pub record HasBad (tokens : List (ℕ × List ℕ)) (line : ℕ) (reason : SolidReason) : Type 0 where
  pub before : List (ℕ × List ℕ)
  pub token : List ℕ
  pub after : List (ℕ × List ℕ)
  pub parts : tokens ≡ before ++ (line, token) ∷ after
  pub wants : List Want
  pub good : wants_after whole_solid before ≡ Ok wants
  pub bad : take_token wants token ≡ Err reason

-- no token is bad and something is wanted after them all, of which the last is on this line
pub record EndsWithin (tokens : List (ℕ × List ℕ)) (line : ℕ) (reason : SolidReason) : Type 0 where
  pub before : List (ℕ × List ℕ)
  pub token : List ℕ
  pub parts : tokens ≡ before ++ (line, token) ∷ []
  pub want : Want
  pub wants : List Want
  pub good : wants_after whole_solid tokens ≡ Ok (want ∷ wants)
  pub unended : reason ≡ Unended

-- tokens are no solid, for this reason and on this line
abbrev pub TokensRefuse : List (ℕ × List ℕ) → ℕ → SolidReason → Type 0
TokensRefuse tokens line reason = HasNone tokens line reason
    ⊎ (HasBad tokens line reason ⊎ EndsWithin tokens line reason)

-- tokens are a solid of more than 65,535 clauses, which is told as line 0
pub record HasTooMany (tokens : List (ℕ × List ℕ)) (line : ℕ) (reason : SolidReason) : Type 0 where
  pub solid : SolidTree
  pub read : TokensRead tokens solid
  pub many : 65535 < clause_count solid
  pub zero : line ≡ 0
  pub too_many : reason ≡ TooMany

-- a text is no solid, for this reason and on this line
abbrev pub NoSolid : List ℕ → ℕ → SolidReason → Type 0
NoSolid text line reason = TokensRefuse (numbered_tokens text) line reason

-- a text is refused, as no solid or as one of too many clauses
abbrev pub SolidRefuses : List ℕ → ℕ → SolidReason → Type 0
SolidRefuses text line reason = NoSolid text line reason ⊎ HasTooMany (numbered_tokens text) line reason
