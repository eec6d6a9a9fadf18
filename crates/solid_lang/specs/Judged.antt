-- What is told of tokens, one after the other.
use Rattle.std.specs.Prelude.{ℕ, ◌+◌, min, List, [], ◌∷◌, Option, Some, None, Result, Ok, Err}
use Rattle.solid_lang.specs.declared.solid_fault.SolidFault.{SolidFault}
use Rattle.solid_lang.specs.declared.solid_reason.SolidReason.{SolidReason}
use Rattle.solid_lang.specs.declared.solid_reason.SolidReason.TheVariants.{Unended, Empty}
use Rattle.solid_lang.specs.declared.want.Want.{Want}
use Rattle.solid_lang.specs.Added.{added}
use Rattle.solid_lang.specs.Wants.{take_token}

-- a fault by its line and its reason
abbrev pub fault_at : ℕ → SolidReason → SolidFault
fault_at line reason = record { line = line; reason = reason }

-- a number of clauses, and 65,536 for all that are more
abbrev pub capped : ℕ → ℕ
capped clauses = min clauses 65536

-- what is told at the end, after a token on the last line or after none
abbrev pub told : ℕ → Option ℕ → List Want → Result ℕ SolidFault
told clauses last [] = Ok clauses
told clauses None (want ∷ wants) = Err (fault_at 0 Empty)
told clauses (Some line) (want ∷ wants) = Err (fault_at line Unended)

-- on with what is wanted, unless the token on this line was bad
abbrev pub unless_bad : ℕ → Result (List Want) SolidReason → (List Want → Result ℕ SolidFault)
    → Result ℕ SolidFault
unless_bad line (Err reason) next = Err (fault_at line reason)
unless_bad line (Ok wants) next = next wants

-- what is told of the tokens that are left, after a token on the last line or after none
abbrev pub judged : ℕ → Option ℕ → List Want → List (ℕ × List ℕ) → Result ℕ SolidFault
judged clauses last wants [] = told clauses last wants
judged clauses last wants (token ∷ tokens) = unless_bad token.0 (take_token wants token.1)
    (λ left. judged (capped (clauses + added wants token.1)) (Some token.0) left tokens)
