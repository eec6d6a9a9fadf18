-- What always holds of judging a solid's text: it has so many clauses, or is refused for one reason
-- on one line, and never both.
use Rattle.std.specs.Prelude.{◌≡◌, ◌⊎◌, ℕ, List}
use Rattle.solid_lang.specs.declared.solid_fault.SolidFault.{SolidFault}
use Rattle.solid_lang.specs.Gives.{HasClauses}
use Rattle.solid_lang.specs.Refusing.{SolidRefuses}

-- each text says a solid of so many clauses, or is refused
abbrev pub EachTextIsJudged : Type 0
EachTextIsJudged = (text : List ℕ) → ((clauses : ℕ) × HasClauses text clauses)
    ⊎ ((fault : SolidFault) × SolidRefuses text fault.line fault.reason)

-- no text that says a solid of so many clauses is refused
abbrev pub NoneIsJudgedAndRefused : Type 0
NoneIsJudgedAndRefused = (text : List ℕ) (clauses : ℕ) (fault : SolidFault)
    → HasClauses text clauses → SolidRefuses text fault.line fault.reason → ⊥

-- no text says solids of two numbers of clauses
abbrev pub OneCount : Type 0
OneCount = (text : List ℕ) (a b : ℕ) → HasClauses text a → HasClauses text b → a ≡ b

-- no text is refused on two lines, or for two reasons
abbrev pub OneFault : Type 0
OneFault = (text : List ℕ) (a b : SolidFault) → SolidRefuses text a.line a.reason
    → SolidRefuses text b.line b.reason → a ≡ b
