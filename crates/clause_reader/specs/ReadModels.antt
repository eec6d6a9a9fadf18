-- What always holds of what is read: tokens are names, forms are forms, and the clauses are a model.
use Rattle.std.specs.Prelude.{◌≡◌, ℕ, false, List, All, map, Some, Ok}
use Rattle.solid_model.specs.declared.clause.Clause.{Clause}
use Rattle.solid_model.specs.Clauses.{IsModel}
use Rattle.solid_model.specs.Names.{IsName}
use Rattle.solid_model.specs.Parts.{IsForm, Parts}
use Rattle.clause_reader.specs.Forms.{form_said}
use Rattle.clause_reader.specs.Lines.{begins_comment, lines_of, tokens_of}
use Rattle.clause_reader.specs.Reading.{text_read}

-- a token is a name, unless it begins with `#`
abbrev pub MayName : List ℕ → Type 0
MayName token = begins_comment token ≡ false → IsName token

-- and so is each token of each line of a text
abbrev pub TokensMayName : Type 0
TokensMayName = (text : List ℕ) → All (All MayName) (map tokens_of (lines_of text))

-- what tokens say as a form has as many operands as its operation, and a raw number
abbrev pub SaidFormsAreForms : Type 0
SaidFormsAreForms =
    (tokens : List (List ℕ)) (form : Parts) → form_said tokens ≡ Ok (Some form) → IsForm form

-- the clauses of a text that is read are a model
abbrev pub ReadTextsAreModels : Type 0
ReadTextsAreModels =
    (text : List ℕ) (clauses : List Clause) → text_read text ≡ Ok clauses → IsModel clauses
