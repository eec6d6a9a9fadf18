-- What always holds of written models: read back, they are the same clauses, names and constants.
use Rattle.std.specs.Prelude.{◌≡◌, List, Ok}
use Rattle.solid_model.specs.declared.clause.Clause.{Clause}
use Rattle.solid_model.specs.Clauses.{IsModel}
use Rattle.clause_reader.specs.ModelText.{model_text}
use Rattle.clause_reader.specs.Reading.{text_read}
use Rattle.clause_reader.specs.Says.{Reads}

-- the text of a model is read as the model
abbrev pub WrittenModelsAreRead : Type 0
WrittenModelsAreRead =
    (clauses : List Clause) → IsModel clauses → text_read (model_text clauses) ≡ Ok clauses

-- it says the model
abbrev pub WrittenModelsAreSaid : Type 0
WrittenModelsAreSaid =
    (clauses : List Clause) → IsModel clauses → Reads (model_text clauses) clauses
