-- What always holds of the clauses of a solid.
use Rattle.std.specs.Prelude.{◌≡◌, ◌≤◌, length, Ok}
use Rattle.fixed_ops.specs.Points.{Point}
use Rattle.solid_model.specs.Clauses.{IsModel}
use Rattle.solid_model.specs.Values.{solid_value}
use Rattle.clause_reader.specs.ModelText.{model_text}
use Rattle.clause_reader.specs.Reading.{text_read}
use Rattle.solid_lang.specs.Compiled.{compiled}
use Rattle.solid_lang.specs.Counts.{clause_count}
use Rattle.solid_lang.specs.Meaning.{value_at}
use Rattle.solid_lang.specs.RawSolids.{HasRawNumbers}
use Rattle.solid_lang.specs.Solids.{SolidTree}

-- at each point the clauses have the value of the solid
abbrev pub CompiledSolidsKeepValues : Type 0
CompiledSolidsKeepValues = (s : SolidTree) (p : Point) → solid_value p (compiled s) ≡ value_at s p

-- they are as many as are counted
abbrev pub CompiledSolidsAreCounted : Type 0
CompiledSolidsAreCounted = (s : SolidTree) → length (compiled s) ≡ clause_count s

-- where there is room for them they are a model
abbrev pub CompiledSolidsAreModels : Type 0
CompiledSolidsAreModels =
    (s : SolidTree) → HasRawNumbers s → clause_count s ≤ 65535 → IsModel (compiled s)

-- whose text is read as them
abbrev pub CompiledTextsAreRead : Type 0
CompiledTextsAreRead =
    (s : SolidTree) → HasRawNumbers s → clause_count s ≤ 65535
    → text_read (model_text (compiled s)) ≡ Ok (compiled s)
