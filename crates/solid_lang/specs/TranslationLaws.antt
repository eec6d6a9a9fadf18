-- What always holds of translating the text of a solid: each text that says a solid of at most 65,535
-- clauses becomes the text of its model, and each other one is refused.
use Rattle.std.specs.Prelude.{◌≡◌, ℕ, ◌≤◌, List, Ok, Err}
use Rattle.fixed_ops.specs.Points.{Point}
use Rattle.clause_reader.specs.ModelText.{model_text}
use Rattle.clause_reader.specs.Reading.{text_read}
use Rattle.solid_model.specs.Values.{solid_value}
use Rattle.solid_model.specs.declared.clause.Clause.{Clause}
use Rattle.solid_lang.specs.declared.solid_reason.SolidReason.{SolidReason}
use Rattle.solid_lang.specs.Compiled.{compiled}
use Rattle.solid_lang.specs.Counts.{clause_count}
use Rattle.solid_lang.specs.Judged.{fault_at}
use Rattle.solid_lang.specs.Meaning.{value_at}
use Rattle.solid_lang.specs.Reading.{SolidReads}
use Rattle.solid_lang.specs.Refusing.{SolidRefuses}
use Rattle.solid_lang.specs.Solids.{SolidTree}
use Rattle.solid_lang.specs.Translated.{translated}

-- a text that says a solid of at most 65,535 clauses becomes their text
abbrev pub SolidsAreTranslated : Type 0
SolidsAreTranslated = (text : List ℕ) (solid : SolidTree) → SolidReads text solid
    → clause_count solid ≤ 65535 → translated text ≡ Ok (model_text (compiled solid))

-- a text that is refused is refused on that line and for that reason
abbrev pub RefusalsStand : Type 0
RefusalsStand = (text : List ℕ) (line : ℕ) (reason : SolidReason) → SolidRefuses text line reason
    → translated text ≡ Err (fault_at line reason)

-- a text is read as a model that has the value of a solid at every point
pub record SaysValuesOf (solid : SolidTree) (text : List ℕ) : Type 0 where
  pub clauses : List Clause
  pub read : text_read text ≡ Ok clauses
  pub values : (p : Point) → solid_value p clauses ≡ value_at solid p

-- so is what the text of a solid becomes
abbrev pub TranslationsKeepValues : Type 0
TranslationsKeepValues = (text : List ℕ) (solid : SolidTree) (written : List ℕ) → SolidReads text solid
    → translated text ≡ Ok written → SaysValuesOf solid written
