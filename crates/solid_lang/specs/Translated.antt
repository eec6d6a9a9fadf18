-- What the text of a solid is translated to.
use Rattle.std.specs.Prelude.{ℕ, List, Option, Some, None, Result, Ok, Err, nat_le, if◌then◌else◌}
use Rattle.clause_reader.specs.ModelText.{model_text}
use Rattle.solid_lang.specs.declared.solid_fault.SolidFault.{SolidFault}
use Rattle.solid_lang.specs.declared.solid_reason.SolidReason.TheVariants.{TooMany, Unended}
use Rattle.solid_lang.specs.Building.{solid_read}
use Rattle.solid_lang.specs.Compiled.{compiled}
use Rattle.solid_lang.specs.Judged.{fault_at, judged}
use Rattle.solid_lang.specs.NumberedTokens.{numbered_tokens}
use Rattle.solid_lang.specs.Solids.{SolidTree}
use Rattle.solid_lang.specs.Wants.{whole_solid}

-- the text of a solid's clauses, where one was read
abbrev pub text_of : Option (SolidTree × List (ℕ × List ℕ)) → Result (List ℕ) SolidFault
text_of None = Err (fault_at 0 Unended)
text_of (Some read) = Ok (model_text (compiled read.0))

-- The text of the model that the text of a solid is compiled to, or the fault for which it is
-- refused. That this is so is a law.
unfoldable pub translated : List ℕ → Result (List ℕ) SolidFault
translated text = by (judged 3 None whole_solid (numbered_tokens text))
  where
    by : Result ℕ SolidFault → Result (List ℕ) SolidFault
    by (Err fault) = Err fault
    by (Ok clauses) =
        if nat_le clauses 65535 then text_of (solid_read 256 (numbered_tokens text))
        else Err (fault_at 0 TooMany)
