-- What `forge` writes of the solid that it makes.
use Rattle.std.specs.Prelude.{ℕ, ◌==◌, List, ◌++◌, length, codes, count_by, decimal}
use Rattle.model_frames.specs.Images.{solid_pixels}
use Rattle.model_frames.specs.Work.{frame_work}
use Rattle.model_forge.specs.Forged.{forged}
use Rattle.solid_model.specs.Named.{placed}
use Rattle.solid_model.specs.declared.clause.Clause.{Clause}
use Rattle.view_places.specs.Window.{Window}
use Rattle.view_settings.specs.declared.forge.Forge.{Forge}
use Rattle.modeller_cmd.specs.CountTexts.{count_text}
use Rattle.model_frames.specs.Frames.{Part}

-- the solid that is forged
unfoldable pub forged_clauses : Forge → List Clause
forged_clauses forge = placed (forged forge.seed forge.solids)

-- how many pixels of the image of a solid over a view are inside
abbrev pub inside_of : Window → List Clause → ℕ
inside_of view clauses = count_by (λ pixel. pixel == 255) (solid_pixels view clauses)

-- the five lines that tell of a solid and of the work of its image
abbrev pub forge_text : Window → List Clause → List ℕ
forge_text view clauses =
    codes "clauses " ++ decimal (length clauses) ++ codes "\ninside "
    ++ decimal (inside_of view clauses) ++ codes "\n" ++ count_text view clauses

-- the part that tells them of the solid that is forged
abbrev pub forge_part : Forge → Part
forge_part forge = record {
  bytes = forge_text forge.view (forged_clauses forge);
  work = frame_work forge.view (forged_clauses forge);
}
