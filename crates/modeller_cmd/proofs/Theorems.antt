-- Theorems for the crates above: what always holds of the definitions.
use Rattle.modeller_cmd.proofs.ShownModels.{models-are-shown}
use Rattle.modeller_cmd.specs.ShownModels.{ModelsAreShown}

-- Edits that a script makes, and then as many undos, lead back to the clauses before them, and each frame
-- on the way is that of the clauses then standing. So it is of what a run of a script writes, whatever its
-- words and its input are.
pub models_are_shown : ModelsAreShown
models_are_shown =
    models-are-shown
