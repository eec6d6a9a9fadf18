-- How a line is refused.
use Rattle.std.proofs.Common.{◌≡◌, ℕ, List, None, Err, ap}
use Rattle.edit_script.specs.declared.script_reason.ScriptReason.TheVariants.{UnknownCommand}
use Rattle.edit_script.specs.Commands.{keyword_read}
use Rattle.edit_script.specs.Keywords.{keyword_named}

-- a word that is no keyword
pub unknown : (line : ℕ) (word : List ℕ) (tokens : List (List ℕ)) → None ≡ keyword_named word → Err UnknownCommand ≡ keyword_read line (keyword_named word) tokens
unknown line word tokens none = ap (λ keyword. keyword_read line keyword tokens) none
