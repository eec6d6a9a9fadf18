-- The law is a lemma, over that of the lines of a text.
use Rattle.edit_script.proofs.ScriptExact.{inputs-split}
use Rattle.edit_script.proofs.laws.inputs_are_split.Goals as goal

pub returns : goal.returns
returns c = inputs-split
