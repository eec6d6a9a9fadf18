-- The law is a lemma, over those of the jobs of words, and of names and forms.
use Rattle.edit_script.proofs.CommandLaws.{read-scripts-are-commands}
use Rattle.edit_script.proofs.laws.read_scripts_are_commands.Goals as goal

pub returns : goal.returns
returns c = read-scripts-are-commands
