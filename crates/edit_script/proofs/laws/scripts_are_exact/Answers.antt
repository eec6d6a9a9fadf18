-- The laws of scripts are lemmas.
use Rattle.edit_script.proofs.ScriptExact.{scripts-exact, refusals-exact}
use Rattle.edit_script.proofs.laws.scripts_are_exact.Goals as goal

pub returns-clause-reads : goal.returns-clause-reads
returns-clause-reads c = scripts-exact

pub returns-clause-refuses : goal.returns-clause-refuses
returns-clause-refuses c = refusals-exact
