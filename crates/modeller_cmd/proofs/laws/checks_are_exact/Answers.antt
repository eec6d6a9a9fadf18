use Rattle.modeller_cmd.proofs.Checks.{checks_are_exact}
use Rattle.modeller_cmd.proofs.laws.checks_are_exact.Goals as goal

pub returns : goal.returns
returns c = checks_are_exact
