use Rattle.modeller_cmd.proofs.Undoing.{frames-show, undos-lead-back}
use Rattle.modeller_cmd.proofs.Theorems.{models_are_shown}
use Rattle.modeller_cmd.proofs.laws.undos_lead_back.Goals as goal

pub returns-clause-lead : goal.returns-clause-lead
returns-clause-lead c = undos-lead-back

pub returns-clause-show : goal.returns-clause-show
returns-clause-show c = frames-show

pub returns-clause-runs : goal.returns-clause-runs
returns-clause-runs c = models_are_shown
