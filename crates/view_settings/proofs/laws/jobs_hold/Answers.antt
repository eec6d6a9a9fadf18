-- The law is a lemma.
use Rattle.view_settings.proofs.JobLaws.{jobs-hold}
use Rattle.view_settings.proofs.laws.jobs_hold.Goals as goal

pub returns : goal.returns
returns c = jobs-hold
