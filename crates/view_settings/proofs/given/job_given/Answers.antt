-- The job of a window that was made is that of the verb.
use Rattle.std.proofs.Common.{sym, ◌∙◌}
use Rattle.view_settings.proofs.JobLaws.{settled-made}
use Rattle.view_settings.proofs.given.job_given.Goals as goal

pub returns-in-Some-clause-job : goal.returns-in-Some-clause-job
returns-in-Some-clause-job c =
    c.job.ensures.job
    ∙ settled-made c.args.verb c.args.taken.now c.in-Some.view (sym c.in-Some.is ∙ c.view_given.ensures.view)
