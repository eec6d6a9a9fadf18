-- A contour whose test holds fits.
use Rattle.std.proofs.Common.{◌≡◌, Ok, Result, rules, subst, sym}
use Rattle.std.specs.Prelude.{IfOk}
use Rattle.view_settings.specs.declared.job.Job.{Job}
use Rattle.view_settings.specs.declared.job.Job.TheVariants as jobs
use Rattle.view_settings.specs.declared.word_fault.WordReason.{WordReason}
use Rattle.view_settings.specs.Verbs.{IsJob, contour_job}
use Rattle.view_settings.proofs.JobLaws.{contour-is}
use Rattle.view_settings.proofs.verb.contour_job.Goals as goal

pub returns-clause-keeps : goal.returns-clause-keeps
returns-clause-keeps c =
    let job : Ok (jobs.Contour c.args.view) ≡ contour_job c.args.view = search rules in
    subst (λ (r : Result Job WordReason). IfOk r IsJob) (sym job)
    (contour-is c.args.view c.requires.window c.requires.square c.requires.few)
