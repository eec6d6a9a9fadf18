-- A mesh whose tests hold fits.
use Rattle.std.proofs.Common.{◌≡◌, Ok, Result, rules, subst, sym}
use Rattle.std.specs.Prelude.{IfOk}
use Rattle.view_settings.specs.declared.job.Job.{Job}
use Rattle.view_settings.specs.declared.job.Job.TheVariants as jobs
use Rattle.view_settings.specs.declared.word_fault.WordReason.{WordReason}
use Rattle.view_settings.specs.Verbs.{IsJob, mesh_job}
use Rattle.view_settings.proofs.JobLaws.{mesh-is}
use Rattle.view_settings.proofs.verb.mesh_job.Goals as goal

pub returns-clause-keeps : goal.returns-clause-keeps
returns-clause-keeps c =
    let job : Ok (jobs.Mesh c.args.view) ≡ mesh_job c.args.view = search rules in
    subst (λ (r : Result Job WordReason). IfOk r IsJob) (sym job) (mesh-is c.args.view c.requires)
