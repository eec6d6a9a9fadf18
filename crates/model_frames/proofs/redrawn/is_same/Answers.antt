use Rattle.std.proofs.Common.{sym, ◌∙◌}
use Rattle.view_places.proofs.ViewLaws.{one_view}
use Rattle.model_frames.proofs.redrawn.is_same.Goals as goal

pub returns-clause-same : goal.returns-clause-same
returns-clause-same c = λ yes. one_view c.args.a.now c.args.b.now (sym c.eq.ensures ∙ yes)
