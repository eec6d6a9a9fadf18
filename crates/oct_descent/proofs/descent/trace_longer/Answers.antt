use Rattle.std.proofs.Common.{sym, subst, ◌∙◌}
use Rattle.box_chains.specs.Desks.{samples}
use Rattle.box_chains.specs.Outcomes.{AreInRoot}
use Rattle.oct_descent.specs.Kinds.{mesh}
use Rattle.oct_descent.proofs.Halves.{longer-in_root}
use Rattle.oct_descent.proofs.descent.trace_longer.Goals as goal

pub trace_asked_boxes-requires-clause-within : goal.trace_asked_boxes-requires-clause-within
trace_asked_boxes-requires-clause-within c =
    subst (AreInRoot (samples c.args.desk.now)) (sym (c.as_slice.ensures.value ∙ c.longer_boxes-asked.ensures.items)) (longer-in_root mesh (samples c.args.desk.now) c.args.n c.args.boxes.now c.requires.within)
