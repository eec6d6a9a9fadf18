-- The least place with that of one arc more.
use Rattle.std.proofs.Common.{arith, subst, sym, ◌∙◌}
use Rattle.ply_check.specs.Degrees.{IsLeastUnpaired}
use Rattle.ply_check.proofs.DegreeLaws.{least_kept, least_taken, none}
use Rattle.ply_check.proofs.degrees.least_unpaired.Goals.{then-not-is_once, else-not-is_once}
use Rattle.ply_check.proofs.degrees.least_unpaired.Goals as goal

pub loop-arc-preserved : goal.loop-arc-preserved
loop-arc-preserved c =
    elim c.if-not-is_once.branch [
      | then-not-is_once w ↦
          least_taken c.args.to.now c.args.back.now c.args.arcs.now c.loop-arc.arc-index none c.args.first c.loop-arc.least _ (omega arith) c.loop-arc.invariant
          (sym c.is_once.ensures ∙ w.if-not-is_once.true) (w.least-is ∙ w.min-least.ensures)
      | else-not-is_once w ↦
          subst (IsLeastUnpaired c.args.to.now c.args.back.now _ c.args.first) (sym w.least-is)
          (least_kept c.args.to.now c.args.back.now c.args.arcs.now c.loop-arc.arc-index none c.args.first c.loop-arc.least (omega arith) c.loop-arc.invariant
          (sym c.is_once.ensures ∙ w.if-not-is_once.false))
    ]
