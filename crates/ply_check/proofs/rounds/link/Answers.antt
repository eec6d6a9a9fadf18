-- One arc more leads on.
use Rattle.std.proofs.Common.{◌<◌, arith, get_or, length, subst, ◌∙◌}
use Rattle.std.proofs.lemmas.List.{length-set, take_all}
use Rattle.std.proofs.lemmas.List.Elements.{All-set}
use Rattle.ply_check.specs.Arcs.{pairs}
use Rattle.ply_check.specs.Walks.{LeadsOn, table}
use Rattle.ply_check.proofs.DegreeLaws.{none}
use Rattle.ply_check.proofs.FaultLaws.{leads_more}
use Rattle.ply_check.proofs.rounds.link.Goals as goal

pub loop-arc-preserved : goal.loop-arc-preserved
loop-arc-preserved c =
    let i = c.loop-arc.arc-index in
    let a = get_or c.args.arcs.now i none in
    let fits = c.requires.within i none (omega arith) in
    record {
      size = length-set c.loop-arc.next a.next a.last ∙ c.loop-arc.invariant.size;
      below = All-set (λ v. v < length c.args.next.now) c.loop-arc.next a.next a.last fits.last c.loop-arc.invariant.below;
      leads = λ one. leads_more c.loop-arc.next c.args.arcs.now i none (omega arith) one (omega (arith, fits.next, c.loop-arc.invariant.size)) (c.loop-arc.invariant.leads one);
    }

pub returns-clause-leads : goal.returns-clause-leads
returns-clause-leads c =
    λ one. subst (λ l. LeadsOn (table c.loop-arc.next) (pairs l)) (take_all c.loop-arc.arc-index c.args.arcs.now (omega arith)) (c.loop-arc.invariant.leads one)
