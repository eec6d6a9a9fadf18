-- The faults with those of one vertex more.
use Rattle.std.proofs.Common.{true, false, sym, ◌∙◌}
use Rattle.std.proofs.lemmas.Bool.{eqb-true, not-false, not-true}
use Rattle.ply_check.proofs.FaultLaws.{lowest_found, lowest_on, lowest_stays}
use Rattle.ply_check.proofs.mesh_faults.Faults.or_at.Goals.{then-self-top, else-self-top}
use Rattle.ply_check.proofs.mesh_faults.Faults.or_at.Goals as goal

pub returns-then-is_first-clause-found : goal.returns-then-is_first-clause-found
returns-then-is_first-clause-found c =
    λ fs triangles are faults.
    record {
      edge = c.first_unpaired-edge.ensures.first fs c.args.vertex triangles are faults.edge;
      vertex = elim c.if-self-top.branch [
        | then-self-top w ↦
            lowest_found fs c.args.vertex c.args.top c.args.self.vertex c.args.arcs.now w.go_round.new.next
            (record { triangles = triangles; arcs = are; leads = w.go_round.ensures.leads })
            (w.go_round.ensures.broken (not-true w.go_round.result (sym w.is_first-is ∙ c.if-is_first.true))) c.requires.vertex
            w.if-self-top.true faults.vertex
        | else-self-top w ↦ absurd (w.if-self-top.false (eqb-true _ _ (sym w.is_first-is ∙ c.if-is_first.true)))
      ];
    }

pub returns-else-is_first-clause-found : goal.returns-else-is_first-clause-found
returns-else-is_first-clause-found c =
    λ fs triangles are faults.
    record {
      edge = c.first_unpaired-edge.ensures.first fs c.args.vertex triangles are faults.edge;
      vertex = elim c.if-self-top.branch [
        | then-self-top w ↦
            lowest_on fs c.args.vertex c.args.top c.args.self.vertex c.args.arcs.now w.go_round.new.next
            (record { triangles = triangles; arcs = are; leads = w.go_round.ensures.leads })
            (w.go_round.ensures.round (not-false w.go_round.result (sym w.is_first-is ∙ c.if-is_first.false)))
            w.if-self-top.true faults.vertex
        | else-self-top w ↦ lowest_stays fs c.args.vertex c.args.top c.args.self.vertex w.if-self-top.false faults.vertex
      ];
    }
