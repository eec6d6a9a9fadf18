-- One vertex more.
use Rattle.std.proofs.Common.{arith, subst, sym, ap, length, ◌∙◌}
use Rattle.std.proofs.lemmas.List.{length-map}
use Rattle.ply_check.specs.Arcs.{AreWithin}
use Rattle.ply_check.specs.Corners.{triple_of, triples}
use Rattle.ply_check.proofs.ArcLaws.{few_arcs}
use Rattle.ply_check.proofs.FaultLaws.{arcs_within, none_found}
use Rattle.ply_check.proofs.mesh_faults.Faults.of.Goals as goal

pub loop-vertex-init : goal.loop-vertex-init
loop-vertex-init c = record { clear = c.in_ok-neighbours.ensures; found = none_found c.args.faces.now c.args.top }

pub or_at-faults-requires-clause-within : goal.or_at-faults-requires-clause-within
or_at-faults-requires-clause-within c =
    subst (AreWithin c.args.top) (sym (c.deref.ensures.value ∙ c.in_ok-gather.ensures))
    (arcs_within c.args.top c.loop-vertex.vertex 0 (triples c.args.faces.now) c.requires.below)

pub or_at-faults-requires-clause-few : goal.or_at-faults-requires-clause-few
or_at-faults-requires-clause-few c =
    let few = few_arcs c.loop-vertex.vertex 0 (triples c.args.faces.now) in
    let same = ap length (c.deref.ensures.value ∙ c.in_ok-gather.ensures) in
    omega (arith, few, same, length-map c.args.faces.now triple_of, c.requires.few)

pub loop-vertex-preserved : goal.loop-vertex-preserved
loop-vertex-preserved c =
    record {
      clear = c.or_at-faults.ensures.clear;
      found =
          c.or_at-faults.ensures.found (triples c.args.faces.now) c.requires.triangles (c.deref.ensures.value ∙ c.in_ok-gather.ensures) c.loop-vertex.invariant.found;
    }
