-- One triangle after another.
use Rattle.std.proofs.Common.{ap, arith, length, subst, ◌∙◌}
use Rattle.std.specs.Prelude.{All, Contains, get_or}
use Rattle.std.proofs.lemmas.List.{get_or_default, take_all}
use Rattle.kuhn_cells.specs.declared.triple.Triple.{Triple}
use Rattle.tetra_mesh.specs.Edges.{all_edges_in, no_edge}
use Rattle.tetra_mesh.proofs.EdgeLaws.{none_first, one_more}
use Rattle.tetra_mesh.proofs.shape.Shape.new.Goals as goal

abbrev none : Triple
none = record { a = no_edge; b = no_edge; c = no_edge }

pub loop-triple-init : goal.loop-triple-init
loop-triple-init c = record {
  first = rw (c.new-edges.ensures, c.new-triangles.ensures) (none_first c.args.triples.now);
  count = ap length c.new-triangles.ensures;
}

pub loop-triple-preserved : goal.loop-triple-preserved
loop-triple-preserved c =
    let ts = c.args.triples.now in
    let i = c.loop-triple.triple-index in
    let t = get_or ts i none in
    record {
      first = one_more ts i t c.loop-triple.edges.items c.push_triangle.new.edges.items c.loop-triple.triangles.items c.push_triangle.new.triangles.items c.loop-triple-test.true (get_or_default ts i none t c.loop-triple-test.true) c.loop-triple.invariant.first c.push_triangle.ensures.adds;
      count = omega (arith, c.push_triangle.ensures.one, c.loop-triple.invariant.count);
    }

pub returns : goal.returns
returns c =
    let ts = c.args.triples.now in
    let inv = c.loop-triple.invariant.first in
    let all = take_all c.loop-triple.triple-index ts c.loop-triple-test.false in
    record {
      triangles = inv.triangles ∙ all;
      places = inv.places;
      own = subst (λ l. All (Contains (all_edges_in l)) c.loop-triple.edges.items) all inv.own;
      few = omega (arith, inv.few, c.loop-triple.auto.triple-index-end);
    }
