-- One cell after another.
use Rattle.std.proofs.Common.{◌≡◌, ◌*◌, arith, ap, sym, length, ◌∙◌}
use Rattle.std.specs.Prelude.{map}
use Rattle.std.proofs.lemmas.List.{length-map}
use Rattle.plane_loops.specs.Following.{edges_before, vertex_by}
use Rattle.plane_loops.specs.Steps.{IsParted}
use Rattle.plane_loops.proofs.NumberLaws.{before_none, few_before}
use Rattle.plane_loops.proofs.ReadLaws.{cell_parted, few_made, more_bases, more_vertices}
use Rattle.plane_loops.proofs.numbering.Numbering.new.Goals as goal

pub loop-place-init : goal.loop-place-init
loop-place-init c = record {
  vertices = c.new-vertices.ensures.items ∙ sym (ap (map (vertex_by c.args.n c.args.values.now)) (before_none c.args.n c.args.signs.now));
  bases = c.in_ok-bases.ensures.items;
}

pub overflow_cast-len : goal.overflow_cast-len
overflow_cast-len c =
    let upto = c.loop-place.auto.place-end in
    let few = few_made c.args.n c.args.signs.now (vertex_by c.args.n c.args.values.now) c.loop-place.place c.loop-place.vertices.items c.requires.few (omega (arith, upto)) c.loop-place.invariant.vertices in
    let long : c.len.result ≡ length c.loop-place.vertices.items = omega arith in
    omega (arith, few, long)

pub push_vertices-requires-clause-parted : goal.push_vertices-requires-clause-parted
push_vertices-requires-clause-parted c =
    cell_parted c.args.n c.args.signs.now (IsParted c.args.n c.args.values.now) (c.args.n * c.args.n) c.loop-place.place c.loop-place-test.true c.requires.parted

pub loop-place-preserved : goal.loop-place-preserved
loop-place-preserved c =
    let f = vertex_by c.args.n c.args.values.now in
    let kept = c.loop-place.invariant in
    let long : c.len.result ≡ length c.loop-place.vertices.items = omega arith in
    record {
      vertices = more_vertices c.args.n c.args.signs.now f c.loop-place.place _ _ kept.vertices c.in_ok-push_vertices.ensures;
      bases = more_bases c.args.n c.args.signs.now f c.loop-place.place c.len.result c.loop-place.vertices.items _ _ kept.vertices long kept.bases c.in_ok-push.ensures.items;
    }

pub returns-clause-small : goal.returns-clause-small
returns-clause-small c =
    let f = vertex_by c.args.n c.args.values.now in
    let a = ap length c.loop-place.invariant.vertices ∙ length-map (edges_before c.args.n c.args.signs.now c.loop-place.place) f in
    let b = few_before c.args.n c.args.signs.now c.loop-place.place in
    let upto = c.loop-place.auto.place-end in
    omega (arith, a, b, upto)
