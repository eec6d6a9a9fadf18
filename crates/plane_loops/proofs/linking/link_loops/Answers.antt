-- The whole contour.
use Rattle.std.proofs.Common.{◌≡◌, ◌*◌}
use Rattle.std.specs.Prelude.{map}
use Rattle.plane_loops.specs.Following.{edge_of, edges_before, next_by, number_by, vertex_by}
use Rattle.plane_loops.specs.Steps.{bases_of}
use Rattle.plane_loops.proofs.LinkLaws.{gives, linked, next_within, small_bases, vertices_have_next}
use Rattle.plane_loops.proofs.linking.link_loops.Goals as goal

pub new-requires-clause-parted : goal.new-requires-clause-parted
new-requires-clause-parted c =
    (gives c.args.n c.requires.tables.0 c.args.values.now c.args.signs.now c.requires.tables.1).parted

pub successors-requires-clause-small : goal.successors-requires-clause-small
successors-requires-clause-small c =
    let is : c.deref.result.now ≡ bases_of c.args.n c.args.signs.now = cc (c.deref.ensures.value, c.in_ok-made.ensures.bases) in
    small_bases c.args.n c.args.signs.now c.deref.result.now c.requires.few is

pub successors-requires-clause-vertices : goal.successors-requires-clause-vertices
successors-requires-clause-vertices c =
    let is : c.deref-2.result.now ≡ map (vertex_by c.args.n c.args.values.now) (edges_before c.args.n c.args.signs.now (c.args.n * c.args.n)) =
    cc (c.deref-2.ensures.value, c.in_ok-made.ensures.vertices) in
    vertices_have_next c.args.n c.requires.tables.0 c.args.values.now c.args.signs.now c.requires.tables.1 c.deref-2.result.now is

pub follow-requires-clause-within : goal.follow-requires-clause-within
follow-requires-clause-within c =
    let is : c.deref-2.result.now ≡ map (vertex_by c.args.n c.args.values.now) (edges_before c.args.n c.args.signs.now (c.args.n * c.args.n)) =
    cc (c.deref-2.ensures.value, c.in_ok-made.ensures.vertices) in
    let next : c.deref-3.result.now ≡ map (λ v. number_by c.args.n c.args.signs.now (next_by c.args.n c.args.signs.now (edge_of v))) c.deref-2.result.now =
    cc (c.deref-3.ensures.value, c.in_ok-next.ensures) in
    next_within c.args.n c.requires.tables.0 c.args.values.now c.args.signs.now c.requires.tables.1 c.deref-2.result.now c.deref-3.result.now is next

pub returns : goal.returns
returns c = λ g tables.
    let next : c.deref-3.result.now ≡ map (λ v. number_by c.args.n c.args.signs.now (next_by c.args.n c.args.signs.now (edge_of v))) c.in_ok-made.made.vertices.items =
    cc (c.deref-3.ensures.value, c.deref-2.ensures.value, c.in_ok-next.ensures) in
    linked c.args.n g c.args.values.now c.args.signs.now tables c.in_ok-made.made.vertices.items c.deref-3.result.now c.in_ok-order.order.items c.in_ok-order.ends.items c.in_ok-made.ensures.vertices next c.in_ok-order.ensures.order c.in_ok-order.ensures.ends
