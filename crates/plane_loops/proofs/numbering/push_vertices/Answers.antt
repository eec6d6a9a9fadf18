-- Three directions.
use Rattle.plane_loops.specs.Following.{cell_at, vertex_by}
use Rattle.plane_loops.proofs.ReadLaws.{three_pushed}
use Rattle.plane_loops.proofs.numbering.push_vertices.Goals as goal

pub returns : goal.returns
returns c =
    three_pushed (vertex_by c.args.n c.args.values.now) (cell_at c.args.n c.args.place) c.args.signs _ _ _ _ c.in_ok-push_vertex.ensures c.in_ok-push_vertex-2.ensures c.in_ok-push_vertex-3.ensures
