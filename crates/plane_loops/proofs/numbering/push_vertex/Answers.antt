-- A direction that holds a vertex is among those of its cell.
use Rattle.std.proofs.Common.{sym, ◌∙◌}
use Rattle.plane_loops.specs.Following.{cell_at}
use Rattle.plane_loops.specs.Steps.{IsParted}
use Rattle.plane_loops.proofs.NumberLaws.{of_mixed}
use Rattle.plane_loops.proofs.numbering.push_vertex.Goals as goal

pub vertex-requires-clause-parted : goal.vertex-requires-clause-parted
vertex-requires-clause-parted c =
    of_mixed (IsParted c.args.n c.args.values.now) (cell_at c.args.n c.args.place) c.args.signs c.args.dir c.requires.parted c.requires.some c.requires.direction (sym c.is_mixed.ensures ∙ c.if-is_mixed.true)
