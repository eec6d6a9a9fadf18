-- The first edge, by what the tables tell.
use Rattle.std.proofs.Common.{length}
use Rattle.ply_check.proofs.FaultLaws.{first_after}
use Rattle.ply_check.proofs.degrees.first_unpaired.Goals as goal

pub returns-clause-first : goal.returns-clause-first
returns-clause-first c =
    λ fs u triangles are so_far.
    first_after fs u (length c.args.to.now) c.args.arcs.now c.count.new.to c.count.new.back c.args.first c.least_unpaired-least.result
    (record { triangles = triangles; arcs = are; degrees = c.count.ensures }) c.least_unpaired-least.ensures so_far
