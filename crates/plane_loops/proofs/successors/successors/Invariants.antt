use Rattle.std.proofs.Common.{◌≡◌}
use Rattle.std.specs.Prelude.{map, take}
use Rattle.plane_loops.specs.Following.{edge_of, next_by, number_by}
use Rattle.plane_loops.proofs.successors.successors.Given as goal

abbrev pub invariant-loop-v : goal.invariant-loop-v
invariant-loop-v l =
    l.next.items ≡ map (λ v. number_by l.n l.signs (next_by l.n l.signs (edge_of v))) (take l.v-index l.vertices)
