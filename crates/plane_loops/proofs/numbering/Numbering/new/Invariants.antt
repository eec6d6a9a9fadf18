use Rattle.std.proofs.Common.{◌≡◌, length}
use Rattle.std.specs.Prelude.{map}
use Rattle.std.specs.List.{range_with_len}
use Rattle.plane_loops.specs.Following.{edges_before, vertex_by}
use Rattle.plane_loops.proofs.numbering.Numbering.new.Given as goal

abbrev pub invariant-loop-place : goal.invariant-loop-place
invariant-loop-place l = record {
  vertices : l.vertices.items ≡ map (vertex_by l.n l.values) (edges_before l.n l.signs l.place);
  bases : l.bases.items ≡ map (λ k. length (edges_before l.n l.signs k)) (range_with_len 0 l.place);
}
