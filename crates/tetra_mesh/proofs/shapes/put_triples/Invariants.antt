use Rattle.std.proofs.Common.{◌≡◌}
use Rattle.tetra_mesh.specs.Shapes.{shape_front}
use Rattle.tetra_mesh.proofs.shapes.put_triples.Given as goal

abbrev pub invariant-loop-tetra : goal.invariant-loop-tetra
invariant-loop-tetra l = l.triples.items ≡ shape_front l.signs l.tetra
