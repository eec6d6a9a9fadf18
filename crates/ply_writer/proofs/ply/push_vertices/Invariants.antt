-- The lines so far, and those of what is left, are all.
use Rattle.std.proofs.Common.{◌≡◌, ◌++◌, length}
use Rattle.std.specs.Prelude.{All}
use Rattle.std.specs.List.{flat_map}
use Rattle.tetra_mesh.specs.Places.{IsPlaced}
use Rattle.ply_writer.specs.Ply.{vertex_line}
use Rattle.ply_writer.proofs.ply.push_vertices.Given as goal

abbrev pub invariant-loop-rest : goal.invariant-loop-rest
invariant-loop-rest l = record {
  view : l.block.view ≡ l.fn.block.view;
  placed : All (IsPlaced l.fn.block.view) l.rest;
  lines : l.text.items ++ flat_map (vertex_line l.fn.block.view) l.rest ≡ l.fn.text.items ++ flat_map (vertex_line l.fn.block.view) l.vertices;
}

abbrev pub decreases-loop-rest : goal.decreases-loop-rest
decreases-loop-rest l = length l.rest
