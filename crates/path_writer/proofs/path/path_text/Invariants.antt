-- The lines so far, and those of the loops that are left, are all.
use Rattle.std.proofs.Common.{◌≡◌, ◌++◌, drop, length, map}
use Rattle.std.specs.List.{flat_map}
use Rattle.path_writer.specs.Paths.{path_line, path_of, pieces_from, vertex_at}
use Rattle.path_writer.specs.Written.{ArePiecesTo}
use Rattle.path_writer.proofs.path.path_text.Given as goal

abbrev pub invariant-loop-end : goal.invariant-loop-end
invariant-loop-end l = record {
  places : l.places ≡ l.fn.view;
  pieces : ArePiecesTo l.start (length l.contour.order) (drop l.end-index l.contour.ends);
  lines : l.text.items ++ flat_map (λ loop. path_line l.fn.view (map (vertex_at l.contour.vertices) loop)) (pieces_from l.start l.contour.order (drop l.end-index l.contour.ends)) ≡ path_of l.fn.view l.contour;
}
