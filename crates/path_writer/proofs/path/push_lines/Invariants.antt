-- The lines to the vertices so far.
use Rattle.std.proofs.Common.{◌≡◌, ◌++◌, map, take}
use Rattle.std.specs.List.{flat_map}
use Rattle.path_writer.specs.Paths.{line_to, vertex_at}
use Rattle.path_writer.proofs.path.push_lines.Given as goal

abbrev pub invariant-loop-number : goal.invariant-loop-number
invariant-loop-number l =
    l.text.items ≡ l.fn.text.items ++ flat_map (line_to l.places) (map (vertex_at l.vertices) (take l.number-index l.numbers))
