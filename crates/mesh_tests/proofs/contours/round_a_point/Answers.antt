-- The tables are those of the grid of which the middle point alone is inside.
use Rattle.plane_loops.proofs.Examples.{middle_inside, middle_tables}
use Rattle.mesh_tests.proofs.contours.round_a_point.Goals as goal

pub link_loops-requires-clause-tables : goal.link_loops-requires-clause-tables
link_loops-requires-clause-tables g c =
    (middle_inside, middle_tables c.from_raw-out.result c.from_raw-inside.result c.from_raw-out.ensures c.from_raw-inside.ensures)
