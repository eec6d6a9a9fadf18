-- The table is one of the view.
use Rattle.std.proofs.Common.{rules}
use Rattle.mesh_tests.proofs.places.places.Goals as goal

pub raw-requires : goal.raw-requires
raw-requires c = rw c.new-table.ensures (search rules)
