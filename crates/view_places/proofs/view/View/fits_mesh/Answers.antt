use Rattle.std.proofs.Common.{rules}
use Rattle.view_places.proofs.WindowLaws.{tested}
use Rattle.view_places.proofs.view.View.fits_mesh.Goals as goal

pub returns-then-cells_have_room-clause-fits : goal.returns-then-cells_have_room-clause-fits
returns-then-cells_have_room-clause-fits c = tested c.args.self.now _ (search rules)

pub returns-else-cells_have_room-clause-fits : goal.returns-else-cells_have_room-clause-fits
returns-else-cells_have_room-clause-fits c = tested c.args.self.now _ (search rules)
