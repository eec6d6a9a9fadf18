-- What the layers below promise of plane grids, once it is shown how their border lies.
use Rattle.box_chains.proofs.Theorems.{laws}
use Rattle.oct_descent.proofs.GridLaws.{grids_hold_is}
use Rattle.oct_descent.specs.GridLaws.{LawsOf}
use Rattle.contour_lines.proofs.Borders.{borders-hold}
use Rattle.contour_lines.specs.Ways.{plane}

pub planes : LawsOf plane
planes = grids_hold_is laws plane borders-hold
