-- The points of a view's grid are few along each axis.
use Rattle.std.proofs.Common.{◌≤◌}
use Rattle.view_places.specs.declared.lattice.Axis.{Axis}
use Rattle.view_places.specs.declared.lattice.Axis.TheVariants as axes
use Rattle.view_places.specs.declared.lattice.Lattice.TheVariants.{Grid}
use Rattle.view_places.specs.Places.{steps_of}
use Rattle.view_places.specs.Window.{IsWindow, Window}

pub few_points : (w : Window) (axis : Axis) → IsWindow w → steps_of w Grid axis ≤ 512
few_points w axes.X is = is.nx.few
few_points w axes.Y is = is.ny.few
few_points w axes.Z is = is.nz.few
