-- What is known of a plane grid once its boxes are looked into.
use Rattle.std.specs.Prelude.{◌≡◌, List, true, Some}
use Rattle.kuhn_cells.specs.Triangles.{GridPoint}
use Rattle.kuhn_cells.specs.Sizes.{SameSize}
use Rattle.live_clauses.specs.declared.step.Step.{Step}
use Rattle.view_places.specs.Spans.{root_box_of}
use Rattle.view_places.specs.Window.{Window, size_of}
use Rattle.view_places.specs.declared.lattice.Lattice.TheVariants as lattices
use Rattle.oct_descent.specs.Known.{AreSettled, Known}
use Rattle.oct_descent.specs.Tables.{is_known}
use Rattle.contour_lines.specs.Ways.{flat_value, planar}

-- what is known are the list's values, and the corners of each cell are known that has some inside and some
-- outside
pub record IsTold (view : Window) (list : List Step) (t : Known) : Type 0 where
  pub n : SameSize t.n (size_of view)
  pub right : (p : GridPoint) → is_known (t.at p) ≡ true
      → t.at p ≡ Some (flat_value view list p)
  pub settled : AreSettled (planar view) (flat_value view list) (root_box_of view lattices.Grid) t
