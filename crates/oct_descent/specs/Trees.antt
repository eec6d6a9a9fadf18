-- What is known of a grid once its boxes are looked into.
use Rattle.std.specs.Prelude.{◌≡◌, List, true, Some}
use Rattle.kuhn_cells.specs.Triangles.{GridPoint}
use Rattle.kuhn_cells.specs.Sizes.{IsBounded, SameSize}
use Rattle.live_clauses.specs.declared.step.Step.{Step}
use Rattle.view_places.specs.Spans.{root_box_of}
use Rattle.view_places.specs.Window.{Window, size_of}
use Rattle.oct_descent.specs.GridValues.{list_grid_value}
use Rattle.oct_descent.specs.Kinds.{known_of}
use Rattle.oct_descent.specs.Known.{AreSettled}
use Rattle.oct_descent.specs.Tables.{PointValues, is_known, known_at}
use Rattle.oct_descent.specs.Ways.{gridded}
use Rattle.view_places.specs.declared.lattice.Lattice.TheVariants as lattices

-- a list of steps over a view
pub record Gridding : Type 0 where
  pub view : Window
  pub list : List Step

-- what is known are grid values, and the corners of each cell are known that has some inside and some outside
pub record IsTold (view : Window) (list : List Step) (t : PointValues) : Type 0 where
  pub n : SameSize t.n (size_of view)
  pub few : IsBounded t.n
  pub right : (p : GridPoint) → is_known (known_at t p) ≡ true
      → known_at t p ≡ Some (list_grid_value view list p)
  pub settled : AreSettled (gridded view) (list_grid_value view list) (root_box_of view lattices.Grid)
      (known_of t)
