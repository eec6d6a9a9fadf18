-- What drawing a box of a height map needs.
use Rattle.std.specs.Prelude.{◌≡◌, ℕ, ◌*◌, ◌<◌, ◌≤◌, length}
use Rattle.box_chains.specs.Chains.{visit}
use Rattle.box_chains.specs.Desks.{Tracing, list_of}
use Rattle.box_chains.specs.Visits.{IsVisit}
use Rattle.view_places.specs.Boxes.{Indices}
use Rattle.view_places.specs.declared.lattice.Lattice.TheVariants.{Height}
use Rattle.height_map.specs.Bound.{layered}

-- the box is one of the height map's, whose tops there are, and there is room for the list of a number
pub record MayDraw (desk : Tracing) (b : Indices) (at : ℕ) (len : ℕ) : Type 0 where
  pub lattice : desk.lattice ≡ Height
  pub visit_is : IsVisit (layered desk.view) (visit b (list_of desk at))
  pub tops : len ≡ desk.view.h * desk.view.w
  pub among : at < length desk.lists
  pub room : length (list_of desk at) ≤ desk.room
