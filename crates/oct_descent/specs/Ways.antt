-- Boxes of cells, and the boxes on the way to a cell.
use Rattle.std.specs.Prelude.{ℕ, zero, suc, ◌+◌, ◌==◌, ◌≤◌, Bool, true, false, not, ◌&&◌, ◌||◌, List, [], ◌∷◌, Option, Some, None, unwrap_or, if◌then◌else◌}
use Rattle.std.specs.List.{last_or}
use Rattle.box_chains.specs.Chains.{Descent, Visit, decision, is_long, next_visit, sides}
use Rattle.box_chains.specs.Counts.{root_visit}
use Rattle.box_chains.specs.Sums.{Sample}
use Rattle.kuhn_cells.specs.Triangles.{GridPoint}
use Rattle.kuhn_cells.specs.declared.grid_size.GridSize.{GridSize}
use Rattle.live_clauses.specs.declared.step.Step.{Step}
use Rattle.view_places.specs.Boxes.{Indices}
use Rattle.view_places.specs.Window.{Window, size_of}
use Rattle.view_places.specs.declared.lattice.Lattice.TheVariants as lattices

-- How the cells of a grid are looked into: how its boxes are, which of these cover a point of the
-- outermost layer, and the box that covers the corners of a cell.
pub record CellDescent : Type 0 where
  pub boxes : Descent
  pub meets : Indices → Bool
  pub cell : Sample → Indices

-- a box of cells covers a grid point, also one at its upper ends
pub record Covers (b : Indices) (p : GridPoint) : Type 0 where
  pub x : (b.x0 ≤ p.x) × (p.x ≤ b.x1)
  pub y : (b.y0 ≤ p.y) × (p.y ≤ b.y1)
  pub z : (b.z0 ≤ p.z) × (p.z ≤ b.z1)

-- the box of one cell, which covers its corners
abbrev pub cell_box : Sample → Indices
cell_box s = record { x0 = s.i; x1 = s.i + 1; y0 = s.j; y1 = s.j + 1; z0 = s.k; z1 = s.k + 1 }

-- a box of cells of a grid covers a point of the outermost layer
abbrev pub meets_border : GridSize → Indices → Bool
meets_border n b =
    (b.x0 == 0 || b.x1 == n.x) || ((b.y0 == 0 || b.y1 == n.y) || (b.z0 == 0 || b.z1 == n.z))

-- A box stays open where it is undecided, and also where it is decided inside and covers a point of
-- the outermost layer, which is outside all the same.
abbrev pub is_open_by : (Indices → Bool) → Indices → Option Bool → Bool
is_open_by meets b None = true
is_open_by meets b (Some true) = meets b
is_open_by meets b (Some false) = false

abbrev pub is_open : CellDescent → Visit → Bool
is_open d v = is_open_by d.meets v.box (decision d.boxes v)

-- an open box of more than one cell is split
abbrev pub is_cut : CellDescent → Visit → Bool
is_cut d v = is_open d v && is_long d.boxes.leaf v.box

unfoldable pub way_within : ℕ → CellDescent → Visit → Sample → List Visit
way_within zero d v s = []
way_within (suc n) d v s = v ∷ (if is_cut d v then way_within n d (next_visit d.boxes v s) s else [])

-- The boxes on the way to a cell, from a box on that holds it: that box, and where it is split the
-- boxes from the half with the cell on. Each half receives what is live of the list that the box
-- receives.
abbrev pub way : CellDescent → Visit → Sample → List Visit
way d v s = way_within (sides v.box) d v s

-- the last box on the way
abbrev pub way_end : CellDescent → Visit → Sample → Visit
way_end d v s = unwrap_or (last_or None (way d v s)) v

-- a cell is a working one: the way to it leads to the cell alone, and that is open
abbrev pub is_working : CellDescent → Visit → Sample → Bool
is_working d v s = is_open d (way_end d v s) && not (is_long d.boxes.leaf (way_end d v s).box)

-- how the cells of a mesh's grid are looked into: a box is halved until it is one cell
abbrev pub gridded : Window → CellDescent
gridded view = record {
  boxes = record { view = view; lattice = lattices.Grid; leaf = 1 };
  meets = meets_border (size_of view);
  cell = cell_box;
}

-- the box of all cells, with the whole list
abbrev pub grid_root : Window → List Step → Visit
grid_root view list = root_visit (gridded view).boxes list
