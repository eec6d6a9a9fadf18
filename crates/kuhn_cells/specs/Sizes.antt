-- How many cells a grid has along each axis.
use Rattle.std.specs.Prelude.{◌≡◌, ℕ, ◌*◌, ◌≤◌}
use Rattle.kuhn_cells.specs.declared.grid_size.GridSize.{GridSize}

-- two grids have as many cells
abbrev pub SameSize : GridSize → GridSize → Type 0
SameSize m n = (m.x ≡ n.x) × ((m.y ≡ n.y) × (m.z ≡ n.z))

-- a grid has at most 512 cells along each axis, and at most 16777216 in all
pub record IsBounded (n : GridSize) : Type 0 where
  pub x : n.x ≤ 512
  pub y : n.y ≤ 512
  pub z : n.z ≤ 512
  pub all : n.x * (n.y * n.z) ≤ 16777216
