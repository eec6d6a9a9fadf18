-- Grids whose outermost layer is outside.
use Rattle.std.specs.Prelude.{◌≡◌, ℕ, ◌+◌, ◌*◌, pos, ◌≤ℤ◌, IsTrue, length, ◌⊎◌}
use Rattle.kuhn_cells.specs.Grids.{Grid, is_point, value_at}
use Rattle.kuhn_cells.specs.Triangles.{GridPoint}

-- an index of the first or the last point along an axis of so many cells
abbrev pub IsEnd : ℕ → ℕ → Type 0
IsEnd count index = (index ≡ 0) ⊎ (index ≡ count)

-- a point of the outermost layer
abbrev pub IsOuter : Grid → GridPoint → Type 0
IsOuter g p = IsEnd g.x p.x ⊎ (IsEnd g.y p.y ⊎ IsEnd g.z p.z)

-- a grid with a value at each of its points, and none below 0 in the outermost layer
pub record IsFramed (g : Grid) : Type 0 where
  pub points : length g.values ≡ (g.x + 1) * ((g.y + 1) * (g.z + 1))
  pub frame : (p : GridPoint) → IsTrue (is_point g p) → IsOuter g p → pos 0 ≤ℤ value_at g p
