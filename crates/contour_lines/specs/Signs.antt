-- The sides of the corners of the cells of a plane grid.
use Rattle.std.specs.Prelude.{◌≡◌, ℕ, ◌+◌, ◌*◌, ◌/◌, ◌%◌, ◌<◌, ℤ, pos, Bool, false, List, length, get_or, Option, Some, None, if◌then◌else◌}
use Rattle.fixed_ops.specs.Raw.{is_inside}
use Rattle.kuhn_cells.specs.Triangles.{point}
use Rattle.live_clauses.specs.declared.step.Step.{Step}
use Rattle.view_places.specs.Window.{Window}
use Rattle.contour_lines.specs.Planes.{plane_value}
use Rattle.contour_lines.specs.Ways.{flat_value}

-- a point of the plane grid is inside
abbrev pub is_inside_at : Window → List Step → ℕ → ℕ → Bool
is_inside_at view list i j = is_inside (plane_value view list i j)

abbrev pub bit_of : Bool → ℕ
bit_of t = if t then 1 else 0

-- The signs of a cell: one bit for each corner that is inside, by the corner's mask, which has 1 for a step
-- along x and 2 for one along y.
abbrev pub signs_at : Window → List Step → ℕ → ℕ → ℕ
signs_at view list i j =
    bit_of (is_inside_at view list i j) + 2 * bit_of (is_inside_at view list (i + 1) j)
    + 4 * bit_of (is_inside_at view list i (j + 1)) + 8 * bit_of (is_inside_at view list (i + 1) (j + 1))

-- some corner is inside by these signs, and some is outside
pub record AreMixed (signs : ℕ) : Type 0 where
  pub some : 0 < signs
  pub others : signs < 15

-- a list has the signs of every cell, row by row
pub record HasSigns (view : Window) (list : List Step) (signs : List ℕ) : Type 0 where
  pub all : length signs ≡ view.ny * view.nx
  pub each : (i j : ℕ) → i < view.nx → j < view.ny
      → get_or signs (j * view.nx + i) 0 ≡ signs_at view list i j

-- A list has a number for every point, row by row, and at the corners of each cell that has some inside and
-- some outside these are the values there.
pub record HasCorners (view : Window) (list : List Step) (values : List ℤ) : Type 0 where
  pub all : length values ≡ (view.ny + 1) * (view.nx + 1)
  pub each : (i j c : ℕ) → i < view.nx → j < view.ny → c < 4 → AreMixed (signs_at view list i j)
      → get_or values ((j + c / 2) * (view.nx + 1) + (i + c % 2)) (pos 0)
      ≡ plane_value view list (i + c % 2) (j + c / 2)

-- Something for the places of the first rows of a table, and of the first places of the next row.
pub record AreRows {A : Type 0} (wide : ℕ) (f : ℕ → ℕ → A) (none : A) (rows next : ℕ) (xs : List A)
    : Type 0 where
  pub all : length xs ≡ rows * wide + next
  pub each : (i j : ℕ) → i < wide → j < rows → get_or xs (j * wide + i) none ≡ f i j
  pub last : (i : ℕ) → i < next → get_or xs (rows * wide + i) none ≡ f i rows

-- whether each point is inside over a view that lies flat
abbrev pub side_of : Window → List Step → ℕ → ℕ → Bool
side_of view list i j = is_inside (flat_value view list (point i j 0))

-- the signs of a cell by a table of the sides of the points
abbrev pub signs_by : ℕ → List Bool → ℕ → ℕ → ℕ
signs_by columns sides i j =
    let at = j * (columns + 1) + i in
    bit_of (get_or sides at false) + 2 * bit_of (get_or sides (at + 1) false)
    + 4 * bit_of (get_or sides (at + (columns + 1)) false) + 8 * bit_of (get_or sides (at + (columns + 1) + 1) false)

-- the side of a point, by its value where that is known, and else by the side of the point before it
abbrev pub side_after : Option ℤ → Bool → Bool
side_after (Some v) before = is_inside v
side_after None before = before
