-- Tables of what is known of a plane grid.
use Rattle.std.specs.Prelude.{◌≡◌, ◌≢◌, ℕ, ◌+◌, ◌*◌, ◌<◌, ℤ, pos, Bool, List, get_or, length, if◌then◌else◌}
use Rattle.plane_loops.specs.Planes.{IsBordered, PlaneGrid, PlanePoint, further, is_inside_at, value_at}

abbrev pub one_if : Bool → ℕ
one_if b = if b then 1 else 0

-- which corners of a cell are inside: bit c is 1 where corner c is
abbrev pub signs_at : (PlanePoint → Bool) → PlanePoint → ℕ
signs_at inside cell =
    one_if (inside (further cell 0)) + 2 * one_if (inside (further cell 1))
    + 4 * one_if (inside (further cell 2)) + 8 * one_if (inside (further cell 3))

-- some corner of a cell is inside and some corner is outside, by which are inside
abbrev pub AreMixed : ℕ → Type 0
AreMixed signs = (signs ≢ 0) × (signs ≢ 15)

-- The signs of each cell of a bordered grid of so many cells along each axis, by y, then by x, and a
-- table of values that are exact at the corners of each cell of which some corners are inside and
-- some outside.
pub record AreTables (n : ℕ) (g : PlaneGrid) (values : List ℤ) (signs : List ℕ) : Type 0 where
  pub size : g.n ≡ n
  pub border : IsBordered g
  pub room : length values ≡ (n + 1) * (n + 1)
  pub cells : length signs ≡ n * n
  pub sides : (cell : PlanePoint) → cell.x < n → cell.y < n
      → get_or signs (cell.y * n + cell.x) 0 ≡ signs_at (is_inside_at g) cell
  pub exact : (cell : PlanePoint) (corner : ℕ) → cell.x < n → cell.y < n → corner < 4
      → AreMixed (signs_at (is_inside_at g) cell)
      → get_or values ((further cell corner).y * (n + 1) + (further cell corner).x) (pos 0)
      ≡ value_at g (further cell corner)
