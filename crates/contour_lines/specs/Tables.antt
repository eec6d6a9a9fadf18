-- Values of some points of a plane grid.
use Rattle.std.specs.Prelude.{◌+◌, ◌*◌, ◌==◌, nat_le, ℤ, Bool, ◌&&◌, Option, None, if◌then◌else◌}
use Rattle.kuhn_cells.specs.Triangles.{GridPoint}
use Rattle.kuhn_cells.specs.declared.grid_size.GridSize.{GridSize}
use Rattle.oct_descent.specs.Known.{Known}
use Rattle.oct_descent.specs.Tables.{Marks, read}
use Rattle.contour_lines.specs.Ways.{points_of_plane}

-- the values that are known of the points of a plane grid, row by row
pub record PlaneValues : Type 0 where
  pub n : GridSize
  pub kept : Marks

-- a point is one of a plane grid
abbrev pub is_in_plane : GridSize → GridPoint → Bool
is_in_plane n p = nat_le p.x n.x && (nat_le p.y n.y && p.z == 0)

-- the value of a point, where it is known
unfoldable pub known_at : PlaneValues → GridPoint → Option ℤ
known_at t p = if is_in_plane t.n p then read t.kept (p.y * (t.n.x + 1) + p.x) else None

-- what is known of the points of a plane grid
abbrev pub known_of : PlaneValues → Known
known_of t = record { n = t.n; points = points_of_plane t.n; at = known_at t }
