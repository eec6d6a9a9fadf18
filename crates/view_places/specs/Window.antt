-- A window onto a solid, and how finely it is sampled.
use Rattle.std.specs.Prelude.{◌≡◌, ℕ, ◌*◌, ◌≤◌, ◌==◌, ℤ, pos, ◌-ℤ◌, ◌≤ℤ◌, int_le, nat_le, Bool, ◌&&◌}
use Rattle.std.specs.Ordering.{int_eq}
use Rattle.fixed_ops.specs.Raw.{IsRaw}
use Rattle.kuhn_cells.specs.declared.grid_size.GridSize.{GridSize}

-- the raw ends of the axes, the raw height of a raster, the columns, rows and layers, and the cells of a mesh
-- along each axis
pub record Window : Type 0 where
  pub x0 : ℤ
  pub x1 : ℤ
  pub y0 : ℤ
  pub y1 : ℤ
  pub z0 : ℤ
  pub z1 : ℤ
  pub z : ℤ
  pub w : ℕ
  pub h : ℕ
  pub d : ℕ
  pub nx : ℕ
  pub ny : ℕ
  pub nz : ℕ

-- two views are one: all their numbers are equal
abbrev pub same_view : Window → Window → Bool
same_view a b =
    int_eq a.x0 b.x0 && (int_eq a.x1 b.x1 && (int_eq a.y0 b.y0 && (int_eq a.y1 b.y1
    && (int_eq a.z0 b.z0 && (int_eq a.z1 b.z1 && (int_eq a.z b.z
    && (a.w == b.w && (a.h == b.h && (a.d == b.d
    && (a.nx == b.nx && (a.ny == b.ny && a.nz == b.nz)))))))))))

-- ends of an axis, which are raw numbers in order
pub record AreEnds (low high : ℤ) : Type 0 where
  pub low_raw : IsRaw low
  pub high_raw : IsRaw high
  pub ordered : low ≤ℤ high

-- a count from 1 to the greatest one
pub record IsCount (greatest count : ℕ) : Type 0 where
  pub some : 1 ≤ count
  pub few : count ≤ greatest

-- what every view keeps
pub record IsWindow (v : Window) : Type 0 where
  pub x : AreEnds v.x0 v.x1
  pub y : AreEnds v.y0 v.y1
  pub z_ends : AreEnds v.z0 v.z1
  pub z : IsRaw v.z
  pub w : IsCount 4096 v.w
  pub h : IsCount 4096 v.h
  pub d : IsCount 1024 v.d
  pub nx : IsCount 512 v.nx
  pub ny : IsCount 512 v.ny
  pub nz : IsCount 512 v.nz

-- a height map may be drawn of it
pub record FitsHeight (v : Window) : Type 0 where
  pub w : v.w ≤ 1024
  pub h : v.h ≤ 1024

-- how many cells the grid of a mesh has along each axis
abbrev pub size_of : Window → GridSize
size_of v = record { x = v.nx; y = v.ny; z = v.nz }

-- a mesh may be made of it: a cell has at least 65536 raw units along each axis, and there are at most 16777216
-- cells
pub record FitsMesh (v : Window) : Type 0 where
  pub x : pos (v.nx * 65536) ≤ℤ (v.x1 -ℤ v.x0)
  pub y : pos (v.ny * 65536) ≤ℤ (v.y1 -ℤ v.y0)
  pub z : pos (v.nz * 65536) ≤ℤ (v.z1 -ℤ v.z0)
  pub all : v.nx * (v.ny * v.nz) ≤ 16777216

-- a contour may be drawn of it: its plane grid has as many cells along x as along y, at most 256, and a cell has
-- at least 65536 raw units along each of these axes
pub record FitsContour (v : Window) : Type 0 where
  pub square : v.nx ≡ v.ny
  pub few : v.nx ≤ 256
  pub x : pos (v.nx * 65536) ≤ℤ (v.x1 -ℤ v.x0)
  pub y : pos (v.ny * 65536) ≤ℤ (v.y1 -ℤ v.y0)

-- ends of an axis lie at least 65536 raw units a cell from each other
unfoldable pub has_room : ℤ → ℤ → ℕ → Bool
has_room low high cells = int_le (pos (cells * 65536)) (high -ℤ low)

-- the cells of a mesh have that room along each axis
abbrev pub cells_have_room : Window → Bool
cells_have_room v =
    has_room v.x0 v.x1 v.nx && (has_room v.y0 v.y1 v.ny && has_room v.z0 v.z1 v.nz)

-- a mesh has at most 16777216 cells
abbrev pub cells_are_few : Window → Bool
cells_are_few v = nat_le (v.nx * (v.ny * v.nz)) 16777216

-- the test of whether a mesh may be made
abbrev pub fits_mesh : Window → Bool
fits_mesh v = cells_have_room v && cells_are_few v

-- the cells of a plane grid have that room along x and along y
abbrev pub plane_cells_have_room : Window → Bool
plane_cells_have_room v = has_room v.x0 v.x1 v.nx && has_room v.y0 v.y1 v.ny
