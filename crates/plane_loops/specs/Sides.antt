-- On which side of a segment the inside points lie.
use Rattle.std.specs.Prelude.{◌+◌, ◌*◌, ℤ, pos, ◌-ℤ◌, ◌*ℤ◌, ◌<ℤ◌, Contains, if◌then◌else◌}
use Rattle.kuhn_cells.specs.Corners.{along_x, along_y}
use Rattle.plane_loops.specs.Planes.{IsBordered, PlaneEdge, PlaneGrid, PlanePoint, is_inside_at, lower, share, upper}
use Rattle.plane_loops.specs.Segments.{Segment, segments}

-- a place in the plane
pub record PlanePlace : Type 0 where
  pub x : ℤ
  pub y : ℤ

-- The place of a vertex on the lattice that has 65536 steps to a cell along each axis: the lower end
-- of its edge, and from there its share along each axis of the edge's direction.
abbrev pub lattice_place : PlaneGrid → PlaneEdge → PlanePlace
lattice_place g e =
    record {
      x = pos (65536 * e.x + share g e * along_x e.dir);
      y = pos (65536 * e.y + share g e * along_y e.dir);
    }

-- the place of a grid point on that lattice
abbrev pub point_place : PlanePoint → PlanePlace
point_place p = record { x = pos (65536 * p.x); y = pos (65536 * p.y) }

-- the determinant of the ways from a place to two others: it is above 0 where the second of them
-- lies on the left of the way to the first
abbrev pub determinant_at : PlanePlace → PlanePlace → PlanePlace → ℤ
determinant_at p q r =
    ((q.x -ℤ p.x) *ℤ (r.y -ℤ p.y)) -ℤ ((q.y -ℤ p.y) *ℤ (r.x -ℤ p.x))

-- the inside end of an edge that has exactly one
abbrev pub inner_end : PlaneGrid → PlaneEdge → PlanePoint
inner_end g e = if is_inside_at g (lower e) then lower e else upper e

-- the inside end of an edge lies on the left of a segment
abbrev pub IsLeft : PlaneGrid → Segment → PlaneEdge → Type 0
IsLeft g s e =
    pos 0 <ℤ determinant_at (lattice_place g s.from) (lattice_place g s.to) (point_place (inner_end g e))

-- the inside ends of both edges between which a segment runs lie on its left
pub record HasInsideLeft (g : PlaneGrid) (s : Segment) : Type 0 where
  pub at_from : IsLeft g s s.from
  pub at_to : IsLeft g s s.to

abbrev pub InsideIsLeft : Type 0
InsideIsLeft =
    (g : PlaneGrid) → IsBordered g → (s : Segment) → Contains (segments g) s → HasInsideLeft g s
