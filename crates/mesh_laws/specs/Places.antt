-- Where the vertices of a mesh lie.
use Rattle.std.specs.Prelude.{◌≡◌, ℕ, ◌+◌, ◌-◌, ◌*◌, ◌==◌, ◌<◌, ℤ, pos, ◌+ℤ◌, ◌-ℤ◌, ◌*ℤ◌, ◌≤ℤ◌, List, [], ◌∷◌, ◌++◌, get_or, length, All, if◌then◌else◌}
use Rattle.fixed_ops.specs.Cut.{cut_of}
use Rattle.fixed_ops.specs.NumberTexts.{number_text}
use Rattle.fixed_ops.specs.Raw.{IsRaw, floor_div, is_inside}
use Rattle.kuhn_cells.specs.declared.edge_key.EdgeKey.{EdgeKey}
use Rattle.kuhn_cells.specs.Corners.{along_x, along_y, along_z}
use Rattle.kuhn_cells.specs.Grids.{Grid, is_inside_at, lower, upper, value_at}
use Rattle.kuhn_cells.specs.Triangles.{GridPoint}
use Rattle.kuhn_cells.specs.Vectors.{Vector}

-- How far from the lower point of an edge the surface cuts it, in parts of 65536 of the edge, by
-- the values of the lower and of the upper point, of which one is inside. The cut is told from the
-- inside end on.
abbrev pub way_up : ℤ → ℤ → ℕ
way_up low high = if is_inside low then cut_of low high else 65536 - cut_of high low

-- the same, between two points of a grid
abbrev pub share_between : Grid → GridPoint → GridPoint → ℕ
share_between g low high = way_up (value_at g low) (value_at g high)

-- the same, of an edge that has exactly one inside end
abbrev pub share : Grid → EdgeKey → ℕ
share g e = share_between g (lower e) (upper e)

-- The place of a vertex on the lattice that has 65536 steps to a cell along each axis: the lower
-- end of its edge, and from there the share along each axis of the edge's direction.
abbrev pub lattice_place : Grid → EdgeKey → Vector
lattice_place g e =
    record {
      x = pos (65536 * e.x + share g e * along_x e.dir);
      y = pos (65536 * e.y + share g e * along_y e.dir);
      z = pos (65536 * e.z + share g e * along_z e.dir);
    }

-- the place of a grid point on that lattice
abbrev pub point_place : GridPoint → Vector
point_place p = record { x = pos (65536 * p.x); y = pos (65536 * p.y); z = pos (65536 * p.z) }

-- the inside one of two points of which exactly one is inside, and that of an edge
abbrev pub inner_of : Grid → GridPoint → GridPoint → GridPoint
inner_of g p q = if is_inside_at g p then p else q

abbrev pub inner_end : Grid → EdgeKey → GridPoint
inner_end g e = inner_of g (lower e) (upper e)

-- Where a vertex lies between the raw places of the lower and of the upper end of its edge along an
-- axis that the edge runs along, by the share of the way: rounded down.
abbrev pub place_between : ℤ → ℤ → ℕ → ℤ
place_between p q t = p +ℤ floor_div ((q -ℤ p) *ℤ pos t) 65536

-- the raw place of a vertex along an axis: index and steps are those of its edge's lower end and of
-- its direction
abbrev pub raw_along : List ℤ → ℕ → ℕ → ℕ → ℤ
raw_along places index steps t =
    let at = λ (k : ℕ). get_or places k (pos 0) in
    if steps == 1 then place_between (at index) (at (index + 1)) t else at index

-- the raw places of the points of a grid along each axis
pub record RawPlaces : Type 0 where
  pub along_x : List ℤ
  pub along_y : List ℤ
  pub along_z : List ℤ

-- the raw place of a vertex
abbrev pub raw_place : RawPlaces → Grid → EdgeKey → Vector
raw_place places g e =
    record {
      x = raw_along places.along_x e.x (along_x e.dir) (share g e);
      y = raw_along places.along_y e.y (along_y e.dir) (share g e);
      z = raw_along places.along_z e.z (along_z e.dir) (share g e);
    }

-- the line of a vertex at a raw place: its number texts, with spaces between them, and a line feed
abbrev pub place_line : Vector → List ℕ
place_line v = number_text v.x ++ 32 ∷ (number_text v.y ++ 32 ∷ (number_text v.z ++ 10 ∷ []))

-- raw numbers along an axis of so many cells, each at least 65536 above the one before
pub record AreApart (count : ℕ) (places : List ℤ) : Type 0 where
  pub points : length places ≡ count + 1
  pub raw : All IsRaw places
  pub rise : (k : ℕ) → k < count
      → (get_or places k (pos 0) +ℤ pos 65536) ≤ℤ get_or places (k + 1) (pos 0)

pub record AreAllApart (g : Grid) (places : RawPlaces) : Type 0 where
  pub x : AreApart g.x places.along_x
  pub y : AreApart g.y places.along_y
  pub z : AreApart g.z places.along_z
