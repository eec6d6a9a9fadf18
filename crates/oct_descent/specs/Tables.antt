-- Values of some points of a grid, and how they become more.
use Rattle.std.specs.Prelude.{◌≡◌, ℕ, zero, suc, ◌+◌, ◌*◌, ◌/◌, ◌%◌, ◌≤◌, ◌==◌, nat_le, ℤ, pos, Bool, true, false, ◌&&◌, List, length, get_or, Option, Some, None, ◌⊎◌, if◌then◌else◌}
use Rattle.box_chains.specs.Chains.{Visit}
use Rattle.box_chains.specs.Sums.{LiesIn, Sample}
use Rattle.fixed_ops.specs.Raw.{is_inside}
use Rattle.kuhn_cells.specs.Triangles.{GridPoint}
use Rattle.kuhn_cells.specs.Sizes.{SameSize}
use Rattle.kuhn_cells.specs.declared.grid_size.GridSize.{GridSize}
use Rattle.view_places.specs.Boxes.{Indices}
use Rattle.oct_descent.specs.Ways.{CellDescent, Covers, is_working, way_end}

-- the values that are known of some points: a mark and a value for each place, where a value counts
-- where its mark is true
pub record Marks : Type 0 where
  pub known : List Bool
  pub values : List ℤ

-- the value at a place, where it is known
abbrev pub read : Marks → ℕ → Option ℤ
read b place = if get_or b.known place false then Some (get_or b.values place (pos 0)) else None

-- The values that are known of the points of a grid, in bricks of eight points along each axis. Of each
-- brick, by z, then by y, then by x, stands as which one it is kept, from 1 on, and 0 where it is not.
pub record PointValues : Type 0 where
  pub n : GridSize
  pub places : List ℕ
  pub kept : Marks

-- So many marks and values are those of whole bricks, and each brick that is kept has a place of
-- its own among them.
pub record AreKept (places : List ℕ) (marks values : ℕ) : Type 0 where
  pub whole : marks % 512 ≡ 0
  pub enough : marks ≤ values
  pub within : (k : ℕ) → get_or places k 0 * 512 ≤ marks
  pub apart : (j k : ℕ) → get_or places j 0 ≡ get_or places k 0
      → (j ≡ k) ⊎ (get_or places j 0 ≡ 0)

abbrev pub is_known : Option ℤ → Bool
is_known None = false
is_known (Some v) = true

-- a point is one of a grid
abbrev pub is_within : GridSize → GridPoint → Bool
is_within n p = nat_le p.x n.x && (nat_le p.y n.y && nat_le p.z n.z)

-- the brick of a point
abbrev pub brick_of : GridSize → GridPoint → ℕ
brick_of n p = (p.z / 8 * (n.y / 8 + 1) + p.y / 8) * (n.x / 8 + 1) + p.x / 8

-- where the value of a point stands in its brick
abbrev pub slot : GridPoint → ℕ
slot p = (p.z % 8 * 8 + p.y % 8) * 8 + p.x % 8

-- where the value of a point stands in a brick that is kept, by which one that is
abbrev pub stand_in : ℕ → ℕ → Option ℕ
stand_in zero at = None
stand_in (suc place) at = Some (place * 512 + at)

-- where the value of a point stands, if its brick is kept
unfoldable pub stand : PointValues → GridPoint → Option ℕ
stand t p = stand_in (get_or t.places (brick_of t.n p) 0) (slot p)

-- the value that stands somewhere, where it is known
abbrev pub read_at : Marks → Option ℕ → Option ℤ
read_at kept None = None
read_at kept (Some at) = read kept at

-- the value of a point, where it is known
unfoldable pub known_at : PointValues → GridPoint → Option ℤ
known_at t p = if is_within t.n p then read_at t.kept (stand t p) else None

abbrev pub same_point : GridPoint → GridPoint → Bool
same_point p q = p.x == q.x && (p.y == q.y && p.z == q.z)

-- the same values are known
pub record IsSame (before after : PointValues) : Type 0 where
  pub n : SameSize after.n before.n
  pub each : (q : GridPoint) → known_at after q ≡ known_at before q

-- what stands somewhere stays there
pub record KeepsPlaces (before after : PointValues) : Type 0 where
  pub n : SameSize after.n before.n
  pub more : length before.kept.known ≤ length after.kept.known
  pub each : (q : GridPoint) (at : ℕ) → stand before q ≡ Some at → stand after q ≡ Some at

-- all corners of a box of cells are inside, or all of them are outside
pub record IsUniform (g : GridPoint → ℤ) (b : Indices) : Type 0 where
  pub inside : Bool
  pub each : (p : GridPoint) → Covers b p → is_inside (g p) ≡ inside

-- each corner of a working cell of a box takes no less than the length of the list that the cell receives
abbrev pub IsEnough : (GridPoint → ℕ) → CellDescent → Visit → Type 0
IsEnough f d v = (s : Sample) → LiesIn v.box s → is_working d v s ≡ true → (p : GridPoint)
    → Covers (d.cell s) p → length (way_end d v s).list ≤ f p

-- each corner of a working cell of a box takes no more than the length of the list that the cell receives
abbrev pub IsDue : (GridPoint → ℕ) → CellDescent → Visit → Type 0
IsDue f d v = (s : Sample) → LiesIn v.box s → is_working d v s ≡ true → (p : GridPoint)
    → Covers (d.cell s) p → f p ≤ length (way_end d v s).list
