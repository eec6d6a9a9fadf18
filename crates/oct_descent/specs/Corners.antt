-- The corners of a cell.
use Rattle.std.specs.Prelude.{◌≡◌, ℕ, ◌+◌, ◌*◌, ◌/◌, ◌%◌, ◌<◌, ◌≤◌, ℤ, pos, Bool, true, false, not, ◌&&◌, ◌||◌, List, length, get_or, Option, Some, None, ◌⊎◌}
use Rattle.std.specs.List.{list_any}
use Rattle.fixed_ops.specs.Raw.{is_inside}
use Rattle.kuhn_cells.specs.Triangles.{GridPoint, further, point}
use Rattle.oct_descent.specs.Tables.{PointValues, is_known, known_at, read, stand}
use Rattle.oct_descent.specs.declared.seen.Seen.{Seen}

-- the values of the corners of a cell, by their masks
pub record AreCorners (t : PointValues) (p : GridPoint) (values : List ℤ) : Type 0 where
  pub all : length values ≡ 8
  pub each : (c : ℕ) → c < 8 → known_at t (further p c) ≡ Some (get_or values c (pos 0))

-- some corner of a cell is not known
pub record LacksCorner (t : PointValues) (p : GridPoint) : Type 0 where
  pub corner : ℕ
  pub few : corner < 8
  pub unknown : is_known (known_at t (further p corner)) ≡ false

-- the values of eight points along x stand there, from one on
pub record IsRow (t : PointValues) (p : GridPoint) (start : ℕ) : Type 0 where
  pub within : start + 7 < length t.kept.known
  pub each : (i : ℕ) → i < 8 → p.x + i ≤ t.n.x
      → read t.kept (start + i) ≡ known_at t (point (p.x + i) p.y p.z)

-- how far behind the value of the lowest corner of a cell that of a corner stands in their brick
abbrev pub places_to : ℕ → ℕ
places_to c = c / 4 % 2 * 64 + c / 2 % 2 * 8 + c % 2

-- the value of the lowest corner of a cell stands there, and those of the other corners in the same brick
pub record AreTogether (t : PointValues) (p : GridPoint) (first : ℕ) : Type 0 where
  pub within : first + 73 < length t.kept.known
  pub stands : (c : ℕ) → c < 8 → stand t (further p c) ≡ Some (first + places_to c)

-- the upper corners of a cell along some axis lie in the next brick
abbrev pub CrossesBricks : GridPoint → Type 0
CrossesBricks p = (p.x % 8 ≡ 7) ⊎ (p.y % 8 ≡ 7) ⊎ (p.z % 8 ≡ 7)

-- some corner of a cell is known, and is inside or not
pub record ShowsCorner (t : PointValues) (p : GridPoint) (inside : Bool) : Type 0 where
  pub corner : ℕ
  pub few : corner < 8
  pub value : ℤ
  pub known : known_at t (further p corner) ≡ Some value
  pub side : is_inside value ≡ inside

-- those of the first corners of a cell that are known are all inside, or all outside
abbrev pub AllShow : PointValues → GridPoint → ℕ → Bool → Type 0
AllShow t p count inside = (c : ℕ) (v : ℤ) → c < count
    → known_at t (further p c) ≡ Some v → is_inside v ≡ inside

-- What the known corners of a cell show: whether all are known, and whether some known one is
-- inside, and some outside.
pub record IsSeen (t : PointValues) (p : GridPoint) (seen : Seen) : Type 0 where
  pub all : seen.all ≡ true → (c : ℕ) → c < 8 → is_known (known_at t (further p c)) ≡ true
  pub lacks : seen.all ≡ false → LacksCorner t p
  pub inside : seen.inside ≡ true → ShowsCorner t p true
  pub none_inside : seen.inside ≡ false → AllShow t p 8 false
  pub outside : seen.outside ≡ true → ShowsCorner t p false
  pub none_outside : seen.outside ≡ false → AllShow t p 8 true

-- The known corners of a cell show how it lies: all corners are known, or some known one is inside
-- and some is outside.
abbrev pub IsShown : PointValues → GridPoint → Type 0
IsShown t p =
    ((c : ℕ) → c < 8 → is_known (known_at t (further p c)) ≡ true)
    ⊎ (ShowsCorner t p true × ShowsCorner t p false)

-- what is seen with one more corner
abbrev pub side_seen : Seen → Option ℤ → Seen
side_seen seen None = record { all = false; inside = seen.inside; outside = seen.outside }
side_seen seen (Some v) = record {
  all = seen.all;
  inside = seen.inside || is_inside v;
  outside = seen.outside || not (is_inside v);
}

-- some value is inside and some value is outside
abbrev pub are_mixed : List ℤ → Bool
are_mixed values = list_any is_inside values && list_any (λ v. not (is_inside v)) values
