-- Values that are taken over from those of another grid of the same points.
use Rattle.std.specs.Prelude.{◌≡◌, ℕ, ◌<◌, ◌≤◌, ℤ, true, Option, Some, None, ◌⊎◌, if◌then◌else◌}
use Rattle.kuhn_cells.specs.Sizes.{SameSize}
use Rattle.kuhn_cells.specs.Triangles.{GridPoint}
use Rattle.view_places.specs.Boxes.{Indices}
use Rattle.oct_descent.specs.Tables.{PointValues, is_known, known_at, same_point}
use Rattle.oct_descent.specs.Ways.{Covers}

-- a point that was not known gets the value that it has elsewhere
pub record IsTaken (among : GridPoint → Type 0) (old before after : PointValues) (p : GridPoint)
    : Type 0 where
  pub unknown : known_at before p ≡ None
  pub one : among p
  pub value : known_at after p ≡ known_at old p

-- some of certain points that were not known get the values that they have elsewhere, and all else stays
pub record TakesSome (among : GridPoint → Type 0) (old before after : PointValues) : Type 0 where
  pub n : SameSize after.n before.n
  pub each : (p : GridPoint)
      → (known_at after p ≡ known_at before p) ⊎ IsTaken among old before after p

-- and all of them are known then that are known there
pub record TakesAll (among : GridPoint → Type 0) (old before after : PointValues) : Type 0 where
  pub some : TakesSome among old before after
  pub all : (p : GridPoint) → among p → is_known (known_at old p) ≡ true
      → is_known (known_at after p) ≡ true

-- The values of those points that a box covers are taken over which are known elsewhere: each of them
-- that was not known gets its value from there, and all else stays.
abbrev pub TakesOver : Indices → PointValues → PointValues → PointValues → Type 0
TakesOver b old before after = TakesAll (Covers b) old before after

-- the same of some of those points
abbrev pub TakesPart : Indices → PointValues → PointValues → PointValues → Type 0
TakesPart b old before after = TakesSome (Covers b) old before after

-- the points of a layer that lie between the sides of a box
pub record IsInLayer (b : Indices) (z : ℕ) (p : GridPoint) : Type 0 where
  pub x : (b.x0 ≤ p.x) × (p.x ≤ b.x1)
  pub y : (b.y0 ≤ p.y) × (p.y ≤ b.y1)
  pub layer : p.z ≡ z

-- the points along x from one on, up to another
pub record IsInRow (first end y z : ℕ) (p : GridPoint) : Type 0 where
  pub above : first ≤ p.x
  pub below : p.x < end
  pub row : p.y ≡ y
  pub layer : p.z ≡ z

-- what is known, or else another value
abbrev pub known_or : Option ℤ → Option ℤ → Option ℤ
known_or (Some v) other = Some v
known_or None other = other

-- one point gets a value, where it is not known and there is one
pub record TakesValue (p : GridPoint) (v : Option ℤ) (before after : PointValues) : Type 0 where
  pub n : SameSize after.n before.n
  pub each : (q : GridPoint)
      → known_at after q ≡ (if same_point p q then known_or (known_at before q) v else known_at before q)
