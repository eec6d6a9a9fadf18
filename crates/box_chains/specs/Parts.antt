-- Parts of a box.
use Rattle.std.specs.Prelude.{ℕ, ◌-◌, ◌<◌, ◌≤◌}
use Rattle.view_places.specs.Boxes.{Indices}

-- a part of a side, which is shorter where the side is longer than a leaf's
pub record IsPartAlong (leaf low high from to : ℕ) : Type 0 where
  pub above : low ≤ from
  pub some : from < to
  pub below : to ≤ high
  pub shorter : leaf < high - low → to - from < high - low

-- a part of a box along each axis
pub record IsPart (leaf : ℕ) (b part : Indices) : Type 0 where
  pub x : IsPartAlong leaf b.x0 b.x1 part.x0 part.x1
  pub y : IsPartAlong leaf b.y0 b.y1 part.y0 part.y1
  pub z : IsPartAlong leaf b.z0 b.z1 part.z0 part.z1
