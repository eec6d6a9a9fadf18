-- Boxes of samples, and their halves.
use Rattle.std.specs.Prelude.{ℕ, ◌-◌, ◌/◌, ◌<◌, Bool, ◌&&◌, nat_lt, nat_le, List, [], ◌∷◌, if◌then◌else◌}
use Rattle.std.specs.List.{flat_map}

-- the indices of a box along each axis, the lower end included and the upper not
pub record Indices : Type 0 where
  pub x0 : ℕ
  pub x1 : ℕ
  pub y0 : ℕ
  pub y1 : ℕ
  pub z0 : ℕ
  pub z1 : ℕ

-- each side has an index
pub record IsBox (b : Indices) : Type 0 where
  pub x : b.x0 < b.x1
  pub y : b.y0 < b.y1
  pub z : b.z0 < b.z1

-- the box of the one index 0 on each axis
abbrev pub one_sample : Indices
one_sample = record { x0 = 0; x1 = 1; y0 = 0; y1 = 1; z0 = 0; z1 = 1 }

-- where the upper half of a side begins: the lower half has the odd index
abbrev pub middle : ℕ → ℕ → ℕ
middle low high = high - (high - low) / 2

-- the halves along an axis of a side that is longer than a leaf's, the lower one first, or the box itself
abbrev pub halves_x : ℕ → Indices → List Indices
halves_x leaf b =
    if nat_lt leaf (b.x1 - b.x0)
    then record b { x1 = middle b.x0 b.x1 } ∷ record b { x0 = middle b.x0 b.x1 } ∷ []
    else b ∷ []

abbrev pub halves_y : ℕ → Indices → List Indices
halves_y leaf b =
    if nat_lt leaf (b.y1 - b.y0)
    then record b { y1 = middle b.y0 b.y1 } ∷ record b { y0 = middle b.y0 b.y1 } ∷ []
    else b ∷ []

abbrev pub halves_z : ℕ → Indices → List Indices
halves_z leaf b =
    if nat_lt leaf (b.z1 - b.z0)
    then record b { z1 = middle b.z0 b.z1 } ∷ record b { z0 = middle b.z0 b.z1 } ∷ []
    else b ∷ []

-- The halves of a box by z, then by y, then by x: each side that is longer than a leaf's is halved. It is the
-- box alone where no side is.
abbrev pub halves_of : ℕ → Indices → List Indices
halves_of leaf b = flat_map (halves_x leaf) (flat_map (halves_y leaf) (halves_z leaf b))

-- a sample lies in a box
abbrev pub has_sample : ℕ → ℕ → ℕ → Indices → Bool
has_sample i j k b = nat_le b.x0 i
    && (nat_lt i b.x1 && (nat_le b.y0 j && (nat_lt j b.y1 && (nat_le b.z0 k && nat_lt k b.z1))))
