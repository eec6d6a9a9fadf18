-- Rows of pixels that are painted box by box.
use Rattle.std.specs.Prelude.{◌≡◌, ℕ, ◌+◌, ◌*◌, ◌/◌, ◌%◌, ◌^◌, ◌<◌, ◌≤◌, ◌==◌, nat_le, nat_lt, Bool, ◌&&◌, List, length, slice_index_or, if◌then◌else◌}
use Rattle.live_clauses.specs.declared.step.Step.{Step}
use Rattle.view_places.specs.Boxes.{Indices, has_sample}
use Rattle.view_places.specs.Window.{Window}
use Rattle.quad_descent.specs.Pixels.{pixel_at}
use Rattle.quad_descent.specs.declared.band.Band.{Band}

-- some whole rows of an image, with so many bytes
pub record IsBand (view : Window) (band : Band) (len : ℕ) : Type 0 where
  pub whole : len ≡ band.rows * view.w
  pub within : band.row + band.rows ≤ view.h
  pub few : band.row + band.rows ≤ 4096

-- some sample of a box lies in a band
abbrev pub meets : Band → Indices → Bool
meets band b = nat_lt band.row b.y1 && nat_lt b.y0 (band.row + band.rows)

-- the bytes at some places become those that they are to be, and the others stay
pub record Paints (covers : ℕ → Bool) (byte : ℕ → ℕ) (before after : List ℕ) : Type 0 where
  pub same : length after ≡ length before
  pub each : (p : ℕ) → p < length before
      → slice_index_or after p 0 ≡ (if covers p then byte p else slice_index_or before p 0)

-- whether the byte at a place of a band is that of a sample of a box
abbrev pub covers : ℕ → ℕ → Indices → ℕ → Bool
covers w row b p = has_sample (p % w) (row + p / w) 0 b

-- what the byte at a place of a band is to be
abbrev pub byte_at : Window → List Step → ℕ → ℕ → ℕ
byte_at view list row p = pixel_at view list (p % view.w) (row + p / view.w)

-- the byte of a pixel that a binary digit of a number tells, where digits are counted from the lowest on
abbrev pub digit_byte : ℕ → ℕ → ℕ
digit_byte bits digit = if bits / 2 ^ digit % 2 == 1 then 255 else 0

-- the places from low on up to high
abbrev pub among : ℕ → ℕ → ℕ → Bool
among low high p = nat_le low p && nat_lt p high
