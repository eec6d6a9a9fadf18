-- An image with one byte a pixel.
use Rattle.std.specs.Prelude.{ℕ, List}

-- the pixels of a row, the rows, and the bytes of the pixels, row by row from the top on
pub record Image : Type 0 where
  pub w : ℕ
  pub h : ℕ
  pub pixels : List ℕ
