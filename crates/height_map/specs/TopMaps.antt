-- A height map.
use Rattle.std.specs.Prelude.{ℕ, List}

-- the columns of a row, the rows, the samples of a column, and the tops, row by row from the top of
-- the map on
pub record Heights : Type 0 where
  pub w : ℕ
  pub h : ℕ
  pub d : ℕ
  pub tops : List ℕ
