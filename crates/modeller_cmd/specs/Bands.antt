-- Room for the rows of an image that are written together.
use Rattle.std.specs.Prelude.{ℕ, ◌+◌, ◌*◌, ◌/◌, ◌≤◌, min, List, length}
use Rattle.view_places.specs.Window.{Window}
use Rattle.modeller_cmd.specs.declared.image.TheConstants.{BAND_BYTES, BAND_ROWS, FRONT}

-- The most rows of an image that are written together: sixteen, and no more than as many bytes hold, nor
-- than there are.
abbrev pub most_rows : Window → ℕ
most_rows view = min (min BAND_ROWS (BAND_BYTES / view.w)) view.h

-- a buffer has room for a line, a header and such rows behind them
abbrev pub HasRoom : Window → List ℕ → Type 0
HasRoom view buffer = FRONT + most_rows view * view.w ≤ length buffer
