-- The pixels of an image.
use Rattle.std.specs.Prelude.{ℕ, List, map, if◌then◌else◌}
use Rattle.std.specs.List.{flat_map, range_with_len}
use Rattle.fixed_ops.specs.Raw.{is_inside}
use Rattle.live_clauses.specs.Steps.{tape_value}
use Rattle.live_clauses.specs.declared.step.Step.{Step}
use Rattle.view_places.specs.Places.{raster_point}
use Rattle.view_places.specs.Window.{Window}

-- the byte of the pixel in column i, from the left on, and row j, from the top on: 255 where the
-- value of the whole list there is inside, and 0 elsewhere
abbrev pub pixel_at : Window → List Step → ℕ → ℕ → ℕ
pixel_at view list i j = if is_inside (tape_value (raster_point view i j) list) then 255 else 0

-- the bytes of row j
abbrev pub row_at : Window → List Step → ℕ → List ℕ
row_at view list j = map (λ i. pixel_at view list i j) (range_with_len 0 view.w)

-- the bytes of so many rows, from one on
abbrev pub rows_from : Window → List Step → ℕ → ℕ → List ℕ
rows_from view list row count = flat_map (row_at view list) (range_with_len row count)

-- the bytes of all rows
abbrev pub pixels_of : Window → List Step → List ℕ
pixels_of view list = rows_from view list 0 view.h
