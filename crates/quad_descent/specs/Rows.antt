-- Rows of the image that something has, where one stands.
use Rattle.std.specs.Prelude.{◌≡◌, ℕ, ◌+◌, ◌/◌, ◌%◌, ◌≤◌, List, [], Option, Some, None}
use Rattle.quad_descent.specs.Pixels.{rows_from}
use Rattle.quad_descent.specs.Raster.{Drawing}
use Rattle.view_places.specs.Window.{Window}

-- an image over this view stands
abbrev pub IsOver : Option Drawing → Window → Type 0
IsOver None view = ⊥
IsOver (Some image) view = image.view ≡ view

-- an image stands, of which so many bytes are whole rows, from one on
abbrev pub AreRows : Option Drawing → ℕ → ℕ → Type 0
AreRows None row len = ⊥
AreRows (Some image) row len =
    (len % image.view.w ≡ 0) × (row + len / image.view.w ≤ image.view.h)

-- so many bytes of whole rows of it, from one on
abbrev pub rows_at : Option Drawing → ℕ → ℕ → List ℕ
rows_at None row len = []
rows_at (Some image) row len = rows_from image.view image.list row (len / image.view.w)
