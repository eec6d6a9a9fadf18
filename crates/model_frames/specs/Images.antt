-- The image of a solid over a view: 255 inside and 0 outside, row by row from the top.
use Rattle.std.specs.Prelude.{ℕ, ◌*◌, List, [], Option, Some, None, map, if◌then◌else◌}
use Rattle.std.specs.List.{flat_map, range_with_len}
use Rattle.fixed_ops.specs.Raw.{is_inside}
use Rattle.live_clauses.specs.declared.step.Step.{Step}
use Rattle.quad_descent.specs.Pixels.{pixels_of}
use Rattle.quad_descent.specs.Raster.{Drawing}
use Rattle.raster_pgm.specs.Pgm.{pgm_of}
use Rattle.solid_model.specs.Values.{solid_value}
use Rattle.solid_model.specs.declared.clause.Clause.{Clause}
use Rattle.view_places.specs.Places.{raster_point}
use Rattle.view_places.specs.Window.{Window, same_view}

-- the byte of the pixel in column i, counted from the left, and row j, counted from the top
abbrev pub pixel_at : Window → List Clause → ℕ → ℕ → ℕ
pixel_at view clauses i j =
    if is_inside (solid_value (raster_point view i j) clauses) then 255 else 0

-- the bytes of row j
abbrev pub row_at : Window → List Clause → ℕ → List ℕ
row_at view clauses j = map (λ i. pixel_at view clauses i j) (range_with_len 0 view.w)

-- the bytes of the rows, from the top on
abbrev pub solid_pixels : Window → List Clause → List ℕ
solid_pixels view clauses = flat_map (row_at view clauses) (range_with_len 0 view.h)

-- the whole image, as PGM text
abbrev pub image_of : Window → List Clause → List ℕ
image_of view clauses = pgm_of view.w view.h (solid_pixels view clauses)

-- the whole image that is drawn of a list, where one stands, as PGM text
abbrev pub drawn_text : Option Drawing → List ℕ
drawn_text None = []
drawn_text (Some image) =
    pgm_of image.view.w image.view.h (pixels_of image.view image.list)

-- how many evaluations evaluating each of so many clauses once at each sample takes
abbrev pub plain_points : Window → ℕ → ℕ
plain_points view clauses = view.w * view.h * clauses

-- the list of the image before, where there was one of this very view
abbrev pub list_before : Option Drawing → Window → Option (List Step)
list_before None view = None
list_before (Some drawing) view = if same_view drawing.view view then Some drawing.list else None
