-- The bytes of what is drawn.
use Rattle.std.specs.Prelude.{ℕ, List, Some}
use Rattle.grid_text.specs.Texts.{text_of}
use Rattle.model_frames.specs.Images.{drawn_text}
use Rattle.model_frames.specs.declared.drawn.Drawn.{Drawn}
use Rattle.model_frames.specs.declared.drawn.Drawn.TheVariants.{Bytes, Image, Mesh, Pixels}
use Rattle.raster_pgm.specs.Pgm.{pgm_of}

-- the bytes: those of an image, of a picture whose pixels are there or of the mesh of a grid, or those
-- that are there
abbrev pub drawn_bytes : Drawn → List ℕ
drawn_bytes (Image picture) = drawn_text (Some picture)
drawn_bytes (Pixels view pixels) = pgm_of view.w view.h pixels.items
drawn_bytes (Mesh grid) = text_of grid.view grid.list
drawn_bytes (Bytes bytes) = bytes.items
