-- Netpbm PGM images in the P5 form, with 255 as the greatest pixel.
use Rattle.std.specs.Prelude.{ℕ, List, ◌++◌, codes, decimal}

-- what stands before the pixels: the form, the width, the height and the greatest pixel
abbrev pub pgm_header_of : ℕ → ℕ → List ℕ
pgm_header_of w h = codes "P5\n" ++ decimal w ++ codes " " ++ decimal h ++ codes "\n255\n"

-- the whole image: the header, then one byte a pixel, row by row from the top on
abbrev pub pgm_of : ℕ → ℕ → List ℕ → List ℕ
pgm_of w h pixels = pgm_header_of w h ++ pixels
