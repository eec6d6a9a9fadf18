-- Images and samples with their bytes, written out by hand.
use Rattle.std.proofs.Common.{◌≡◌, [], ◌∷◌, refl}
use Rattle.std.specs.Fmt.{digits}
use Rattle.raster_pgm.specs.Pgm.{pgm_of}
use Rattle.raster_pgm.specs.Samples.{samples_of, two_bytes}

-- P5, a line feed, 1, a space, 2, a line feed, 255, a line feed, and the two pixels, the upper one first
column_of_two_pixels : pgm_of 1 2 (7 ∷ 200 ∷ []) ≡ 80 ∷ 53 ∷ 10 ∷ 49 ∷ 32 ∷ 50 ∷ 10 ∷ 50 ∷ 53 ∷ 53 ∷ 10 ∷ 7 ∷ 200 ∷ []
unfolding digits
column_of_two_pixels = refl

-- samples up to 255 have one byte each
samples_up_to_255 : samples_of 1 2 255 (7 ∷ 200 ∷ []) ≡ 80 ∷ 53 ∷ 10 ∷ 49 ∷ 32 ∷ 50 ∷ 10 ∷ 50 ∷ 53 ∷ 53 ∷ 10 ∷ 7 ∷ 200 ∷ []
unfolding digits
samples_up_to_255 = refl

-- and those up to 256 have two: the number of whole times 256, and what is left over
samples_up_to_256 : samples_of 1 2 256 (7 ∷ 256 ∷ []) ≡ 80 ∷ 53 ∷ 10 ∷ 49 ∷ 32 ∷ 50 ∷ 10 ∷ 50 ∷ 53 ∷ 54 ∷ 10 ∷ 0 ∷ 7 ∷ 1 ∷ 0 ∷ []
unfolding digits
samples_up_to_256 = refl

-- 300 is 256 and 44, and the greatest sample is 255 times 256 and 255
two_bytes_of_samples : two_bytes 300 ∷ two_bytes 65535 ∷ [] ≡ (1 ∷ 44 ∷ []) ∷ (255 ∷ 255 ∷ []) ∷ []
two_bytes_of_samples = refl
