-- How long the counts of a header are, and how the header of an image is that of samples up to 255.
use Rattle.std.proofs.Common.{◌≡◌, ℕ, ◌≤◌, List, [], ◌∷◌, ◌++◌, length, refl, ap, ◌∙◌, append_assoc, arith}
use Rattle.std.specs.Prelude.{codes, decimal}
use Rattle.std.specs.Fmt.{digits}
use Rattle.std.proofs.lemmas.Fmt.{length-decimal-le}
use Rattle.raster_pgm.specs.Pgm.{pgm_header_of}
use Rattle.raster_pgm.specs.Samples.{samples_header_of}

-- a count up to 4096 has at most four digits
pub count_short : (n : ℕ) → n ≤ 4096 → length (decimal n) ≤ 4
count_short n few = length-decimal-le 4 n (omega arith) (omega (arith, few)) (omega (arith, few))

-- the greatest pixel
greatest : decimal 255 ≡ 50 ∷ 53 ∷ 53 ∷ []
unfolding digits
greatest = refl

-- pixels are samples up to 255
pub image_head : (w h : ℕ) → samples_header_of w h 255 ≡ pgm_header_of w h
image_head w h =
    ap (λ most. front ++ codes "\n" ++ most ++ codes "\n") greatest
    ∙ append_assoc (front ++ codes "\n") (50 ∷ 53 ∷ 53 ∷ []) (codes "\n")
    ∙ append_assoc front (codes "\n") (50 ∷ 53 ∷ 53 ∷ 10 ∷ [])
  where
    front : List ℕ
    front = codes "P5\n" ++ decimal w ++ codes " " ++ decimal h
