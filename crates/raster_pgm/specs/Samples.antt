-- Netpbm PGM in the P5 form, with any greatest sample.
use Rattle.std.specs.Prelude.{ℕ, ◌/◌, ◌%◌, nat_lt, List, [], ◌∷◌, ◌++◌, codes, decimal, if◌then◌else◌}
use Rattle.std.specs.List.{flat_map}

-- what stands before the samples: the form, the width, the height and the greatest sample
abbrev pub samples_header_of : ℕ → ℕ → ℕ → List ℕ
samples_header_of w h d =
    codes "P5\n" ++ decimal w ++ codes " " ++ decimal h ++ codes "\n" ++ decimal d ++ codes "\n"

-- a sample in one byte, and in two, the most significant first
abbrev pub one_byte : ℕ → List ℕ
one_byte sample = sample ∷ []

abbrev pub two_bytes : ℕ → List ℕ
two_bytes sample = sample / 256 ∷ sample % 256 ∷ []

-- the bytes of a sample, where none is above d
abbrev pub sample_bytes : ℕ → ℕ → List ℕ
sample_bytes d sample = if nat_lt d 256 then one_byte sample else two_bytes sample

-- the whole: the header, then the bytes of each sample, row by row from the top on
abbrev pub samples_of : ℕ → ℕ → ℕ → List ℕ → List ℕ
samples_of w h d samples = samples_header_of w h d ++ flat_map (sample_bytes d) samples
