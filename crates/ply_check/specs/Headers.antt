-- What the header of a file is.
use Rattle.std.specs.Prelude.{◌≡◌, ℕ, ◌<◌, Bool, true, false, not, List, [], ◌∷◌, ◌++◌, map, filter, replicate}
use Rattle.ply_check.specs.declared.header_line.HeaderLine.{HeaderLine}
use Rattle.ply_check.specs.declared.header_line.HeaderLine.TheVariants.{Format, Vertices, Property, Faces, FaceList, Comment, End}
use Rattle.ply_check.specs.HeaderLines.{header_line, is_ply}

-- a line that says nothing
abbrev pub is_comment : HeaderLine → Bool
is_comment Comment = true
is_comment says = false

-- what lines of a header say, but for those that say nothing
abbrev pub said : List (ℕ × List (List ℕ)) → List HeaderLine
said lines = filter (λ says. not (is_comment says)) (map (λ line. header_line line.1) lines)

-- what a whole header says behind its first line: the format, how many vertices there are, a line
-- for each property of a vertex, how many faces there are, that a face is a list, and the end
abbrev pub header_of : ℕ → ℕ → ℕ → List HeaderLine
header_of vertices width faces =
    Format ∷ Vertices vertices
    ∷ (replicate width Property ++ Faces faces ∷ FaceList ∷ End ∷ [])

-- Lines are a header behind its first line: the last of them is its end, a vertex has some
-- properties, and what the lines say is a whole header.
pub record IsHeader (lines : List (ℕ × List (List ℕ))) (vertices width faces : ℕ) : Type 0 where
  pub front : List (ℕ × List (List ℕ))
  pub last : ℕ × List (List ℕ)
  pub parts : lines ≡ front ++ last ∷ []
  pub ends : header_line last.1 ≡ End
  pub some : 0 < width
  pub says : said lines ≡ header_of vertices width faces

-- what these lines say is what some header begins with, and this is what is left of it
pub record Begins (lines : List (ℕ × List (List ℕ))) (left : List HeaderLine) : Type 0 where
  pub vertices : ℕ
  pub width : ℕ
  pub faces : ℕ
  pub some : 0 < width
  pub says : said lines ++ left ≡ header_of vertices width faces

-- a line `ply` and a header
pub record Opens (lines : List (ℕ × List (List ℕ))) (vertices width faces : ℕ) : Type 0 where
  pub first : ℕ × List (List ℕ)
  pub header : List (ℕ × List (List ℕ))
  pub parts : lines ≡ first ∷ header
  pub begins : is_ply first.1 ≡ true
  pub says : IsHeader header vertices width faces
