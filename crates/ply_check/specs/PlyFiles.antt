-- What a file says, and on which line another is refused, and why.
use Rattle.std.specs.Prelude.{◌≡◌, ◌≢◌, ℕ, ◌<◌, ◌⊎◌, true, false, List, [], ◌∷◌, ◌++◌, length, map, All, Ok, Err}
use Rattle.clause_reader.specs.declared.comments.Comments.TheVariants.{Kept}
use Rattle.clause_reader.specs.NumberedLines.{given_lines}
use Rattle.ply_check.specs.declared.header_line.HeaderLine.{HeaderLine}
use Rattle.ply_check.specs.declared.ply_reason.PlyReason.{PlyReason}
use Rattle.ply_check.specs.declared.ply_reason.PlyReason.TheVariants.{NotPly, BadHeader, BadVertex, BadFace, BadIndex, TooShort, TooLong, NoMemory}
use Rattle.ply_check.specs.FaceLines.{said_face}
use Rattle.ply_check.specs.HeaderLines.{is_ply}
use Rattle.ply_check.specs.Headers.{Begins, Opens}

-- the lines of a file that have a token, each as its number among all lines and its tokens; `#`
-- begins a token like any other
abbrev pub ply_lines : List ℕ → List (ℕ × List (List ℕ))
ply_lines bytes = given_lines Kept bytes

-- the line has so many tokens
abbrev pub HasWidth : ℕ → ℕ × List (List ℕ) → Type 0
HasWidth width line = length line.1 ≡ width

-- lines say these faces of so many vertices, one each
abbrev pub SayFaces : ℕ → List (ℕ × List (List ℕ)) → List (List ℕ) → Type 0
SayFaces count lines faces = map (λ line. said_face count line.1) lines ≡ map Ok faces

-- Lines are a whole file: a line `ply` and a header, a line for each vertex, of as many tokens as
-- the header has properties, and a line for each face.
pub record IsFile (lines : List (ℕ × List (List ℕ))) (count : ℕ) (faces : List (List ℕ)) : Type 0 where
  pub opening : List (ℕ × List (List ℕ))
  pub points : List (ℕ × List (List ℕ))
  pub triangles : List (ℕ × List (List ℕ))
  pub width : ℕ
  pub parts : lines ≡ opening ++ (points ++ triangles)
  pub opens : Opens opening count width (length faces)
  pub as_many : length points ≡ count
  pub wide : All (HasWidth width) points
  pub says : SayFaces count triangles faces

-- the first line is another than `ply`
pub record BeginsOtherwise (lines : List (ℕ × List (List ℕ))) (line : ℕ) : Type 0 where
  pub tokens : List (List ℕ)
  pub after : List (ℕ × List (List ℕ))
  pub parts : lines ≡ (line, tokens) ∷ after
  pub other : is_ply tokens ≡ false

-- the lines behind `ply` up to this one are a part of some header, and with it they are the
-- beginning of none
pub record HasBadHeader (lines : List (ℕ × List (List ℕ))) (line : ℕ) : Type 0 where
  pub first : ℕ × List (List ℕ)
  pub before : List (ℕ × List (List ℕ))
  pub tokens : List (List ℕ)
  pub after : List (ℕ × List (List ℕ))
  pub parts : lines ≡ first ∷ (before ++ (line, tokens) ∷ after)
  pub begins : is_ply first.1 ≡ true
  pub left : List HeaderLine
  pub more : 0 < length left
  pub good : Begins before left
  pub bad : (left : List HeaderLine) → ¬ Begins (before ++ (line, tokens) ∷ []) left

-- the line stands where that of a vertex is to stand, and has another number of tokens
pub record HasBadVertex (lines : List (ℕ × List (List ℕ))) (line : ℕ) : Type 0 where
  pub opening : List (ℕ × List (List ℕ))
  pub before : List (ℕ × List (List ℕ))
  pub tokens : List (List ℕ)
  pub after : List (ℕ × List (List ℕ))
  pub count : ℕ
  pub width : ℕ
  pub faces : ℕ
  pub parts : lines ≡ opening ++ (before ++ (line, tokens) ∷ after)
  pub opens : Opens opening count width faces
  pub few : length before < count
  pub wide : All (HasWidth width) before
  pub bad : length tokens ≢ width

-- the line stands where that of a face is to stand, and says none for this reason
pub record HasBadFace (lines : List (ℕ × List (List ℕ))) (line : ℕ) (reason : PlyReason) : Type 0 where
  pub opening : List (ℕ × List (List ℕ))
  pub points : List (ℕ × List (List ℕ))
  pub before : List (ℕ × List (List ℕ))
  pub tokens : List (List ℕ)
  pub after : List (ℕ × List (List ℕ))
  pub count : ℕ
  pub width : ℕ
  pub faces : ℕ
  pub corners : List (List ℕ)
  pub parts : lines ≡ opening ++ (points ++ (before ++ (line, tokens) ∷ after))
  pub opens : Opens opening count width faces
  pub as_many : length points ≡ count
  pub wide : All (HasWidth width) points
  pub says : SayFaces count before corners
  pub few : length before < faces
  pub bad : said_face count tokens ≡ Err reason

-- the lines end within the header
pub record EndsInHeader (lines : List (ℕ × List (List ℕ))) : Type 0 where
  pub first : ℕ × List (List ℕ)
  pub header : List (ℕ × List (List ℕ))
  pub left : List HeaderLine
  pub parts : lines ≡ first ∷ header
  pub begins : is_ply first.1 ≡ true
  pub more : 0 < length left
  pub good : Begins header left

-- within the vertices
pub record EndsInVertices (lines : List (ℕ × List (List ℕ))) : Type 0 where
  pub opening : List (ℕ × List (List ℕ))
  pub points : List (ℕ × List (List ℕ))
  pub count : ℕ
  pub width : ℕ
  pub faces : ℕ
  pub parts : lines ≡ opening ++ points
  pub opens : Opens opening count width faces
  pub few : length points < count
  pub wide : All (HasWidth width) points

-- within the faces
pub record EndsInFaces (lines : List (ℕ × List (List ℕ))) : Type 0 where
  pub opening : List (ℕ × List (List ℕ))
  pub points : List (ℕ × List (List ℕ))
  pub triangles : List (ℕ × List (List ℕ))
  pub count : ℕ
  pub width : ℕ
  pub faces : ℕ
  pub corners : List (List ℕ)
  pub parts : lines ≡ opening ++ (points ++ triangles)
  pub opens : Opens opening count width faces
  pub as_many : length points ≡ count
  pub wide : All (HasWidth width) points
  pub says : SayFaces count triangles corners
  pub few : length triangles < faces

-- a line follows a whole file
pub record FollowsFile (lines : List (ℕ × List (List ℕ))) (line : ℕ) : Type 0 where
  pub whole : List (ℕ × List (List ℕ))
  pub tokens : List (List ℕ)
  pub after : List (ℕ × List (List ℕ))
  pub count : ℕ
  pub faces : List (List ℕ)
  pub parts : lines ≡ whole ++ (line, tokens) ∷ after
  pub good : IsFile whole count faces

-- lines are refused on the line of this number for this reason
abbrev pub Refuses : List (ℕ × List (List ℕ)) → ℕ → PlyReason → Type 0
Refuses lines line NotPly = ((lines ≡ []) × (line ≡ 0)) ⊎ BeginsOtherwise lines line
Refuses lines line BadHeader = HasBadHeader lines line
Refuses lines line BadVertex = HasBadVertex lines line
Refuses lines line BadFace = HasBadFace lines line BadFace
Refuses lines line BadIndex = HasBadFace lines line BadIndex
Refuses lines line TooShort =
    (line ≡ 0) × (EndsInHeader lines ⊎ (EndsInVertices lines ⊎ EndsInFaces lines))
Refuses lines line TooLong = FollowsFile lines line
Refuses lines line NoMemory = ⊥

-- a file says that there are so many vertices, and these faces
abbrev pub PlyReads : List ℕ → ℕ → List (List ℕ) → Type 0
PlyReads bytes count faces = IsFile (ply_lines bytes) count faces

-- a file is refused on the line of this number for this reason
abbrev pub PlyRefuses : List ℕ → ℕ → PlyReason → Type 0
PlyRefuses bytes line reason = Refuses (ply_lines bytes) line reason
