-- The definitions, computed on lines that were worked out by hand.
use Rattle.std.proofs.Common.{◌≡◌, ℕ, false, true, List, [], ◌∷◌, ◌++◌, None, Some, Ok, Err, refl, arith}
use Rattle.std.specs.Prelude.{◌<◌, codes, length, map}
use Rattle.std.proofs.lemmas.List.Elements.{All-nil, All-cons}
use Rattle.clause_reader.specs.Lines.{tokens_of}
use Rattle.ply_check.specs.declared.header_line.HeaderLine.TheVariants.{Format, Vertices, Property, Faces, FaceList, Comment, End, Other}
use Rattle.ply_check.specs.declared.ply_reason.PlyReason.TheVariants.{NotPly, BadHeader, BadFace, BadIndex, TooShort, TooLong}
use Rattle.ply_check.specs.declared.ply_reason.PlyReason.{PlyReason}
use Rattle.ply_check.specs.declared.stage.Stage.TheVariants.{Opened, Formatted, Counted, Measured, Listed, Described}
use Rattle.ply_check.specs.Answers.{fault_at, ply_answer, width_at}
use Rattle.ply_check.specs.FaceLines.{said_face}
use Rattle.ply_check.specs.Gives.{MayWantMemory}
use Rattle.ply_check.specs.HeaderLines.{digits_said, header_line, is_ply, is_type}
use Rattle.ply_check.specs.PlyFiles.{ply_lines, HasWidth, PlyReads, PlyRefuses}
use Rattle.ply_check.proofs.Exact.{never_both}

-- what the lines of headers say
format_says : header_line (tokens_of (codes "format  ascii 1.0\r")) ≡ Format
format_says = refl

format_of_another_version : header_line (tokens_of (codes "format ascii 1")) ≡ Other
format_of_another_version = refl

vertices_say : header_line (tokens_of (codes "element vertex 0000000004")) ≡ Vertices 4
vertices_say = refl

greatest_count : header_line (tokens_of (codes "element face 2147483647")) ≡ Faces 2147483647
greatest_count = refl

count_too_great : header_line (tokens_of (codes "element vertex 2147483648")) ≡ Other
count_too_great = refl

count_too_long : header_line (tokens_of (codes "element vertex 00000000004")) ≡ Other
count_too_long = refl

other_element : header_line (tokens_of (codes "element edge 0")) ≡ Other
other_element = refl

property_says : header_line (tokens_of (codes "property float32 list")) ≡ Property
property_says = refl

property_of_no_type : header_line (tokens_of (codes "property float16 x")) ≡ Other
property_of_no_type = refl

-- each type by both of its names, and what is none
types : map is_type (codes "char" ∷ codes "uchar" ∷ codes "short" ∷ codes "ushort" ∷ codes "int8" ∷ codes "uint8"
    ∷ codes "int16" ∷ codes "uint16" ∷ []) ≡ true ∷ true ∷ true ∷ true ∷ true ∷ true ∷ true ∷ true ∷ []
types = refl

long_types_too : map is_type (codes "int" ∷ codes "uint" ∷ codes "float" ∷ codes "double" ∷ codes "int32" ∷ codes "uint32"
    ∷ codes "float32" ∷ codes "float64" ∷ []) ≡ true ∷ true ∷ true ∷ true ∷ true ∷ true ∷ true ∷ true ∷ []
long_types_too = refl

no_types : map is_type (codes "float16" ∷ codes "long" ∷ codes "int64" ∷ codes "Int" ∷ []) ≡ false ∷ false ∷ false ∷ false ∷ []
no_types = refl

-- a list has a type of its count and one of its numbers
list_without_types : map (λ text. header_line (tokens_of text)) (codes "property list x int vertex_index"
    ∷ codes "property list uchar x vertex_index" ∷ codes "property lists uchar int vertex_index" ∷ [])
    ≡ Other ∷ Other ∷ Other ∷ []
list_without_types = refl

list_says : header_line (tokens_of (codes "property list uchar int vertex_index")) ≡ FaceList
list_says = refl

other_list : header_line (tokens_of (codes "property list uchar int vertex_indexs")) ≡ Other
other_list = refl

info_says_nothing : header_line (tokens_of (codes "obj_info")) ≡ Comment
info_says_nothing = refl

end_says : header_line (tokens_of (codes " end_header ")) ≡ End
end_says = refl

end_with_more : header_line (tokens_of (codes "end_header x")) ≡ Other
end_with_more = refl

first_line_alone : is_ply (tokens_of (codes "ply x")) ≡ false
first_line_alone = refl

-- digits are a number however many they are, and no number with another byte among them
numbers_said : digits_said (codes "2048") ∷ digits_said (codes "00000000000000000007")
    ∷ digits_said (codes "18446744073709551617") ∷ digits_said (codes "20a8") ∷ digits_said (codes "-1") ∷ []
    ≡ Some 2048 ∷ Some 7 ∷ Some 18446744073709551617 ∷ None ∷ None ∷ []
numbers_said = refl

-- what the lines of faces say, of four vertices
face_says : said_face 4 (tokens_of (codes "3 1 2 0000000003")) ≡ Ok (1 ∷ 2 ∷ 3 ∷ [])
face_says = refl

index_too_great : said_face 4 (tokens_of (codes "3 1 2 4")) ≡ Err BadIndex
index_too_great = refl

-- a number beyond those of 32 bits does not begin again at 0
index_far_too_great : said_face 4 (tokens_of (codes "3 1 2 4294967296")) ≡ Err BadIndex
index_far_too_great = refl

index_too_long : said_face 4 (tokens_of (codes "3 1 2 00000000003")) ≡ Err BadFace
index_too_long = refl

-- the form goes before the numbers
form_first : said_face 4 (tokens_of (codes "3 9 2 +3")) ≡ Err BadFace
form_first = refl

other_size : said_face 4 (tokens_of (codes "4 0 2 1 3")) ≡ Err BadFace
other_size = refl

size_of_two_digits : said_face 4 (tokens_of (codes "03 0 2 1")) ≡ Err BadFace
size_of_two_digits = refl

-- a file of three vertices and a face: `#` begins a token like any other, and blank lines are counted
abbrev one_face : List ℕ
one_face =
    codes "ply\n\nformat ascii 1.0\ncomment x\nelement vertex 3\nproperty int x\nproperty int y\nelement face 1\nproperty list uchar int vertex_indices\nend_header\n"
    ++ codes "# 0\n\ncomment a\n0 1\n3 0 1 2"

one_face_is_read : ply_answer (ply_lines one_face) ≡ Ok (3, (0 ∷ 1 ∷ 2 ∷ []) ∷ [])
one_face_is_read = refl

line_behind_it : ply_answer (ply_lines (one_face ++ codes "\n\n#")) ≡ Err (fault_at 17 TooLong)
line_behind_it = refl

-- the same as the relation that the contract cites
one_face_is_said : PlyReads one_face 3 ((0 ∷ 1 ∷ 2 ∷ []) ∷ [])
one_face_is_said = record {
  opening = (1, codes "ply" ∷ []) ∷ header;
  points = points;
  triangles = (15, codes "3" ∷ codes "0" ∷ codes "1" ∷ codes "2" ∷ []) ∷ [];
  width = 2;
  parts = refl;
  opens = record {
    first = (1, codes "ply" ∷ []);
    header = header;
    parts = refl;
    begins = refl;
    says = record { front = front; last = (10, codes "end_header" ∷ []); parts = refl; ends = refl; some = omega arith; says = refl };
  };
  as_many = refl;
  wide =
      All-cons (HasWidth 2) (11, codes "#" ∷ codes "0" ∷ []) (second ∷ third ∷ []) refl
      (All-cons (HasWidth 2) second (third ∷ []) refl (All-cons (HasWidth 2) third [] refl (All-nil (HasWidth 2))));
  says = refl;
}
  where
    front : List (ℕ × List (List ℕ))
    front =
        (3, codes "format" ∷ codes "ascii" ∷ codes "1.0" ∷ []) ∷ (4, codes "comment" ∷ codes "x" ∷ []) ∷ (5, codes "element" ∷ codes "vertex" ∷ codes "3" ∷ [])
        ∷ (6, codes "property" ∷ codes "int" ∷ codes "x" ∷ []) ∷ (7, codes "property" ∷ codes "int" ∷ codes "y" ∷ [])
        ∷ (8, codes "element" ∷ codes "face" ∷ codes "1" ∷ []) ∷ (9, codes "property" ∷ codes "list" ∷ codes "uchar" ∷ codes "int" ∷ codes "vertex_indices" ∷ []) ∷ []

    header : List (ℕ × List (List ℕ))
    header = front ++ (10, codes "end_header" ∷ []) ∷ []

    second : ℕ × List (List ℕ)
    second = (13, codes "comment" ∷ codes "a" ∷ [])

    third : ℕ × List (List ℕ)
    third = (14, codes "0" ∷ codes "1" ∷ [])

    points : List (ℕ × List (List ℕ))
    points = (11, codes "#" ∷ codes "0" ∷ []) ∷ second ∷ third ∷ []

-- of two faces the second may want memory: it stands behind three vertices and the first
abbrev two_faces : List ℕ
two_faces =
    codes "ply\nformat ascii 1.0\nelement vertex 3\nproperty int x\nelement face 2\nproperty list uchar int vertex_index\nend_header\n"
    ++ codes "0\n1\n2\n3 0 1 2\n3 2 1 0\n"

memory_for_the_second : MayWantMemory two_faces 12
memory_for_the_second = record {
  opening = (1, codes "ply" ∷ []) ∷ (front ++ last ∷ []);
  points = (8, codes "0" ∷ []) ∷ (9, codes "1" ∷ []) ∷ (10, codes "2" ∷ []) ∷ [];
  before = (11, codes "3" ∷ codes "0" ∷ codes "1" ∷ codes "2" ∷ []) ∷ [];
  tokens = codes "3" ∷ codes "2" ∷ codes "1" ∷ codes "0" ∷ [];
  after = [];
  count = 3;
  width = 1;
  faces = 2;
  corners = (0 ∷ 1 ∷ 2 ∷ []) ∷ [];
  parts = refl;
  opens = record {
    first = (1, codes "ply" ∷ []);
    header = front ++ last ∷ [];
    parts = refl;
    begins = refl;
    says = record { front = front; last = last; parts = refl; ends = refl; some = omega arith; says = refl };
  };
  as_many = refl;
  wide =
      All-cons (HasWidth 1) (8, codes "0" ∷ []) ((9, codes "1" ∷ []) ∷ (10, codes "2" ∷ []) ∷ []) refl
      (All-cons (HasWidth 1) (9, codes "1" ∷ []) ((10, codes "2" ∷ []) ∷ []) refl
      (All-cons (HasWidth 1) (10, codes "2" ∷ []) [] refl (All-nil (HasWidth 1))));
  says = refl;
  few = omega arith;
  good = refl;
}
  where
    front : List (ℕ × List (List ℕ))
    front =
        (2, codes "format" ∷ codes "ascii" ∷ codes "1.0" ∷ []) ∷ (3, codes "element" ∷ codes "vertex" ∷ codes "3" ∷ [])
        ∷ (4, codes "property" ∷ codes "int" ∷ codes "x" ∷ []) ∷ (5, codes "element" ∷ codes "face" ∷ codes "2" ∷ [])
        ∷ (6, codes "property" ∷ codes "list" ∷ codes "uchar" ∷ codes "int" ∷ codes "vertex_index" ∷ []) ∷ []

    last : ℕ × List (List ℕ)
    last = (7, codes "end_header" ∷ [])

-- some face is left for the line that may want memory
some_face_is_left : (bytes : List ℕ) (line : ℕ) (memory : MayWantMemory bytes line)
    → length memory.before < memory.faces
some_face_is_left bytes line memory = memory.few

-- the same file is refused nowhere
one_face_is_not_refused : (line : ℕ) (reason : PlyReason) → PlyRefuses one_face line reason → ⊥
one_face_is_not_refused line reason = never_both one_face 3 ((0 ∷ 1 ∷ 2 ∷ []) ∷ []) line reason one_face_is_said

-- properties are counted while they are read alone
widths : width_at Opened ∷ width_at Formatted ∷ width_at (Counted 4) ∷ width_at (Measured 4 3)
    ∷ width_at (Listed (record { vertices = 4; width = 3; faces = 2 }))
    ∷ width_at (Described (record { vertices = 4; width = 3; faces = 2 })) ∷ [] ≡ 0 ∷ 0 ∷ 0 ∷ 3 ∷ 0 ∷ 0 ∷ []
widths = refl

nothing_at_all : ply_answer (ply_lines (codes " \n\t\r\n")) ≡ Err (fault_at 0 NotPly)
nothing_at_all = refl

comment_before_ply : ply_answer (ply_lines (codes "\ncomment x\nply")) ≡ Err (fault_at 2 NotPly)
comment_before_ply = refl

no_property : ply_answer (ply_lines (codes "ply\nformat ascii 1.0\nelement vertex 3\nelement face 1")) ≡ Err (fault_at 4 BadHeader)
no_property = refl

only_header : ply_answer (ply_lines (codes "ply\nformat ascii 1.0\nelement vertex 3\nproperty int x\n")) ≡ Err (fault_at 0 TooShort)
only_header = refl
