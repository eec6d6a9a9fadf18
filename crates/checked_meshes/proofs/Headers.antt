-- The header of a text, as it is written and as it is read.
use Rattle.std.proofs.Common.{◌≡◌, ℕ, ◌^◌, ◌<◌, Bool, true, not, ◌&&◌, List, [], ◌∷◌, ◌++◌, length, map, take, drop, append-nil, append_assoc, refl, sym, ap, ◌∙◌, arith}
use Rattle.std.specs.Prelude.{All, Option, Some, codes, decimal, filter, nat_lt}
use Rattle.std.specs.List.{list_all}
use Rattle.std.proofs.lemmas.Bool.{and_parts, lt-ltb, ltb-true}
use Rattle.std.proofs.lemmas.List.Elements.{All-append, All-cons, All-nil}
use Rattle.solid_model.specs.Names.{is_token_byte}
use Rattle.ply_check.specs.HeaderLines.{element_count, element_said, header_line}
use Rattle.ply_check.specs.Headers.{Opens, header_of, is_comment, said}
use Rattle.ply_writer.specs.Ply.{ply_header}
use Rattle.checked_meshes.proofs.Lines.{IsLine, numbered, written}
use Rattle.checked_meshes.proofs.Numbers.{decimal_is_token, decimal_read}
use Rattle.clause_reader.proofs.WrittenTokens.{IsToken}

-- a line that tells how many elements there are
abbrev count_line : List ℕ → List ℕ → List (List ℕ)
count_line name count = codes "element" ∷ name ∷ count ∷ []

abbrev opening : List (List (List ℕ))
opening = (codes "ply" ∷ []) ∷ (codes "format" ∷ codes "ascii" ∷ codes "1.0" ∷ []) ∷ []

abbrev coordinates : List (List (List ℕ))
coordinates =
    (codes "property" ∷ codes "double" ∷ codes "x" ∷ [])
    ∷ (codes "property" ∷ codes "double" ∷ codes "y" ∷ [])
    ∷ (codes "property" ∷ codes "double" ∷ codes "z" ∷ [])
    ∷ []

abbrev closing : List (List (List ℕ))
closing =
    (codes "property" ∷ codes "list" ∷ codes "uchar" ∷ codes "int" ∷ codes "vertex_indices" ∷ [])
    ∷ (codes "end_header" ∷ [])
    ∷ []

-- the lines of a header whose counts are written so
abbrev lines_with : List ℕ → List ℕ → List (List (List ℕ))
lines_with vertices faces =
    opening ++ count_line (codes "vertex") vertices ∷ (coordinates ++ count_line (codes "face") faces ∷ closing)

abbrev pub header_lines : ℕ → ℕ → List (List (List ℕ))
header_lines vertices faces = lines_with (decimal vertices) (decimal faces)

five_joined : (a b c d e : List ℕ) → (((a ++ b) ++ c) ++ d) ++ e ≡ a ++ (b ++ (c ++ (d ++ e)))
five_joined a b c d e = simp append_assoc

-- a count and the end of its line, as they stand in lines
count_joined : (count rest : List ℕ) → ((count ++ []) ++ 10 ∷ []) ++ rest ≡ count ++ 10 ∷ rest
count_joined count rest = simp (append_assoc, append-nil)

header_joined : (vertices faces : List ℕ)
    → codes "ply\nformat ascii 1.0\nelement vertex " ++ vertices
    ++ codes "\nproperty double x\nproperty double y\nproperty double z\nelement face "
    ++ faces
    ++ codes "\nproperty list uchar int vertex_indices\nend_header\n"
    ≡ written (lines_with vertices faces)
header_joined vertices faces =
    let front = codes "ply\nformat ascii 1.0\nelement vertex " in
    let middle = codes "property double x\nproperty double y\nproperty double z\nelement face " in
    let back = codes "property list uchar int vertex_indices\nend_header\n" in
    five_joined front vertices (10 ∷ middle) faces (10 ∷ back)
    ∙ ap (λ rest. front ++ (vertices ++ 10 ∷ (middle ++ rest))) (sym (count_joined faces back))
    ∙ ap (λ rest. front ++ rest) (sym (count_joined vertices (middle ++ (((faces ++ []) ++ 10 ∷ []) ++ back))))

pub header_written : (vertices faces : ℕ) → ply_header vertices faces ≡ written (header_lines vertices faces)
header_written vertices faces = header_joined (decimal vertices) (decimal faces)

-- ---- each line has tokens

word : (token : List ℕ) → nat_lt 0 (length token) && list_all is_token_byte token ≡ true → IsToken token
word token passes =
    let parts = and_parts (nat_lt 0 (length token)) (list_all is_token_byte token) passes in
    (ltb-true 0 (length token) parts.0, parts.1)

abbrev are_words : List (List ℕ) → Bool
are_words tokens = list_all (λ token. nat_lt 0 (length token) && list_all is_token_byte token) tokens

words : (tokens : List (List ℕ)) → are_words tokens ≡ true → All IsToken tokens
words [] passes = All-nil IsToken
words (token ∷ tokens) passes =
    let parts = and_parts (nat_lt 0 (length token) && list_all is_token_byte token) (are_words tokens) passes in
    All-cons IsToken token tokens (word token parts.0) (words tokens parts.1)

abbrev are_lines : List (List (List ℕ)) → Bool
are_lines lines = list_all (λ tokens. nat_lt 0 (length tokens) && are_words tokens) lines

lines_of_words : (lines : List (List (List ℕ))) → are_lines lines ≡ true → All IsLine lines
lines_of_words [] passes = All-nil IsLine
lines_of_words (tokens ∷ lines) passes =
    let parts = and_parts (nat_lt 0 (length tokens) && are_words tokens) (are_lines lines) passes in
    let here = and_parts (nat_lt 0 (length tokens)) (are_words tokens) parts.0 in
    All-cons IsLine tokens lines (record { some = ltb-true 0 (length tokens) here.0; tokens_are = words tokens here.1 }) (lines_of_words lines parts.1)

count_is_line : (name : List ℕ) (n : ℕ) → are_words (name ∷ []) ≡ true → IsLine (count_line name (decimal n))
count_is_line name n passes = record {
  some = omega arith;
  tokens_are = All-cons IsToken (codes "element") (name ∷ decimal n ∷ []) (word (codes "element") refl)
      (All-append IsToken (name ∷ []) (decimal n ∷ []) (words (name ∷ []) passes)
      (All-cons IsToken (decimal n) [] (decimal_is_token n) (All-nil IsToken)));
}

pub header_is_lines : (vertices faces : ℕ) → All IsLine (header_lines vertices faces)
header_is_lines vertices faces =
    let vertex = count_line (codes "vertex") (decimal vertices) in
    let face = count_line (codes "face") (decimal faces) in
    All-append IsLine opening (vertex ∷ (coordinates ++ face ∷ closing)) (lines_of_words opening refl)
    (All-cons IsLine vertex (coordinates ++ face ∷ closing) (count_is_line (codes "vertex") vertices refl)
    (All-append IsLine coordinates (face ∷ closing) (lines_of_words coordinates refl)
    (All-cons IsLine face closing (count_is_line (codes "face") faces refl) (lines_of_words closing refl))))

-- ---- readings

count_read : (n : ℕ) → n < 2 ^ 31 → element_count (decimal n) ≡ Some n
count_read n small = rw (decimal_read n small, lt-ltb n (2 ^ 31) small) refl

header_says : (vertices faces : ℕ) → vertices < 2 ^ 31 → faces < 2 ^ 31 → said (drop 1 (numbered 1 (header_lines vertices faces))) ≡ header_of vertices 3 faces
header_says vertices faces few few_faces =
    ap (λ (count : Option ℕ). filter (λ says. not (is_comment says)) (map header_line (drop 1 opening) ++ element_said (codes "vertex") count
    ∷ (map header_line coordinates ++ element_said (codes "face") (element_count (decimal faces)) ∷ map header_line closing))) (count_read vertices few)
    ∙ ap (λ (count : Option ℕ). filter (λ says. not (is_comment says)) (map header_line (drop 1 opening) ++ element_said (codes "vertex") (Some vertices)
    ∷ (map header_line coordinates ++ element_said (codes "face") count ∷ map header_line closing))) (count_read faces few_faces)

pub header_opens : (vertices faces : ℕ) → vertices < 2 ^ 31 → faces < 2 ^ 31 → Opens (numbered 1 (header_lines vertices faces)) vertices 3 faces
header_opens vertices faces few few_faces =
    let behind = drop 1 (numbered 1 (header_lines vertices faces)) in
    record {
      first = (1, codes "ply" ∷ []);
      header = behind;
      parts = refl;
      begins = refl;
      says = record {
        front = take 7 behind;
        last = (9, codes "end_header" ∷ []);
        parts = refl;
        ends = refl;
        some = omega arith;
        says = header_says vertices faces few few_faces;
      };
    }
