-- How great the numbers in a file are.
use Rattle.std.proofs.Common.{◌≡◌, ℕ, ◌<◌, ◌^◌, Bool, true, false, List, [], ◌∷◌, ◌++◌, length, get_or, Option, Some, None, Result, Ok, Err, refl, sym, ap, subst, arith, inl, inr, ◌∙◌}
use Rattle.std.specs.Prelude.{◌⊎◌, ◌&&◌, ◌||◌, nat_lt, not, map, replicate, codes, ⊤, All, if◌then◌else◌}
use Rattle.std.specs.Str.{bytes_eq}
use Rattle.fixed_ops.specs.Numerals.{digits_read}
use Rattle.std.proofs.lemmas.Bool.{and_parts, cases_Bool, ltb-true}
use Rattle.std.proofs.lemmas.List.Elements.{All-cons, All-contains, All-filter, All-map, All-nil, Contains-append_right}
use Rattle.ply_check.specs.declared.header_line.HeaderLine.{HeaderLine}
use Rattle.ply_check.specs.declared.header_line.HeaderLine.TheVariants.{Comment, End, FaceList, Faces, Format, Other, Property, Vertices}
use Rattle.ply_check.specs.declared.ply_reason.PlyReason.{PlyReason}
use Rattle.ply_check.specs.declared.ply_reason.PlyReason.TheVariants.{BadFace, BadIndex}
use Rattle.ply_check.specs.FaceLines.{said_face, face_of}
use Rattle.ply_check.specs.HeaderLines.{element_line, element_said, end_line, format_line, header_line, if_small, list_line, property_line}
use Rattle.ply_check.specs.Headers.{header_of, is_comment, said}
use Rattle.ply_check.specs.ReadingLaws.{FilesAreSmall}
use Rattle.ply_check.specs.PlyFiles.{SayFaces}

-- ---- the vertices of a face

corners_small : (count : ℕ) (a b c : Option ℕ) (face : List ℕ) → face_of count a b c ≡ Ok face → All (λ v. v < count) face
corners_small count (Some a) (Some b) (Some c) face is = by (cases_Bool (nat_lt a count && nat_lt b count && nat_lt c count))
  where
    L : ℕ → Type 0
    L v = v < count

    under : Bool → Result (List ℕ) PlyReason
    under t = if t then Ok (a ∷ b ∷ c ∷ []) else Err BadIndex

    by : (nat_lt a count && nat_lt b count && nat_lt c count ≡ true) ⊎ (nat_lt a count && nat_lt b count && nat_lt c count ≡ false) → All (λ v. v < count) face
    by (inl e) =
        let one = and_parts (nat_lt a count && nat_lt b count) (nat_lt c count) e in
        let two = and_parts (nat_lt a count) (nat_lt b count) one.0 in
        let read : Ok (a ∷ b ∷ c ∷ []) ≡ Ok face = sym (ap under e) ∙ is in
        let same : a ∷ b ∷ c ∷ [] ≡ face = cc in
        subst (All L) same
        (All-cons L a (b ∷ c ∷ []) (ltb-true a count two.0)
        (All-cons L b (c ∷ []) (ltb-true b count two.1) (All-cons L c [] (ltb-true c count one.1) (All-nil L))))
    by (inr e) = let refused : Err BadIndex ≡ Ok face = sym (ap under e) ∙ is in (cc)
corners_small count None b c face is = (cc)
corners_small count (Some a) None c face is = (cc)
corners_small count (Some a) (Some b) None face is = (cc)

line_small : (count : ℕ) (tokens : List (List ℕ)) (face : List ℕ) → said_face count tokens ≡ Ok face → All (λ v. v < count) face
line_small count (size ∷ a ∷ b ∷ c ∷ []) face is = by (cases_Bool (bytes_eq size (codes "3")))
  where
    under : Bool → Result (List ℕ) PlyReason
    under t = if t then face_of count (digits_read 10 a) (digits_read 10 b) (digits_read 10 c) else Err BadFace

    by : (bytes_eq size (codes "3") ≡ true) ⊎ (bytes_eq size (codes "3") ≡ false) → All (λ v. v < count) face
    by (inl e) = corners_small count (digits_read 10 a) (digits_read 10 b) (digits_read 10 c) face (sym (ap under e) ∙ is)
    by (inr e) = let refused : Err BadFace ≡ Ok face = sym (ap under e) ∙ is in (cc)
line_small count [] face is = (cc)
line_small count (size ∷ []) face is = (cc)
line_small count (size ∷ a ∷ []) face is = (cc)
line_small count (size ∷ a ∷ b ∷ []) face is = (cc)
line_small count (size ∷ a ∷ b ∷ c ∷ d ∷ rest) face is = (cc)

faces_small : (count : ℕ) (lines : List (ℕ × List (List ℕ))) (faces : List (List ℕ)) → SayFaces count lines faces → All (All (λ v. v < count)) faces
faces_small count [] [] says = All-nil (All (λ v. v < count))
faces_small count [] (face ∷ faces) says = (cc)
faces_small count (line ∷ lines) [] says = (cc)
faces_small count (line ∷ lines) (face ∷ faces) says =
    let here : said_face count line.1 ≡ Ok face = cc in
    let later : SayFaces count lines faces = cc in
    All-cons (All (λ v. v < count)) face faces (line_small count line.1 face here) (faces_small count lines faces later)

-- ---- how many faces a header says

abbrev IsSmallLine : HeaderLine → Type 0
IsSmallLine (Faces n) = n < 2 ^ 31
IsSmallLine line = ⊤

either : (t : Bool) (x y : HeaderLine) → IsSmallLine x → IsSmallLine y → IsSmallLine (if t then x else y)
either true x y small other = small
either false x y other small = small

count_small : (name : List ℕ) (number : Option ℕ) → IsSmallLine (element_said name (if_small number))
count_small name None = tt
count_small name (Some n) = by (cases_Bool (nat_lt n (2 ^ 31)))
  where
    under : Bool → HeaderLine
    under t = element_said name (if t then Some n else None)

    by : (nat_lt n (2 ^ 31) ≡ true) ⊎ (nat_lt n (2 ^ 31) ≡ false) → IsSmallLine (under (nat_lt n (2 ^ 31)))
    by (inl e) =
        subst (λ t. IsSmallLine (under t)) (sym e)
        (either (bytes_eq name (codes "vertex")) (Vertices n) _ tt (either (bytes_eq name (codes "face")) (Faces n) Other (ltb-true n (2 ^ 31) e) tt))
    by (inr e) = subst (λ t. IsSmallLine (under t)) (sym e) tt

element_small : (tokens : List (List ℕ)) → IsSmallLine (element_line tokens)
element_small [] = tt
element_small (name ∷ []) = tt
element_small (name ∷ number ∷ []) = count_small name (digits_read 10 number)
element_small (name ∷ number ∷ more ∷ rest) = tt

format_small : (tokens : List (List ℕ)) → IsSmallLine (format_line tokens)
format_small [] = tt
format_small (form ∷ []) = tt
format_small (form ∷ version ∷ []) = either _ Format Other tt tt
format_small (form ∷ version ∷ more ∷ rest) = tt

list_small : (tokens : List (List ℕ)) → IsSmallLine (list_line tokens)
list_small [] = tt
list_small (name ∷ []) = either _ FaceList Other tt tt
list_small (name ∷ more ∷ rest) = tt

property_small : (tokens : List (List ℕ)) → IsSmallLine (property_line tokens)
property_small [] = tt
property_small (kind ∷ []) = tt
property_small (kind ∷ name ∷ []) = either _ Property Other tt tt
property_small (kind ∷ counts ∷ numbers ∷ names) = either _ (list_line names) Other (list_small names) tt

end_small : (tokens : List (List ℕ)) → IsSmallLine (end_line tokens)
end_small [] = tt
end_small (word ∷ []) = either _ End Other tt tt
end_small (word ∷ more ∷ rest) = tt

line_is_small : (tokens : List (List ℕ)) → IsSmallLine (header_line tokens)
line_is_small [] = tt
line_is_small (word ∷ tokens) =
    either (bytes_eq word (codes "format")) (format_line tokens) element (format_small tokens)
    (either (bytes_eq word (codes "element")) (element_line tokens) property (element_small tokens)
    (either (bytes_eq word (codes "property")) (property_line tokens) comment (property_small tokens)
    (either (bytes_eq word (codes "comment") || bytes_eq word (codes "obj_info")) Comment (end_line (word ∷ tokens)) tt (end_small (word ∷ tokens)))))
  where
    comment : HeaderLine
    comment = if bytes_eq word (codes "comment") || bytes_eq word (codes "obj_info") then Comment else end_line (word ∷ tokens)

    property : HeaderLine
    property = if bytes_eq word (codes "property") then property_line tokens else comment

    element : HeaderLine
    element = if bytes_eq word (codes "element") then element_line tokens else property

said_small : (lines : List (ℕ × List (List ℕ))) → All IsSmallLine (said lines)
said_small lines =
    All-filter (λ says. not (is_comment says)) IsSmallLine (map (λ line. header_line line.1) lines)
    (All-map IsSmallLine (λ (line : ℕ × List (List ℕ)). header_line line.1) lines (λ k d within. line_is_small (get_or lines k d).1))

header_small : (vertices width faces : ℕ) → All IsSmallLine (header_of vertices width faces) → faces < 2 ^ 31
header_small vertices width faces all =
    All-contains IsSmallLine (header_of vertices width faces) (Faces faces) all
    (Contains-append_right (Format ∷ Vertices vertices ∷ []) (replicate width Property ++ Faces faces ∷ FaceList ∷ End ∷ []) (Faces faces)
    (Contains-append_right (replicate width Property) (Faces faces ∷ FaceList ∷ End ∷ []) (Faces faces) (0, omega arith, refl)))

pub files_small : FilesAreSmall
files_small bytes count faces is =
    record {
      few = header_small count is.width (length faces) (subst (All IsSmallLine) is.opens.says.says (said_small is.opens.header));
      below = faces_small count is.triangles faces is.says;
    }
