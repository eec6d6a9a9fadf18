-- The text of a mesh is read as that mesh.
use Rattle.std.proofs.Common.{◌≡◌, ◌≢◌, ℕ, ◌+◌, ◌^◌, ◌<◌, List, [], ◌∷◌, ◌++◌, length, map, get_or, append-nil, append_assoc, refl, sym, ap, subst, ◌∙◌, arith}
use Rattle.std.specs.Prelude.{All, Result, Ok, Err, codes, decimal}
use Rattle.std.specs.List.{flat_map}
use Rattle.std.proofs.lemmas.Bool.{lt-ltb}
use Rattle.std.proofs.lemmas.Grind.{flat_map-append}
use Rattle.std.proofs.lemmas.List.{length-map}
use Rattle.std.proofs.lemmas.List.Elements.{All-append, All-cons, All-head, All-map, All-nil, All-tail}
use Rattle.fixed_ops.specs.NumberTexts.{number_text}
use Rattle.kuhn_cells.specs.Faces.{Face}
use Rattle.ply_check.specs.declared.ply_fault.PlyFault.{PlyFault}
use Rattle.ply_check.specs.declared.ply_file.PlyFile.{PlyFile}
use Rattle.ply_check.specs.declared.ply_reason.PlyReason.{PlyReason}
use Rattle.ply_check.specs.declared.ply_reason.PlyReason.TheVariants.{NoMemory}
use Rattle.ply_check.specs.FaceLines.{said_face}
use Rattle.ply_check.specs.Gives.{Gives}
use Rattle.ply_check.specs.Headers.{Opens}
use Rattle.ply_check.specs.PlyFiles.{PlyReads, PlyRefuses, ply_lines}
use Rattle.ply_writer.specs.Ply.{face_line, ply_of, vertex_line}
use Rattle.tetra_mesh.specs.declared.vertex.Vertex.{Vertex}
use Rattle.tetra_mesh.specs.Places.{vertex_place}
use Rattle.view_places.specs.declared.lattice.Axis.TheVariants.{X, Y, Z}
use Rattle.view_places.specs.Window.{Window}
use Rattle.checked_meshes.specs.Laws.{WrittenMeshesAreRead}
use Rattle.checked_meshes.specs.Readings.{HasCornersBelow, IsGivenMesh, corners_of}
use Rattle.checked_meshes.proofs.Headers.{header_is_lines, header_lines, header_opens, header_written}
use Rattle.checked_meshes.proofs.Lines.{IsLine, given_written, joined, numbered, numbered_all, numbered_append, numbered_length, numbered_map, written}
use Rattle.checked_meshes.proofs.Numbers.{decimal_is_token, decimal_read, number_is_token}
use Rattle.ply_check.proofs.Exact.{never_both, one_reading}
use Rattle.model_frames.proofs.SoundTexts.{parts_joined}
use Rattle.clause_reader.proofs.WrittenTokens.{IsToken}

-- ---- the lines of vertices and of faces

abbrev vertex_tokens : Window → Vertex → List (List ℕ)
vertex_tokens w v = number_text (vertex_place w v X) ∷ number_text (vertex_place w v Y) ∷ number_text (vertex_place w v Z) ∷ []

abbrev face_tokens : Face → List (List ℕ)
face_tokens f = codes "3" ∷ decimal f.a ∷ decimal f.b ∷ decimal f.c ∷ []

-- the lines of a whole text
abbrev text_lines : Window → List Vertex → List Face → List (List (List ℕ))
text_lines w vertices faces = header_lines (length vertices) (length faces) ++ (map (vertex_tokens w) vertices ++ map face_tokens faces)

last_joined : (a b c d : List ℕ) → (a ++ (b ++ (c ++ []))) ++ d ≡ a ++ (b ++ (c ++ d))
last_joined a b c d = simp (append_assoc, append-nil)

three_joined : (x y z : List ℕ) → x ++ codes " " ++ y ++ codes " " ++ z ++ codes "\n" ≡ joined (x ∷ y ∷ z ∷ []) ++ 10 ∷ []
three_joined x y z = parts_joined x (codes " ") y (codes " ") z (codes "\n") ∙ sym (last_joined x (32 ∷ y) (32 ∷ z) (10 ∷ []))

face_joined : (x y z : List ℕ) → codes "3 " ++ x ++ codes " " ++ y ++ codes " " ++ z ++ codes "\n" ≡ joined (codes "3" ∷ x ∷ y ∷ z ∷ []) ++ 10 ∷ []
face_joined x y z = ap (λ rest. codes "3 " ++ rest) (three_joined x y z)

all_written : {A : Type 0} (line : A → List ℕ) (tokens : A → List (List ℕ)) → ((x : A) → line x ≡ joined (tokens x) ++ 10 ∷ []) → (xs : List A) → flat_map line xs ≡ written (map tokens xs)
all_written line tokens each [] = refl
all_written line tokens each (x ∷ xs) = rw (each x) (ap (λ rest. (joined (tokens x) ++ 10 ∷ []) ++ rest) (all_written line tokens each xs))

three_written : (a b c : List (List (List ℕ))) → written a ++ written b ++ written c ≡ written (a ++ (b ++ c))
three_written a b c =
    let line : List (List ℕ) → List ℕ = λ tokens. joined tokens ++ 10 ∷ [] in
    append_assoc (written a) (written b) (written c) ∙ ap (λ rest. written a ++ rest) (sym (flat_map-append line b c)) ∙ sym (flat_map-append line a (b ++ c))

text_written : (w : Window) (vertices : List Vertex) (faces : List Face) → ply_of w vertices faces ≡ written (text_lines w vertices faces)
text_written w vertices faces =
    let header = header_lines (length vertices) (length faces) in
    let points = map (vertex_tokens w) vertices in
    let triangles = map face_tokens faces in
    let vertex_lines : flat_map (vertex_line w) vertices ≡ written points =
    all_written (vertex_line w) (vertex_tokens w) (λ v. three_joined (number_text (vertex_place w v X)) (number_text (vertex_place w v Y)) (number_text (vertex_place w v Z))) vertices in
    let face_lines : flat_map face_line faces ≡ written triangles =
    all_written face_line face_tokens (λ f. face_joined (decimal f.a) (decimal f.b) (decimal f.c)) faces in
    ap (λ text. text ++ flat_map (vertex_line w) vertices ++ flat_map face_line faces) (header_written (length vertices) (length faces))
    ∙ ap (λ text. written header ++ text ++ flat_map face_line faces) vertex_lines
    ∙ ap (λ text. written header ++ written points ++ text) face_lines
    ∙ three_written header points triangles

three : (a b c : List ℕ) → IsToken a → IsToken b → IsToken c → All IsToken (a ∷ b ∷ c ∷ [])
three a b c is_a is_b is_c =
    All-cons IsToken a (b ∷ c ∷ []) is_a (All-cons IsToken b (c ∷ []) is_b (All-cons IsToken c [] is_c (All-nil IsToken)))

vertex_is_line : (w : Window) (v : Vertex) → IsLine (vertex_tokens w v)
vertex_is_line w v =
    let x = number_text (vertex_place w v X) in
    let y = number_text (vertex_place w v Y) in
    let z = number_text (vertex_place w v Z) in
    record {
      some = omega arith;
      tokens_are = three x y z (number_is_token (vertex_place w v X)) (number_is_token (vertex_place w v Y)) (number_is_token (vertex_place w v Z));
    }

face_is_line : (f : Face) → IsLine (face_tokens f)
face_is_line f = record {
  some = omega arith;
  tokens_are = All-cons IsToken (codes "3") (decimal f.a ∷ decimal f.b ∷ decimal f.c ∷ []) (omega arith, refl)
      (three (decimal f.a) (decimal f.b) (decimal f.c) (decimal_is_token f.a) (decimal_is_token f.b) (decimal_is_token f.c));
}

all_lines : (w : Window) (vertices : List Vertex) (faces : List Face) → All IsLine (text_lines w vertices faces)
all_lines w vertices faces =
    let header = header_lines (length vertices) (length faces) in
    let points = map (vertex_tokens w) vertices in
    let triangles = map face_tokens faces in
    All-append IsLine header (points ++ triangles) (header_is_lines (length vertices) (length faces))
    (All-append IsLine points triangles
    (All-map IsLine (vertex_tokens w) vertices (λ k d less. vertex_is_line w (get_or vertices k d)))
    (All-map IsLine face_tokens faces (λ k d less. face_is_line (get_or faces k d))))

-- ---- readings

face_reads : (count : ℕ) (f : Face) → count < 2 ^ 31 → HasCornersBelow count f → said_face count (face_tokens f) ≡ Ok (corners_of f)
face_reads count f few below =
    let a = decimal_read f.a (let h = below.a in omega (arith, few, h)) in
    let b = decimal_read f.b (let h = below.b in omega (arith, few, h)) in
    let c = decimal_read f.c (let h = below.c in omega (arith, few, h)) in
    rw (a, b, c, lt-ltb f.a count below.a, lt-ltb f.b count below.b, lt-ltb f.c count below.c) refl

faces_read : (count : ℕ) (faces : List Face) → count < 2 ^ 31 → All (HasCornersBelow count) faces → map (said_face count) (map face_tokens faces) ≡ map Ok (map corners_of faces)
faces_read count [] few below = refl
faces_read count (f ∷ faces) few below =
    rw (face_reads count f few (All-head (HasCornersBelow count) f faces below)) (ap (λ xs. Ok (corners_of f) ∷ xs) (faces_read count faces few (All-tail (HasCornersBelow count) f faces below)))

text_reads : (w : Window) (vertices : List Vertex) (faces : List Face) → length vertices < 2 ^ 31 → length faces < 2 ^ 31
    → All (HasCornersBelow (length vertices)) faces → PlyReads (ply_of w vertices faces) (length vertices) (map corners_of faces)
text_reads w vertices faces few few_faces below =
    let header = header_lines (length vertices) (length faces) in
    let points = map (vertex_tokens w) vertices in
    let triangles = map face_tokens faces in
    let lines : ply_lines (ply_of w vertices faces) ≡ numbered 1 header ++ (numbered 10 points ++ numbered (10 + length points) triangles) =
    ap ply_lines (text_written w vertices faces)
    ∙ given_written (text_lines w vertices faces) (all_lines w vertices faces)
    ∙ numbered_append 1 header (points ++ triangles)
    ∙ ap (λ ls. numbered 1 header ++ ls) (numbered_append 10 points triangles) in
    record {
      opening = numbered 1 header;
      points = numbered 10 points;
      triangles = numbered (10 + length points) triangles;
      width = 3;
      parts = lines;
      opens = subst (λ n. Opens (numbered 1 header) (length vertices) 3 n) (sym (length-map faces corners_of)) (header_opens (length vertices) (length faces) few few_faces);
      as_many = numbered_length 10 points ∙ length-map vertices (vertex_tokens w);
      wide = numbered_all (λ tokens. length tokens ≡ 3) 10 points (All-map (λ (tokens : List (List ℕ)). length tokens ≡ 3) (vertex_tokens w) vertices (λ k d less. refl));
      says = numbered_map (said_face (length vertices)) (10 + length points) triangles ∙ faces_read (length vertices) faces few below;
    }

-- what is never refused is given, or memory is wanted
mesh_given : (bytes : List ℕ) (count : ℕ) (faces : List Face)
    → ((other : ℕ) (others : List (List ℕ)) → PlyReads bytes other others → (other ≡ count) × (others ≡ map corners_of faces))
    → ((line : ℕ) (reason : PlyReason) → ¬ PlyRefuses bytes line reason)
    → (result : Result PlyFile PlyFault) → Gives bytes result → IsGivenMesh count faces result
mesh_given bytes count faces only accepted (Ok file) gives = only file.count file.faces.items gives
mesh_given bytes count faces only accepted (Err fault) gives = by fault.reason gives.0
  where
    by : (reason : PlyReason) → (reason ≢ NoMemory → PlyRefuses bytes fault.line reason) → reason ≡ NoMemory
    by NoMemory refused = refl
    by reason refused = absurd (accepted fault.line reason (refused (λ same. (cc))))

pub written_read : WrittenMeshesAreRead
written_read w vertices faces few few_faces below =
    let text = ply_of w vertices faces in
    let reads = text_reads w vertices faces few few_faces below in
    let only = λ (other : ℕ) (others : List (List ℕ)) (also : PlyReads text other others). one_reading text other others (length vertices) (map corners_of faces) also reads in
    let accepted = λ (line : ℕ) (reason : PlyReason). never_both text (length vertices) (map corners_of faces) line reason reads in
    record { reads = reads; only = only; accepted = accepted; given = mesh_given text (length vertices) faces only accepted }
