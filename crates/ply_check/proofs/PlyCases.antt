-- Each list of lines is a file that is read, or is refused.
use Rattle.std.proofs.Common.{◌≡◌, ℕ, Bool, true, false, ◌&&◌, List, [], ◌∷◌, ◌++◌, length, Option, Some, None, Ok, Err, refl, ap, sym, subst, ◌∙◌, append_assoc, ltb, cond, inl, inr}
use Rattle.std.specs.Prelude.{◌⊎◌, All, codes}
use Rattle.std.specs.Str.{bytes_eq}
use Rattle.std.proofs.lemmas.List.{append-nil}
use Rattle.fixed_ops.specs.Numerals.{digits_read}
use Rattle.ply_check.specs.declared.header.Header.{Header}
use Rattle.ply_check.specs.declared.header_line.HeaderLine.TheVariants.{End}
use Rattle.ply_check.specs.declared.ply_reason.PlyReason.{PlyReason}
use Rattle.ply_check.specs.declared.ply_reason.PlyReason.TheVariants.{NotPly, BadHeader, BadVertex, BadFace, BadIndex, TooShort, TooLong}
use Rattle.ply_check.specs.declared.stage.Stage.TheVariants.{Opened}
use Rattle.ply_check.specs.Answers.{Answer, end_answer, faces_answer, fault_at, ply_answer, vertices_answer}
use Rattle.ply_check.specs.FaceLines.{said_face, face_of}
use Rattle.ply_check.specs.HeaderLines.{header_line, is_ply}
use Rattle.ply_check.specs.Headers.{header_of, said, Opens}
use Rattle.ply_check.specs.PlyFiles.{HasWidth, SayFaces, IsFile, HasBadFace, Refuses}
use Rattle.ply_check.proofs.HeaderSteps.{described_ends, leads_nowhere, none_says, goes_on}
use Rattle.ply_check.proofs.HeaderRuns.{Lines, said-append, said-more, HeaderCase, whole_header, bad_header, short_header, header_cases}
use Rattle.ply_check.proofs.VertexRuns.{VertexCase, whole_vertices, bad_vertex, short_vertices, vertex_cases}
use Rattle.ply_check.proofs.FaceRuns.{FaceCase, whole_faces, bad_face, short_faces, face_cases}

-- what lines are, and what is answered of them
pub data PlyCase (lines : Lines) : Type 0 where
  read : (count : ℕ) (faces : List (List ℕ)) → IsFile lines count faces → ply_answer lines ≡ Ok (count, faces) → PlyCase lines
  refused : (line : ℕ) (reason : PlyReason) → Refuses lines line reason → ply_answer lines ≡ Err (fault_at line reason) → PlyCase lines

-- behind the last face
after_triangles : (lines opening points triangles : Lines) (rest : Lines) (v w : ℕ) (faces : List (List ℕ)) → lines ≡ opening ++ (points ++ (triangles ++ rest))
    → Opens opening v w (length faces) → length points ≡ v → All (HasWidth w) points → SayFaces v triangles faces
    → ply_answer lines ≡ end_answer v faces rest → PlyCase lines
after_triangles lines opening points triangles [] v w faces parts opens many wide says answer =
    read v faces (record {
      opening = opening;
      points = points;
      triangles = triangles;
      width = w;
      parts = parts ∙ ap (λ xs. opening ++ (points ++ xs)) (append-nil triangles);
      opens = opens;
      as_many = many;
      wide = wide;
      says = says;
    }) answer
after_triangles lines opening points triangles (line ∷ after) v w faces parts opens many wide says answer =
    refused line.0 TooLong (record {
      whole = opening ++ (points ++ triangles);
      tokens = line.1;
      after = after;
      count = v;
      faces = faces;
      parts = parts ∙ sym (append_assoc opening (points ++ triangles) (line ∷ after) ∙ ap (λ xs. opening ++ xs) (append_assoc points triangles (line ∷ after)));
      good = record { opening = opening; points = points; triangles = triangles; width = w; parts = refl; opens = opens; as_many = many; wide = wide; says = says };
    }) answer

-- why a line says no face
face_of-reasons : (count : ℕ) (a b c : Option ℕ) (reason : PlyReason) → face_of count a b c ≡ Err reason → (reason ≡ BadFace) ⊎ (reason ≡ BadIndex)
face_of-reasons count (Some a) (Some b) (Some c) reason e = by (ltb a count && ltb b count && ltb c count) e
  where
    by : (t : Bool) → cond t (Ok (a ∷ b ∷ c ∷ [])) (Err BadIndex) ≡ Err reason → (reason ≡ BadFace) ⊎ (reason ≡ BadIndex)
    by true e = (cc)
    by false e = inr (cc)
face_of-reasons count (Some a) (Some b) None reason e = inl (cc)
face_of-reasons count (Some a) None c reason e = inl (cc)
face_of-reasons count None b c reason e = inl (cc)

pub face-reasons : (count : ℕ) (tokens : List (List ℕ)) (reason : PlyReason) → said_face count tokens ≡ Err reason → (reason ≡ BadFace) ⊎ (reason ≡ BadIndex)
face-reasons count (size ∷ a ∷ b ∷ c ∷ []) reason e = by (bytes_eq size (codes "3")) e
  where
    by : (t : Bool) → cond t (face_of count (digits_read 10 a) (digits_read 10 b) (digits_read 10 c)) (Err BadFace) ≡ Err reason → (reason ≡ BadFace) ⊎ (reason ≡ BadIndex)
    by true e = face_of-reasons count (digits_read 10 a) (digits_read 10 b) (digits_read 10 c) reason e
    by false e = inl (cc)
face-reasons count tokens reason e = inl (cc)

-- behind the vertices
after_points : (lines opening points rest : Lines) (v w f : ℕ) → lines ≡ opening ++ (points ++ rest) → Opens opening v w f → length points ≡ v
    → All (HasWidth w) points → ply_answer lines ≡ faces_answer v f [] rest → FaceCase v f [] rest → PlyCase lines
after_points lines opening points rest v w f parts opens many wide answer (whole_faces triangles after faces is all says end) =
    after_triangles lines opening points triangles after v w faces (parts ∙ ap (λ xs. opening ++ (points ++ xs)) is) (rw all opens) many wide says (answer ∙ end)
after_points lines opening points rest v w f parts opens many wide answer (bad_face before line after faces reason is few says says_none end) =
    by (face-reasons v line.1 reason says_none)
  where
    bad : HasBadFace lines line.0 reason
    bad = record {
      opening = opening;
      points = points;
      before = before;
      tokens = line.1;
      after = after;
      count = v;
      width = w;
      faces = f;
      corners = faces;
      parts = parts ∙ ap (λ xs. opening ++ (points ++ xs)) is;
      opens = opens;
      as_many = many;
      wide = wide;
      says = says;
      few = few;
      bad = says_none;
    }

    by : (reason ≡ BadFace) ⊎ (reason ≡ BadIndex) → PlyCase lines
    by (inl why) = refused line.0 BadFace (subst (λ r. HasBadFace lines line.0 r) why bad) (answer ∙ end ∙ ap (λ r. Err (fault_at line.0 r)) why)
    by (inr why) = refused line.0 BadIndex (subst (λ r. HasBadFace lines line.0 r) why bad) (answer ∙ end ∙ ap (λ r. Err (fault_at line.0 r)) why)
after_points lines opening points rest v w f parts opens many wide answer (short_faces faces few says end) =
    refused 0 TooShort (
      refl,
      inr (inr (record {
        opening = opening;
        points = points;
        triangles = rest;
        count = v;
        width = w;
        faces = f;
        corners = faces;
        parts = parts;
        opens = opens;
        as_many = many;
        wide = wide;
        says = says;
        few = few;
      })),
    ) (answer ∙ end)

-- behind the header
after_opening : (lines opening rest : Lines) (h : Header) → lines ≡ opening ++ rest → Opens opening h.vertices h.width h.faces
    → ply_answer lines ≡ vertices_answer h h.vertices rest → VertexCase h h.vertices rest → PlyCase lines
after_opening lines opening rest h parts opens answer (whole_vertices points after is many wide end) =
    after_points lines opening points after h.vertices h.width h.faces (parts ∙ ap (λ xs. opening ++ xs) is) opens many wide (answer ∙ end)
    (face_cases h.vertices h.faces [] after)
after_opening lines opening rest h parts opens answer (bad_vertex before line after is few wide narrow end) =
    refused line.0 BadVertex (record {
      opening = opening;
      before = before;
      tokens = line.1;
      after = after;
      count = h.vertices;
      width = h.width;
      faces = h.faces;
      parts = parts ∙ ap (λ xs. opening ++ xs) is;
      opens = opens;
      few = few;
      wide = wide;
      bad = narrow;
    }) (answer ∙ end)
after_opening lines opening rest h parts opens answer (short_vertices few wide end) =
    refused 0 TooShort (
      refl,
      inr (inl (record {
        opening = opening;
        points = rest;
        count = h.vertices;
        width = h.width;
        faces = h.faces;
        parts = parts;
        opens = opens;
        few = few;
        wide = wide;
      })),
    ) (answer ∙ end)

-- behind the first line
after_first : (first : ℕ × List (List ℕ)) (lines : Lines) → is_ply first.1 ≡ true → HeaderCase Opened lines → PlyCase (first ∷ lines)
after_first first lines begins (whole_header front last rest h parts walk ends some answer) =
    let ended : said (last ∷ []) ≡ End ∷ [] = rw ends refl in
    let says : said (front ++ last ∷ []) ≡ header_of h.vertices h.width h.faces =
    said-append front (last ∷ []) ∙ ap (λ xs. said front ++ xs) ended ∙ ap (λ xs. xs ++ End ∷ []) (sym walk.far) ∙ described_ends h in
    after_opening (first ∷ lines) (first ∷ (front ++ last ∷ [])) rest h (ap (λ xs. first ∷ xs) (parts ∙ sym (append_assoc front (last ∷ []) rest)))
    (record {
      first = first;
      header = front ++ last ∷ [];
      parts = refl;
      begins = begins;
      says = record { front = front; last = last; parts = refl; ends = ends; some = some; says = says };
    }) (rw begins answer) (vertex_cases h h.vertices rest)
after_first first lines begins (bad_header before line after stage parts walk none answer) =
    let more = goes_on stage walk.wide in
    refused line.0 BadHeader (record {
      first = first;
      before = before;
      tokens = line.1;
      after = after;
      parts = ap (λ xs. first ∷ xs) parts;
      begins = begins;
      left = more.left;
      more = more.more;
      good = record { vertices = more.vertices; width = more.width; faces = more.faces; some = more.some; says = ap (λ xs. xs ++ more.left) (sym walk.far) ∙ more.says };
      bad = λ left b.
          let says = ap (λ xs. xs ++ (header_line line.1 ∷ left)) walk.far
          ∙ sym (append_assoc (said before) (header_line line.1 ∷ []) left)
          ∙ ap (λ xs. (said before ++ xs) ++ left) (sym (said-more line [] (none_says stage (header_line line.1) none)))
          ∙ ap (λ xs. xs ++ left) (sym (said-append before (line ∷ []))) ∙ b.says in
          leads_nowhere stage (header_line line.1) b.vertices b.width b.faces left b.some none says;
    }) (rw begins answer)
after_first first lines begins (short_header stage walk answer) =
    let more = goes_on stage walk.wide in
    refused 0 TooShort (
      refl,
      inl (record {
        first = first;
        header = lines;
        left = more.left;
        parts = refl;
        begins = begins;
        more = more.more;
        good = record { vertices = more.vertices; width = more.width; faces = more.faces; some = more.some; says = ap (λ xs. xs ++ more.left) (sym walk.far) ∙ more.says };
      }),
    ) (rw begins answer)

pub ply_cases : (lines : Lines) → PlyCase lines
ply_cases [] = refused 0 NotPly (inl (refl, refl)) refl
ply_cases (first ∷ lines) = by (is_ply first.1) refl
  where
    by : (b : Bool) → is_ply first.1 ≡ b → PlyCase (first ∷ lines)
    by true begins = after_first first lines begins (header_cases Opened tt lines)
    by false other = refused first.0 NotPly (inr (record { tokens = first.1; after = lines; parts = refl; other = other })) (rw other refl)

-- the parts of an answer
abbrev pub count_in : Answer → ℕ
count_in (Ok file) = file.0
count_in (Err fault) = 0

abbrev pub faces_in : Answer → List (List ℕ)
faces_in (Ok file) = file.1
faces_in (Err fault) = []

abbrev pub line_in : Answer → ℕ
line_in (Ok file) = 0
line_in (Err fault) = fault.line

abbrev pub reason_in : Answer → PlyReason
reason_in (Ok file) = NotPly
reason_in (Err fault) = fault.reason

-- what is read, by the answer
pub answered_reads : (lines : Lines) (count : ℕ) (faces : List (List ℕ)) → ply_answer lines ≡ Ok (count, faces) → IsFile lines count faces
answered_reads lines count faces e = by (ply_cases lines)
  where
    by : PlyCase lines → IsFile lines count faces
    by (read n all is answer) =
        let counts : n ≡ count = ap count_in (sym answer ∙ e) in
        let same : all ≡ faces = ap faces_in (sym answer ∙ e) in
        rw (← counts, ← same) is
    by (refused line reason is answer) = let both = sym answer ∙ e in (cc)

-- what is refused, by the answer
pub answered_refuses : (lines : Lines) (line : ℕ) (reason : PlyReason) → ply_answer lines ≡ Err (fault_at line reason) → Refuses lines line reason
answered_refuses lines line reason e = by (ply_cases lines)
  where
    by : PlyCase lines → Refuses lines line reason
    by (read n all is answer) = let both = sym answer ∙ e in (cc)
    by (refused number why is answer) =
        let lined : number ≡ line = ap line_in (sym answer ∙ e) in
        let same : why ≡ reason = ap reason_in (sym answer ∙ e) in
        subst (λ r. Refuses lines line r) same (subst (λ n. Refuses lines n why) lined is)
