-- How the lines of the faces are read.
use Rattle.std.proofs.Common.{◌≡◌, ℕ, zero, suc, ◌+◌, ◌<◌, List, [], ◌∷◌, ◌++◌, length, Result, Ok, Err, refl, ap, sym, ◌∙◌, arith, append_assoc}
use Rattle.std.proofs.lemmas.List.{append-nil}
use Rattle.ply_check.specs.declared.ply_reason.PlyReason.{PlyReason}
use Rattle.ply_check.specs.Answers.{end_answer, faces_answer, fault_at, too_short}
use Rattle.ply_check.specs.FaceLines.{said_face}
use Rattle.ply_check.specs.PlyFiles.{SayFaces}

abbrev Lines : Type 0
Lines = List (ℕ × List (List ℕ))

-- as many faces are said as there are lines
pub says-length : (count : ℕ) (lines : Lines) (faces : List (List ℕ)) → SayFaces count lines faces → length lines ≡ length faces
says-length count [] [] says = refl
says-length count [] (face ∷ faces) says = (cc)
says-length count (line ∷ lines) [] says = (cc)
says-length count (line ∷ lines) (face ∷ faces) says = ap suc (says-length count lines faces (cc))

-- lines of faces are read one after the other
pub faces_pass : (count : ℕ) (lines : Lines) (faces : List (List ℕ)) (left : ℕ) (read : List (List ℕ)) (more : Lines) → SayFaces count lines faces
    → faces_answer count (length lines + left) read (lines ++ more) ≡ faces_answer count left (read ++ faces) more
faces_pass count [] [] left read more says =
    let none : 0 + left ≡ left = omega arith in rw (none, append-nil read) refl
faces_pass count [] (face ∷ faces) left read more says = (cc)
faces_pass count (line ∷ lines) [] left read more says = (cc)
faces_pass count (line ∷ lines) (face ∷ faces) left read more says =
    let here : said_face count line.1 ≡ Ok face = cc in
    let later : SayFaces count lines faces = cc in
    let one : suc (length lines) + left ≡ suc (length lines + left) = omega arith in
    rw (one, here) (faces_pass count lines faces left (read ++ face ∷ []) more later ∙ ap (λ all. faces_answer count left all more) (append_assoc read (face ∷ []) faces))

-- what stands in the lines of so many faces and behind them, and what is answered
pub data FaceCase (count left : ℕ) (read : List (List ℕ)) (lines : Lines) : Type 0 where
  whole_faces : (triangles rest : Lines) (faces : List (List ℕ)) → lines ≡ triangles ++ rest → length faces ≡ left → SayFaces count triangles faces
      → faces_answer count left read lines ≡ end_answer count (read ++ faces) rest → FaceCase count left read lines
  bad_face : (before : Lines) (line : ℕ × List (List ℕ)) (after : Lines) (faces : List (List ℕ)) (reason : PlyReason) → lines ≡ before ++ line ∷ after
      → length before < left → SayFaces count before faces → said_face count line.1 ≡ Err reason
      → faces_answer count left read lines ≡ Err (fault_at line.0 reason) → FaceCase count left read lines
  short_faces : (faces : List (List ℕ)) → length lines < left → SayFaces count lines faces
      → faces_answer count left read lines ≡ Err too_short → FaceCase count left read lines

face_more : (count left : ℕ) (read : List (List ℕ)) (line : ℕ × List (List ℕ)) (lines : Lines) (face : List ℕ) → said_face count line.1 ≡ Ok face
    → FaceCase count left (read ++ face ∷ []) lines → FaceCase count (suc left) read (line ∷ lines)
face_more count left read line lines face here (whole_faces triangles rest faces parts many says answer) =
    whole_faces (line ∷ triangles) rest (face ∷ faces) (ap (λ xs. line ∷ xs) parts) (ap suc many) (rw here (ap (λ xs. Ok face ∷ xs) says))
    (rw here (answer ∙ ap (λ all. end_answer count all rest) (append_assoc read (face ∷ []) faces)))
face_more count left read line lines face here (bad_face before other after faces reason parts few says says_none answer) =
    bad_face (line ∷ before) other after (face ∷ faces) reason (ap (λ xs. line ∷ xs) parts) (omega arith) (rw here (ap (λ xs. Ok face ∷ xs) says)) says_none (rw here answer)
face_more count left read line lines face here (short_faces faces few says answer) =
    short_faces (face ∷ faces) (omega arith) (rw here (ap (λ xs. Ok face ∷ xs) says)) (rw here answer)

-- each list of lines is one of these
pub face_cases : (count left : ℕ) (read : List (List ℕ)) (lines : Lines) → FaceCase count left read lines
face_cases count zero read lines = whole_faces [] lines [] refl refl refl (ap (λ all. end_answer count all lines) (sym (append-nil read)))
face_cases count (suc left) read [] = short_faces [] (omega arith) refl refl
face_cases count (suc left) read (line ∷ lines) = by (said_face count line.1) refl (λ (all : List (List ℕ)). face_cases count left all lines)
  where
    by : (said : Result (List ℕ) PlyReason) → said_face count line.1 ≡ said → ((all : List (List ℕ)) → FaceCase count left all lines)
        → FaceCase count (suc left) read (line ∷ lines)
    by (Ok face) here later = face_more count left read line lines face here (later (read ++ face ∷ []))
    by (Err reason) here later = bad_face [] line lines [] reason refl (omega arith) refl here (rw here refl)
