-- What is answered of the lines of a file is what it says.
use Rattle.std.proofs.Common.{◌≡◌, ◌≢◌, ℕ, zero, suc, ◌^◌, ◌<◌, List, [], ◌∷◌, ◌++◌, length, Result, Ok, Err, refl, ap, sym, subst, ◌∙◌, arith, append_assoc, inl, inr}
use Rattle.std.specs.Prelude.{◌⊎◌, IfErr, IfOk, IsOk}
use Rattle.std.proofs.lemmas.List.{append-nil}
use Rattle.ply_check.specs.declared.ply_fault.PlyFault.{PlyFault}
use Rattle.ply_check.specs.declared.ply_file.PlyFile.{PlyFile}
use Rattle.ply_check.specs.declared.ply_reason.PlyReason.{PlyReason}
use Rattle.ply_check.specs.declared.ply_reason.PlyReason.TheVariants.{BadFace, BadHeader, BadVertex, NoMemory, TooShort}
use Rattle.ply_check.specs.declared.stage.Stage.TheVariants.{Opened}
use Rattle.ply_check.specs.Answers.{faces_answer, fault_at, ply_answer, too_short}
use Rattle.ply_check.specs.FaceLines.{said_face}
use Rattle.ply_check.specs.Gives.{Gives, MayWantMemory}
use Rattle.ply_check.specs.Passes.{GoesOn, WantsFace}
use Rattle.ply_check.specs.PlyFiles.{ply_lines, EndsInFaces, EndsInHeader, EndsInVertices}
use Rattle.ply_check.proofs.Answered.{face_refused, refuses_answered}
use Rattle.ply_check.proofs.HeaderRuns.{Lines, begins_walks}
use Rattle.ply_check.proofs.Passing.{given_few}
use Rattle.ply_check.proofs.PlyCases.{answered_reads, answered_refuses, face-reasons, reason_in}

pub few_lines : (bytes : List ℕ) (lines : Lines) → length bytes < 2 ^ 32 → lines ≡ ply_lines bytes → length lines < 2 ^ 32
few_lines bytes lines few is = rw is (omega (arith, given_few bytes))

-- ---- a face that wants memory stands among the faces

-- a line without a token stops a header
header_stops : (front : Lines) → EndsInHeader front → ply_answer (front ++ (0, []) ∷ []) ≡ Err (fault_at 0 BadHeader)
header_stops front short =
    let walk = begins_walks Opened tt short.header short.left short.good.vertices short.good.width short.good.faces short.good.some short.more short.good.says in
    rw (short.parts, short.begins, walk.1.same ((0, []) ∷ [])) refl

-- and the vertices
vertices_stop : (front : Lines) → EndsInVertices front → ply_answer (front ++ (0, []) ∷ []) ≡ Err (fault_at 0 BadVertex)
vertices_stop front short =
    let some = short.opens.says.some in
    refuses_answered (front ++ (0, []) ∷ []) 0 BadVertex (record {
      opening = short.opening;
      before = short.points;
      tokens = [];
      after = [];
      count = short.count;
      width = short.width;
      faces = short.faces;
      parts = ap (λ xs. xs ++ (0, []) ∷ []) short.parts ∙ append_assoc short.opening short.points ((0, []) ∷ []);
      opens = short.opens;
      few = short.few;
      wide = short.wide;
      bad = λ same. omega (arith, some, same);
    })

-- lines behind which faces are read end within the faces
ends_in_faces : (front : Lines) (count left : ℕ) (read : List (List ℕ)) → 0 < left → ((more : Lines) → ply_answer (front ++ more) ≡ faces_answer count left read more)
    → EndsInFaces front
ends_in_faces front count zero read some same = absurd (omega (arith, some))
ends_in_faces front count (suc left) read some same = by (answered_refuses front 0 TooShort (ap ply_answer (sym (append-nil front)) ∙ same [])).1
  where
    bad : ply_answer (front ++ (0, []) ∷ []) ≡ Err (fault_at 0 BadFace)
    bad = same ((0, []) ∷ [])

    by : EndsInHeader front ⊎ (EndsInVertices front ⊎ EndsInFaces front) → EndsInFaces front
    by (inl short) = let both : BadFace ≡ BadHeader = ap reason_in (sym bad ∙ header_stops front short) in (cc)
    by (inr (inl short)) = let both : BadFace ≡ BadVertex = ap reason_in (sym bad ∙ vertices_stop front short) in (cc)
    by (inr (inr short)) = short

parts_with : (front : Lines) (line : ℕ × List (List ℕ)) (after : Lines) (ends : EndsInFaces front)
    → front ++ line ∷ after ≡ ends.opening ++ (ends.points ++ (ends.triangles ++ line ∷ after))
parts_with front line after ends =
    ap (λ xs. xs ++ line ∷ after) ends.parts ∙ append_assoc ends.opening (ends.points ++ ends.triangles) (line ∷ after)
    ∙ ap (λ xs. ends.opening ++ xs) (append_assoc ends.points ends.triangles (line ∷ after))

-- a line behind them that is not refused says a face of as many vertices as the header tells
says_face : (front : Lines) (number : ℕ) (tokens : List (List ℕ)) (ends : EndsInFaces front) → GoesOn (ply_answer (front ++ (number, tokens) ∷ []))
    → IsOk (said_face ends.count tokens)
says_face front number tokens ends on = by (said_face ends.count tokens) refl
  where
    by : (said : Result (List ℕ) PlyReason) → said_face ends.count tokens ≡ said → IsOk (said_face ends.count tokens)
    by (Ok face) is = rw is refl
    by (Err reason) is =
        let refused = face_refused (front ++ (number, tokens) ∷ []) number reason (record {
          opening = ends.opening;
          points = ends.points;
          before = ends.triangles;
          tokens = tokens;
          after = [];
          count = ends.count;
          width = ends.width;
          faces = ends.faces;
          corners = ends.corners;
          parts = parts_with front (number, tokens) [] ends;
          opens = ends.opens;
          as_many = ends.as_many;
          wide = ends.wide;
          says = ends.says;
          few = ends.few;
          bad = is;
        }) in
        let short : fault_at number reason ≡ too_short = subst (λ a. GoesOn a) refused on in
        let same : reason ≡ TooShort = ap (λ (fault : PlyFault). fault.reason) short in
        elim (face-reasons ends.count tokens reason is) [
          | inl bad ↦ let both = sym bad ∙ same in (cc)
          | inr bad ↦ let both = sym bad ∙ same in (cc)
        ]

may_want : (bytes : List ℕ) (line : ℕ) → WantsFace ply_answer (ply_lines bytes) line → MayWantMemory bytes line
may_want bytes line wants =
    let ends = ends_in_faces wants.front wants.count wants.left wants.read wants.some wants.same in
    record {
      opening = ends.opening;
      points = ends.points;
      before = ends.triangles;
      tokens = wants.tokens;
      after = wants.after;
      count = ends.count;
      width = ends.width;
      faces = ends.faces;
      corners = ends.corners;
      parts = wants.parts ∙ parts_with wants.front (line, wants.tokens) wants.after ends;
      opens = ends.opens;
      as_many = ends.as_many;
      wide = ends.wide;
      says = ends.says;
      few = ends.few;
      good = says_face wants.front line wants.tokens ends wants.good;
    }

pub gives : (bytes : List ℕ) (lines : Lines) (result : Result PlyFile PlyFault) → lines ≡ ply_lines bytes
    → IfOk result (λ file. ply_answer lines ≡ Ok (file.count, file.faces.items))
    → IfErr result (λ fault. fault.reason ≢ NoMemory → ply_answer lines ≡ Err fault)
    → IfErr result (λ fault. fault.reason ≡ NoMemory → WantsFace ply_answer lines fault.line)
    → Gives bytes result
gives bytes lines (Ok file) is said fault memory = answered_reads (ply_lines bytes) file.count file.faces.items (ap ply_answer (sym is) ∙ said)
gives bytes lines (Err fault) is said refused memory = (
  λ h. answered_refuses (ply_lines bytes) fault.line fault.reason (ap ply_answer (sym is) ∙ refused h),
  λ h. may_want bytes fault.line (subst (λ xs. WantsFace ply_answer xs fault.line) is (memory h)),
)
