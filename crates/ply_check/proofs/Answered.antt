-- What is answered of files of each kind.
use Rattle.std.proofs.Common.{◌≡◌, ℕ, suc, ◌+◌, ◌-◌, ◌<◌, false, List, [], ◌∷◌, ◌++◌, length, Option, Some, None, Ok, Err, refl, ap, sym, ◌∙◌, arith, append_assoc, inl, inr}
use Rattle.std.specs.Prelude.{All}
use Rattle.std.proofs.lemmas.Bool.{ne_eqb}
use Rattle.std.proofs.lemmas.List.{append-nil}
use Rattle.ply_check.specs.declared.header.Header.{Header}
use Rattle.ply_check.specs.declared.header_line.HeaderLine.{HeaderLine}
use Rattle.ply_check.specs.declared.header_line.HeaderLine.TheVariants.{End}
use Rattle.ply_check.specs.declared.ply_reason.PlyReason.{PlyReason}
use Rattle.ply_check.specs.declared.ply_reason.PlyReason.TheVariants.{NotPly, BadHeader, BadVertex, BadFace, BadIndex, TooShort, TooLong, NoMemory}
use Rattle.ply_check.specs.declared.stage.Stage.{Stage}
use Rattle.ply_check.specs.declared.stage.Stage.TheVariants.{Opened, Described}
use Rattle.ply_check.specs.declared.stage.Step.{Step}
use Rattle.ply_check.specs.declared.stage.Step.TheVariants.{On, Out}
use Rattle.ply_check.specs.Answers.{end_answer, faces_answer, fault_at, header_answer, on_step, ply_answer, step_after, too_short, vertices_answer}
use Rattle.ply_check.specs.HeaderLines.{header_line}
use Rattle.ply_check.specs.Headers.{header_of, is_comment, said, Begins, IsHeader, Opens}
use Rattle.ply_check.specs.PlyFiles.{HasWidth, SayFaces, IsFile, HasBadHeader, HasBadVertex, HasBadFace, EndsInHeader, EndsInVertices, EndsInFaces, Refuses}
use Rattle.ply_check.proofs.HeaderSteps.{so_far, Wide, leads, leads_out, leads_nowhere, nothing_left, goes_on}
use Rattle.ply_check.proofs.HeaderRuns.{Lines, said-append, said-more, said-comment, Walks, begins_walks}
use Rattle.ply_check.proofs.VertexRuns.{points_pass}
use Rattle.ply_check.proofs.FaceRuns.{faces_pass, says-length}

-- the end leads to no further line of a header
end_leads_out : (s next : Stage) → step_after s End ≡ Some (On next) → ⊥
end_leads_out Opened next e = (cc)
end_leads_out s next e = (cc)

-- behind a header
header_answered : (header : Lines) (v w f : ℕ) → IsHeader header v w f → (more : Lines)
    → header_answer Opened (header ++ more) ≡ vertices_answer (record { vertices = v; width = w; faces = f }) v more
header_answered header v w f is more =
    let front = is.front in
    let last = is.last in
    let ends : said (last ∷ []) ≡ End ∷ [] = rw is.ends refl in
    let whole : said front ++ End ∷ [] ≡ header_of v w f = ap (λ xs. said front ++ xs) (sym ends) ∙ sym (said-append front (last ∷ [])) ∙ ap said (sym is.parts) ∙ is.says in
    let walk = begins_walks Opened tt front (End ∷ []) v w f is.some (omega arith) whole in
    let at : so_far walk.0 ++ End ∷ [] ≡ header_of v w f = ap (λ xs. xs ++ End ∷ []) walk.1.far ∙ whole in
    ap (λ xs. header_answer Opened (xs ++ more)) is.parts
    ∙ ap (header_answer Opened) (append_assoc front (last ∷ []) more)
    ∙ walk.1.same (last ∷ more)
    ∙ ap (λ l. on_step (step_after walk.0 l) (λ next. header_answer next more) (λ header. vertices_answer header header.vertices more) (fault_at last.0 BadHeader)) is.ends
    ∙ by walk.0 walk.1.wide at (step_after walk.0 End) refl
  where
    told : Header
    told = record { vertices = v; width = w; faces = f }

    by : (s : Stage) → Wide s → so_far s ++ End ∷ [] ≡ header_of v w f → (step : Option Step) → step_after s End ≡ step
        → on_step (step_after s End) (λ next. header_answer next more) (λ header. vertices_answer header header.vertices more) (fault_at is.last.0 BadHeader) ≡ vertices_answer told v more
    by s wide at None none = absurd (leads_nowhere s End v w f [] is.some none at)
    by s wide at (Some (On next)) on = absurd (end_leads_out s next on)
    by s wide at (Some (Out h)) out =
        let leaves = leads_out s End h wide out in
        let at_end : so_far (Described h) ++ End ∷ [] ≡ header_of v w f = rw leaves.stage at at in
        let same : h ≡ told = (nothing_left h v w f [] at_end).0 in
        rw (out, same) refl

-- behind the opening
opens_answered : (opening : Lines) (v w f : ℕ) → Opens opening v w f → (more : Lines)
    → ply_answer (opening ++ more) ≡ vertices_answer (record { vertices = v; width = w; faces = f }) v more
opens_answered opening v w f opens more = rw (opens.parts, opens.begins) (header_answered opens.header v w f opens.says more)

-- where so many vertices are left
at_vertices : (opening points : Lines) (v w f left : ℕ) (more : Lines) → Opens opening v w f → All (HasWidth w) points → length points + left ≡ v
    → ply_answer (opening ++ (points ++ more)) ≡ vertices_answer (record { vertices = v; width = w; faces = f }) left more
at_vertices opening points v w f left more opens wide many =
    opens_answered opening v w f opens (points ++ more)
    ∙ ap (λ n. vertices_answer (record { vertices = v; width = w; faces = f }) n (points ++ more)) (sym many)
    ∙ points_pass (record { vertices = v; width = w; faces = f }) points left more wide

-- where so many faces are left
at_faces : (opening points before : Lines) (v w f left : ℕ) (faces : List (List ℕ)) (more : Lines) → Opens opening v w f → length points ≡ v
    → All (HasWidth w) points → SayFaces v before faces → length before + left ≡ f
    → ply_answer (opening ++ (points ++ (before ++ more))) ≡ faces_answer v left faces more
at_faces opening points before v w f left faces more opens as_many wide says many =
    at_vertices opening points v w f 0 (before ++ more) opens wide (omega arith)
    ∙ ap (λ n. faces_answer v n [] (before ++ more)) (sym many)
    ∙ faces_pass v before faces left [] more says

-- a whole file, and what follows it
file_answered : (lines : Lines) (count : ℕ) (faces : List (List ℕ)) → IsFile lines count faces → (more : Lines)
    → ply_answer (lines ++ more) ≡ end_answer count faces more
file_answered lines count faces is more =
    ap (λ all. ply_answer (all ++ more)) is.parts
    ∙ ap ply_answer (append_assoc is.opening (is.points ++ is.triangles) more ∙ ap (λ xs. is.opening ++ xs) (append_assoc is.points is.triangles more))
    ∙ at_faces is.opening is.points is.triangles count is.width (length faces) 0 faces more is.opens is.as_many is.wide is.says
    (omega (arith, says-length count is.triangles faces is.says))

pub reads_answered : (lines : Lines) (count : ℕ) (faces : List (List ℕ)) → IsFile lines count faces → ply_answer lines ≡ Ok (count, faces)
reads_answered lines count faces is = ap ply_answer (sym (append-nil lines)) ∙ file_answered lines count faces is []

-- a line that leads on is of some header
header_goes_on : (before : Lines) (line : ℕ × List (List ℕ)) (s : Stage) → Walks Opened before s → (left : List HeaderLine) → (v w f : ℕ) → 0 < w
    → so_far s ++ (said (line ∷ []) ++ left) ≡ header_of v w f → Begins (before ++ line ∷ []) left
header_goes_on before line s walk left v w f some e = record {
  vertices = v;
  width = w;
  faces = f;
  some = some;
  says = ap (λ xs. xs ++ left) (said-append before (line ∷ [])) ∙ append_assoc (said before) (said (line ∷ [])) left
      ∙ ap (λ xs. xs ++ (said (line ∷ []) ++ left)) (sym walk.far) ∙ e;
}

header_refused : (lines : Lines) (line : ℕ) → HasBadHeader lines line → ply_answer lines ≡ Err (fault_at line BadHeader)
header_refused lines line is =
    let walk = begins_walks Opened tt is.before is.left is.good.vertices is.good.width is.good.faces is.good.some is.more is.good.says in
    rw (is.parts, is.begins, walk.1.same ((line, is.tokens) ∷ is.after)) (by walk.0 walk.1 (step_after walk.0 (header_line is.tokens)) refl)
  where
    by : (s : Stage) → Walks Opened is.before s → (step : Option Step) → step_after s (header_line is.tokens) ≡ step
        → header_answer s ((line, is.tokens) ∷ is.after) ≡ Err (fault_at line BadHeader)
    by s walk None none = rw none refl
    by s walk (Some (On next)) on =
        let lead = leads s (header_line is.tokens) next walk.wide on in
        let more = goes_on next lead.wide in
        let says : so_far s ++ (said ((line, is.tokens) ∷ []) ++ more.left) ≡ so_far next ++ more.left = elim lead.far [
          | inl (comment, stays) ↦ ap (λ xs. so_far s ++ (xs ++ more.left)) (said-comment (line, is.tokens) [] comment) ∙ ap (λ xs. xs ++ more.left) (sym stays)
          | inr (new, far) ↦
              ap (λ xs. so_far s ++ (xs ++ more.left)) (said-more (line, is.tokens) [] new)
              ∙ sym (append_assoc (so_far s) (header_line is.tokens ∷ []) more.left) ∙ ap (λ xs. xs ++ more.left) (sym far)
        ] in
        absurd (is.bad more.left (header_goes_on is.before (line, is.tokens) s walk more.left more.vertices more.width more.faces more.some (says ∙ more.says)))
    by s walk (Some (Out h)) out =
        let leaves = leads_out s (header_line is.tokens) h walk.wide out in
        let new : is_comment (header_line is.tokens) ≡ false = rw leaves.ends refl in
        let says : so_far s ++ (said ((line, is.tokens) ∷ []) ++ []) ≡ header_of h.vertices h.width h.faces =
        ap (λ xs. so_far s ++ (xs ++ [])) (said-more (line, is.tokens) [] new) ∙ leaves.whole in
        absurd (is.bad [] (header_goes_on is.before (line, is.tokens) s walk [] h.vertices h.width h.faces leaves.wide says))

-- a number that is greater than another, as what is left
what_is_left : (n m : ℕ) → n < m → (left : ℕ) × (n + suc left ≡ m)
what_is_left n m less = (m - n - 1, omega arith)

vertex_refused : (lines : Lines) (line : ℕ) → HasBadVertex lines line → ply_answer lines ≡ Err (fault_at line BadVertex)
vertex_refused lines line is =
    let left = what_is_left (length is.before) is.count is.few in
    let narrow = ne_eqb (length is.tokens) is.width is.bad in
    rw (is.parts, at_vertices is.opening is.before is.count is.width is.faces (suc left.0) ((line, is.tokens) ∷ is.after) is.opens is.wide left.1, narrow) refl

pub face_refused : (lines : Lines) (line : ℕ) (reason : PlyReason) → HasBadFace lines line reason → ply_answer lines ≡ Err (fault_at line reason)
face_refused lines line reason is =
    let left = what_is_left (length is.before) is.faces is.few in
    rw (is.parts, at_faces is.opening is.points is.before is.count is.width is.faces (suc left.0) is.corners ((line, is.tokens) ∷ is.after) is.opens is.as_many is.wide is.says left.1, is.bad) refl

short_in_header : (lines : Lines) → EndsInHeader lines → ply_answer lines ≡ Err too_short
short_in_header lines is =
    let walk = begins_walks Opened tt is.header is.left is.good.vertices is.good.width is.good.faces is.good.some is.more is.good.says in
    rw (is.parts, is.begins) (ap (λ xs. header_answer Opened xs) (sym (append-nil is.header)) ∙ walk.1.same [])

short_in_vertices : (lines : Lines) → EndsInVertices lines → ply_answer lines ≡ Err too_short
short_in_vertices lines is =
    let left = what_is_left (length is.points) is.count is.few in
    ap ply_answer (is.parts ∙ ap (λ xs. is.opening ++ xs) (sym (append-nil is.points)))
    ∙ at_vertices is.opening is.points is.count is.width is.faces (suc left.0) [] is.opens is.wide left.1

short_in_faces : (lines : Lines) → EndsInFaces lines → ply_answer lines ≡ Err too_short
short_in_faces lines is =
    let left = what_is_left (length is.triangles) is.faces is.few in
    ap ply_answer (is.parts ∙ ap (λ xs. is.opening ++ (is.points ++ xs)) (sym (append-nil is.triangles)))
    ∙ at_faces is.opening is.points is.triangles is.count is.width is.faces (suc left.0) is.corners [] is.opens is.as_many is.wide is.says left.1

-- what is refused is answered so
pub refuses_answered : (lines : Lines) (line : ℕ) (reason : PlyReason) → Refuses lines line reason → ply_answer lines ≡ Err (fault_at line reason)
refuses_answered lines line NotPly is = elim is [ inl (none, zero) ↦ rw (none, zero) refl | inr first ↦ rw (first.parts, first.other) refl ]
refuses_answered lines line BadHeader is = header_refused lines line is
refuses_answered lines line BadVertex is = vertex_refused lines line is
refuses_answered lines line BadFace is = face_refused lines line BadFace is
refuses_answered lines line BadIndex is = face_refused lines line BadIndex is
refuses_answered lines line TooShort is = rw is.0 (elim is.1 [
  | inl short ↦ short_in_header lines short
  | inr (inl short) ↦ short_in_vertices lines short
  | inr (inr short) ↦ short_in_faces lines short
])
refuses_answered lines line TooLong is = ap ply_answer is.parts ∙ file_answered is.whole is.count is.faces is.good ((line, is.tokens) ∷ is.after)
refuses_answered lines line NoMemory is = absurd is
