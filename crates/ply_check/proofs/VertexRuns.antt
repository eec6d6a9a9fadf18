-- How the lines of the vertices are passed.
use Rattle.std.proofs.Common.{◌≡◌, ◌≢◌, ℕ, zero, suc, ◌+◌, ◌<◌, Bool, true, false, List, [], ◌∷◌, ◌++◌, length, Err, refl, ap, arith, eqb, eq-eqb}
use Rattle.std.specs.Prelude.{All}
use Rattle.std.proofs.lemmas.Bool.{eqb-true, eqb-false}
use Rattle.std.proofs.lemmas.List.Elements.{All-nil, All-cons, All-head, All-tail}
use Rattle.ply_check.specs.declared.header.Header.{Header}
use Rattle.ply_check.specs.declared.ply_reason.PlyReason.TheVariants.{BadVertex}
use Rattle.ply_check.specs.Answers.{faces_answer, fault_at, too_short, vertices_answer}
use Rattle.ply_check.specs.PlyFiles.{HasWidth}

abbrev Lines : Type 0
Lines = List (ℕ × List (List ℕ))

-- lines of vertices are passed one after the other
pub points_pass : (h : Header) (points : Lines) (left : ℕ) (more : Lines) → All (HasWidth h.width) points
    → vertices_answer h (length points + left) (points ++ more) ≡ vertices_answer h left more
points_pass h [] left more wide = let none : 0 + left ≡ left = omega arith in ap (λ n. vertices_answer h n more) none
points_pass h (line ∷ points) left more wide =
    let here : eqb (length line.1) h.width ≡ true = eq-eqb (length line.1) h.width (All-head (HasWidth h.width) line points wide) in
    let one : suc (length points) + left ≡ suc (length points + left) = omega arith in
    rw (one, here) (points_pass h points left more (All-tail (HasWidth h.width) line points wide))

-- what stands in the lines of so many vertices and behind them, and what is answered
pub data VertexCase (h : Header) (left : ℕ) (lines : Lines) : Type 0 where
  whole_vertices : (points rest : Lines) → lines ≡ points ++ rest → length points ≡ left → All (HasWidth h.width) points
      → vertices_answer h left lines ≡ faces_answer h.vertices h.faces [] rest → VertexCase h left lines
  bad_vertex : (before : Lines) (line : ℕ × List (List ℕ)) (after : Lines) → lines ≡ before ++ line ∷ after → length before < left
      → All (HasWidth h.width) before → length line.1 ≢ h.width → vertices_answer h left lines ≡ Err (fault_at line.0 BadVertex)
      → VertexCase h left lines
  short_vertices : length lines < left → All (HasWidth h.width) lines → vertices_answer h left lines ≡ Err too_short → VertexCase h left lines

vertex_more : (h : Header) (left : ℕ) (line : ℕ × List (List ℕ)) (lines : Lines) → eqb (length line.1) h.width ≡ true
    → VertexCase h left lines → VertexCase h (suc left) (line ∷ lines)
vertex_more h left line lines here (whole_vertices points rest parts many wide answer) =
    whole_vertices (line ∷ points) rest (ap (λ xs. line ∷ xs) parts) (ap suc many) (All-cons (HasWidth h.width) line points (eqb-true (length line.1) h.width here) wide) (rw here answer)
vertex_more h left line lines here (bad_vertex before other after parts few wide narrow answer) =
    bad_vertex (line ∷ before) other after (ap (λ xs. line ∷ xs) parts) (omega arith) (All-cons (HasWidth h.width) line before (eqb-true (length line.1) h.width here) wide) narrow (rw here answer)
vertex_more h left line lines here (short_vertices few wide answer) =
    short_vertices (omega arith) (All-cons (HasWidth h.width) line lines (eqb-true (length line.1) h.width here) wide) (rw here answer)

-- each list of lines is one of these
pub vertex_cases : (h : Header) (left : ℕ) (lines : Lines) → VertexCase h left lines
vertex_cases h zero lines = whole_vertices [] lines refl refl (All-nil (HasWidth h.width)) refl
vertex_cases h (suc left) [] = short_vertices (omega arith) (All-nil (HasWidth h.width)) refl
vertex_cases h (suc left) (line ∷ lines) = by (eqb (length line.1) h.width) refl (vertex_cases h left lines)
  where
    by : (b : Bool) → eqb (length line.1) h.width ≡ b → VertexCase h left lines → VertexCase h (suc left) (line ∷ lines)
    by true here later = vertex_more h left line lines here later
    by false here later = bad_vertex [] line lines refl (omega arith) (All-nil (HasWidth h.width)) (eqb-false (length line.1) h.width here) (rw here refl)
