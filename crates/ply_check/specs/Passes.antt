-- What is passed of lines, and what is answered of those that are left.
use Rattle.std.specs.Prelude.{◌≡◌, ℕ, ◌<◌, List, [], ◌∷◌, ◌++◌, Ok, Err, IsOk}
use Rattle.ply_check.specs.Answers.{Answer, faces_answer, too_short}
use Rattle.ply_check.specs.FaceLines.{said_face}

-- Some lines were passed: whatever follows them, what is answered of all is what is answered of
-- the lines that follow.
pub record Passes (all left : List (ℕ × List (List ℕ)) → Answer)
    (old new : List (ℕ × List (List ℕ))) : Type 0 where
  pub front : List (ℕ × List (List ℕ))
  pub parts : old ≡ front ++ new
  pub same : (more : List (ℕ × List (List ℕ))) → all (front ++ more) ≡ left more

-- lines are read whole, or are too few
abbrev pub GoesOn : Answer → Type 0
GoesOn (Ok file) = Unit {0}
GoesOn (Err fault) = fault ≡ too_short

-- A line of this number says a face, where some faces are left, and no line up to it is refused: whatever
-- follows the lines before it, what is answered of all is what is answered of faces.
pub record WantsFace (answer : List (ℕ × List (List ℕ)) → Answer)
    (lines : List (ℕ × List (List ℕ))) (number : ℕ) : Type 0 where
  pub front : List (ℕ × List (List ℕ))
  pub tokens : List (List ℕ)
  pub after : List (ℕ × List (List ℕ))
  pub count : ℕ
  pub left : ℕ
  pub read : List (List ℕ)
  pub parts : lines ≡ front ++ (number, tokens) ∷ after
  pub says : IsOk (said_face count tokens)
  pub some : 0 < left
  pub same : (more : List (ℕ × List (List ℕ)))
      → answer (front ++ more) ≡ faces_answer count left read more
  pub good : GoesOn (answer (front ++ (number, tokens) ∷ []))
