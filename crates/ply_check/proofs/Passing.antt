-- How lines are passed, one after the other.
use Rattle.std.proofs.Common.{◌≡◌, ℕ, zero, suc, ◌+◌, ◌-◌, ◌<◌, ◌≤◌, Bool, true, false, cond, List, [], ◌∷◌, ◌++◌, length, map, Some, Result, Ok, Err, refl, ap, sym, subst, ◌∙◌, arith, eqb, append_assoc}
use Rattle.std.specs.Prelude.{OnOk}
use Rattle.std.specs.List.{range_with_len}
use Rattle.std.specs.Result.{is_err}
use Rattle.std.proofs.lemmas.List.{length-map}
use Rattle.std.proofs.lemmas.Slice.Zip.{length-zip}
use Rattle.clause_reader.specs.declared.comments.Comments.TheVariants.{Kept}
use Rattle.clause_reader.specs.Lines.{lines_of, onto_first, tokens_of}
use Rattle.clause_reader.specs.NumberedLines.{given_lines, is_given, numbered_from}
use Rattle.ply_check.specs.declared.header.Header.{Header}
use Rattle.ply_check.specs.declared.header_line.HeaderLine.{HeaderLine}
use Rattle.ply_check.specs.declared.header_line.HeaderLine.TheVariants.{Format, Vertices, Property, Faces, FaceList, Comment}
use Rattle.ply_check.specs.declared.ply_reason.PlyReason.{PlyReason}
use Rattle.ply_check.specs.declared.ply_reason.PlyReason.TheVariants.{BadVertex}
use Rattle.ply_check.specs.declared.stage.Stage.{Stage}
use Rattle.ply_check.specs.declared.stage.Stage.TheVariants.{Opened, Formatted, Counted, Measured, Listed, Described}
use Rattle.ply_check.specs.declared.stage.Step.TheVariants.{On, Out}
use Rattle.ply_check.specs.Answers.{Answer, faces_answer, fault_at, header_answer, ply_answer, step_after, too_short, vertices_answer, width_at}
use Rattle.ply_check.specs.FaceLines.{said_face}
use Rattle.ply_check.specs.HeaderLines.{header_line, is_ply}
use Rattle.ply_check.specs.Passes.{GoesOn, Passes, WantsFace}
use Rattle.ply_check.proofs.HeaderRuns.{Lines}
use Rattle.fixed_ops.proofs.Lists.{filter_length}

pub passes_none : (all : Lines → Answer) (lines : Lines) → Passes all all lines lines
passes_none all lines = record { front = []; parts = refl; same = λ more. refl }

-- one line more
pub passes_more : (all left next : Lines → Answer) (old lines new : Lines) (line : ℕ × List (List ℕ)) → Passes all left old lines → lines ≡ line ∷ new
    → ((more : Lines) → left (line ∷ more) ≡ next more) → Passes all next old new
passes_more all left next old lines new line passed is step = record {
  front = passed.front ++ line ∷ [];
  parts = passed.parts ∙ ap (λ xs. passed.front ++ xs) is ∙ sym (append_assoc passed.front (line ∷ []) new);
  same = λ more. ap all (append_assoc passed.front (line ∷ []) more) ∙ passed.same (line ∷ more) ∙ step more;
}

-- and others after them
pub passes_then : (all left next : Lines → Answer) (old lines new : Lines) → Passes all left old lines → Passes left next lines new → Passes all next old new
passes_then all left next old lines new passed further = record {
  front = passed.front ++ further.front;
  parts = passed.parts ∙ ap (λ xs. passed.front ++ xs) further.parts ∙ sym (append_assoc passed.front further.front new);
  same = λ more. ap all (append_assoc passed.front further.front more) ∙ passed.same (further.front ++ more) ∙ further.same more;
}

-- the answer is that of the lines that are left
pub passes_all : (all left : Lines → Answer) (old new : Lines) → Passes all left old new → all old ≡ left new
passes_all all left old new passed = ap all passed.parts ∙ passed.same new

-- a line of a header adds one property at most
pub widens_by_one : (s : Stage) (l : HeaderLine) (next : Stage) → step_after s l ≡ Some (On next) → width_at next ≤ width_at s + 1
widens_by_one s Comment next e = let is : s ≡ next = cc in rw (← is) (omega arith)
widens_by_one Opened Format next e = let is : Formatted ≡ next = cc in rw (← is) (omega arith)
widens_by_one Formatted (Vertices n) next e = let is : Counted n ≡ next = cc in rw (← is) (omega arith)
widens_by_one (Counted n) Property next e = let is : Measured n 1 ≡ next = cc in rw (← is) (omega arith)
widens_by_one (Measured n w) Property next e = let is : Measured n (w + 1) ≡ next = cc in rw (← is) (omega arith)
widens_by_one (Measured n w) (Faces f) next e = let is : Listed (record { vertices = n; width = w; faces = f }) ≡ next = cc in rw (← is) (omega arith)
widens_by_one (Listed h) FaceList next e = let is : Described h ≡ next = cc in rw (← is) (omega arith)
widens_by_one Opened l next e = absurd (let no : ⊥ = cc in no)
widens_by_one s l next e = absurd (let no : ⊥ = cc in no)

-- where a line of a header leads
pub header_next : (s : Stage) (line : ℕ × List (List ℕ)) (next : Stage) → step_after s (header_line line.1) ≡ Some (On next)
    → (more : Lines) → header_answer s (line ∷ more) ≡ header_answer next more
header_next s line next on more = rw on refl

pub header_out : (s : Stage) (line : ℕ × List (List ℕ)) (h : Header) → step_after s (header_line line.1) ≡ Some (Out h)
    → (more : Lines) → header_answer s (line ∷ more) ≡ vertices_answer h h.vertices more
header_out s line h out more = rw out refl

-- where vertices are left
pub vertices_end : (h : Header) (left : ℕ) → 0 < left → vertices_answer h left [] ≡ Err too_short
vertices_end h zero some = absurd (omega arith)
vertices_end h (suc left) some = refl

pub vertices_bad : (h : Header) (left : ℕ) (line : ℕ × List (List ℕ)) (lines : Lines) → 0 < left → eqb (length line.1) h.width ≡ false
    → vertices_answer h left (line ∷ lines) ≡ Err (fault_at line.0 BadVertex)
vertices_bad h zero line lines some narrow = absurd (omega arith)
vertices_bad h (suc left) line lines some narrow = rw narrow refl

pub vertices_next : (h : Header) (left : ℕ) (line : ℕ × List (List ℕ)) → 0 < left → eqb (length line.1) h.width ≡ true
    → (more : Lines) → vertices_answer h left (line ∷ more) ≡ vertices_answer h (left - 1) more
vertices_next h zero line some wide more = absurd (omega arith)
vertices_next h (suc left) line some wide more = let one : suc left - 1 ≡ left = omega arith in rw (wide, one) refl

-- where faces are left
pub faces_end : (count left : ℕ) (read : List (List ℕ)) → 0 < left → faces_answer count left read [] ≡ Err too_short
faces_end count zero read some = absurd (omega arith)
faces_end count (suc left) read some = refl

pub faces_bad : (count left : ℕ) (read : List (List ℕ)) (line : ℕ × List (List ℕ)) (lines : Lines) (reason : PlyReason) → 0 < left
    → said_face count line.1 ≡ Err reason → faces_answer count left read (line ∷ lines) ≡ Err (fault_at line.0 reason)
faces_bad count zero read line lines reason some none = absurd (omega arith)
faces_bad count (suc left) read line lines reason some none = rw none refl

pub faces_next : (count left : ℕ) (read : List (List ℕ)) (line : ℕ × List (List ℕ)) (face : List ℕ) → 0 < left
    → said_face count line.1 ≡ Ok face → (more : Lines) → faces_answer count left read (line ∷ more) ≡ faces_answer count (left - 1) (read ++ face ∷ []) more
faces_next count zero read line face some is more = absurd (omega arith)
faces_next count (suc left) read line face some is more = let one : suc left - 1 ≡ left = omega arith in rw (is, one) refl

faces_go_on : (count left : ℕ) (read : List (List ℕ)) → GoesOn (faces_answer count left read [])
faces_go_on count zero read = tt
faces_go_on count (suc left) read = refl

-- a face that may want memory
pub wants_face : (all : Lines → Answer) (count left : ℕ) (read : List (List ℕ)) (old lines new : Lines) (line : ℕ × List (List ℕ)) (face : List ℕ)
    → Passes all (faces_answer count left read) old lines → lines ≡ line ∷ new → 0 < left → said_face count line.1 ≡ Ok face → WantsFace all old line.0
wants_face all count left read old lines new line face passed is some says = record {
  front = passed.front;
  tokens = line.1;
  after = new;
  count = count;
  left = left;
  read = read;
  parts = passed.parts ∙ ap (λ xs. passed.front ++ xs) is;
  says = rw says refl;
  some = some;
  same = passed.same;
  good = subst (λ a. GoesOn a) (sym (passed.same (line ∷ []) ∙ faces_next count left read line face some says [])) (faces_go_on count (left - 1) (read ++ face ∷ []));
}

-- and so behind other lines
pub wants_then : (all left : Lines → Answer) (old lines : Lines) (number : ℕ) → Passes all left old lines → WantsFace left lines number → WantsFace all old number
wants_then all left old lines number passed wants = record {
  front = passed.front ++ wants.front;
  tokens = wants.tokens;
  after = wants.after;
  count = wants.count;
  left = wants.left;
  read = wants.read;
  parts = passed.parts ∙ ap (λ xs. passed.front ++ xs) wants.parts ∙ sym (append_assoc passed.front wants.front ((number, wants.tokens) ∷ wants.after));
  says = wants.says;
  some = wants.some;
  same = λ more. ap all (append_assoc passed.front wants.front more) ∙ passed.same (wants.front ++ more) ∙ wants.same more;
  good = subst (λ a. GoesOn a) (sym (ap all (append_assoc passed.front wants.front ((number, wants.tokens) ∷ [])) ∙ passed.same (wants.front ++ (number, wants.tokens) ∷ []))) wants.good;
}

-- a call that did not fail
pub not_failed : {T E : Type 0} (r : Result T E) (P : Type 0) → is_err r ≡ false → OnOk r P → P
not_failed (Ok value) P works ok = ok
not_failed (Err error) P works ok = absurd (let none : ⊥ = cc in none)

-- lines are no more than bytes
onto_first-length : (byte : ℕ) (lines : List (List ℕ)) (n : ℕ) → length lines ≤ n → length (onto_first byte lines) ≤ suc n
onto_first-length byte [] n few = omega arith
onto_first-length byte (line ∷ lines) n few = omega arith

lines_few : (text : List ℕ) → length (lines_of text) ≤ length text
lines_few [] = omega arith
lines_few (byte ∷ rest) = by (eqb byte 10) (lines_few rest)
  where
    by : (b : Bool) → length (lines_of rest) ≤ length rest → length (cond b ([] ∷ lines_of rest) (onto_first byte (lines_of rest))) ≤ suc (length rest)
    by true few = omega arith
    by false few = onto_first-length byte (lines_of rest) (length rest) few

pub given_few : (text : List ℕ) → length (given_lines Kept text) ≤ length text
given_few text =
    omega (
      arith,
      filter_length (λ (line : ℕ × List (List ℕ)). is_given Kept line.1) (numbered_from 1 (lines_of text)),
      length-zip (range_with_len 1 (length (lines_of text))) (map tokens_of (lines_of text)),
      length-map (lines_of text) tokens_of,
      lines_few text,
    )

-- behind `ply`
pub first_passed : (line : ℕ × List (List ℕ)) → is_ply line.1 ≡ true → (more : Lines) → ply_answer (line ∷ more) ≡ header_answer Opened more
first_passed line is more = rw is refl
