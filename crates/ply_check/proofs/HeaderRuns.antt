-- How a header is read, line by line.
use Rattle.std.proofs.Common.{◌≡◌, ℕ, ◌<◌, true, false, not, List, [], ◌∷◌, ◌++◌, length, map, Option, Some, None, Err, refl, ap, sym, ◌∙◌, arith, append_assoc, inl, inr}
use Rattle.std.specs.Prelude.{filter}
use Rattle.std.proofs.lemmas.List.{append-nil, length-append, map-append}
use Rattle.std.proofs.lemmas.List.Elements.{filter-append}
use Rattle.ply_check.specs.declared.header.Header.{Header}
use Rattle.ply_check.specs.declared.header_line.HeaderLine.{HeaderLine}
use Rattle.ply_check.specs.declared.header_line.HeaderLine.TheVariants.{End}
use Rattle.ply_check.specs.declared.ply_reason.PlyReason.TheVariants.{BadHeader}
use Rattle.ply_check.specs.declared.stage.Stage.{Stage}
use Rattle.ply_check.specs.declared.stage.Stage.TheVariants.{Described}
use Rattle.ply_check.specs.declared.stage.Step.{Step}
use Rattle.ply_check.specs.declared.stage.Step.TheVariants.{On, Out}
use Rattle.ply_check.specs.Answers.{fault_at, header_answer, step_after, too_short, vertices_answer}
use Rattle.ply_check.specs.HeaderLines.{header_line}
use Rattle.ply_check.specs.Headers.{header_of, is_comment, said}
use Rattle.ply_check.proofs.HeaderSteps.{so_far, Wide, Leads, leads, leads_out, none_says, leads_nowhere, nothing_left}

abbrev pub Lines : Type 0
Lines = List (ℕ × List (List ℕ))

-- what lines say one after the other
pub said-append : (xs ys : Lines) → said (xs ++ ys) ≡ said xs ++ said ys
said-append xs ys =
    ap (λ says. filter (λ l. not (is_comment l)) says) (map-append (λ line. header_line line.1) xs ys)
    ∙ filter-append (λ l. not (is_comment l)) (map (λ line. header_line line.1) xs) (map (λ line. header_line line.1) ys)

pub said-comment : (line : ℕ × List (List ℕ)) (lines : Lines) → is_comment (header_line line.1) ≡ true → said (line ∷ lines) ≡ said lines
said-comment line lines is = rw is refl

pub said-more : (line : ℕ × List (List ℕ)) (lines : Lines) → is_comment (header_line line.1) ≡ false → said (line ∷ lines) ≡ header_line line.1 ∷ said lines
said-more line lines is = rw is refl

-- lines that lead from one stage to another
pub record Walks (s : Stage) (lines : Lines) (next : Stage) : Type 0 where
  pub wide : Wide next
  pub far : so_far next ≡ so_far s ++ said lines
  pub same : (more : Lines) → header_answer s (lines ++ more) ≡ header_answer next more

walks_none : (s : Stage) → Wide s → Walks s [] s
walks_none s wide = record { wide = wide; far = sym (append-nil (so_far s)); same = λ more. refl }

-- one line more at the front
walks_more : (s : Stage) (line : ℕ × List (List ℕ)) (lines : Lines) (next last : Stage) → step_after s (header_line line.1) ≡ Some (On next)
    → Leads s (header_line line.1) next → Walks next lines last → Walks s (line ∷ lines) last
walks_more s line lines next last step lead walk = record {
  wide = walk.wide;
  far = elim lead.far [
    | inl (comment, stays) ↦ walk.far ∙ ap (λ xs. xs ++ said lines) stays ∙ ap (λ xs. so_far s ++ xs) (sym (said-comment line lines comment))
    | inr (says, more) ↦
        walk.far ∙ ap (λ xs. xs ++ said lines) more ∙ append_assoc (so_far s) (header_line line.1 ∷ []) (said lines)
        ∙ ap (λ xs. so_far s ++ xs) (sym (said-more line lines says))
  ];
  same = λ more. rw step (walk.same more);
}

-- a header that some lines begin leads to a stage
pub begins_walks : (s : Stage) → Wide s → (lines : Lines) (left : List HeaderLine) (v w f : ℕ) → 0 < w → 0 < length left
    → so_far s ++ (said lines ++ left) ≡ header_of v w f → (next : Stage) × Walks s lines next
begins_walks s wide [] left v w f some more e = (s, walks_none s wide)
begins_walks s wide (line ∷ lines) left v w f some more e =
    by (step_after s (header_line line.1)) refl
    (λ (next : Stage) (wider : Wide next) (whole : so_far next ++ (said lines ++ left) ≡ header_of v w f). begins_walks next wider lines left v w f some more whole)
  where
    by : (step : Option Step) → step_after s (header_line line.1) ≡ step
        → ((next : Stage) → Wide next → so_far next ++ (said lines ++ left) ≡ header_of v w f → (last : Stage) × Walks next lines last)
        → (last : Stage) × Walks s (line ∷ lines) last
    by None none later =
        let l = header_line line.1 in
        let whole : so_far s ++ l ∷ (said lines ++ left) ≡ header_of v w f = ap (λ xs. so_far s ++ (xs ++ left)) (sym (said-more line lines (none_says s l none))) ∙ e in
        absurd (leads_nowhere s l v w f (said lines ++ left) some none whole)
    by (Some (On next)) on later =
        let lead = leads s (header_line line.1) next wide on in
        let far : so_far next ++ (said lines ++ left) ≡ so_far s ++ (said (line ∷ lines) ++ left) = elim lead.far [
          | inl (comment, stays) ↦ ap (λ xs. xs ++ (said lines ++ left)) stays ∙ ap (λ xs. so_far s ++ (xs ++ left)) (sym (said-comment line lines comment))
          | inr (says, far) ↦
              ap (λ xs. xs ++ (said lines ++ left)) far ∙ append_assoc (so_far s) (header_line line.1 ∷ []) (said lines ++ left)
              ∙ ap (λ xs. so_far s ++ (xs ++ left)) (sym (said-more line lines says))
        ] in
        let rest = later next lead.wide (far ∙ e) in
        (rest.0, walks_more s line lines next rest.0 on lead rest.1)
    by (Some (Out h)) out later =
        let l = header_line line.1 in
        let leaves = leads_out s l h wide out in
        let says : is_comment l ≡ false = rw leaves.ends refl in
        let whole : so_far s ++ l ∷ (said lines ++ left) ≡ header_of v w f = ap (λ xs. so_far s ++ (xs ++ left)) (sym (said-more line lines says)) ∙ e in
        let at_end : so_far (Described h) ++ End ∷ (said lines ++ left) ≡ header_of v w f = rw (leaves.stage, leaves.ends) at whole in
        let none = (nothing_left h v w f (said lines ++ left) at_end).1 in
        absurd (omega (arith, length-append (said lines) left, ap length none))

-- what stands in the lines of a header and behind it, and what is answered
pub data HeaderCase (s : Stage) (lines : Lines) : Type 0 where
  whole_header : (front : Lines) (last : ℕ × List (List ℕ)) (rest : Lines) (h : Header) → lines ≡ front ++ last ∷ rest
      → Walks s front (Described h) → header_line last.1 ≡ End → 0 < h.width
      → header_answer s lines ≡ vertices_answer h h.vertices rest → HeaderCase s lines
  bad_header : (before : Lines) (line : ℕ × List (List ℕ)) (after : Lines) (stage : Stage) → lines ≡ before ++ line ∷ after
      → Walks s before stage → step_after stage (header_line line.1) ≡ None
      → header_answer s lines ≡ Err (fault_at line.0 BadHeader) → HeaderCase s lines
  short_header : (stage : Stage) → Walks s lines stage → header_answer s lines ≡ Err too_short → HeaderCase s lines

-- the same with a line more at the front
header_more : (s : Stage) (line : ℕ × List (List ℕ)) (lines : Lines) (next : Stage) → step_after s (header_line line.1) ≡ Some (On next)
    → Leads s (header_line line.1) next → HeaderCase next lines → HeaderCase s (line ∷ lines)
header_more s line lines next on lead (whole_header front last rest h parts walk ends some answer) =
    whole_header (line ∷ front) last rest h (ap (λ xs. line ∷ xs) parts) (walks_more s line front next (Described h) on lead walk) ends some (rw on answer)
header_more s line lines next on lead (bad_header before other after stage parts walk none answer) =
    bad_header (line ∷ before) other after stage (ap (λ xs. line ∷ xs) parts) (walks_more s line before next stage on lead walk) none (rw on answer)
header_more s line lines next on lead (short_header stage walk answer) =
    short_header stage (walks_more s line lines next stage on lead walk) (rw on answer)

-- each list of lines is one of these
pub header_cases : (s : Stage) → Wide s → (lines : Lines) → HeaderCase s lines
header_cases s wide [] = short_header s (walks_none s wide) refl
header_cases s wide (line ∷ lines) =
    by (step_after s (header_line line.1)) refl (λ (next : Stage) (wider : Wide next). header_cases next wider lines)
  where
    by : (step : Option Step) → step_after s (header_line line.1) ≡ step → ((next : Stage) → Wide next → HeaderCase next lines) → HeaderCase s (line ∷ lines)
    by None none later = bad_header [] line lines s refl (walks_none s wide) none (rw none refl)
    by (Some (On next)) on later =
        let lead = leads s (header_line line.1) next wide on in
        header_more s line lines next on lead (later next lead.wide)
    by (Some (Out h)) out later =
        let leaves = leads_out s (header_line line.1) h wide out in
        whole_header [] line lines h refl (rw (← leaves.stage) (walks_none s wide)) leaves.ends leaves.wide (rw out refl)
