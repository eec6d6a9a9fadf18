-- Reading answers what the relations between clause lines and clauses say.
use Rattle.std.proofs.Common.{◌≡◌, ◌≢◌, ◌↔◌, ℕ, zero, suc, ◌+◌, ◌<◌, Bool, true, false, cond, not, eqb, nat_le, is_some, List, [], ◌∷◌, ◌++◌, length, take, drop, ◌⊎◌, inl, inr, Option, None, Some, Result, Ok, Err, slice_get, refl, ap, sym, subst, ◌∙◌, arith, append_assoc, append-nil}
use Rattle.std.specs.List.{list_any}
use Rattle.std.proofs.lemmas.List.{drop_all}
use Rattle.fixed_ops.specs.declared.operation.Op.{Op}
use Rattle.solid_model.specs.declared.clause.Clause.{Clause}
use Rattle.solid_model.specs.Clauses.{place_of}
use Rattle.clause_reader.specs.declared.comments.Comments.TheVariants.{Skipped}
use Rattle.clause_reader.specs.declared.text_fault.TextFault.{TextFault}
use Rattle.clause_reader.specs.declared.text_reason.TextReason.{TextReason}
use Rattle.clause_reader.specs.declared.text_reason.TextReason.TheVariants.{Empty, NoMemory}
use Rattle.clause_reader.specs.Forms.{operation_of, takes, operands, numerals, is_no_numeral}
use Rattle.clause_reader.specs.Lines.{lines_of, tokens_of, is_clause}
use Rattle.clause_reader.specs.Reading.{on_result, clause_of, clauses_with, has_unknown, lines_read, unless_empty, text_read}
use Rattle.clause_reader.specs.NumberedLines.{given_from}
use Rattle.clause_reader.specs.Says.{clause_lines, AreSaid, Reads, Refuses}

-- what a clause line says is one clause, at the end
pub clauses_with-one : (clauses : List Clause) (tokens : List (List ℕ)) (new : List Clause) → clauses_with clauses tokens ≡ Ok new
    → (clause : Clause) × (new ≡ clauses ++ clause ∷ [])
clauses_with-one clauses [] new e = (cc)
clauses_with-one clauses (name ∷ []) new e = (cc)
clauses_with-one clauses (name ∷ word ∷ args) new e = by_operation (operation_of word) refl
  where
    by_tests : (op : Op) (arity number unknown double full : Bool) → operation_of word ≡ Some op → not (eqb (length args) (takes op)) ≡ arity
        → list_any is_no_numeral (numerals op args) ≡ number → has_unknown clauses (operands op args) ≡ unknown
        → is_some (place_of clauses name) ≡ double → nat_le 65535 (length clauses) ≡ full → (clause : Clause) × (new ≡ clauses ++ clause ∷ [])
    by_tests op true number unknown double full o a n u d f = let got = rw (o, a) at e in (cc)
    by_tests op false true unknown double full o a n u d f = let got = rw (o, a, n) at e in (cc)
    by_tests op false false true double full o a n u d f = let got = rw (o, a, n, u) at e in (cc)
    by_tests op false false false true full o a n u d f = let got = rw (o, a, n, u, d) at e in (cc)
    by_tests op false false false false true o a n u d f = let got = rw (o, a, n, u, d, f) at e in (cc)
    by_tests op false false false false false o a n u d f = let got = rw (o, a, n, u, d, f) at e in (clause_of clauses name op args, cc)

    by_operation : (o : Option Op) → operation_of word ≡ o → (clause : Clause) × (new ≡ clauses ++ clause ∷ [])
    by_operation None is = let got = rw is at e in (cc)
    by_operation (Some op) is = by_tests op _ _ _ _ _ is refl refl refl refl refl

-- the clauses that clause lines say after these, or the first line that is refused
abbrev pub said : List Clause → List (ℕ × List (List ℕ)) → Result (List Clause) TextFault
said clauses [] = Ok clauses
said clauses (line ∷ lines) =
    on_result (clauses_with clauses line.1) (λ new. said new lines) (λ reason. Err (record { line = line.0; reason = reason }))

-- lines that say no clause change nothing
pub lines_read-said : (lines : List (List ℕ)) (clauses : List Clause) (number : ℕ)
    → lines_read clauses number lines ≡ said clauses (given_from Skipped number lines)
lines_read-said [] clauses number = refl
lines_read-said (line ∷ lines) clauses number =
    by (is_clause (tokens_of line)) (clauses_with clauses (tokens_of line)) refl (λ new. lines_read-said lines new (number + 1))
  where
    by : (b : Bool) (r : Result (List Clause) TextReason) → clauses_with clauses (tokens_of line) ≡ r
        → ((new : List Clause) → lines_read new (number + 1) lines ≡ said new (given_from Skipped (number + 1) lines))
        → on_result (cond b (clauses_with clauses (tokens_of line)) (Ok clauses)) (λ new. lines_read new (number + 1) lines) (λ reason. Err (record { line = number; reason = reason }))
        ≡ said clauses (cond b ((number, tokens_of line) ∷ given_from Skipped (number + 1) lines) (given_from Skipped (number + 1) lines))
    by true (Err reason) is later = rw is refl
    by true (Ok new) is later = rw is (later new)
    by false r is later = later clauses

pub text_read-said : (text : List ℕ) → text_read text ≡ unless_empty (said [] (clause_lines text))
text_read-said text = ap unless_empty (lines_read-said (lines_of text) [] 1)

-- the new clause at place k is what the line at place k says after the clauses before it
record IsNext (before : List Clause) (lines : List (ℕ × List (List ℕ))) (new : List Clause) (k : ℕ) : Type 0 where
  number : ℕ
  tokens : List (List ℕ)
  line : slice_get lines k ≡ Some (number, tokens)
  says : clauses_with (before ++ take k new) tokens ≡ Ok (before ++ take (k + 1) new)

-- the new clauses are what the first of the lines say, after the clauses before them
abbrev Follow : List Clause → List (ℕ × List (List ℕ)) → List Clause → Type 0
Follow before lines new = (k : ℕ) → k < length new → IsNext before lines new k

-- one more clause and its line, in front
Follow-more : (before : List Clause) (line : ℕ × List (List ℕ)) (lines : List (ℕ × List (List ℕ))) (clause : Clause) (new : List Clause)
    → clauses_with before line.1 ≡ Ok (before ++ clause ∷ []) → Follow (before ++ clause ∷ []) lines new → Follow before (line ∷ lines) (clause ∷ new)
Follow-more before line lines clause new first later zero h =
    record { number = line.0; tokens = line.1; line = refl; says = rw append-nil first }
Follow-more before line lines clause new first later (suc k) h =
    let next = later k (omega arith) in
    let more : suc k + 1 ≡ suc (k + 1) = omega arith in
    record { number = next.number; tokens = next.tokens; line = next.line; says = rw more (simp append_assoc at next.says) }

-- without the first clause and its line
Follow-less : (before : List Clause) (line : ℕ × List (List ℕ)) (lines : List (ℕ × List (List ℕ))) (clause : Clause) (new : List Clause)
    → Follow before (line ∷ lines) (clause ∷ new) → Follow (before ++ clause ∷ []) lines new
Follow-less before line lines clause new all k h =
    let next = all (suc k) (omega arith) in
    let more : suc k + 1 ≡ suc (k + 1) = omega arith in
    let says = rw more at next.says in
    record { number = next.number; tokens = next.tokens; line = next.line; says = simp append_assoc says }

-- the first of the new clauses is what the first line says
Follow-first : (before : List Clause) (line : ℕ × List (List ℕ)) (lines : List (ℕ × List (List ℕ))) (clause : Clause) (new : List Clause)
    → Follow before (line ∷ lines) (clause ∷ new) → clauses_with before line.1 ≡ Ok (before ++ clause ∷ [])
Follow-first before line lines clause new all =
    let first = all 0 (omega arith) in
    let same : line ≡ (first.number, first.tokens) = cc in
    let tokens : line.1 ≡ first.tokens = ap (λ l. l.1) same in
    rw tokens (rw append-nil at first.says)

-- the clauses are those before, and new ones that all lines say
record Stands (before : List Clause) (lines : List (ℕ × List (List ℕ))) (clauses : List Clause) : Type 0 where
  new : List Clause
  is : clauses ≡ before ++ new
  as_many : length new ≡ length lines
  follow : Follow before lines new

Stands-said : (lines : List (ℕ × List (List ℕ))) (before clauses : List Clause) → said before lines ≡ Ok clauses → Stands before lines clauses
Stands-said [] before clauses e =
    record { new = []; is = rw append-nil (cc); as_many = refl; follow = λ k h. absurd (omega arith) }
Stands-said (line ∷ lines) before clauses e = by (clauses_with before line.1) refl (λ next. Stands-said lines next clauses)
  where
    by : (r : Result (List Clause) TextReason) → clauses_with before line.1 ≡ r → ((next : List Clause) → said next lines ≡ Ok clauses → Stands next lines clauses)
        → Stands before (line ∷ lines) clauses
    by (Err reason) is later = let got = rw is at e in (cc)
    by (Ok next) is later =
        let one = clauses_with-one before line.1 next is in
        let rest = later next (rw is at e) in
        record {
          new = one.0 ∷ rest.new;
          is = rest.is ∙ ap (λ xs. xs ++ rest.new) one.1 ∙ append_assoc before (one.0 ∷ []) rest.new;
          as_many = ap suc rest.as_many;
          follow = Follow-more before line lines one.0 rest.new (is ∙ ap Ok one.1) (subst (λ xs. Follow xs lines rest.new) one.1 rest.follow);
        }

-- the line of this number is refused for this reason, after the new clauses that the lines before it say
record Stops (before : List Clause) (lines : List (ℕ × List (List ℕ))) (fault : TextFault) : Type 0 where
  new : List Clause
  follow : Follow before lines new
  tokens : List (List ℕ)
  next : slice_get lines (length new) ≡ Some (fault.line, tokens)
  defect : clauses_with (before ++ new) tokens ≡ Err fault.reason

Stops-said : (lines : List (ℕ × List (List ℕ))) (before : List Clause) (fault : TextFault) → said before lines ≡ Err fault → Stops before lines fault
Stops-said [] before fault e = (cc)
Stops-said (line ∷ lines) before fault e = by (clauses_with before line.1) refl (λ next. Stops-said lines next fault)
  where
    by : (r : Result (List Clause) TextReason) → clauses_with before line.1 ≡ r → ((next : List Clause) → said next lines ≡ Err fault → Stops next lines fault)
        → Stops before (line ∷ lines) fault
    by (Err reason) is later =
        let got = rw is at e in
        let same : record { line = line.0; reason = reason } ≡ fault = cc in
        record {
          new = [];
          follow = λ k h. absurd (omega arith);
          tokens = line.1;
          next = ap (λ (f : TextFault). Some (f.line, line.1)) same;
          defect = rw append-nil (is ∙ ap (λ (f : TextFault). Err f.reason) same);
        }
    by (Ok next) is later =
        let one = clauses_with-one before line.1 next is in
        let rest = later next (rw is at e) in
        let joined : (before ++ one.0 ∷ []) ++ rest.new ≡ before ++ one.0 ∷ rest.new = append_assoc before (one.0 ∷ []) rest.new in
        record {
          new = one.0 ∷ rest.new;
          follow = Follow-more before line lines one.0 rest.new (is ∙ ap Ok one.1) (subst (λ xs. Follow xs lines rest.new) one.1 rest.follow);
          tokens = rest.tokens;
          next = rest.next;
          defect = subst (λ xs. clauses_with xs rest.tokens ≡ Err fault.reason) (ap (λ xs. xs ++ rest.new) one.1 ∙ joined) rest.defect;
        }

-- clauses that the first lines say are there when the other lines are read
said-follow : (new : List Clause) (lines : List (ℕ × List (List ℕ))) (before : List Clause) → Follow before lines new
    → said before lines ≡ said (before ++ new) (drop (length new) lines)
said-follow [] lines before all = rw append-nil refl
said-follow (clause ∷ new) [] before all = let first = all 0 (omega arith) in absurd (cc (first.line))
said-follow (clause ∷ new) (line ∷ lines) before all =
    let first = Follow-first before line lines clause new all in
    let later = said-follow new lines (before ++ clause ∷ []) (Follow-less before line lines clause new all) in
    rw first (later ∙ ap (λ xs. said xs (drop (length new) lines)) (append_assoc before (clause ∷ []) new))

-- a list from a place on begins with what stands there
drop_at : {A : Type 0} (xs : List A) (k : ℕ) (x : A) → slice_get xs k ≡ Some x → drop k xs ≡ x ∷ drop (suc k) xs
drop_at [] k x e = (cc)
drop_at (y ∷ ys) zero x e = (cc)
drop_at (y ∷ ys) (suc k) x e = drop_at ys k x e

-- clauses that follow no others are what the lines say
AreSaid-Follow : (lines : List (ℕ × List (List ℕ))) (clauses : List Clause) → Follow [] lines clauses → AreSaid lines clauses
AreSaid-Follow lines clauses all k h =
    let next = all k h in record { number = next.number; tokens = next.tokens; line = next.line; says = next.says }

Follow-AreSaid : (lines : List (ℕ × List (List ℕ))) (clauses : List Clause) → AreSaid lines clauses → Follow [] lines clauses
Follow-AreSaid lines clauses all k h =
    let at = all k h in record { number = at.number; tokens = at.tokens; line = at.line; says = at.says }

Reads-said : (text : List ℕ) (clauses : List Clause) → 0 < length clauses → said [] (clause_lines text) ≡ Ok clauses → Reads text clauses
Reads-said text clauses some e =
    let all = Stands-said (clause_lines text) [] clauses e in
    record {
      some = some;
      as_many = ap length all.is ∙ all.as_many;
      said = AreSaid-Follow (clause_lines text) clauses (subst (λ xs. Follow [] (clause_lines text) xs) (sym all.is) all.follow);
    }

Reads-text_read : (text : List ℕ) (clauses : List Clause) → text_read text ≡ Ok clauses → Reads text clauses
Reads-text_read text clauses e = by (said [] (clause_lines text)) refl (sym (text_read-said text) ∙ e)
  where
    by : (r : Result (List Clause) TextFault) → said [] (clause_lines text) ≡ r → unless_empty (said [] (clause_lines text)) ≡ Ok clauses → Reads text clauses
    by (Ok []) is got = let same = rw is at got in (cc)
    by (Ok (clause ∷ others)) is got =
        let same = rw is at got in
        let here : clause ∷ others ≡ clauses = cc in
        subst (λ xs. Reads text xs) here (Reads-said text (clause ∷ others) (omega arith) is)
    by (Err line) is got = let same = rw is at got in (cc)

text_read-Reads : (text : List ℕ) (clauses : List Clause) → Reads text clauses → text_read text ≡ Ok clauses
text_read-Reads text clauses r =
    let all = said-follow clauses (clause_lines text) [] (Follow-AreSaid (clause_lines text) clauses r.said) in
    let none : drop (length clauses) (clause_lines text) ≡ [] = drop_all (length clauses) (clause_lines text) (omega (arith, r.as_many)) in
    text_read-said text ∙ ap unless_empty (all ∙ ap (said clauses) none) ∙ by clauses r.some
  where
    by : (xs : List Clause) → 0 < length xs → unless_empty (Ok xs) ≡ Ok xs
    by [] h = absurd (omega arith)
    by (x ∷ xs) h = refl

Refuses-text_read : (text : List ℕ) (fault : TextFault) → text_read text ≡ Err fault → Refuses text fault.line fault.reason
Refuses-text_read text fault e = by (said [] (clause_lines text)) refl (sym (text_read-said text) ∙ e)
  where
    none : (lines : List (ℕ × List (List ℕ))) → length lines ≡ 0 → lines ≡ []
    none [] h = refl
    none (x ∷ xs) h = absurd (omega arith)

    by : (r : Result (List Clause) TextFault) → said [] (clause_lines text) ≡ r → unless_empty (said [] (clause_lines text)) ≡ Err fault → Refuses text fault.line fault.reason
    by (Ok []) is got =
        let same = rw is at got in
        let all = Stands-said (clause_lines text) [] [] is in
        let is_fault : record { line = 0; reason = Empty } ≡ fault = cc in
        inl (record {
          none = none (clause_lines text) (sym all.as_many ∙ sym (ap length all.is));
          zero = sym (ap (λ (f : TextFault). f.line) is_fault);
          empty = sym (ap (λ (f : TextFault). f.reason) is_fault);
        })
    by (Ok (clause ∷ others)) is got = let same = rw is at got in (cc)
    by (Err other) is got =
        let same = rw is at got in
        let here : other ≡ fault = cc in
        let stop = Stops-said (clause_lines text) [] fault (is ∙ ap Err here) in
        inr (record {
          before = stop.new;
          said = AreSaid-Follow (clause_lines text) stop.new stop.follow;
          tokens = stop.tokens;
          next = stop.next;
          defect = stop.defect;
        })

-- a fault is its line and its reason
fault-is : (fault : TextFault) (line : ℕ) (reason : TextReason) → fault.line ≡ line → fault.reason ≡ reason → record { line = line; reason = reason } ≡ fault
fault-is fault line reason l r =
    sym (ap (λ (n : ℕ). record { line = n; reason = fault.reason }) l ∙ ap (λ (r : TextReason). record { line = line; reason = r }) r)

text_read-Refuses : (text : List ℕ) (fault : TextFault) → Refuses text fault.line fault.reason → text_read text ≡ Err fault
text_read-Refuses text fault (inl r) =
    text_read-said text ∙ ap (λ lines. unless_empty (said [] lines)) r.none ∙ ap Err (fault-is fault 0 Empty r.zero r.empty)
text_read-Refuses text fault (inr r) =
    let all = said-follow r.before (clause_lines text) [] (Follow-AreSaid (clause_lines text) r.before r.said) in
    let rest = drop_at (clause_lines text) (length r.before) (fault.line, r.tokens) r.next in
    let defect : said r.before ((fault.line, r.tokens) ∷ drop (suc (length r.before)) (clause_lines text)) ≡ Err fault = rw r.defect refl in
    text_read-said text ∙ ap unless_empty (all ∙ ap (said r.before) rest ∙ defect)

pub reads_exactly : (text : List ℕ) (clauses : List Clause) → (text_read text ≡ Ok clauses) ↔ Reads text clauses
reads_exactly text clauses = (Reads-text_read text clauses, text_read-Reads text clauses)

pub refuses_exactly : (text : List ℕ) (fault : TextFault) → (text_read text ≡ Err fault) ↔ Refuses text fault.line fault.reason
refuses_exactly text fault = (Refuses-text_read text fault, text_read-Refuses text fault)

pub each_answered : (text : List ℕ) → ((clauses : List Clause) × Reads text clauses) ⊎ ((fault : TextFault) × Refuses text fault.line fault.reason)
each_answered text = by (text_read text) refl
  where
    by : (r : Result (List Clause) TextFault) → text_read text ≡ r → ((clauses : List Clause) × Reads text clauses) ⊎ ((fault : TextFault) × Refuses text fault.line fault.reason)
    by (Ok clauses) is = inl (clauses, Reads-text_read text clauses is)
    by (Err fault) is = inr (fault, Refuses-text_read text fault is)

pub never_both : (text : List ℕ) (clauses : List Clause) (fault : TextFault) → Reads text clauses → Refuses text fault.line fault.reason → ⊥
never_both text clauses fault reads refuses =
    let read = text_read-Reads text clauses reads in let refused = text_read-Refuses text fault refuses in cc

pub one_reading : (text : List ℕ) (a b : List Clause) → Reads text a → Reads text b → a ≡ b
one_reading text a b reads_a reads_b =
    let read_a = text_read-Reads text a reads_a in let read_b = text_read-Reads text b reads_b in cc

pub one_refusal : (text : List ℕ) (a b : TextFault) → Refuses text a.line a.reason → Refuses text b.line b.reason → a ≡ b
one_refusal text a b refuses_a refuses_b =
    let refused_a = text_read-Refuses text a refuses_a in let refused_b = text_read-Refuses text b refuses_b in cc

-- no clause line is refused for want of memory
pub clauses_with-reason : (clauses : List Clause) (tokens : List (List ℕ)) (reason : TextReason) → clauses_with clauses tokens ≡ Err reason → reason ≢ NoMemory
clauses_with-reason clauses [] reason e = λ h. (cc)
clauses_with-reason clauses (name ∷ []) reason e = λ h. (cc)
clauses_with-reason clauses (name ∷ word ∷ args) reason e = by_operation (operation_of word) refl
  where
    by_tests : (op : Op) (arity number unknown double full : Bool) → operation_of word ≡ Some op → not (eqb (length args) (takes op)) ≡ arity
        → list_any is_no_numeral (numerals op args) ≡ number → has_unknown clauses (operands op args) ≡ unknown
        → is_some (place_of clauses name) ≡ double → nat_le 65535 (length clauses) ≡ full → reason ≢ NoMemory
    by_tests op true number unknown double full o a n u d f = let got = rw (o, a) at e in λ h. (cc)
    by_tests op false true unknown double full o a n u d f = let got = rw (o, a, n) at e in λ h. (cc)
    by_tests op false false true double full o a n u d f = let got = rw (o, a, n, u) at e in λ h. (cc)
    by_tests op false false false true full o a n u d f = let got = rw (o, a, n, u, d) at e in λ h. (cc)
    by_tests op false false false false true o a n u d f = let got = rw (o, a, n, u, d, f) at e in λ h. (cc)
    by_tests op false false false false false o a n u d f = let got = rw (o, a, n, u, d, f) at e in λ h. (cc)

    by_operation : (o : Option Op) → operation_of word ≡ o → reason ≢ NoMemory
    by_operation None is = let got = rw is at e in λ h. (cc)
    by_operation (Some op) is = by_tests op _ _ _ _ _ is refl refl refl refl refl

pub never_memory : (text : List ℕ) (line : ℕ) (reason : TextReason) → Refuses text line reason → reason ≢ NoMemory
never_memory text line reason (inl r) = λ h. let empty = r.empty in (cc)
never_memory text line reason (inr r) = clauses_with-reason r.before r.tokens reason r.defect
