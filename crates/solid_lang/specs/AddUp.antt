-- What two lists of steps give, one behind the other.
use Rattle.std.specs.Prelude.{◌≡◌, ℕ, ◌+◌, List, [], ◌∷◌, ◌++◌, length}
use Rattle.std.proofs.Common.{ap, sym, ◌∙◌, append_assoc, arith}
use Rattle.solid_model.specs.declared.clause.Clause.{Clause}
use Rattle.solid_lang.specs.declared.step.Step.{Step}
use Rattle.solid_lang.specs.Compiled.{clause_at, clauses_at}
use Rattle.solid_lang.specs.StepLines.{step_line, step_lines}

-- their lines
pub step_lines-append : (n m : ℕ) (xs ys : List Step) → n + length xs ≡ m
    → step_lines n (xs ++ ys) ≡ step_lines n xs ++ step_lines m ys
step_lines-append n m [] ys long =
    let same : n ≡ m = omega (arith, long) in ap (λ j. step_lines j ys) same
step_lines-append n m (x ∷ xs) ys long =
    let rest : n + 1 + length xs ≡ m = omega (arith, long) in
    ap (λ l. step_line n x ++ l) (step_lines-append (n + 1) m xs ys rest)
    ∙ sym (append_assoc (step_line n x) (step_lines (n + 1) xs) (step_lines m ys))

-- their clauses
pub clauses_at-append : (n m : ℕ) (xs ys : List Step) → n + length xs ≡ m
    → clauses_at n (xs ++ ys) ≡ clauses_at n xs ++ clauses_at m ys
clauses_at-append n m [] ys long =
    let same : n ≡ m = omega (arith, long) in ap (λ j. clauses_at j ys) same
clauses_at-append n m (x ∷ xs) ys long =
    let rest : n + 1 + length xs ≡ m = omega (arith, long) in
    ap (λ l. clause_at n x ∷ l) (clauses_at-append (n + 1) m xs ys rest)

-- what is put behind a list in two parts
parts_add_up : {A : Type 0} (a b c first second both : List A) → b ≡ a ++ first → c ≡ b ++ second
    → both ≡ first ++ second → c ≡ a ++ both
parts_add_up a b c first second both e1 e2 parts =
    e2 ∙ ap (λ l. l ++ second) e1 ∙ append_assoc a first second ∙ ap (λ l. a ++ l) (sym parts)

pub lines_add_up : (a b c : List ℕ) (n m : ℕ) (xs ys : List Step) → n + length xs ≡ m
    → b ≡ a ++ step_lines n xs → c ≡ b ++ step_lines m ys → c ≡ a ++ step_lines n (xs ++ ys)
lines_add_up a b c n m xs ys long first second =
    parts_add_up a b c (step_lines n xs) (step_lines m ys) (step_lines n (xs ++ ys)) first second
    (step_lines-append n m xs ys long)

pub clauses_add_up : (a b c : List Clause) (n m : ℕ) (xs ys : List Step) → n + length xs ≡ m
    → b ≡ a ++ clauses_at n xs → c ≡ b ++ clauses_at m ys → c ≡ a ++ clauses_at n (xs ++ ys)
clauses_add_up a b c n m xs ys long first second =
    parts_add_up a b c (clauses_at n xs) (clauses_at m ys) (clauses_at n (xs ++ ys)) first second
    (clauses_at-append n m xs ys long)
