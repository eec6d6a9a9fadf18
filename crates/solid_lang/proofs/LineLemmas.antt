-- The lines of the steps of a solid are the text of its clauses.
use Rattle.std.proofs.Common.{◌≡◌, ℕ, zero, suc, ◌+◌, ◌<◌, ◌≤◌, List, [], ◌∷◌, ◌++◌, length, ap, ◌∙◌, refl, subst, arith}
use Rattle.std.specs.Prelude.{decimal}
use Rattle.std.specs.List.{flat_map}
use Rattle.std.proofs.lemmas.Fmt.{length-decimal-le}
use Rattle.fixed_ops.specs.declared.operation.Op.{Op}
use Rattle.fixed_ops.specs.declared.operation.Op.TheVariants.{X, Y, Z, Const, Neg, Square, Sqrt, Abs, Floor, Add, Sub, Mul, Div, Min, Max}
use Rattle.fixed_ops.specs.Arity.{arity_of}
use Rattle.fixed_ops.specs.OpNames.{name_of}
use Rattle.fixed_ops.specs.NumberTexts.{number_text}
use Rattle.solid_model.specs.declared.clause.Clause.{Clause}
use Rattle.solid_model.specs.Named.{name_at}
use Rattle.clause_reader.specs.ModelText.{arguments_with, clause_line, model_text, spaced}
use Rattle.solid_lang.specs.declared.step.Step.{Step}
use Rattle.solid_lang.specs.Compiled.{all_steps, clause_at, clauses_at, compiled, place_name}
use Rattle.solid_lang.specs.Placing.{Each, Fits}
use Rattle.solid_lang.specs.Solids.{SolidTree}
use Rattle.solid_lang.specs.StepLines.{step_line, step_lines}
use Rattle.solid_lang.proofs.EachStep.{each_later}
use Rattle.solid_lang.proofs.FitLemmas.{all_fit}
use Rattle.fixed_ops.proofs.Lists.{same_front}

-- a place has at most five digits
pub place_short : (n : ℕ) → n < 65535 → length (decimal n) ≤ 5
place_short n h = length-decimal-le 5 n (omega arith) (omega arith) (omega arith)

-- and the word of an operation at most six letters
pub word_short : (op : Op) → length (name_of op) ≤ 6
word_short X = omega arith
word_short Y = omega arith
word_short Z = omega arith
word_short Const = omega arith
word_short Neg = omega arith
word_short Square = omega arith
word_short Sqrt = omega arith
word_short Abs = omega arith
word_short Floor = omega arith
word_short Add = omega arith
word_short Sub = omega arith
word_short Mul = omega arith
word_short Div = omega arith
word_short Min = omega arith
word_short Max = omega arith

-- the names of the clauses from a place on
names_at : (n : ℕ) (steps : List Step) (k : ℕ) → k < length steps → name_at (clauses_at n steps) k ≡ place_name (n + k)
names_at n [] k less = absurd (omega (arith, less))
names_at n (x ∷ xs) zero less = let same : n ≡ n + 0 = omega arith in ap place_name same
names_at n (x ∷ xs) (suc k) less =
    let same : n + 1 + k ≡ n + suc k = omega arith in
    names_at (n + 1) xs k (omega (arith, less)) ∙ ap place_name same

-- the lines of clauses that are named by their places, among all of them
lines_are : (all : List Clause) (steps : List Step) (n : ℕ) → ((k : ℕ) → k < n + length steps → name_at all k ≡ place_name k) → Each Fits n steps
    → flat_map (clause_line all) (clauses_at n steps) ≡ step_lines n steps
lines_are all [] n named fit = refl
lines_are all (x ∷ xs) n named fit =
    let fits : Fits n x = subst (λ j. Fits j x) (omega arith) (fit 0 x refl) in
    let first : 0 < arity_of x.op → name_at all x.a ≡ place_name x.a = λ h. let less = fits.first h in named x.a (omega (arith, less)) in
    let second : 1 < arity_of x.op → name_at all x.b ≡ place_name x.b = λ h. let less = fits.second h in named x.b (omega (arith, less)) in
    let operands = same_front (arity_of x.op) (name_at all x.a) (name_at all x.b) (place_name x.a) (place_name x.b) first second in
    let line : clause_line all (clause_at n x) ≡ step_line n x =
    ap (λ names. place_name n ++ spaced (name_of x.op ∷ arguments_with x.op (number_text x.value) names) ++ 10 ∷ []) operands in
    let rest = lines_are all xs (n + 1) (λ k less. named k (omega (arith, less))) (each_later Fits n x xs fit) in
    ap (λ l. l ++ flat_map (clause_line all) (clauses_at (n + 1) xs)) line ∙ ap (λ l. step_line n x ++ l) rest

pub text_is_lines : (s : SolidTree) → model_text (compiled s) ≡ step_lines 0 (all_steps s)
text_is_lines s =
    lines_are (compiled s) (all_steps s) 0
    (λ k less. let same : 0 + k ≡ k = omega arith in names_at 0 (all_steps s) k (omega (arith, less)) ∙ ap place_name same)
    (all_fit s)
