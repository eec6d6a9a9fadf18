-- Steps as lines, in which each clause is named by its place.
use Rattle.std.specs.Prelude.{ℕ, ◌+◌, List, [], ◌∷◌, ◌++◌, take}
use Rattle.fixed_ops.specs.Arity.{arity_of}
use Rattle.fixed_ops.specs.NumberTexts.{number_text}
use Rattle.fixed_ops.specs.OpNames.{name_of}
use Rattle.clause_reader.specs.ModelText.{arguments_with, spaced}
use Rattle.solid_lang.specs.declared.step.Step.{Step}
use Rattle.solid_lang.specs.Compiled.{place_name}

-- the arguments of a step: the number of a constant, or else the names of its operands
abbrev pub step_arguments : Step → List (List ℕ)
step_arguments step =
    arguments_with step.op (number_text step.value)
    (take (arity_of step.op) (place_name step.a ∷ place_name step.b ∷ []))

-- the line of the step at a place
abbrev pub step_line : ℕ → Step → List ℕ
step_line place step = place_name place ++ spaced (name_of step.op ∷ step_arguments step) ++ 10 ∷ []

-- the lines of the steps that stand from a place on
abbrev pub step_lines : ℕ → List Step → List ℕ
step_lines place [] = []
step_lines place (step ∷ more) = step_line place step ++ step_lines (place + 1) more
