-- How a model is written: a line for each clause.
use Rattle.std.specs.Prelude.{ℕ, List, [], ◌∷◌, ◌++◌}
use Rattle.std.specs.List.{flat_map}
use Rattle.fixed_ops.specs.declared.operation.Op.{Op}
use Rattle.fixed_ops.specs.declared.operation.Op.TheVariants.{Const}
use Rattle.fixed_ops.specs.NumberTexts.{number_text}
use Rattle.fixed_ops.specs.OpNames.{name_of}
use Rattle.solid_model.specs.declared.clause.Clause.{Clause}
use Rattle.solid_model.specs.Named.{operand_names}

-- what stands after an operation: the number of a constant, or else the names of the operands
abbrev pub arguments_with : Op → List ℕ → List (List ℕ) → List (List ℕ)
arguments_with Const number names = number ∷ []
arguments_with op number names = names

-- the arguments of a clause
abbrev pub arguments : List Clause → Clause → List (List ℕ)
arguments clauses clause =
    arguments_with clause.op (number_text clause.value) (operand_names clauses clause)

-- each token after a space
abbrev pub spaced : List (List ℕ) → List ℕ
spaced tokens = flat_map (λ token. 32 ∷ token) tokens

-- the line of a clause: its name, then its operation and its arguments, each after a space, and a
-- line feed
abbrev pub clause_line : List Clause → Clause → List ℕ
clause_line clauses clause =
    clause.name ++ spaced (name_of clause.op ∷ arguments clauses clause) ++ 10 ∷ []

-- the lines of the clauses, one after the other
abbrev pub model_text : List Clause → List ℕ
model_text clauses = flat_map (clause_line clauses) clauses
