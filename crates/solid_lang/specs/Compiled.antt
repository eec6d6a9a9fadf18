-- The clauses of a solid.
use Rattle.std.specs.Prelude.{ℕ, ◌+◌, pos, List, [], ◌∷◌, decimal}
use Rattle.fixed_ops.specs.declared.operation.Op.{Op}
use Rattle.fixed_ops.specs.declared.operation.Op.TheVariants.{X, Y, Z}
use Rattle.solid_model.specs.declared.clause.Clause.{Clause}
use Rattle.solid_lang.specs.declared.axes.Axes.{Axes}
use Rattle.solid_lang.specs.Solids.{SolidTree}
use Rattle.solid_lang.specs.declared.step.Step.{Step}
use Rattle.solid_lang.specs.Steps.{solid_steps}

-- the name of a clause: `_` and its place in decimal
abbrev pub place_name : ℕ → List ℕ
place_name place = 95 ∷ decimal place

-- a step as the clause at a place
abbrev pub clause_at : ℕ → Step → Clause
clause_at place step =
    record { name = place_name place; op = step.op; a = step.a; b = step.b; value = step.value }

-- steps as the clauses from a place on
abbrev pub clauses_at : ℕ → List Step → List Clause
clauses_at place [] = []
clauses_at place (step ∷ more) = clause_at place step ∷ clauses_at (place + 1) more

-- the coordinates of the point itself, and their places
abbrev pub coordinate : Op → Step
coordinate op = record { op = op; a = 0; b = 0; value = pos 0 }

abbrev pub coordinates : List Step
coordinates = coordinate X ∷ coordinate Y ∷ coordinate Z ∷ []

abbrev pub first_axes : Axes
first_axes = record { x = 0; y = 1; z = 2 }

-- the steps of a solid with those of the coordinates before them
abbrev pub all_steps : SolidTree → List Step
all_steps s = coordinate X ∷ coordinate Y ∷ coordinate Z ∷ solid_steps s 3 first_axes

-- the clauses of a solid
abbrev pub compiled : SolidTree → List Clause
compiled s = clauses_at 0 (all_steps s)
