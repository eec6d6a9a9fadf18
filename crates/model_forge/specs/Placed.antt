-- The clauses of a disc by the places of their operands, where the first of them stands at a place.
use Rattle.std.specs.Prelude.{ℕ, ◌+◌, ◌-◌, ◌==◌, ℤ, pos, List, [], ◌∷◌, ◌++◌, codes, decimal, get_or, if◌then◌else◌}
use Rattle.fixed_ops.specs.declared.operation.Op.{Op}
use Rattle.fixed_ops.specs.declared.operation.Op.TheVariants.{X, Y, Const, Neg, Square, Add, Sub, Min, Max}
use Rattle.solid_model.specs.declared.clause.Clause.{Clause}
use Rattle.model_forge.specs.declared.disc.Role.{Role}
use Rattle.model_forge.specs.declared.disc.Role.TheVariants.{Solid, Hole}

-- the clauses of both axes
abbrev pub axes_at : List Clause
axes_at =
    record { name = codes "x"; op = X; a = 0; b = 0; value = pos 0 }
    ∷ record { name = codes "y"; op = Y; a = 0; b = 0; value = pos 0 } ∷ []

-- a clause whose name is a letter and the number of a disc
abbrev pub clause_at : ℕ → ℕ → Op → ℕ → ℕ → ℤ → Clause
clause_at letter i op a b value =
    record { name = letter ∷ decimal i; op = op; a = a; b = b; value = value }

-- the middle along an axis, the way from it and the square of that, with these letters
abbrev pub square_at : ℕ → ℕ → List ℕ → ℕ → ℤ → List Clause
square_at at i letters axis middle =
    clause_at (get_or letters 0 0) i Const 0 0 middle
    ∷ clause_at (get_or letters 1 0) i Sub axis at (pos 0)
    ∷ clause_at (get_or letters 2 0) i Square (at + 1) 0 (pos 0) ∷ []

-- the square of the distance, from the squares of the ways, less that of the radius
abbrev pub edge_at : ℕ → ℕ → ℕ → ℕ → ℤ → List Clause
edge_at at i across up radius =
    clause_at 103 i Add across up (pos 0)
    ∷ clause_at 104 i Const 0 0 radius
    ∷ clause_at 107 i Square (at + 1) 0 (pos 0)
    ∷ clause_at 109 i Sub at (at + 2) (pos 0) ∷ []

-- a disc alone
abbrev pub circle_at : ℕ → ℕ → ℤ → ℤ → ℤ → List Clause
circle_at at i x y radius =
    square_at at i (codes "abc") 0 x
    ++ (square_at (at + 3) i (codes "def") 1 y
    ++ edge_at (at + 6) i (at + 2) (at + 5) radius)

-- how a disc joins the solid before it, from the places of both
abbrev pub joined_at : ℕ → ℕ → ℕ → Role → List Clause
joined_at before circle i Solid = clause_at 117 i Min before circle (pos 0) ∷ []
joined_at before circle i Hole =
    clause_at 110 i Neg circle 0 (pos 0)
    ∷ clause_at 117 i Max before (circle + 1) (pos 0) ∷ []

-- a disc and how it joins the solid before it, which is the last clause; nothing is before the first disc
abbrev pub disc_at : ℕ → ℕ → ℤ → ℤ → ℤ → Role → List Clause
disc_at at i x y radius role =
    circle_at at i x y radius ++ (if i == 0 then [] else joined_at (at - 1) (at + 9) i role)
