-- Plain values with their slopes: what each clause is at a point, and how fast it changes there along each
-- axis, with no clause left out.
use Rattle.std.specs.Prelude.{◌-◌, List, [], ◌∷◌, ◌++◌, length, fold, slice_index_or}
use Rattle.fixed_ops.specs.Points.{Point}
use Rattle.fixed_ops.specs.Slopes.{Sloped, flat, step_sloped}
use Rattle.solid_model.specs.declared.clause.Clause.{Clause}

-- the value of a clause at a point with its slopes, from those of the clauses before it
abbrev pub clause_sloped : Point → List Sloped → Clause → Sloped
clause_sloped p earlier clause =
    step_sloped clause.op p clause.value
    (slice_index_or earlier clause.a flat) (slice_index_or earlier clause.b flat)

-- the values of all clauses with their slopes, in their order
abbrev pub sloped_values : Point → List Clause → List Sloped
sloped_values p clauses =
    fold (λ earlier clause. earlier ++ clause_sloped p earlier clause ∷ []) [] clauses

-- that of the last clause, which is the solid's
abbrev pub solid_sloped : Point → List Clause → Sloped
solid_sloped p clauses = slice_index_or (sloped_values p clauses) (length clauses - 1) flat
