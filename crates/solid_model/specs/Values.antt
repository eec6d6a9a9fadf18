-- Plain values: what each clause of a list is at a point, with no clause left out.
use Rattle.std.specs.Prelude.{◌-◌, ℤ, pos, List, [], ◌∷◌, ◌++◌, length, fold, slice_index_or}
use Rattle.fixed_ops.specs.Points.{Point, step_value}
use Rattle.solid_model.specs.declared.clause.Clause.{Clause}

-- the value of a clause at a point, from the values of the clauses before it
abbrev pub clause_value : Point → List ℤ → Clause → ℤ
clause_value p earlier clause =
    step_value clause.op p clause.value
    (slice_index_or earlier clause.a (pos 0)) (slice_index_or earlier clause.b (pos 0))

-- the values of all clauses at a point, in their order
abbrev pub values : Point → List Clause → List ℤ
values p clauses = fold (λ earlier clause. earlier ++ clause_value p earlier clause ∷ []) [] clauses

-- the value of the last clause at a point, which is the solid's
abbrev pub solid_value : Point → List Clause → ℤ
solid_value p clauses = slice_index_or (values p clauses) (length clauses - 1) (pos 0)
