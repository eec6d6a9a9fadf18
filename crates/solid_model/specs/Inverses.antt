-- The edit that takes an edit back.
use Rattle.std.specs.Prelude.{ℕ, ◌+◌, pos, List, [], Option, Some, None, slice_get, slice_index_or}
use Rattle.fixed_ops.specs.declared.operation.Op.TheVariants.{X}
use Rattle.solid_model.specs.declared.clause.Clause.{Clause}
use Rattle.solid_model.specs.declared.edit.Edit.{Edit}
use Rattle.solid_model.specs.declared.edit.Edit.TheVariants.{Set, Add, Put, Cut}
use Rattle.solid_model.specs.Edits.{place_among}
use Rattle.solid_model.specs.Named.{Named, named_of}
use Rattle.solid_model.specs.Parts.{Parts}

-- what stands where no clause does
abbrev pub no_clause : Named
no_clause = record { name = []; form = record { op = X; args = []; value = pos 0 } }

-- the form that the clause of this name has
abbrev pub form_under : List Named → List ℕ → Parts
form_under clauses name = (slice_index_or clauses (place_among clauses name) no_clause).form

-- the clause behind that of this name, if there is one
abbrev pub behind : List Named → List ℕ → Option Named
behind clauses name = slice_get clauses (place_among clauses name + 1)

-- a clause of this name and form goes directly before another, or last
abbrev pub put_before : Option Named → List ℕ → Parts → Edit
put_before None name form = Add name form
put_before (Some next) name form = Put next.name name form

-- The edit that takes an edit back, by the clauses before it: the clause gets the form again that it had,
-- a new clause is taken out, and one that was taken out goes before the clause that stood behind it, or
-- last.
abbrev pub inverse_among : List Named → Edit → Edit
inverse_among clauses (Set name form) = Set name (form_under clauses name)
inverse_among clauses (Add name form) = Cut name
inverse_among clauses (Put next name form) = Cut name
inverse_among clauses (Cut name) = put_before (behind clauses name) name (form_under clauses name)

abbrev pub inverse_of : List Clause → Edit → Edit
inverse_of clauses edit = inverse_among (named_of clauses) edit
