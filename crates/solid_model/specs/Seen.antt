-- A clause as a model shows it, and as its name and the rest of it.
use Rattle.std.specs.Prelude.{ℕ, List}
use Rattle.solid_model.specs.declared.clause.Clause.{Clause}
use Rattle.solid_model.specs.declared.clause_ref.ClauseRef.{ClauseRef}
use Rattle.solid_model.specs.declared.placed_form.PlacedForm.{PlacedForm}

abbrev pub clause_seen : ClauseRef → Clause
clause_seen c = record { name = c.name.now; op = c.op; a = c.a; b = c.b; value = c.value }

-- the clause of this name that says this
abbrev pub named_clause : List ℕ → PlacedForm → Clause
named_clause name form = record { name = name; op = form.op; a = form.a; b = form.b; value = form.value }

-- what a clause says beside its name
abbrev pub placed_form : Clause → PlacedForm
placed_form c = record { op = c.op; a = c.a; b = c.b; value = c.value }
