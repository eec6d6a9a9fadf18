-- Clauses that are named by their places.
use Rattle.std.specs.Prelude.{◌≡◌, ℕ, List, Some, slice_get}
use Rattle.solid_model.specs.declared.clause.Clause.{Clause}
use Rattle.solid_lang.specs.Compiled.{place_name}

abbrev pub AreNamedByPlaces : List Clause → Type 0
AreNamedByPlaces clauses = (k : ℕ) (clause : Clause) → slice_get clauses k ≡ Some clause
    → clause.name ≡ place_name k
