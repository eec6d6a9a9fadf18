-- Clauses by the names of their operands, and how names become places.
use Rattle.std.specs.Prelude.{ℕ, List, [], ◌∷◌, map, take, slice_get, slice_index_or}
use Rattle.std.specs.List.{position_or_len}
use Rattle.std.specs.Option.{option_map_or}
use Rattle.std.specs.Str.{bytes_eq}
use Rattle.fixed_ops.specs.Arity.{arity_of}
use Rattle.solid_model.specs.declared.clause.Clause.{Clause}
use Rattle.solid_model.specs.Clauses.{names_of}
use Rattle.solid_model.specs.Parts.{Parts}

-- a clause by names: what it is called, and its form
pub record Named : Type 0 where
  pub name : List ℕ
  pub form : Parts

-- the name of the clause at a place
abbrev pub name_at : List Clause → ℕ → List ℕ
name_at clauses place = slice_index_or (names_of clauses) place []

-- the names of the operands that a clause has
abbrev pub operand_names : List Clause → Clause → List (List ℕ)
operand_names clauses c = take (arity_of c.op) (name_at clauses c.a ∷ name_at clauses c.b ∷ [])

-- a clause among others, by names
abbrev pub by_name : List Clause → Clause → Named
by_name clauses c = record {
  name = c.name;
  form = record {
    op = c.op;
    args = operand_names clauses c;
    value = c.value;
  };
}

-- clauses by names
abbrev pub named_of : List Clause → List Named
named_of clauses = map (λ c. by_name clauses c) clauses

-- the place of the k-th operand of a form among named clauses, or 0 where the form has none
abbrev pub operand_place : List Named → Parts → ℕ → ℕ
operand_place named form k =
    option_map_or (λ arg. position_or_len (λ c. bytes_eq arg c.name) named) (slice_get form.args k) 0

-- a named clause among others, by places
abbrev pub by_place : List Named → Named → Clause
by_place named c = record {
  name = c.name;
  op = c.form.op;
  a = operand_place named c.form 0;
  b = operand_place named c.form 1;
  value = c.form.value;
}

-- named clauses by places
abbrev pub placed : List Named → List Clause
placed named = map (λ c. by_place named c) named
