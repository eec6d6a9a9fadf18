-- Steps as a list keeps them: with places of 16 bits, and the numbers of constants in a table.
use Rattle.std.specs.Prelude.{ℕ, ◌^◌, ℤ, pos, Bool, true, false, if◌then◌else◌, List, slice_index_or}
use Rattle.fixed_ops.specs.declared.operation.Op.{Op}
use Rattle.fixed_ops.specs.declared.operation.Op.TheVariants.{Const}
use Rattle.live_clauses.specs.declared.packed_step.PackedStep.{PackedStep}
use Rattle.live_clauses.specs.declared.step.Step.{Step}

-- whether an operation is a constant
abbrev pub is_constant : Op → Bool
is_constant Const = true
is_constant _ = false

-- the number at a place of a table, which past the end is no raw number
abbrev pub number_in : List ℤ → ℕ → ℤ
number_in constants place = slice_index_or constants place (pos (2 ^ 62))

-- the place of the first operand, or 0 where there is none
abbrev pub first_of : PackedStep → ℕ
first_of kept = if is_constant kept.op then 0 else kept.a

-- The step that is kept. A constant keeps the place of its number in the table, and a list can be
-- evaluated only where each such place is within the table: past its end is no raw number.
abbrev pub unpacked : List ℤ → PackedStep → Step
unpacked constants kept = record {
  op = kept.op;
  a = first_of kept;
  b = kept.b;
  value = (if is_constant kept.op then number_in constants kept.a else pos 0);
}
