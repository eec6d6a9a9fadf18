-- Which operand of a minimum or a maximum is the result all over two spans.
use Rattle.std.specs.Prelude.{int_le, int_lt, if◌then◌else◌}
use Rattle.fixed_ops.specs.declared.operation.Op.{Op}
use Rattle.fixed_ops.specs.declared.operation.Op.TheVariants.{Min, Max}
use Rattle.interval_ops.specs.Spans.{Interval}
use Rattle.interval_ops.specs.declared.choice.Choice.{Choice}
use Rattle.interval_ops.specs.declared.choice.Choice.TheVariants.{Left, Right, Both}

-- The choice of an operation over the spans of its operands. Where two ends are equal it is the
-- left operand.
abbrev pub choice_of : Op → Interval → Interval → Choice
choice_of Min a b = if int_le a.hi b.lo then Left else (if int_lt b.hi a.lo then Right else Both)
choice_of Max a b = if int_le b.hi a.lo then Left else (if int_lt a.hi b.lo then Right else Both)
choice_of op a b = Both
