-- Where a solid is decided by the span of its value.
use Rattle.std.specs.Prelude.{Bool, true, false, if◌then◌else◌, Option, Some, None}
use Rattle.fixed_ops.specs.Raw.{is_inside}
use Rattle.interval_ops.specs.Spans.{Interval}

-- inside where the upper end is below 0, outside where the lower end is 0 or more, and undecided
-- elsewhere
abbrev pub decided_of : Interval → Option Bool
decided_of s = if is_inside s.hi then Some true else (if is_inside s.lo then None else Some false)
