-- What hulls count.
use Rattle.std.specs.Prelude.{ℕ, ◌*◌, ◌≤◌, pos, int_le, ◌&&◌, if◌then◌else◌}
use Rattle.fixed_ops.specs.Counts.{Counts, RisesBy}
use Rattle.fixed_ops.specs.declared.operation.Op.{Op}
use Rattle.fixed_ops.specs.declared.operation.Op.TheVariants.{X, Y, Z, Const, Mul, Div}
use Rattle.interval_ops.specs.Spans.{Interval}

-- How many corners the hull of an operation over two spans takes: none for a coordinate or a
-- constant, four for a product, none for a quotient whose divisor may be 0, and otherwise two.
abbrev pub hull_corners : Op → Interval → Interval → ℕ
hull_corners X a b = 0
hull_corners Y a b = 0
hull_corners Z a b = 0
hull_corners Const a b = 0
hull_corners Mul a b = 4
hull_corners Div a b = if int_le (pos 0) b.hi && int_le b.lo (pos 0) then 0 else 2
hull_corners op a b = 2

-- so many hulls and so many corners, and no evaluation at a point
abbrev pub hulls_of : ℕ → ℕ → Counts
hulls_of n corners = record { points = 0; spans = n; corners = corners }

-- n hulls are counted, at most four corners for each, and no evaluation at a point
pub record CountsHulls (n : ℕ) (before after : Counts) : Type 0 where
  pub corners : ℕ
  pub few : corners ≤ 4 * n
  pub rises : RisesBy before after (hulls_of n corners)
