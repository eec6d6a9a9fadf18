-- Points that a list is evaluated at side by side, each in its lane of rows of numbers.
use Rattle.std.specs.Prelude.{ℕ, ℤ, pos, List, [], slice_index_or}
use Rattle.fixed_ops.specs.Points.{Point, step_value}
use Rattle.live_clauses.specs.declared.step.Step.{Step}
use Rattle.choice_trace.specs.declared.inputs.Inputs.{Inputs}

-- the number in a lane of a row
abbrev pub in_lane : ℕ → List ℤ → ℤ
in_lane lane row = slice_index_or row lane (pos 0)

-- the point in a lane
abbrev pub point_in : ℕ → Inputs (List ℤ) → Point
point_in lane inputs = record {
  x = in_lane lane inputs.x;
  y = in_lane lane inputs.y;
  z = in_lane lane inputs.z;
}

-- the number in a lane of the row at a place
abbrev pub number_at : ℕ → List (List ℤ) → ℕ → ℤ
number_at lane rows place = in_lane lane (slice_index_or rows place [])

-- the value of a step at the point in a lane, from the numbers in that lane of earlier rows
abbrev pub lane_value : ℕ → Inputs (List ℤ) → List (List ℤ) → Step → ℤ
lane_value lane inputs earlier step =
    step_value step.op (point_in lane inputs) step.value
    (number_at lane earlier step.a) (number_at lane earlier step.b)
