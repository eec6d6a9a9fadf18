-- Dual numbers: values with their derivatives along the three axes.
use Rattle.std.specs.Prelude.{◌≡◌, ℕ, ◌<◌, true, ℤ, pos, List, [], length, slice_index_or}
use Rattle.fixed_ops.specs.Points.{Point}
use Rattle.fixed_ops.specs.Slopes.{Sloped, flat, one, slope_result}
use Rattle.fixed_ops.specs.declared.operation.Op.{Op}
use Rattle.fixed_ops.specs.declared.operation.Op.TheVariants.{X, Y, Z}
use Rattle.live_clauses.specs.Marks.{is_marked}
use Rattle.live_clauses.specs.Meanings.{meaning_at, sloped_at}
use Rattle.live_clauses.specs.Steps.{value_at}
use Rattle.live_clauses.specs.declared.step.Step.{Step}
use Rattle.normal_shade.specs.Branches.{is_reached}

-- the dual number in a lane of a row, or at a place
abbrev pub dual_in : ℕ → List Sloped → Sloped
dual_in lane row = slice_index_or row lane flat

-- the dual number in a lane of the row at a place
abbrev pub dual_at : ℕ → List (List Sloped) → ℕ → Sloped
dual_at lane rows place = dual_in lane (slice_index_or rows place [])

-- The dual number of a step that has the value r, whose operands have the values a and b and these dual
-- numbers. Of a minimum and a maximum only that of the operand is read whose branch is taken.
abbrev pub dual_of : Op → ℤ → ℤ → ℤ → Sloped → Sloped → Sloped
dual_of X r a b da db = record { value = r; dx = one; dy = pos 0; dz = pos 0 }
dual_of Y r a b da db = record { value = r; dx = pos 0; dy = one; dz = pos 0 }
dual_of Z r a b da db = record { value = r; dx = pos 0; dy = pos 0; dz = one }
dual_of op r a b da db = record {
  value = r;
  dx = slope_result op a b r da.dx db.dx;
  dy = slope_result op a b r da.dy db.dy;
  dz = slope_result op a b r da.dz db.dz;
}

-- the steps of a list have these values at a point
abbrev pub HasValues : Point → List Step → (ℕ → ℤ) → Type 0
HasValues p steps value = (place : ℕ) → place < length steps → value place ≡ value_at p steps place

-- the steps that are marked in a lane are those that the last step reaches at a point
abbrev pub MarksReached : Point → List Step → ℕ → List ℕ → Type 0
MarksReached p steps lane marks = (place : ℕ) → place < length steps
    → is_marked lane marks place ≡ is_reached p steps place

-- each step before a place that is reached at a point has its dual number there
abbrev pub AreDuals : Point → List Step → (ℕ → Sloped) → ℕ → Type 0
AreDuals p steps dual end = (place : ℕ) → place < end → is_reached p steps place ≡ true
    → dual place ≡ meaning_at (sloped_at p) steps place
