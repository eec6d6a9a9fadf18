-- The samples along an axis.
use Rattle.std.specs.Prelude.{ℕ, ◌==◌, ℤ, pos, ◌+ℤ◌, ◌-ℤ◌, ◌*ℤ◌, if◌then◌else◌}
use Rattle.fixed_ops.specs.Raw.{floor_div}
use Rattle.view_places.specs.declared.axis_samples.AxisSamples.{AxisSamples}
use Rattle.view_places.specs.declared.course.Course.{Course}
use Rattle.view_places.specs.declared.course.Course.TheVariants.{Rising, Falling, Level}

-- how far a sample lies from the first, where the last of so many steps lies this far, rounded down
abbrev pub distance_of : ℤ → ℕ → ℕ → ℤ
distance_of whole steps i = if steps == 0 then pos 0 else floor_div (whole *ℤ pos i) steps

-- sample i of the samples that lie from low on up to high
abbrev pub place_up : ℤ → ℤ → ℕ → ℕ → ℤ
place_up low high steps i = low +ℤ distance_of (high -ℤ low) steps i

-- sample j of the samples that lie from high on down to low
abbrev pub place_down : ℤ → ℤ → ℕ → ℕ → ℤ
place_down low high steps j = high -ℤ distance_of (high -ℤ low) steps j

-- a sample of those from an end of an axis to the other, by which way they go
abbrev pub place_by : Course → ℤ → ℤ → ℕ → ℕ → ℤ
place_by Rising low high steps i = place_up low high steps i
place_by Falling low high steps j = place_down low high steps j
place_by Level low high steps k = low

-- the raw place of a sample of an axis
abbrev pub place_on : AxisSamples → ℕ → ℤ
place_on s i = place_by s.course s.low s.high s.steps i
