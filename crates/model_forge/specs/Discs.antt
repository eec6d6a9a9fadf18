-- What numbers make of a disc.
use Rattle.std.specs.Prelude.{ℕ, ◌+◌, ◌*◌, ◌%◌, ◌==◌, ℤ, pos, ◌-ℤ◌, ◌*ℤ◌, if◌then◌else◌}
use Rattle.model_forge.specs.declared.disc.Role.{Role}
use Rattle.model_forge.specs.declared.disc.Role.TheVariants.{Solid, Hole}

-- a coordinate of the centre, raw: a multiple of 2^-16 from -1 up to less than 1
abbrev pub centre_of : ℕ → ℤ
centre_of number = (pos (number % 131072) -ℤ pos 65536) *ℤ pos 65536

-- the radius, raw: a multiple of 2^-16 from 2^-16 up to 2^-4
abbrev pub radius_of : ℕ → ℤ
radius_of number = pos ((1 + number % 4096) * 65536)

-- what the disc does to those before it: one of four is cut out
abbrev pub role_of : ℕ → Role
role_of number = if number % 4 == 0 then Hole else Solid
