-- Vectors of whole numbers, and their determinant.
use Rattle.std.specs.Prelude.{ℤ, ◌+ℤ◌, ◌-ℤ◌, ◌*ℤ◌}

pub record Vector : Type 0 where
  pub x : ℤ
  pub y : ℤ
  pub z : ℤ

-- the way from one place to another
abbrev pub vector_between : Vector → Vector → Vector
vector_between p q = record { x = q.x -ℤ p.x; y = q.y -ℤ p.y; z = q.z -ℤ p.z }

-- the determinant of three vectors: it is positive where they turn as the axes x, y and z do
abbrev pub determinant : Vector → Vector → Vector → ℤ
determinant u v w =
    ((u.x *ℤ ((v.y *ℤ w.z) -ℤ (v.z *ℤ w.y)))
    -ℤ (u.y *ℤ ((v.x *ℤ w.z) -ℤ (v.z *ℤ w.x))))
    +ℤ (u.z *ℤ ((v.x *ℤ w.y) -ℤ (v.y *ℤ w.x)))

-- the determinant of the ways from the first of four places to the others
abbrev pub determinant_at : Vector → Vector → Vector → Vector → ℤ
determinant_at p q r s = determinant (vector_between p q) (vector_between p r) (vector_between p s)
