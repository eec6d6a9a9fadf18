-- What a solid is at a point.
use Rattle.std.specs.Prelude.{ℤ, pos}
use Rattle.fixed_ops.specs.declared.operation.Op.TheVariants.{Neg, Square, Abs, Add, Sub, Div, Min, Max}
use Rattle.fixed_ops.specs.Operations.{op_result}
use Rattle.fixed_ops.specs.Points.{Point}
use Rattle.solid_lang.specs.Solids.{SolidTree, Ball, Block, Cylinder, Move, Scale, Union, Intersect, Difference}

-- the operations on numbers
abbrev pub negative : ℤ → ℤ
negative a = op_result Neg a (pos 0)

abbrev pub square : ℤ → ℤ
square a = op_result Square a (pos 0)

abbrev pub distance : ℤ → ℤ
distance a = op_result Abs a (pos 0)

abbrev pub add : ℤ → ℤ → ℤ
add = op_result Add

abbrev pub sub : ℤ → ℤ → ℤ
sub = op_result Sub

abbrev pub divided : ℤ → ℤ → ℤ
divided = op_result Div

abbrev pub lesser : ℤ → ℤ → ℤ
lesser = op_result Min

abbrev pub greater : ℤ → ℤ → ℤ
greater = op_result Max

-- the place from which a solid is seen that was moved by these to where the point is
abbrev pub moved_back : ℤ → ℤ → ℤ → Point → Point
moved_back x y z p = record { x = sub p.x x; y = sub p.y y; z = sub p.z z }

-- and of one that was made so many times as large
abbrev pub scaled_back : ℤ → Point → Point
scaled_back k p = record { x = divided p.x k; y = divided p.y k; z = divided p.z k }

-- The value of a solid at a point: of a ball the square of the distance from the origin less that of
-- the radius; of a box and a cylinder the greatest of how far the point lies beyond each pair of
-- sides, or beyond the mantle by squares. What is moved or scaled has the value of the solid itself at
-- the point that is taken back. A union has the lesser value, an intersection the greater, and in a
-- difference the second solid is turned inside out.
abbrev pub value_at : SolidTree → Point → ℤ
value_at (Ball r) p = sub (add (add (square p.x) (square p.y)) (square p.z)) (square r)
value_at (Block a b c) p =
    greater (greater (sub (distance p.x) a) (sub (distance p.y) b)) (sub (distance p.z) c)
value_at (Cylinder r h) p =
    greater (sub (add (square p.x) (square p.y)) (square r)) (sub (distance p.z) h)
value_at (Move x y z s) p = value_at s (moved_back x y z p)
value_at (Scale k s) p = value_at s (scaled_back k p)
value_at (Union a b) p = lesser (value_at a p) (value_at b p)
value_at (Intersect a b) p = greater (value_at a p) (value_at b p)
value_at (Difference a b) p = greater (value_at a p) (negative (value_at b p))
