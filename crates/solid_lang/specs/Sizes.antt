-- The sizes of a solid.
use Rattle.std.specs.Prelude.{ℤ, pos, ◌<ℤ◌}
use Rattle.solid_lang.specs.Solids.{SolidTree, Ball, Block, Cylinder, Move, Scale, Union, Intersect, Difference}

-- a raw number above 0
abbrev pub IsPositive : ℤ → Type 0
IsPositive number = pos 0 <ℤ number

-- each radius, half of a side or of a height, and factor in a solid is above 0
abbrev pub HasPositiveSizes : SolidTree → Type 0
HasPositiveSizes (Ball r) = IsPositive r
HasPositiveSizes (Block a b c) = IsPositive a × IsPositive b × IsPositive c
HasPositiveSizes (Cylinder r h) = IsPositive r × IsPositive h
HasPositiveSizes (Move x y z s) = HasPositiveSizes s
HasPositiveSizes (Scale k s) = IsPositive k × HasPositiveSizes s
HasPositiveSizes (Union a b) = HasPositiveSizes a × HasPositiveSizes b
HasPositiveSizes (Intersect a b) = HasPositiveSizes a × HasPositiveSizes b
HasPositiveSizes (Difference a b) = HasPositiveSizes a × HasPositiveSizes b
