-- Solids whose numbers are raw numbers, as those of each solid that code holds are.
use Rattle.fixed_ops.specs.Raw.{IsRaw}
use Rattle.solid_lang.specs.Solids.{SolidTree, Ball, Block, Cylinder, Move, Scale, Union, Intersect, Difference}

abbrev pub HasRawNumbers : SolidTree → Type 0
HasRawNumbers (Ball r) = IsRaw r
HasRawNumbers (Block a b c) = IsRaw a × IsRaw b × IsRaw c
HasRawNumbers (Cylinder r h) = IsRaw r × IsRaw h
HasRawNumbers (Move x y z s) = IsRaw x × IsRaw y × IsRaw z × HasRawNumbers s
HasRawNumbers (Scale k s) = IsRaw k × HasRawNumbers s
HasRawNumbers (Union a b) = HasRawNumbers a × HasRawNumbers b
HasRawNumbers (Intersect a b) = HasRawNumbers a × HasRawNumbers b
HasRawNumbers (Difference a b) = HasRawNumbers a × HasRawNumbers b
