-- A solid as a tree of forms, with no place in memory in it.
use Rattle.std.specs.Prelude.{ℤ}
use Rattle.solid_lang.specs.declared.solid.Solid.{Solid}
use Rattle.solid_lang.specs.declared.solid.Solid.TheVariants as held

-- Each form with its numbers, which are raw, and then its solids.
pub data SolidTree : Type 0 where
  Ball : (r : ℤ) → SolidTree
  Block : (a b c : ℤ) → SolidTree
  Cylinder : (r h : ℤ) → SolidTree
  Move : (x y z : ℤ) (s : SolidTree) → SolidTree
  Scale : (k : ℤ) (s : SolidTree) → SolidTree
  Union : (a b : SolidTree) → SolidTree
  Intersect : (a b : SolidTree) → SolidTree
  Difference : (a b : SolidTree) → SolidTree

-- the tree of a solid that is held in memory
abbrev pub tree : Solid → SolidTree
tree (held.Ball r) = Ball r
tree (held.Block a b c) = Block a b c
tree (held.Cylinder r h) = Cylinder r h
tree (held.Move' x y z p s) = Move x y z (tree s)
tree (held.Scale' k p s) = Scale k (tree s)
tree (held.Union' p a q b) = Union (tree a) (tree b)
tree (held.Intersect' p a q b) = Intersect (tree a) (tree b)
tree (held.Difference' p a q b) = Difference (tree a) (tree b)
