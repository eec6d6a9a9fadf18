-- Boxes that are kept behind others.
use Rattle.std.specs.Prelude.{◌≡◌, List, ◌++◌, Option, IsTrue}
use Rattle.oct_descent.specs.declared.boxes.Boxes.{Boxes}
use Rattle.oct_descent.specs.declared.split_box.SplitBox.{SplitBox}

-- where boxes are kept these places stand behind others
pub record Adds (before after : Boxes) (new : List (Option SplitBox)) : Type 0 where
  pub places : IsTrue before.keeps → after.places.items ≡ before.places.items ++ new
  pub keeps : after.keeps ≡ before.keeps
