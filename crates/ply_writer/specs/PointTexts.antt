-- The texts of the places of a grid's points.
use Rattle.std.specs.Prelude.{◌≡◌, ℕ, ◌≤◌, ◌<◌, List, drop, get_or, length}
use Rattle.fixed_ops.specs.NumberTexts.{number_text}
use Rattle.view_places.specs.declared.lattice.Axis.{Axis}
use Rattle.view_places.specs.declared.lattice.Axis.TheVariants.{X, Y, Z}
use Rattle.view_places.specs.declared.lattice.Lattice.TheVariants.{Grid}
use Rattle.view_places.specs.Places.{sample_place, steps_of}
use Rattle.view_places.specs.Window.{Window}
use Rattle.ply_writer.specs.declared.point_texts.PointText.{PointText}
use Rattle.ply_writer.specs.declared.point_texts.PointTexts.{PointTexts}

-- a text stands at the end of some bytes, of which there are 22
pub record IsTextOf (text : List ℕ) (t : PointText) : Type 0 where
  pub few : t.start ≤ 22
  pub bytes : drop t.start t.bytes ≡ text

-- the texts of the places of all points along an axis
pub record AreTextsAlong (w : Window) (axis : Axis) (texts : List PointText) : Type 0 where
  pub room : steps_of w Grid axis < length texts
  pub each : (i : ℕ) (d : PointText) → i ≤ steps_of w Grid axis
      → IsTextOf (number_text (sample_place w Grid axis i)) (get_or texts i d)

-- and so along each axis
pub record ArePointTexts (w : Window) (t : PointTexts) : Type 0 where
  pub along_x : AreTextsAlong w X t.x.items
  pub along_y : AreTextsAlong w Y t.y.items
  pub along_z : AreTextsAlong w Z t.z.items
