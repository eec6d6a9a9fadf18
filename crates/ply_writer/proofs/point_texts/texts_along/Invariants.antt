use Rattle.std.proofs.Common.{◌≡◌, ℕ, ◌<◌, length}
use Rattle.std.specs.Prelude.{get_or}
use Rattle.fixed_ops.specs.NumberTexts.{number_text}
use Rattle.view_places.specs.Places.{sample_place}
use Rattle.view_places.specs.declared.lattice.Lattice.TheVariants.{Grid}
use Rattle.ply_writer.specs.declared.point_texts.PointText.{PointText}
use Rattle.ply_writer.specs.PointTexts.{IsTextOf}
use Rattle.ply_writer.proofs.point_texts.texts_along.Given as goal

abbrev pub invariant-loop-i : goal.invariant-loop-i
invariant-loop-i l = record {
  room : length l.texts.items ≡ l.i;
  each : (k : ℕ) (d : PointText) → k < l.i → IsTextOf (number_text (sample_place l.fn.view Grid l.fn.axis k)) (get_or l.texts.items k d);
}
