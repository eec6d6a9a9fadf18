-- Nothing stands of the kind that was refused, and all else stands.
use Rattle.std.proofs.Common.{ℕ, length, ap, refl, ◌∙◌}
use Rattle.live_clauses.specs.Live.{root_of}
use Rattle.model_frames.specs.Images.{plain_points}
use Rattle.model_frames.specs.Work.{exactly}
use Rattle.quad_descent.specs.Raster.{fresh_points, frame_spans}
use Rattle.model_frames.proofs.DescentLaws.{frame_work_is_bounded}
use Rattle.edit_session.proofs.laws.refusals_begin_anew.Goals as goal
use Rattle.std.specs.Prelude.{None}

pub returns : goal.returns
returns c = record {
  image = λ state refused view.
      let list = root_of state.clauses in
      ap (λ (p : ℕ). exactly p (frame_spans view None list) (plain_points view (length state.clauses))) (frame_work_is_bounded.fresh_points_of view list)
      ∙ ap (λ (s : ℕ). exactly (fresh_points view list) s (plain_points view (length state.clauses))) (frame_work_is_bounded.fresh_spans_of view list);
  mesh = λ state refused view. refl;
  other_mesh = λ state refused view. refl;
  other_image = λ state refused view. refl;
  clauses = λ state refused. (refl, refl);
  cost = λ state refused. (refl, refl);
  others = λ state refused. (refl, refl);
}
