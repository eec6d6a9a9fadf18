use Rattle.std.proofs.Common.{length, subst, ◌∙◌}
use Rattle.live_clauses.specs.Live.{root_of}
use Rattle.model_frames.specs.Images.{list_before, plain_points}
use Rattle.model_frames.specs.Work.{CountsWork, image_work}
use Rattle.quad_descent.specs.Raster.{frame_points, frame_spans}
use Rattle.edit_session.proofs.Drawn.{session-drawn}
use Rattle.model_frames.proofs.WorkLaws.{told-exactly}
use Rattle.edit_session.proofs.session.Session.draw_raster.Goals as goal

pub returns-clause-drawn : goal.returns-clause-drawn
returns-clause-drawn c =
    let view = c.args.view.now in
    let clauses = c.model.result.now in
    let before = c.take-before.result in
    let told = told-exactly c.redraw_image-drawn.new.tally (frame_points view (list_before before view) (root_of clauses)) (frame_spans view (list_before before view) (root_of clauses))
    (plain_points view (length clauses)) c.in_ok-tree.ensures.fits
    (subst (λ start. CountsWork start c.redraw_image-drawn.new.tally (image_work before view clauses)) c.new-own.ensures c.in_ok-tree.ensures.counted) in
    session-drawn c.args.self.now view clauses c.self.inside.model c.self.inside.image before c.self.inside.mesh _ c.in_ok-tree.tree c.points-self-inside.result c.spans-self-inside.result
    c.self.view_is c.model.ensures.model c.take-before.ensures.value c.in_ok-tree.ensures.tree (c.points-self-inside.ensures ∙ told.0) (c.spans-self-inside.ensures ∙ told.1)
