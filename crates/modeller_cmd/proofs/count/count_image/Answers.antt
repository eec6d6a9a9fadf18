use Rattle.std.proofs.Common.{◌≡◌, ◌∙◌, length, subst}
use Rattle.std.proofs.lemmas.Result.{IfOk-weaker}
use Rattle.model_frames.specs.Images.{plain_points}
use Rattle.model_frames.specs.Work.{CountsWork, frame_work}
use Rattle.live_clauses.specs.Live.{root_of}
use Rattle.quad_descent.specs.Raster.{fresh_points, fresh_spans}
use Rattle.modeller_cmd.specs.CountTexts.{count_lines, count_text}
use Rattle.modeller_cmd.proofs.Counting.{told-text}
use Rattle.modeller_cmd.proofs.count.count_image.Goals as goal

pub returns-clause-ok : goal.returns-clause-ok
returns-clause-ok c =
    let view = c.args.view.now in
    let clauses = c.args.model.now in
    IfOk-weaker c.count_lines.result (λ text. text.items ≡ count_lines c.points.result c.spans.result c.plain_points-plain.result)
    (λ text. text.items ≡ count_text view clauses)
    (λ text told. told ∙ told-text c.draw_image-drawn.new.tally (fresh_points view (root_of clauses)) (fresh_spans view (root_of clauses)) (plain_points view (length clauses))
    c.in_ok-drawn.ensures.fits (subst (λ start. CountsWork start c.draw_image-drawn.new.tally (frame_work view clauses)) c.new-frame.ensures c.in_ok-drawn.ensures.counted)
    c.points.result c.spans.result c.plain_points-plain.result c.points.ensures c.spans.ensures c.plain_points-plain.ensures)
    c.count_lines.ensures
