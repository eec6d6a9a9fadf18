-- The image is a fresh one, whose work its own tally tells.
use Rattle.std.proofs.Common.{◌≡◌, ◌++◌, ◌∙◌, length, subst}
use Rattle.std.specs.Prelude.{codes, decimal}
use Rattle.std.proofs.lemmas.Result.{IfOk-weaker}
use Rattle.live_clauses.specs.Live.{root_of}
use Rattle.model_frames.specs.Images.{plain_points}
use Rattle.model_frames.specs.Work.{CountsWork, frame_work}
use Rattle.quad_descent.specs.Raster.{fresh_points, fresh_spans}
use Rattle.modeller_cmd.specs.CountTexts.{count_lines}
use Rattle.modeller_cmd.specs.Forging.{forge_text}
use Rattle.modeller_cmd.proofs.Counting.{told-text}
use Rattle.modeller_cmd.proofs.Forging.{forged-lines, inside-same}
use Rattle.modeller_cmd.proofs.forge.draw_lines.Goals as goal

pub returns-clause-ok : goal.returns-clause-ok
returns-clause-ok c =
    let view = c.args.view.now in
    let clauses = c.args.model.now in
    let inside = inside-same view clauses c.in_ok-picture.picture c.in_ok-inside.inside c.in_ok-picture.ensures.picture c.in_ok-picture.ensures.value c.in_ok-inside.ensures in
    let lines = told-text c.draw_image-drawn.new.tally (fresh_points view (root_of clauses)) (fresh_spans view (root_of clauses)) (plain_points view (length clauses))
    c.in_ok-picture.ensures.fits (subst (λ start. CountsWork start c.draw_image-drawn.new.tally (frame_work view clauses)) c.new-frame.ensures c.in_ok-picture.ensures.counted)
    c.points.result c.spans.result c.plain_points-plain.result c.points.ensures c.spans.ensures c.plain_points-plain.ensures in
    IfOk-weaker c.forge_lines.result
    (λ text. text.items ≡ codes "clauses " ++ decimal c.len.result ++ codes "\ninside " ++ decimal c.in_ok-inside.inside ++ codes "\n"
    ++ count_lines c.points.result c.spans.result c.plain_points-plain.result)
    (λ text. text.items ≡ forge_text view clauses)
    (λ text told. told ∙ forged-lines view clauses c.len.result c.in_ok-inside.inside (count_lines c.points.result c.spans.result c.plain_points-plain.result) c.len.ensures.len inside lines)
    c.forge_lines.ensures
