use Rattle.std.proofs.Common.{◌≡◌, ◌∙◌, ap}
use Rattle.std.proofs.lemmas.Result.{IfOk-weaker}
use Rattle.model_frames.specs.Work.{frame_work}
use Rattle.modeller_cmd.specs.Forging.{forge_text, forged_clauses}
use Rattle.model_frames.proofs.WorkLaws.{frames_add_up_is}
use Rattle.modeller_cmd.proofs.forge.forge_text.Goals as goal

pub returns-in_err-model-clause-at_most : goal.returns-in_err-model-clause-at_most
returns-in_err-model-clause-at_most c =
    frames_add_up_is.within_none c.args.tally.now (frame_work c.args.wanted.now.view (forged_clauses c.args.wanted.now))

pub returns-clause-ok : goal.returns-clause-ok
unfolding forged_clauses
returns-clause-ok c =
    let wanted = c.args.wanted.now in
    let made : c.in_ok-model.model ≡ forged_clauses wanted = c.in_ok-model.ensures.by_places in
    IfOk-weaker c.draw_lines.result (λ text. text.items ≡ forge_text wanted.view c.in_ok-model.model)
    (λ text. text.items ≡ forge_text wanted.view (forged_clauses wanted)) (λ text told. told ∙ ap (forge_text wanted.view) made) c.draw_lines.ensures.ok
