use Rattle.model_frames.specs.Work.{no_work}
use Rattle.modeller_cmd.specs.Output.{of_forms, text_part}
use Rattle.modeller_cmd.proofs.AtOnce.{forms-refused, sent-at-once}
use Rattle.modeller_cmd.proofs.Outcomes.{forms_translated}
use Rattle.model_frames.proofs.WorkLaws.{frames_add_up_is}
use Rattle.modeller_cmd.proofs.solid.solid.Goals as goal

pub returns-in_err-text : goal.returns-in_err-text
returns-in_err-text g c =
    λ counts.
    let fault = c.in_err-text.field-0.0 in
    forms-refused g.K.Sink.held g.K.Sink.faults c.args.out.now counts c.args.input.now
    fault.line fault.reason c.from_residual.result c.requires c.in_err-text.ensures.err c.from_residual.ensures.1

pub returns : goal.returns
returns g c =
    λ counts.
    let input = c.args.input.now in
    let text = c.in_ok-text.text.items in
    sent-at-once g.K.Sink.held g.K.Sink.faults c.args.out.now c.send_text.new.out counts counts (of_forms input)
    (text_part text) c.deref.result.now c.send_text.result
    (forms_translated input text c.requires c.in_ok-text.ensures.ok) c.deref.ensures.value c.send_text.ensures
    (frames_add_up_is.none counts) (frames_add_up_is.within_none counts no_work) (frames_add_up_is.plain_none counts 0)
