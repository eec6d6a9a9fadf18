use Rattle.model_frames.specs.Work.{no_work}
use Rattle.modeller_cmd.specs.Output.{of_mesh, text_part}
use Rattle.modeller_cmd.proofs.AtOnce.{mesh-refused, sent-at-once}
use Rattle.modeller_cmd.proofs.Outcomes.{mesh_reported}
use Rattle.model_frames.proofs.WorkLaws.{frames_add_up_is}
use Rattle.modeller_cmd.proofs.checking.check.Goals as goal

pub returns-in_err-line : goal.returns-in_err-line
returns-in_err-line g c =
    λ counts.
    let fault = c.in_err-line.field-0.0 in
    mesh-refused g.K.Sink.held g.K.Sink.faults c.args.out.now counts c.args.input.now
    fault.line fault.reason c.from_residual.result c.requires c.in_err-line.ensures.fault c.from_residual.ensures.1

pub returns : goal.returns
returns g c =
    λ counts.
    let input = c.args.input.now in
    let line = c.in_ok-line.line.items in
    sent-at-once g.K.Sink.held g.K.Sink.faults c.args.out.now c.send_text.new.out counts counts (of_mesh input)
    (text_part line) c.deref.result.now c.send_text.result
    (mesh_reported input line c.requires c.in_ok-line.ensures.line) c.deref.ensures.value c.send_text.ensures
    (frames_add_up_is.none counts) (frames_add_up_is.within_none counts no_work) (frames_add_up_is.plain_none counts 0)
