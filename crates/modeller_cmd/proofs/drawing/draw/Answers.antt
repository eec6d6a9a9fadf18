use Rattle.model_frames.specs.Drawn.{drawn_bytes}
use Rattle.model_frames.specs.Frames.{frame_part}
use Rattle.modeller_cmd.specs.Output.{of_model}
use Rattle.modeller_cmd.proofs.AtOnce.{refused-at-once, sent-at-once, undrawn-at-once}
use Rattle.modeller_cmd.proofs.Outcomes.{model_read}
use Rattle.modeller_cmd.proofs.drawing.draw.Goals as goal

pub returns-in_err-model : goal.returns-in_err-model
returns-in_err-model g c =
    let fault = c.in_err-model.field-0.0 in
    refused-at-once g.K.Sink.held g.K.Sink.faults c.args.out.now c.args.tally.now c.args.input.now (frame_part c.args.frame.now) fault.line fault.reason c.from_residual.result
    c.requires.limit c.in_err-model.ensures.0 c.from_residual.ensures.1

pub returns-in_err-drawn : goal.returns-in_err-drawn
returns-in_err-drawn g c =
    let part = frame_part c.args.frame.now c.in_ok-model.model in
    undrawn-at-once g.K.Sink.held g.K.Sink.faults c.args.out.now c.args.tally.now c.draw.new.tally (of_model c.args.input.now (frame_part c.args.frame.now)) part c.from_residual-in_err-drawn.result
    (model_read c.args.input.now (frame_part c.args.frame.now) c.in_ok-model.model c.requires.limit c.in_ok-model.ensures)
    c.in_err-drawn.ensures.at_most c.in_err-drawn.ensures.plain c.from_residual-in_err-drawn.ensures.1

pub returns : goal.returns
returns g c =
    let part = frame_part c.args.frame.now c.in_ok-model.model in
    sent-at-once g.K.Sink.held g.K.Sink.faults c.args.out.now c.send.new.out c.args.tally.now c.draw.new.tally (of_model c.args.input.now (frame_part c.args.frame.now)) part (drawn_bytes c.in_ok-drawn.drawn) c.send.result
    (model_read c.args.input.now (frame_part c.args.frame.now) c.in_ok-model.model c.requires.limit c.in_ok-model.ensures)
    c.in_ok-drawn.ensures.bytes c.send.ensures c.in_ok-drawn.ensures.counted c.in_ok-drawn.ensures.at_most c.in_ok-drawn.ensures.plain
