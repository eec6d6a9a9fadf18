use Rattle.modeller_cmd.specs.Output.{count_part, of_model}
use Rattle.modeller_cmd.proofs.AtOnce.{refused-at-once, sent-at-once, undrawn-at-once}
use Rattle.modeller_cmd.proofs.Outcomes.{model_read}
use Rattle.modeller_cmd.proofs.count.count.Goals as goal

pub returns-in_err-model : goal.returns-in_err-model
returns-in_err-model g c =
    let fault = c.in_err-model.field-0.0 in
    refused-at-once g.K.Sink.held g.K.Sink.faults c.args.out.now c.args.tally.now c.args.input.now (count_part c.args.view.now) fault.line fault.reason c.from_residual.result
    c.requires c.in_err-model.ensures.0 c.from_residual.ensures.1

pub returns-in_err-text : goal.returns-in_err-text
returns-in_err-text g c =
    let part = count_part c.args.view.now c.in_ok-model.model in
    undrawn-at-once g.K.Sink.held g.K.Sink.faults c.args.out.now c.args.tally.now c.count_image.new.tally (of_model c.args.input.now (count_part c.args.view.now)) part c.from_residual-in_err-text.result
    (model_read c.args.input.now (count_part c.args.view.now) c.in_ok-model.model c.requires c.in_ok-model.ensures)
    c.in_err-text.ensures.at_most c.in_err-text.ensures.plain c.from_residual-in_err-text.ensures.1

pub returns : goal.returns
returns g c =
    let part = count_part c.args.view.now c.in_ok-model.model in
    sent-at-once g.K.Sink.held g.K.Sink.faults c.args.out.now c.send.new.out c.args.tally.now c.count_image.new.tally (of_model c.args.input.now (count_part c.args.view.now)) part c.in_ok-text.text.items c.send.result
    (model_read c.args.input.now (count_part c.args.view.now) c.in_ok-model.model c.requires c.in_ok-model.ensures)
    c.in_ok-text.ensures.ok c.send.ensures c.in_ok-text.ensures.counted c.in_ok-text.ensures.at_most c.in_ok-text.ensures.plain
