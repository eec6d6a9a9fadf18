use Rattle.std.proofs.Common.{Ok, [], ◌∷◌, refl}
use Rattle.modeller_cmd.specs.Forging.{forge_part}
use Rattle.modeller_cmd.proofs.AtOnce.{sent-at-once, undrawn-at-once}
use Rattle.modeller_cmd.proofs.forge.forge.Goals as goal

pub returns-in_err-text : goal.returns-in_err-text
returns-in_err-text g c =
    let part = forge_part c.args.wanted.now in
    undrawn-at-once g.K.Sink.held g.K.Sink.faults c.args.out.now c.args.tally.now c.forge_text.new.tally (Ok (part ∷ [])) part c.from_residual.result refl
    c.in_err-text.ensures.at_most c.in_err-text.ensures.plain c.from_residual.ensures.1

pub returns : goal.returns
returns g c =
    let part = forge_part c.args.wanted.now in
    sent-at-once g.K.Sink.held g.K.Sink.faults c.args.out.now c.send.new.out c.args.tally.now c.forge_text.new.tally (Ok (part ∷ [])) part c.in_ok-text.text.items c.send.result refl
    c.in_ok-text.ensures.ok c.send.ensures c.in_ok-text.ensures.counted c.in_ok-text.ensures.at_most c.in_ok-text.ensures.plain
