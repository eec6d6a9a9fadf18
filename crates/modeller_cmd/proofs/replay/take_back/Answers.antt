use Rattle.std.proofs.Common.{◌≡◌, ◌++◌, Err, ap, ◌∙◌}
use Rattle.edit_script.specs.declared.command.Command.TheVariants as Command
use Rattle.modeller_cmd.specs.Frames.{refused_line}
use Rattle.modeller_cmd.specs.Parts.{bytes_of_parts}
use Rattle.modeller_cmd.specs.Replays.{parts_at, state_after}
use Rattle.modeller_cmd.proofs.Edits.{line-said, refused-ok, silent-said, undo-passes, undo-refused, undo-silent, undo-stands}
use Rattle.modeller_cmd.proofs.replay.take_back.Goals as goal

pub returns-in-Ok-clause-said : goal.returns-in-Ok-clause-said
returns-in-Ok-clause-said g c =
    silent-said c.args.lines.now (parts_at c.args.session.now (Command.Undo c.args.line)) (undo-silent c.args.session.now c.undo.new.self c.args.line c.in-Ok.ensures.undone)

pub returns-in-Ok-clause-stands : goal.returns-in-Ok-clause-stands
returns-in-Ok-clause-stands g c = undo-stands c.args.session.now c.undo.new.self c.args.line c.in-Ok.ensures.undone c.in-Ok.ensures.stands

pub returns-in-Err-clause-said : goal.returns-in-Err-clause-said
returns-in-Err-clause-said g c =
    let parts = parts_at c.args.session.now (Command.Undo c.args.line) in
    refused-ok c.refuse.result c.in-Err.fault (c.refuse.new.lines ≡ c.args.lines.now ++ refused_line c.args.line c.in-Err.fault) (c.refuse.new.lines ≡ c.args.lines.now ++ bytes_of_parts parts)
    c.refuse.ensures.memory
    (λ other said. said ∙ line-said c.args.lines.now parts c.args.line c.in-Err.fault
    (undo-refused c.args.session.now c.args.line c.in-Err.fault (c.in-Err.ensures.fault other) (c.in-Err.ensures.nothing.0 (ap (λ fault. Err fault) (c.in-Err.ensures.fault other)))))
    c.refuse.ensures.said

pub returns-in-Err-clause-stands : goal.returns-in-Err-clause-stands
returns-in-Err-clause-stands g c =
    refused-ok c.refuse.result c.in-Err.fault (c.refuse.new.lines ≡ c.args.lines.now ++ refused_line c.args.line c.in-Err.fault) (c.undo.new.self ≡ state_after c.args.session.now (Command.Undo c.args.line))
    c.refuse.ensures.memory
    (λ other said. c.in-Err.ensures.err ∙ undo-passes c.args.session.now c.args.line (c.in-Err.ensures.nothing.0 (ap (λ fault. Err fault) (c.in-Err.ensures.fault other))))
    c.refuse.ensures.said
