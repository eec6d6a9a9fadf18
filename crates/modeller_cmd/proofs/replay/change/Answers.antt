use Rattle.std.proofs.Common.{◌≡◌, ◌++◌, ◌∙◌}
use Rattle.edit_script.specs.declared.command.Command.TheVariants as Command
use Rattle.modeller_cmd.specs.Frames.{refused_line}
use Rattle.modeller_cmd.specs.Parts.{bytes_of_parts}
use Rattle.modeller_cmd.specs.Replays.{parts_at, state_after}
use Rattle.modeller_cmd.proofs.Edits.{edit-kept, edit-refused, edit-silent, edit-stands, line-said, refused-ok, silent-said}
use Rattle.modeller_cmd.proofs.replay.change.Goals as goal

pub returns-in-Ok-clause-said : goal.returns-in-Ok-clause-said
returns-in-Ok-clause-said g c =
    silent-said c.args.lines.now (parts_at c.args.session.now (Command.Edit c.args.line c.args.edit.now))
    (edit-silent c.args.session.now c.apply_lent.new.self.clauses c.args.line c.args.edit.now c.in-Ok.ensures.ok)

pub returns-in-Ok-clause-stands : goal.returns-in-Ok-clause-stands
returns-in-Ok-clause-stands g c = edit-kept c.args.session.now c.apply_lent.new.self c.args.line c.args.edit.now c.in-Ok.ensures.ok c.in-Ok.ensures.kept

pub returns-in-Err-clause-said : goal.returns-in-Err-clause-said
returns-in-Err-clause-said g c =
    let parts = parts_at c.args.session.now (Command.Edit c.args.line c.args.edit.now) in
    refused-ok c.refuse.result c.in-Err.fault (c.refuse.new.lines ≡ c.args.lines.now ++ refused_line c.args.line c.in-Err.fault) (c.refuse.new.lines ≡ c.args.lines.now ++ bytes_of_parts parts)
    c.refuse.ensures.memory
    (λ other said. said ∙ line-said c.args.lines.now parts c.args.line c.in-Err.fault (edit-refused c.args.session.now c.args.line c.args.edit.now c.in-Err.fault (c.in-Err.ensures.fault other)))
    c.refuse.ensures.said

pub returns-in-Err-clause-stands : goal.returns-in-Err-clause-stands
returns-in-Err-clause-stands g c =
    refused-ok c.refuse.result c.in-Err.fault (c.refuse.new.lines ≡ c.args.lines.now ++ refused_line c.args.line c.in-Err.fault) (c.apply_lent.new.self ≡ state_after c.args.session.now (Command.Edit c.args.line c.args.edit.now))
    c.refuse.ensures.memory
    (λ other said. c.in-Err.ensures.err ∙ edit-stands c.args.session.now c.args.line c.args.edit.now c.in-Err.fault (c.in-Err.ensures.fault other))
    c.refuse.ensures.said
