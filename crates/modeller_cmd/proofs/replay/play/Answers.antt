-- A command that draws no frame leaves a line at most, which waits, and one that draws a frame writes it.
use Rattle.std.proofs.Common.{◌≡◌, ℕ, List, [], ◌∷◌, ◌++◌, inl, Result, Ok, Err, refl, ◌∙◌}
use Rattle.std.specs.Prelude.{◌↔◌, IfErr, IsErr, OnOk}
use Rattle.edit_script.specs.declared.command.Command.TheVariants as Command
use Rattle.model_frames.specs.Work.{no_work}
use Rattle.solid_model.specs.declared.edit.EditFault.TheVariants as EditFault
use Rattle.modeller_cmd.specs.Frames.{refused_line}
use Rattle.modeller_cmd.specs.Parts.{bytes_of_parts}
use Rattle.modeller_cmd.specs.Pending.{Draws, HaltsPlay, IsPlayed}
use Rattle.modeller_cmd.specs.Replays.{parts_at, refusal}
use Rattle.modeller_cmd.specs.declared.stop.Stop.{Stop}
use Rattle.modeller_cmd.specs.declared.stop.Stop.TheVariants as stop
use Rattle.modeller_cmd.proofs.Edits.{edit-idle, line-said, undo-idle}
use Rattle.modeller_cmd.proofs.Waiting.{at-command, frame-halts, frame-played, quiet-halts, quiet-played}
use Rattle.modeller_cmd.proofs.WorkSums.{both-none}
use Rattle.modeller_cmd.proofs.replay.play.Goals as goal

-- an edit with a token that begins with `#` is refused, and for no want of memory
stray-said : {T : Type 0} (r : Result T Stop) (lines waits : List ℕ) (line : ℕ) → OnOk r (waits ≡ lines ++ refused_line line EditFault.UnknownName)
    → OnOk r (waits ≡ lines ++ bytes_of_parts (refusal line EditFault.UnknownName ∷ []))
stray-said (Ok x) lines waits line said = said ∙ line-said lines (refusal line EditFault.UnknownName ∷ []) line EditFault.UnknownName refl
stray-said (Err why) lines waits line said = tt

never : {T : Type 0} (r : Result T Stop) → IsErr r ↔ (EditFault.UnknownName ≡ EditFault.NoMemory) → r ≡ Err stop.NoMemory → ⊥
never (Ok x) memory is = cc
never (Err why) memory is = let no = memory.0 refl in cc

pub returns-in-Edit-clause-played : goal.returns-in-Edit-clause-played
returns-in-Edit-clause-played g c =
    at-command (λ command. OnOk c.change.result (IsPlayed g.K.Sink.held g.K.Sink.faults c.args.out.now c.change.new.out c.args.tally.now c.args.tally.now c.args.lines.now c.change.new.lines (parts_at c.args.session.now command)))
    c.args.command.now (Command.Edit c.in-Edit.line c.in-Edit.edit) c.in-Edit.is
    (quiet-played g.K.Sink.held g.K.Sink.faults c.args.out.now c.change.new.out c.args.tally.now c.args.lines.now c.args.session.now (Command.Edit c.in-Edit.line c.in-Edit.edit) c.change.result
    (edit-idle c.args.session.now c.in-Edit.line c.in-Edit.edit) c.change.new.lines c.change.ensures.said c.change.ensures.unsent)

pub returns-in-Edit-clause-halted : goal.returns-in-Edit-clause-halted
returns-in-Edit-clause-halted g c =
    at-command (λ command. IfErr c.change.result (HaltsPlay g.K.Sink.held g.K.Sink.faults c.args.out.now c.change.new.out c.args.tally.now c.args.tally.now c.args.lines.now c.args.session.now command))
    c.args.command.now (Command.Edit c.in-Edit.line c.in-Edit.edit) c.in-Edit.is
    (quiet-halts g.K.Sink.held g.K.Sink.faults c.args.out.now c.change.new.out c.args.tally.now c.args.lines.now c.args.session.now (Command.Edit c.in-Edit.line c.in-Edit.edit) c.change.result
    (edit-idle c.args.session.now c.in-Edit.line c.in-Edit.edit) c.change.ensures.stop c.change.ensures.failed c.change.ensures.sent c.change.ensures.no_fault c.change.ensures.wants)

pub returns-in-Undo-clause-played : goal.returns-in-Undo-clause-played
returns-in-Undo-clause-played g c =
    at-command (λ command. OnOk c.take_back.result (IsPlayed g.K.Sink.held g.K.Sink.faults c.args.out.now c.take_back.new.out c.args.tally.now c.args.tally.now c.args.lines.now c.take_back.new.lines (parts_at c.args.session.now command)))
    c.args.command.now (Command.Undo c.in-Undo.line) c.in-Undo.is
    (quiet-played g.K.Sink.held g.K.Sink.faults c.args.out.now c.take_back.new.out c.args.tally.now c.args.lines.now c.args.session.now (Command.Undo c.in-Undo.line) c.take_back.result
    (undo-idle c.args.session.now c.in-Undo.line) c.take_back.new.lines c.take_back.ensures.said c.take_back.ensures.unsent)

pub returns-in-Undo-clause-halted : goal.returns-in-Undo-clause-halted
returns-in-Undo-clause-halted g c =
    at-command (λ command. IfErr c.take_back.result (HaltsPlay g.K.Sink.held g.K.Sink.faults c.args.out.now c.take_back.new.out c.args.tally.now c.args.tally.now c.args.lines.now c.args.session.now command))
    c.args.command.now (Command.Undo c.in-Undo.line) c.in-Undo.is
    (quiet-halts g.K.Sink.held g.K.Sink.faults c.args.out.now c.take_back.new.out c.args.tally.now c.args.lines.now c.args.session.now (Command.Undo c.in-Undo.line) c.take_back.result
    (undo-idle c.args.session.now c.in-Undo.line) c.take_back.ensures.stop c.take_back.ensures.failed c.take_back.ensures.sent c.take_back.ensures.no_fault c.take_back.ensures.wants)

pub returns-in-Stray-clause-played : goal.returns-in-Stray-clause-played
returns-in-Stray-clause-played g c =
    at-command (λ command. OnOk c.refuse.result (IsPlayed g.K.Sink.held g.K.Sink.faults c.args.out.now c.refuse.new.out c.args.tally.now c.args.tally.now c.args.lines.now c.refuse.new.lines (parts_at c.args.session.now command)))
    c.args.command.now (Command.Stray c.in-Stray.line) c.in-Stray.is
    (quiet-played g.K.Sink.held g.K.Sink.faults c.args.out.now c.refuse.new.out c.args.tally.now c.args.lines.now c.args.session.now (Command.Stray c.in-Stray.line) c.refuse.result
    (both-none no_work) c.refuse.new.lines
    (stray-said c.refuse.result c.args.lines.now c.refuse.new.lines c.in-Stray.line c.refuse.ensures.said) c.refuse.ensures.unsent)

pub returns-in-Stray-clause-halted : goal.returns-in-Stray-clause-halted
returns-in-Stray-clause-halted g c =
    at-command (λ command. IfErr c.refuse.result (HaltsPlay g.K.Sink.held g.K.Sink.faults c.args.out.now c.refuse.new.out c.args.tally.now c.args.tally.now c.args.lines.now c.args.session.now command))
    c.args.command.now (Command.Stray c.in-Stray.line) c.in-Stray.is
    (quiet-halts g.K.Sink.held g.K.Sink.faults c.args.out.now c.refuse.new.out c.args.tally.now c.args.lines.now c.args.session.now (Command.Stray c.in-Stray.line) c.refuse.result
    (both-none no_work) c.refuse.ensures.stop c.refuse.ensures.failed c.refuse.ensures.sent c.refuse.ensures.no_fault
    (never c.refuse.result c.refuse.ensures.memory))

pub returns-in-Cost-clause-played : goal.returns-in-Cost-clause-played
returns-in-Cost-clause-played g c =
    at-command (λ command. IsPlayed g.K.Sink.held g.K.Sink.faults c.args.out.now c.args.out.now c.args.tally.now c.args.tally.now c.args.lines.now c.tell_cost.new.lines (parts_at c.args.session.now command))
    c.args.command.now Command.Cost c.in-Cost.is (inl (record { sink = refl; counts = refl; idle = both-none no_work; bytes = c.tell_cost.ensures }))

pub returns-in-Render-clause-played : goal.returns-in-Render-clause-played
returns-in-Render-clause-played g c =
    at-command (λ command. OnOk c.show_image.result (IsPlayed g.K.Sink.held g.K.Sink.faults c.args.out.now c.show_image.new.out c.args.tally.now c.show_image.new.tally c.args.lines.now c.args.lines.now (parts_at c.args.session.now command)))
    c.args.command.now (Command.Render c.in-Render.view) c.in-Render.is
    (frame-played g.K.Sink.held g.K.Sink.faults c.args.out.now c.show_image.new.out c.args.tally.now c.show_image.new.tally c.args.lines.now c.show_image.result
    (c.requires.way (at-command Draws c.args.command.now (Command.Render c.in-Render.view) c.in-Render.is tt))
    (parts_at c.args.session.now (Command.Render c.in-Render.view)) c.show_image.ensures.written)

pub returns-in-Render-clause-halted : goal.returns-in-Render-clause-halted
returns-in-Render-clause-halted g c =
    at-command (λ command. IfErr c.show_image.result (HaltsPlay g.K.Sink.held g.K.Sink.faults c.args.out.now c.show_image.new.out c.args.tally.now c.show_image.new.tally c.args.lines.now c.args.session.now command))
    c.args.command.now (Command.Render c.in-Render.view) c.in-Render.is
    (frame-halts g.K.Sink.held g.K.Sink.faults c.args.out.now c.show_image.new.out c.args.tally.now c.show_image.new.tally c.args.lines.now c.show_image.result
    (c.requires.way (at-command Draws c.args.command.now (Command.Render c.in-Render.view) c.in-Render.is tt))
    c.args.session.now (Command.Render c.in-Render.view) tt c.show_image.ensures.stop c.show_image.ensures.halted c.show_image.ensures.unwritten c.show_image.ensures.counted)

pub returns-in-Height-clause-played : goal.returns-in-Height-clause-played
returns-in-Height-clause-played g c =
    at-command (λ command. OnOk c.show_height.result (IsPlayed g.K.Sink.held g.K.Sink.faults c.args.out.now c.show_height.new.out c.args.tally.now c.show_height.new.tally c.args.lines.now c.args.lines.now (parts_at c.args.session.now command)))
    c.args.command.now (Command.Height c.in-Height.view) c.in-Height.is
    (frame-played g.K.Sink.held g.K.Sink.faults c.args.out.now c.show_height.new.out c.args.tally.now c.show_height.new.tally c.args.lines.now c.show_height.result
    (c.requires.way (at-command Draws c.args.command.now (Command.Height c.in-Height.view) c.in-Height.is tt))
    (parts_at c.args.session.now (Command.Height c.in-Height.view)) c.show_height.ensures.written)

pub returns-in-Height-clause-halted : goal.returns-in-Height-clause-halted
returns-in-Height-clause-halted g c =
    at-command (λ command. IfErr c.show_height.result (HaltsPlay g.K.Sink.held g.K.Sink.faults c.args.out.now c.show_height.new.out c.args.tally.now c.show_height.new.tally c.args.lines.now c.args.session.now command))
    c.args.command.now (Command.Height c.in-Height.view) c.in-Height.is
    (frame-halts g.K.Sink.held g.K.Sink.faults c.args.out.now c.show_height.new.out c.args.tally.now c.show_height.new.tally c.args.lines.now c.show_height.result
    (c.requires.way (at-command Draws c.args.command.now (Command.Height c.in-Height.view) c.in-Height.is tt))
    c.args.session.now (Command.Height c.in-Height.view) tt c.show_height.ensures.stop c.show_height.ensures.halted c.show_height.ensures.unwritten c.show_height.ensures.counted)

pub returns-in-Mesh-clause-played : goal.returns-in-Mesh-clause-played
returns-in-Mesh-clause-played g c =
    at-command (λ command. OnOk c.show_mesh.result (IsPlayed g.K.Sink.held g.K.Sink.faults c.args.out.now c.show_mesh.new.out c.args.tally.now c.show_mesh.new.tally c.args.lines.now c.args.lines.now (parts_at c.args.session.now command)))
    c.args.command.now (Command.Mesh c.in-Mesh.view) c.in-Mesh.is
    (frame-played g.K.Sink.held g.K.Sink.faults c.args.out.now c.show_mesh.new.out c.args.tally.now c.show_mesh.new.tally c.args.lines.now c.show_mesh.result
    (c.requires.way (at-command Draws c.args.command.now (Command.Mesh c.in-Mesh.view) c.in-Mesh.is tt))
    (parts_at c.args.session.now (Command.Mesh c.in-Mesh.view)) c.show_mesh.ensures.written)

pub returns-in-Mesh-clause-halted : goal.returns-in-Mesh-clause-halted
returns-in-Mesh-clause-halted g c =
    at-command (λ command. IfErr c.show_mesh.result (HaltsPlay g.K.Sink.held g.K.Sink.faults c.args.out.now c.show_mesh.new.out c.args.tally.now c.show_mesh.new.tally c.args.lines.now c.args.session.now command))
    c.args.command.now (Command.Mesh c.in-Mesh.view) c.in-Mesh.is
    (frame-halts g.K.Sink.held g.K.Sink.faults c.args.out.now c.show_mesh.new.out c.args.tally.now c.show_mesh.new.tally c.args.lines.now c.show_mesh.result
    (c.requires.way (at-command Draws c.args.command.now (Command.Mesh c.in-Mesh.view) c.in-Mesh.is tt))
    c.args.session.now (Command.Mesh c.in-Mesh.view) tt c.show_mesh.ensures.stop c.show_mesh.ensures.halted c.show_mesh.ensures.unwritten c.show_mesh.ensures.counted)

pub returns-in-Text-clause-played : goal.returns-in-Text-clause-played
returns-in-Text-clause-played g c =
    at-command (λ command. OnOk c.show_text.result (IsPlayed g.K.Sink.held g.K.Sink.faults c.args.out.now c.show_text.new.out c.args.tally.now c.args.tally.now c.args.lines.now c.args.lines.now (parts_at c.args.session.now command)))
    c.args.command.now Command.Text c.in-Text.is
    (frame-played g.K.Sink.held g.K.Sink.faults c.args.out.now c.show_text.new.out c.args.tally.now c.args.tally.now c.args.lines.now c.show_text.result
    (c.requires.way (at-command Draws c.args.command.now Command.Text c.in-Text.is tt))
    (parts_at c.args.session.now Command.Text) (c.show_text.ensures.written c.args.tally.now))

pub returns-in-Text-clause-halted : goal.returns-in-Text-clause-halted
returns-in-Text-clause-halted g c =
    at-command (λ command. IfErr c.show_text.result (HaltsPlay g.K.Sink.held g.K.Sink.faults c.args.out.now c.show_text.new.out c.args.tally.now c.args.tally.now c.args.lines.now c.args.session.now command))
    c.args.command.now Command.Text c.in-Text.is
    (frame-halts g.K.Sink.held g.K.Sink.faults c.args.out.now c.show_text.new.out c.args.tally.now c.args.tally.now c.args.lines.now c.show_text.result
    (c.requires.way (at-command Draws c.args.command.now Command.Text c.in-Text.is tt))
    c.args.session.now Command.Text tt c.show_text.ensures.stop (c.show_text.ensures.halted c.args.tally.now) c.show_text.ensures.unwritten (λ _. c.show_text.ensures.counted c.args.tally.now))
