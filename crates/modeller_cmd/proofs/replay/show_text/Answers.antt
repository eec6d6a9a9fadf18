-- The text of the model is one part, which takes no work.
use Rattle.std.proofs.Common.{[], ◌∷◌, ap, codes, ◌∙◌}
use Rattle.model_frames.specs.Work.{no_work}
use Rattle.model_frames.specs.declared.frame.Frame.TheVariants.{Text}
use Rattle.modeller_cmd.specs.Frames.{frame_of}
use Rattle.modeller_cmd.specs.Writing.{Halted}
use Rattle.modeller_cmd.specs.Replays.{framed}
use Rattle.modeller_cmd.specs.declared.stop.Stop.TheVariants.{WriteFault, NoMemory}
use Rattle.modeller_cmd.proofs.Writing.{part-counted, part-written, part-halted, part-undrawn, ends-with}
use Rattle.model_frames.proofs.WorkLaws.{frames_add_up_is}
use Rattle.modeller_cmd.proofs.replay.show_text.Goals as goal

pub returns-in_err-bytes-clause-halted : goal.returns-in_err-bytes-clause-halted
returns-in_err-bytes-clause-halted g c = λ counts.
    let part = framed Text c.args.session.now in
    ends-with c.from_residual.result NoMemory (Halted g.K.Sink.held g.K.Sink.faults c.args.out.now c.args.out.now counts counts (part ∷ [])) c.from_residual.ensures.1
    (part-undrawn g.K.Sink.held g.K.Sink.faults c.args.out.now counts counts part (frames_add_up_is.within_none counts no_work) (frames_add_up_is.plain_none counts 0))

pub returns-in_err-write_frame-clause-halted : goal.returns-in_err-write_frame-clause-halted
returns-in_err-write_frame-clause-halted g c = λ counts.
    let part = framed Text c.args.session.now in
    ends-with c.from_residual-in_err-write_frame.result WriteFault (Halted g.K.Sink.held g.K.Sink.faults c.args.out.now c.write_frame.new.out counts counts (part ∷ []))
    c.from_residual-in_err-write_frame.ensures.1
    (part-halted g.K.Sink.held g.K.Sink.faults c.args.out.now c.write_frame.new.out counts counts part (frame_of (codes "text") c.deref.result.now)
    (ap (frame_of (codes "text")) (c.deref.ensures.value ∙ c.in_ok-bytes.ensures))
    (record { gained = c.in_err-write_frame.ensures.err; fault = c.in_err-write_frame.ensures.cause }) (frames_add_up_is.within_none counts no_work) (frames_add_up_is.plain_none counts 0))

pub returns-clause-written : goal.returns-clause-written
returns-clause-written g c = λ counts.
    let part = framed Text c.args.session.now in
    part-written g.K.Sink.held g.K.Sink.faults c.args.out.now c.write_frame.new.out counts counts part (frame_of (codes "text") c.deref.result.now)
    (ap (frame_of (codes "text")) (c.deref.ensures.value ∙ c.in_ok-bytes.ensures))
    c.in_ok-write_frame.ensures.ok c.in_ok-write_frame.ensures.no_fault (frames_add_up_is.none counts) (frames_add_up_is.within_none counts no_work) (frames_add_up_is.plain_none counts 0)

pub returns-in_err-bytes-clause-counted : goal.returns-in_err-bytes-clause-counted
returns-in_err-bytes-clause-counted g c = λ counts. part-counted counts counts (framed Text c.args.session.now) (frames_add_up_is.none counts)

pub returns-in_err-write_frame-clause-counted : goal.returns-in_err-write_frame-clause-counted
returns-in_err-write_frame-clause-counted g c = λ counts. part-counted counts counts (framed Text c.args.session.now) (frames_add_up_is.none counts)

pub returns-clause-counted : goal.returns-clause-counted
returns-clause-counted g c = λ counts. part-counted counts counts (framed Text c.args.session.now) (frames_add_up_is.none counts)
