-- A height map is one part.
use Rattle.std.proofs.Common.{[], ◌∷◌, ap, codes, ◌∙◌}
use Rattle.model_frames.specs.declared.frame.Frame.TheVariants.{Height}
use Rattle.modeller_cmd.specs.Frames.{frame_of}
use Rattle.modeller_cmd.specs.Writing.{Halted}
use Rattle.modeller_cmd.specs.Replays.{framed}
use Rattle.modeller_cmd.specs.declared.stop.Stop.TheVariants.{WriteFault, NoMemory}
use Rattle.modeller_cmd.proofs.Writing.{part-counted, part-written, part-halted, part-undrawn, ends-with}
use Rattle.modeller_cmd.proofs.replay.show_height.Goals as goal

pub returns-in_err-bytes-clause-halted : goal.returns-in_err-bytes-clause-halted
returns-in_err-bytes-clause-halted g c =
    let part = framed (Height c.args.view.now) c.args.session.now in
    ends-with c.from_residual.result NoMemory (Halted g.K.Sink.held g.K.Sink.faults c.args.out.now c.args.out.now c.args.tally.now c.height.new.tally (part ∷ [])) c.from_residual.ensures.1
    (part-undrawn g.K.Sink.held g.K.Sink.faults c.args.out.now c.args.tally.now c.height.new.tally part c.in_err-bytes.ensures.at_most c.in_err-bytes.ensures.plain)

pub returns-in_err-write_frame-clause-halted : goal.returns-in_err-write_frame-clause-halted
returns-in_err-write_frame-clause-halted g c =
    let part = framed (Height c.args.view.now) c.args.session.now in
    ends-with c.from_residual-in_err-write_frame.result WriteFault (Halted g.K.Sink.held g.K.Sink.faults c.args.out.now c.write_frame.new.out c.args.tally.now c.height.new.tally (part ∷ []))
    c.from_residual-in_err-write_frame.ensures.1
    (part-halted g.K.Sink.held g.K.Sink.faults c.args.out.now c.write_frame.new.out c.args.tally.now c.height.new.tally part (frame_of (codes "height") c.deref.result.now)
    (ap (frame_of (codes "height")) (c.deref.ensures.value ∙ c.in_ok-bytes.ensures.heights))
    (record { gained = c.in_err-write_frame.ensures.err; fault = c.in_err-write_frame.ensures.cause }) c.in_ok-bytes.ensures.at_most c.in_ok-bytes.ensures.plain)

pub returns-clause-written : goal.returns-clause-written
returns-clause-written g c =
    let part = framed (Height c.args.view.now) c.args.session.now in
    part-written g.K.Sink.held g.K.Sink.faults c.args.out.now c.write_frame.new.out c.args.tally.now c.height.new.tally part (frame_of (codes "height") c.deref.result.now)
    (ap (frame_of (codes "height")) (c.deref.ensures.value ∙ c.in_ok-bytes.ensures.heights))
    c.in_ok-write_frame.ensures.ok c.in_ok-write_frame.ensures.no_fault c.in_ok-bytes.ensures.counted c.in_ok-bytes.ensures.at_most c.in_ok-bytes.ensures.plain

pub returns-in_err-write_frame-clause-counted : goal.returns-in_err-write_frame-clause-counted
returns-in_err-write_frame-clause-counted g c = λ _.
    part-counted c.args.tally.now c.height.new.tally (framed (Height c.args.view.now) c.args.session.now) c.in_ok-bytes.ensures.counted
