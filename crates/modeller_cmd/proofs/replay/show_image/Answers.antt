-- An image is one part.
use Rattle.std.proofs.Common.{[], ◌∷◌}
use Rattle.model_frames.specs.declared.frame.Frame.TheVariants.{Render}
use Rattle.modeller_cmd.specs.Writing.{Halted}
use Rattle.modeller_cmd.specs.Replays.{framed}
use Rattle.modeller_cmd.specs.declared.stop.Stop.TheVariants.{NoMemory}
use Rattle.modeller_cmd.proofs.Writing.{part-undrawn, ends-with}
use Rattle.modeller_cmd.proofs.replay.show_image.Goals as goal

pub returns-in_err-make_room-clause-halted : goal.returns-in_err-make_room-clause-halted
returns-in_err-make_room-clause-halted g c =
    let part = framed (Render c.args.view.now) c.args.session.now in
    ends-with c.from_residual-in_err-make_room.result NoMemory (Halted g.K.Sink.held g.K.Sink.faults c.args.out.now c.args.out.now c.args.tally.now c.draw_raster.new.tally (part ∷ []))
    c.from_residual-in_err-make_room.ensures.1
    (part-undrawn g.K.Sink.held g.K.Sink.faults c.args.out.now c.args.tally.now c.draw_raster.new.tally part c.in_ok-draw_raster.ensures.at_most c.in_ok-draw_raster.ensures.plain)
