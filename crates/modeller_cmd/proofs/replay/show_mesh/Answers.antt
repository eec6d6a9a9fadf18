-- A mesh is one part.
use Rattle.std.proofs.Common.{◌≡◌, ℕ, List, [], ◌∷◌, ap, codes, length, refl, subst, ◌∙◌}
use Rattle.std.specs.Prelude.{Option, Some, None}
use Rattle.fixed_ops.specs.Counts.{Counts}
use Rattle.live_clauses.specs.Live.{root_of}
use Rattle.live_clauses.specs.declared.step.Step.{Step}
use Rattle.model_frames.specs.Meshes.{grid_before, plain_grid}
use Rattle.model_frames.specs.Work.{PointsRiseAtMost, grid_work}
use Rattle.model_frames.specs.declared.frame.Frame.TheVariants.{Mesh}
use Rattle.edit_session.specs.Sessions.{State}
use Rattle.view_places.specs.Window.{Window}
use Rattle.modeller_cmd.specs.Frames.{frame_of}
use Rattle.modeller_cmd.specs.Writing.{Halted}
use Rattle.modeller_cmd.specs.Replays.{framed}
use Rattle.modeller_cmd.specs.declared.stop.Stop.TheVariants.{WriteFault, NoMemory}
use Rattle.modeller_cmd.proofs.Writing.{part-written, part-halted, part-undrawn, ends-with}
use Rattle.modeller_cmd.proofs.replay.show_mesh.Goals as goal

-- plain evaluation takes the same whatever mesh came before
work-plain : (was : Option (List Step)) (view : Window) (list : List Step) (plain : ℕ) → plain ≡ (grid_work was view list plain).plain
work-plain None view list plain = refl
work-plain (Some was) view list plain = refl

rises-plain : (before after : Counts) (state : State) (view : Window) → PointsRiseAtMost before after (plain_grid view (length state.clauses))
    → PointsRiseAtMost before after (framed (Mesh view) state).work.plain
rises-plain before after state view h =
    subst (PointsRiseAtMost before after) (work-plain (grid_before state.mesh view) view (root_of state.clauses) (plain_grid view (length state.clauses))) h

pub returns-in_err-draw_mesh-clause-halted : goal.returns-in_err-draw_mesh-clause-halted
returns-in_err-draw_mesh-clause-halted g c =
    let part = framed (Mesh c.args.view.now) c.args.session.now in
    ends-with c.from_residual.result NoMemory (Halted g.K.Sink.held g.K.Sink.faults c.args.out.now c.args.out.now c.args.tally.now c.draw_mesh.new.tally (part ∷ [])) c.from_residual.ensures.1
    (part-undrawn g.K.Sink.held g.K.Sink.faults c.args.out.now c.args.tally.now c.draw_mesh.new.tally part c.in_err-draw_mesh.ensures.at_most (rises-plain c.args.tally.now c.draw_mesh.new.tally c.args.session.now c.args.view.now c.in_err-draw_mesh.ensures.plain))

pub returns-in_err-mesh_text_in-clause-halted : goal.returns-in_err-mesh_text_in-clause-halted
returns-in_err-mesh_text_in-clause-halted g c =
    let part = framed (Mesh c.args.view.now) c.args.session.now in
    ends-with c.from_residual-in_err-mesh_text_in.result NoMemory (Halted g.K.Sink.held g.K.Sink.faults c.args.out.now c.args.out.now c.args.tally.now c.draw_mesh.new.tally (part ∷ []))
    c.from_residual-in_err-mesh_text_in.ensures.1
    (part-undrawn g.K.Sink.held g.K.Sink.faults c.args.out.now c.args.tally.now c.draw_mesh.new.tally part c.in_ok-draw_mesh.ensures.at_most (rises-plain c.args.tally.now c.draw_mesh.new.tally c.args.session.now c.args.view.now c.in_ok-draw_mesh.ensures.plain))

pub returns-in_err-write_frame-clause-halted : goal.returns-in_err-write_frame-clause-halted
returns-in_err-write_frame-clause-halted g c =
    let part = framed (Mesh c.args.view.now) c.args.session.now in
    ends-with c.from_residual-in_err-write_frame.result WriteFault (Halted g.K.Sink.held g.K.Sink.faults c.args.out.now c.write_frame.new.out c.args.tally.now c.draw_mesh.new.tally (part ∷ []))
    c.from_residual-in_err-write_frame.ensures.1
    (part-halted g.K.Sink.held g.K.Sink.faults c.args.out.now c.write_frame.new.out c.args.tally.now c.draw_mesh.new.tally part (frame_of (codes "mesh") c.deref.result.now)
    (ap (frame_of (codes "mesh")) (c.deref.ensures.value ∙ c.in_ok-mesh_text_in.ensures.text ∙ c.in_ok-draw_mesh.ensures.text))
    (record { gained = c.in_err-write_frame.ensures.err; fault = c.in_err-write_frame.ensures.cause }) c.in_ok-draw_mesh.ensures.at_most (rises-plain c.args.tally.now c.draw_mesh.new.tally c.args.session.now c.args.view.now c.in_ok-draw_mesh.ensures.plain))

pub returns-clause-written : goal.returns-clause-written
returns-clause-written g c =
    let part = framed (Mesh c.args.view.now) c.args.session.now in
    part-written g.K.Sink.held g.K.Sink.faults c.args.out.now c.write_frame.new.out c.args.tally.now c.draw_mesh.new.tally part (frame_of (codes "mesh") c.deref.result.now)
    (ap (frame_of (codes "mesh")) (c.deref.ensures.value ∙ c.in_ok-mesh_text_in.ensures.text ∙ c.in_ok-draw_mesh.ensures.text))
    c.in_ok-write_frame.ensures.ok c.in_ok-write_frame.ensures.no_fault c.in_ok-draw_mesh.ensures.counted c.in_ok-draw_mesh.ensures.at_most (rises-plain c.args.tally.now c.draw_mesh.new.tally c.args.session.now c.args.view.now c.in_ok-draw_mesh.ensures.plain)
