-- A text takes no work.
use Rattle.std.proofs.Common.{ap, subst, sym}
use Rattle.model_frames.specs.Frames.{frame_part}
use Rattle.model_frames.specs.Work.{CountsWithin, CountsWork, no_work}
use Rattle.model_frames.proofs.WorkLaws.{frames_add_up_is}
use Rattle.model_frames.proofs.frame.Frame.draw.Goals as goal

pub returns-in_ok-write_model-in-Text-clause-counted : goal.returns-in_ok-write_model-in-Text-clause-counted
returns-in_ok-write_model-in-Text-clause-counted c =
    subst (CountsWork c.args.tally.now c.args.tally.now) (sym (ap (λ frame. (frame_part frame c.args.model.now).work) c.in-Text.is)) (frames_add_up_is.none c.args.tally.now)

pub returns-in_ok-write_model-in-Text-clause-at_most : goal.returns-in_ok-write_model-in-Text-clause-at_most
returns-in_ok-write_model-in-Text-clause-at_most c =
    subst (CountsWithin c.args.tally.now c.args.tally.now) (sym (ap (λ frame. (frame_part frame c.args.model.now).work) c.in-Text.is)) (frames_add_up_is.within_none c.args.tally.now no_work)

pub returns-in_err-write_model-in-Text-clause-at_most : goal.returns-in_err-write_model-in-Text-clause-at_most
returns-in_err-write_model-in-Text-clause-at_most c =
    subst (CountsWithin c.args.tally.now c.args.tally.now) (sym (ap (λ frame. (frame_part frame c.args.model.now).work) c.in-Text.is)) (frames_add_up_is.within_none c.args.tally.now no_work)
