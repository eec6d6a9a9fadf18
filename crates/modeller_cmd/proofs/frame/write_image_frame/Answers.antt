use Rattle.std.proofs.Common.{◌*◌, ◌+◌, ◌++◌, length, ap, sym, subst, ◌∙◌}
use Rattle.std.specs.Prelude.{OnErr, OnOk, codes}
use Rattle.modeller_io.specs.Held.{Gains, GainsProperPrefix}
use Rattle.model_frames.specs.Images.{drawn_text}
use Rattle.raster_pgm.specs.Pgm.{pgm_header_of}
use Rattle.modeller_cmd.specs.Frames.{frame_header}
use Rattle.modeller_cmd.proofs.Bands.{length-text}
use Rattle.modeller_cmd.proofs.frame.write_image_frame.Goals as goal

pub returns-clause-ok : goal.returns-clause-ok
returns-clause-ok g c =
    let image = g.R.RowSource.image c.args.image.now in
    let view = c.args.view.now in
    let count = c.raster_length.ensures ∙ ap (λ v. length (pgm_header_of v.w v.h) + v.w * v.h) c.view.view_is ∙ sym (length-text image view c.requires.over) in
    let line = c.bytes.ensures ∙ c.header-line.ensures ∙ ap (frame_header (codes "render")) count in
    subst (λ l. OnOk c.write_image.result (Gains g.K.Sink.held c.args.out.now c.write_image.new.out (l ++ drawn_text image))) line c.write_image.ensures.ok

pub returns-clause-err : goal.returns-clause-err
returns-clause-err g c =
    let image = g.R.RowSource.image c.args.image.now in
    let view = c.args.view.now in
    let count = c.raster_length.ensures ∙ ap (λ v. length (pgm_header_of v.w v.h) + v.w * v.h) c.view.view_is ∙ sym (length-text image view c.requires.over) in
    let line = c.bytes.ensures ∙ c.header-line.ensures ∙ ap (frame_header (codes "render")) count in
    subst (λ l. OnErr c.write_image.result (GainsProperPrefix g.K.Sink.held c.args.out.now c.write_image.new.out (l ++ drawn_text image))) line c.write_image.ensures.err
