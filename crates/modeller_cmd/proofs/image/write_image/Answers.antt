-- The first piece has the line, the header and the first rows, and the rows below follow.
use Rattle.std.proofs.Common.{◌<◌, ◌*◌, ◌-◌, ◌++◌, arith, ap, refl, subst, ◌∙◌}
use Rattle.std.proofs.lemmas.Result.{on_err_weaker, on_ok_weaker}
use Rattle.modeller_io.specs.Held.{Gains, GainsProperPrefix}
use Rattle.quad_descent.specs.Rows.{rows_at}
use Rattle.raster_pgm.specs.Pgm.{pgm_header_of}
use Rattle.modeller_cmd.proofs.Bands.{front-more, front-then, text-in-bands}
use Rattle.modeller_cmd.proofs.Gaining.{Gains-then, on-err, two-pieces}
use Rattle.modeller_cmd.proofs.image.write_image.Goals as goal

pub returns-in_err-write_band-clause-err : goal.returns-in_err-write_band-clause-err
returns-in_err-write_band-clause-err g c =
    let image = g.R.RowSource.image c.args.image.now in
    let view = c.args.view.now in
    let some : 0 < view.w = omega (arith, ap (λ v. v.w) c.view.view_is, c.view.invariant.w.some) in
    let rows = c.band_rows-rows.result in
    let first = rows_at image 0 (rows * view.w) in
    let front = c.put_text-start-2.ensures.front
    ∙ two-pieces _ _ c.args.line.now (pgm_header_of view.w view.h) c.put_text-start.ensures.front
    (c.as_slice.ensures.value ∙ c.pgm_head.ensures.image refl ∙ ap (λ v. pgm_header_of v.w v.h) c.view.view_is) in
    on-err c.from_residual.result _
    (subst (GainsProperPrefix g.K.Sink.held c.args.out.now c.write_band.new.out) (text-in-bands image view rows c.args.line.now c.requires.over some (omega (arith, c.band_rows-rows.ensures.within)))
    (front-more g.K.Sink.held c.args.out.now c.write_band.new.out _ (rows_at image rows ((view.h - rows) * view.w))
    (subst (λ before. GainsProperPrefix g.K.Sink.held c.args.out.now c.write_band.new.out (before ++ first)) front c.in_err-write_band.ensures.err)))

pub returns-clause-ok : goal.returns-clause-ok
returns-clause-ok g c =
    let image = g.R.RowSource.image c.args.image.now in
    let view = c.args.view.now in
    let some : 0 < view.w = omega (arith, ap (λ v. v.w) c.view.view_is, c.view.invariant.w.some) in
    let rows = c.band_rows-rows.result in
    let first = rows_at image 0 (rows * view.w) in
    let below = rows_at image rows ((view.h - rows) * view.w) in
    let head = c.args.line.now ++ pgm_header_of view.w view.h in
    let front = c.put_text-start-2.ensures.front
    ∙ two-pieces _ _ c.args.line.now (pgm_header_of view.w view.h) c.put_text-start.ensures.front
    (c.as_slice.ensures.value ∙ c.pgm_head.ensures.image refl ∙ ap (λ v. pgm_header_of v.w v.h) c.view.view_is) in
    on_ok_weaker c.write_bands.result
    (λ rest. subst (Gains g.K.Sink.held c.args.out.now c.write_bands.new.out) (text-in-bands image view rows c.args.line.now c.requires.over some (omega (arith, c.band_rows-rows.ensures.within)))
    (Gains-then g.K.Sink.held c.args.out.now c.write_band.new.out c.write_bands.new.out (head ++ first) below
    (subst (λ before. Gains g.K.Sink.held c.args.out.now c.write_band.new.out (before ++ first)) front c.in_ok-write_band.ensures.ok) rest))
    c.write_bands.ensures.ok

pub returns-clause-err : goal.returns-clause-err
returns-clause-err g c =
    let image = g.R.RowSource.image c.args.image.now in
    let view = c.args.view.now in
    let some : 0 < view.w = omega (arith, ap (λ v. v.w) c.view.view_is, c.view.invariant.w.some) in
    let rows = c.band_rows-rows.result in
    let first = rows_at image 0 (rows * view.w) in
    let below = rows_at image rows ((view.h - rows) * view.w) in
    let head = c.args.line.now ++ pgm_header_of view.w view.h in
    let front = c.put_text-start-2.ensures.front
    ∙ two-pieces _ _ c.args.line.now (pgm_header_of view.w view.h) c.put_text-start.ensures.front
    (c.as_slice.ensures.value ∙ c.pgm_head.ensures.image refl ∙ ap (λ v. pgm_header_of v.w v.h) c.view.view_is) in
    on_err_weaker c.write_bands.result
    (λ rest. subst (GainsProperPrefix g.K.Sink.held c.args.out.now c.write_bands.new.out) (text-in-bands image view rows c.args.line.now c.requires.over some (omega (arith, c.band_rows-rows.ensures.within)))
    (front-then g.K.Sink.held c.args.out.now c.write_band.new.out c.write_bands.new.out (head ++ first) below
    (subst (λ before. Gains g.K.Sink.held c.args.out.now c.write_band.new.out (before ++ first)) front c.in_ok-write_band.ensures.ok) rest))
    c.write_bands.ensures.err
