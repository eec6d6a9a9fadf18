use Rattle.std.proofs.Common.{◌<◌, ◌*◌, ◌+◌, ◌-◌, arith, ap, subst, ◌∙◌}
use Rattle.modeller_io.specs.Held.{Gains, GainsProperPrefix}
use Rattle.quad_descent.specs.Rows.{rows_at}
use Rattle.modeller_cmd.proofs.Bands.{rows-next, rows-three}
use Rattle.modeller_cmd.proofs.Gaining.{GainsProperPrefix-after, Gains-then, on-err}
use Rattle.modeller_cmd.proofs.image.write_bands.Goals as goal

pub returns-in_err-write_band-clause-err : goal.returns-in_err-write_band-clause-err
returns-in_err-write_band-clause-err g c =
    let image = g.R.RowSource.image c.args.image.now in
    let view = c.args.view.now in
    let some : 0 < view.w = omega (arith, ap (λ v. v.w) c.view.view_is, c.view.invariant.w.some) in
    let first = c.args.first in
    let row = c.loop-row.row in
    let rows = c.band_rows-rows.result in
    let so_far = c.loop-row.invariant in
    on-err c.from_residual.result _
    (subst (GainsProperPrefix g.K.Sink.held c.args.out.now c.write_band.new.out)
    (rows-three image view first row rows c.requires.over some so_far.above c.band_rows-rows.ensures.within)
    (GainsProperPrefix-after g.K.Sink.held c.args.out.now c.loop-row.out c.write_band.new.out (rows_at image first ((row - first) * view.w)) (rows_at image row (rows * view.w))
    (rows_at image (row + rows) ((view.h - (row + rows)) * view.w)) so_far.gained c.in_err-write_band.ensures.err))

pub loop-row-preserved : goal.loop-row-preserved
loop-row-preserved g c =
    let image = g.R.RowSource.image c.args.image.now in
    let view = c.args.view.now in
    let some : 0 < view.w = omega (arith, ap (λ v. v.w) c.view.view_is, c.view.invariant.w.some) in
    let first = c.args.first in
    let row = c.loop-row.row in
    let rows = c.band_rows-rows.result in
    let so_far = c.loop-row.invariant in
    record {
      above = omega (arith, so_far.above);
      within = c.band_rows-rows.ensures.within;
      gained = subst (Gains g.K.Sink.held c.args.out.now c.write_band.new.out) (rows-next image view first row rows c.requires.over some so_far.above)
          (Gains-then g.K.Sink.held c.args.out.now c.loop-row.out c.write_band.new.out (rows_at image first ((row - first) * view.w)) (rows_at image row (rows * view.w))
          so_far.gained c.in_ok-write_band.ensures.ok);
      no_fault = c.in_ok-write_band.ensures.no_fault ∙ so_far.no_fault;
      same = c.in_ok-write_band.ensures.same ∙ so_far.same;
    }
