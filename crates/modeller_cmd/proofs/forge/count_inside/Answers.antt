use Rattle.std.proofs.Common.{◌≡◌, ◌*◌, ◌+◌, ◌<◌, ◌==◌, arith, ap, add-mul, ◌∙◌}
use Rattle.std.specs.Prelude.{Some, count_by}
use Rattle.std.proofs.lemmas.List.{length-take}
use Rattle.quad_descent.specs.Rows.{rows_at}
use Rattle.modeller_cmd.proofs.Bands.{count-next, pixels-of-rows}
use Rattle.modeller_cmd.proofs.forge.count_inside.Goals as goal

pub loop-row-preserved : goal.loop-row-preserved
loop-row-preserved c =
    let picture = c.args.picture.now in
    let view = c.args.view.now in
    let some : 0 < view.w = omega (arith, ap (λ v. v.w) c.view.view_is, c.view.invariant.w.some) in
    let row = c.loop-row.row in
    let rows = c.band_rows-rows.result in
    let so_far = c.loop-row.invariant in
    let white : c.count_white-inside.result ≡ count_by (λ pixel. pixel == 255) (rows_at (Some picture) row (rows * view.w)) =
    c.count_white-inside.ensures.count ∙ ap (count_by (λ pixel. pixel == 255)) c.put_rows-end.ensures.front in
    let within = length-take c.put_rows-end.result c.put_rows-end.new.buffer in
    record {
      within = c.band_rows-rows.ensures.within;
      counted = ap (λ n. n + c.count_white-inside.result) so_far.counted
          ∙ ap (λ n. count_by (λ pixel. pixel == 255) (rows_at (Some picture) 0 (row * view.w)) + n) white
          ∙ count-next (Some picture) view row rows (λ pixel. pixel == 255) c.requires.over some;
      few = omega (arith, so_far.few, c.count_white-inside.ensures.few, within, c.put_rows-end.ensures.end, add-mul row rows view.w);
      same = c.put_rows-end.ensures.same ∙ so_far.same;
    }

pub returns : goal.returns
returns c =
    let picture = c.args.picture.now in
    let view = c.args.view.now in
    let some : 0 < view.w = omega (arith, ap (λ v. v.w) c.view.view_is, c.view.invariant.w.some) in
    let last : c.loop-row.row ≡ view.h = omega (arith, c.loop-row.invariant.within, c.loop-row-test.false, ap (λ v. v.h) c.view.view_is) in
    c.loop-row.invariant.counted ∙ ap (λ n. count_by (λ pixel. pixel == 255) (rows_at (Some picture) 0 (n * view.w))) last
    ∙ ap (count_by (λ pixel. pixel == 255)) (pixels-of-rows picture view c.requires.over some)
