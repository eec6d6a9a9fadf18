use Rattle.std.proofs.Common.{◌+◌, ◌*◌, ◌<◌, arith, ap, length}
use Rattle.height_map.proofs.ChangeLaws.{covers-place, place-within, row-covered}
use Rattle.height_map.proofs.columns.is_covered.Goals as goal

pub loop-j-preserved : goal.loop-j-preserved
loop-j-preserved c =
    let y0 = ap (λ b. b.y0) c.b.view_is in
    record {
      same = c.loop-j.invariant.same;
      covered = λ p h e. row-covered c.args.w c.loop-j.j p c.args.b c.args.tops.now (omega (arith, y0, c.loop-j.auto.j)) c.loop-j.invariant.covered
          (λ i l m. c.is_row_covered.ensures.covered i c.if-not-is_row_covered.false l m) h e;
    }

pub returns-then-not-is_row_covered-clause-open : goal.returns-then-not-is_row_covered-clause-open
returns-then-not-is_row_covered-clause-open c = λ e.
    let b = c.args.b in
    let w = c.args.w in
    let j = c.loop-j.j in
    let y0 = ap (λ b. b.y0) c.b.view_is in
    let y1 = ap (λ b. b.y1) c.b.view_is in
    let row : j < b.y1 = omega (arith, y1, c.loop-j-test.true, c.loop-j.auto.j-end) in
    let found = c.is_row_covered.ensures.open c.if-not-is_row_covered.true in
    record {
      place = j * w + found.0;
      within = place-within w (length c.args.tops.now) found.0 j b c.requires found.2 row;
      covered = covers-place w found.0 j b (omega (arith, found.2, c.requires.columns)) found.1 found.2 (omega (arith, y0, c.loop-j.auto.j)) row;
      none = found.3;
    }
