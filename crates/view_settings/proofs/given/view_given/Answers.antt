use Rattle.std.proofs.Common.{arith}
use Rattle.view_settings.proofs.GivenLaws.{height_fits, square_fits}
use Rattle.view_settings.proofs.given.view_given.Goals as goal

pub returns-clause-height : goal.returns-clause-height
returns-clause-height c = λ sides.
    let fits = height_fits c.args.verb c.args.taken.now c.requires sides in
    record {
      w = omega (arith, c.small_count_or.ensures.value, fits.w);
      h = omega (arith, c.small_count_or-2.ensures.value, fits.h);
    }

pub returns-clause-square : goal.returns-clause-square
returns-clause-square c = λ one.
    let fits = square_fits c.args.verb c.args.taken.now c.requires one in
    (grind (arith, fits.0), grind (arith, fits.1))
