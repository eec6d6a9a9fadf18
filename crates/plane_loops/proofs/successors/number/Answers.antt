-- A base and a rank.
use Rattle.std.proofs.Common.{arith}
use Rattle.plane_loops.proofs.ReadLaws.{long_bases, number_read}
use Rattle.plane_loops.proofs.successors.number.Goals as goal

pub bounds-bases-place : goal.bounds-bases-place
bounds-bases-place c =
    let long = long_bases c.args.n c.args.signs.now c.args.bases.now c.requires.bases in
    omega (arith, long, c.place_of-place.ensures.within)

pub returns : goal.returns
returns c =
    number_read c.args.n c.args.signs.now c.args.bases.now c.args.x c.args.y c.args.dir _ _ c.requires.bases c.place_of-place.ensures.within c.place_of-place.ensures.place c.rank.ensures.rank
