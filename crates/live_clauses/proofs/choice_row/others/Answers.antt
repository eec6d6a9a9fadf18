-- Each bit is turned.
use Rattle.live_clauses.proofs.Bits.{has_bit-not}
use Rattle.live_clauses.proofs.choice_row.others.Goals as goal

pub returns : goal.returns
returns c = λ lane within. has_bit-not c.args.lanes lane c.ranges.lanes.fits within
