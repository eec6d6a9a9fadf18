-- All vertices are below the number.
use Rattle.std.proofs.Common.{arith}
use Rattle.ply_check.proofs.Places.{corners_below}
use Rattle.ply_check.proofs.checking.top_of.Goals as goal

pub returns-clause-below : goal.returns-clause-below
returns-clause-below c =
    corners_below c.args.faces.now c.loop-number.top (λ n k within few. c.loop-number.invariant.below n k (omega (arith, within)) few)
