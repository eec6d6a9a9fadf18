-- Each row of the table goes round.
use Rattle.std.proofs.Common.{◌≡◌, refl, arith}
use Rattle.kuhn_cells.proofs.RingLaws.{ring_is}
use Rattle.kuhn_cells.proofs.ring.around.Goals as goal

pub returns-in-1 : goal.returns-in-1
returns-in-1 c = ring_is c.args.dir 1 _ _ c.in-1.is c.from.ensures.0 refl

pub returns-in-2 : goal.returns-in-2
returns-in-2 c = ring_is c.args.dir 2 _ _ c.in-2.is c.from-in-2.ensures.0 refl

pub returns-in-3 : goal.returns-in-3
returns-in-3 c = ring_is c.args.dir 3 _ _ c.in-3.is c.four.ensures refl

pub returns-in-4 : goal.returns-in-4
returns-in-4 c = ring_is c.args.dir 4 _ _ c.in-4.is c.from-in-4.ensures.0 refl

pub returns-in-5 : goal.returns-in-5
returns-in-5 c = ring_is c.args.dir 5 _ _ c.in-5.is c.four-in-5.ensures refl

pub returns-in-6 : goal.returns-in-6
returns-in-6 c = ring_is c.args.dir 6 _ _ c.in-6.is c.four-in-6.ensures refl

pub returns-in_default : goal.returns-in_default
returns-in_default c = let last : c.args.dir ≡ 7 = omega arith in ring_is c.args.dir 7 _ _ last c.from-in_default.ensures.0 refl
