-- Each row of the table is what the definition computes for its pattern.
use Rattle.std.proofs.Common.{refl}
use Rattle.kuhn_cells.specs.Arrangement.{arranged}
use Rattle.kuhn_cells.proofs.pattern.Pattern.evenly.Goals as goal

pub returns-in-true-false-true-false-clause-positions : goal.returns-in-true-false-true-false-clause-positions
unfolding arranged
returns-in-true-false-true-false-clause-positions c = rw (c.in-true-false-true-false.is-0, c.in-true-false-true-false.is-1, c.in-true-false-true-false.is-2, c.in-true-false-true-false.is-3) refl

pub returns-in-true-false-false-true-clause-positions : goal.returns-in-true-false-false-true-clause-positions
unfolding arranged
returns-in-true-false-false-true-clause-positions c = rw (c.in-true-false-false-true.is-0, c.in-true-false-false-true.is-1, c.in-true-false-false-true.is-2, c.in-true-false-false-true.is-3) refl

pub returns-in-false-true-true-false-clause-positions : goal.returns-in-false-true-true-false-clause-positions
unfolding arranged
returns-in-false-true-true-false-clause-positions c = rw (c.in-false-true-true-false.is-0, c.in-false-true-true-false.is-1, c.in-false-true-true-false.is-2, c.in-false-true-true-false.is-3) refl

pub returns-in-false-true-false-true-clause-positions : goal.returns-in-false-true-false-true-clause-positions
unfolding arranged
returns-in-false-true-false-true-clause-positions c = rw (c.in-false-true-false-true.is-0, c.in-false-true-false-true.is-1, c.in-false-true-false-true.is-2, c.in-false-true-false-true.is-3) refl

pub returns-in-false-false-true-true-clause-positions : goal.returns-in-false-false-true-true-clause-positions
unfolding arranged
returns-in-false-false-true-true-clause-positions c = rw (c.in-false-false-true-true.is-0, c.in-false-false-true-true.is-1, c.in-false-false-true-true.is-2, c.in-false-false-true-true.is-3) refl

pub returns-in-false-true-false-false-clause-positions : goal.returns-in-false-true-false-false-clause-positions
unfolding arranged
returns-in-false-true-false-false-clause-positions c = rw (c.in-false-true-false-false.is-0, c.in-false-true-false-false.is-1, c.in-false-true-false-false.is-2, c.in-false-true-false-false.is-3) refl

pub returns-in-false-true-false-false-2-clause-positions : goal.returns-in-false-true-false-false-2-clause-positions
unfolding arranged
returns-in-false-true-false-false-2-clause-positions c = rw (c.in-false-true-false-false.is-0, c.in-false-true-false-false.is-1, c.in-false-true-false-false.is-2, c.in-false-true-false-false.is-3) refl

pub returns-in-false-false-true-false-clause-positions : goal.returns-in-false-false-true-false-clause-positions
unfolding arranged
returns-in-false-false-true-false-clause-positions c = rw (c.in-false-false-true-false.is-0, c.in-false-false-true-false.is-1, c.in-false-false-true-false.is-2, c.in-false-false-true-false.is-3) refl

pub returns-in-false-false-true-false-2-clause-positions : goal.returns-in-false-false-true-false-2-clause-positions
unfolding arranged
returns-in-false-false-true-false-2-clause-positions c = rw (c.in-false-false-true-false.is-0, c.in-false-false-true-false.is-1, c.in-false-false-true-false.is-2, c.in-false-false-true-false.is-3) refl

pub returns-in-false-false-false-true-clause-positions : goal.returns-in-false-false-false-true-clause-positions
unfolding arranged
returns-in-false-false-false-true-clause-positions c = rw (c.in-false-false-false-true.is-0, c.in-false-false-false-true.is-1, c.in-false-false-false-true.is-2, c.in-false-false-false-true.is-3) refl

pub returns-in-false-false-false-true-2-clause-positions : goal.returns-in-false-false-false-true-2-clause-positions
unfolding arranged
returns-in-false-false-false-true-2-clause-positions c = rw (c.in-false-false-false-true.is-0, c.in-false-false-false-true.is-1, c.in-false-false-false-true.is-2, c.in-false-false-false-true.is-3) refl

pub returns-in_default-clause-positions : goal.returns-in_default-clause-positions
unfolding arranged
returns-in_default-clause-positions c = rw (c.in_default.is-0, c.in_default.is-1, c.in_default.is-2, c.in_default.is-3) refl

pub returns-in_default-2-clause-positions : goal.returns-in_default-2-clause-positions
unfolding arranged
returns-in_default-2-clause-positions c = rw (c.in_default.is-0, c.in_default.is-1, c.in_default.is-2, c.in_default.is-3) refl

pub returns-in_default-3-clause-positions : goal.returns-in_default-3-clause-positions
unfolding arranged
returns-in_default-3-clause-positions c = rw (c.in_default.is-0, c.in_default.is-1, c.in_default.is-2, c.in_default.is-3) refl

pub returns-in_default-4-clause-positions : goal.returns-in_default-4-clause-positions
unfolding arranged
returns-in_default-4-clause-positions c = rw (c.in_default.is-0, c.in_default.is-1, c.in_default.is-2, c.in_default.is-3) refl

pub returns-in_default-5-clause-positions : goal.returns-in_default-5-clause-positions
unfolding arranged
returns-in_default-5-clause-positions c = rw (c.in_default.is-0, c.in_default.is-1, c.in_default.is-2, c.in_default.is-3) refl
