use Rattle.std.proofs.Common.{ap, get_or, ◌∙◌}
use Rattle.oct_descent.proofs.Bricks.{none-known, replicate-none}
use Rattle.oct_descent.proofs.grid_values.GridValues.new.Goals as goal

pub returns-clause-none : goal.returns-clause-none
returns-clause-none c p = none-known _ p (λ k. ap (λ l. get_or l k 0) (c.in_ok-places.ensures.items_if_clones_equal (λ y h. h)) ∙ replicate-none _ k)
