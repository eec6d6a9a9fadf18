use Rattle.std.proofs.Common.{ap, false, get_or, ◌∙◌}
use Rattle.contour_lines.proofs.KnownLaws.{none-known}
use Rattle.oct_descent.proofs.Bricks.{replicate-false}
use Rattle.contour_lines.proofs.known_values.KnownValues.new.Goals as goal

pub returns-clause-none : goal.returns-clause-none
returns-clause-none c p = none-known _ p (λ k. ap (λ l. get_or l k false) (c.in_ok-vec.ensures.items_if_clones_equal (λ y h. h)) ∙ replicate-false _ k)
