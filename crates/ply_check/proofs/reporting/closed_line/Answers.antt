-- The text is that of the format.
use Rattle.std.proofs.Common.{ap, ◌∙◌}
use Rattle.ply_check.proofs.reporting.closed_line.Goals as goal

pub returns : goal.returns
returns c = ap (λ v. v.items) c.into_bytes.ensures.value ∙ c.in_ok-line.ensures.ok
