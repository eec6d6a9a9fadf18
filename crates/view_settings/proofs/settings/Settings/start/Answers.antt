use Rattle.std.specs.List.{IsDistinct}
use Rattle.view_settings.proofs.settings.Settings.start.Goals as goal

pub invariant_of-result : goal.invariant_of-result
unfolding IsDistinct
invariant_of-result c = rw c.new.ensures (record { each = tt; distinct = tt })
