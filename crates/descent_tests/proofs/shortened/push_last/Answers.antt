-- The choices are those of the last list.
use Rattle.std.proofs.Common.{sym, subst}
use Rattle.live_clauses.specs.Choices.{AreChoices}
use Rattle.descent_tests.proofs.shortened.push_last.Goals as goal

pub push_live-requires-clause-choices : goal.push_live-requires-clause-choices
push_live-requires-clause-choices c =
    subst (λ s. AreChoices s c.as_slice.result.now) c.in_ok-list.ensures (subst (AreChoices c.in_ok-list.list) (sym c.as_slice.ensures.value) c.in_ok-choices.ensures.choices)
