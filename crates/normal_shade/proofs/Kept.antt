-- A theorem for the descents: lists that are pruned keep their slopes.
use Rattle.choice_trace.proofs.Traces.{choices_are_of_steps, operands_win}
use Rattle.live_clauses.proofs.Keeping.{live_of-meaning}
use Rattle.live_clauses.proofs.MeaningLaws.{meaning_at-step}
use Rattle.live_clauses.proofs.SlopeLaws.{sloped_at-reads, slopes_stand_by_values}
use Rattle.normal_shade.specs.Laws.{SlopesAreKept}
use Rattle.normal_shade.proofs.Choices.{slopes_are_kept}

pub slopes_kept : SlopesAreKept
slopes_kept =
    slopes_are_kept sloped_at-reads slopes_stand_by_values (λ m steps reads stand place step at. meaning_at-step m reads steps place step stand at) operands_win
    (λ m steps choices reads tape choose means. live_of-meaning steps choices tape choose m reads means) choices_are_of_steps
