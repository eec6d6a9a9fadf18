-- The lines of the work of a fresh image, which a tally of its own counts.
use Rattle.std.proofs.Common.{◌≡◌, ℕ, ap, ◌∙◌}
use Rattle.fixed_ops.specs.Counts.{Counts, no_counts}
use Rattle.model_frames.specs.Work.{CountsWork, FitsCounts, exactly}
use Rattle.modeller_cmd.specs.CountTexts.{count_lines}
use Rattle.model_frames.proofs.WorkLaws.{done-joined, plain-joined, told-exactly, within-joined}

-- what such a tally counts is counted by one that takes it in
pub ruleset counted_apart = (done-joined, within-joined, plain-joined)

-- such a tally tells the numbers of exact work, so its lines are those of that work
pub told-text : (counts : Counts) (points spans plain : ℕ) → FitsCounts (exactly points spans plain)
    → CountsWork no_counts counts (exactly points spans plain)
    → (p s q : ℕ) → p ≡ counts.points → s ≡ counts.spans → q ≡ plain → count_lines p s q ≡ count_lines points spans plain
told-text counts points spans plain fits done p s q one two three =
    let told = told-exactly counts points spans plain fits done in
    ap (λ n. count_lines n s q) (one ∙ told.0) ∙ ap (λ n. count_lines points n q) (two ∙ told.1) ∙ ap (λ n. count_lines points spans n) three
