-- Scratch memory of walks over a list: a byte for each step with a bit for each lane in which it is
-- needed, and the new numbers.
use Rattle.std.specs.Prelude.{◌≡◌, ℕ, ◌<◌, ◌≤◌, Bool, true, false, ◌||◌, List, length, slice_index}
use Rattle.interval_ops.specs.declared.choice.Choice.{Choice}
use Rattle.live_clauses.specs.declared.step.Step.{Step}
use Rattle.live_clauses.specs.Choices.{has_bit}
use Rattle.live_clauses.specs.Live.{is_needed}

-- whether a place is marked in a lane, where memory has a byte for each place and a bit for each lane
abbrev pub is_marked : ℕ → List ℕ → ℕ → Bool
is_marked l marks place = has_bit (slice_index marks place) l

-- a walk marked these places in a lane, and left the others as they were
abbrev pub Marks : ℕ → List ℕ → List ℕ → (ℕ → Bool) → Type 0
Marks l old new these = (place : ℕ) → is_marked l new place ≡ (is_marked l old place || these place)

-- the steps that are marked in a lane are the needed ones
abbrev pub AreMarks : ℕ → List Step → List Choice → List ℕ → Type 0
AreMarks l steps choices marks = (place : ℕ) → place < length steps
    → is_marked l marks place ≡ is_needed steps choices place

-- no place from one on before another is marked in a lane
abbrev pub AreIdle : ℕ → List ℕ → ℕ → ℕ → Type 0
AreIdle l marks from to = (place : ℕ) → from ≤ place → place < to → is_marked l marks place ≡ false

-- the first place from another on that is marked in a lane, or the end where none before it is
pub record IsNextMarked (l : ℕ) (marks : List ℕ) (from end place : ℕ) : Type 0 where
  pub onward : from ≤ place
  pub within : place ≤ end
  pub idle : AreIdle l marks from place
  pub there : place < end → is_marked l marks place ≡ true
