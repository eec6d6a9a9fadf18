-- Boxes that are visited one after the other.
use Rattle.std.specs.Prelude.{◌≡◌, ℕ, ◌*◌, ◌⊎◌, List, [], ◌∷◌, Some, length, slice_get, take}
use Rattle.std.specs.List.{filter}
use Rattle.box_chains.specs.Chains.{Descent, Visit, handed_on, visit}
use Rattle.box_chains.specs.Tallied.{CountsAtMost}
use Rattle.fixed_ops.specs.Counts.{Counts}
use Rattle.interval_ops.specs.HullCounts.{CountsHulls}
use Rattle.live_clauses.specs.declared.step.Step.{Step}
use Rattle.view_places.specs.Boxes.{Indices}
use Rattle.box_descent.specs.Plans.{first_group, is_traced, second_group}
use Rattle.box_descent.specs.Visitors.{Meaning}

-- something is done, and then something else
pub record Then {S : Type 0} (First : S → Counts → Type 0) (Rest : S → Counts → Type 0) : Type 0 where
  pub mid : S
  pub tally : Counts
  pub first : First mid tally
  pub rest : Rest mid tally

-- boxes that are given a tape are visited in their order
abbrev pub Runs : {S M : Type 0} → Meaning S M → Descent → List Step → S → S → List Indices → Counts → Counts → Type 0
Runs m d tape a c [] t u = (a ≡ c) × (t ≡ u)
Runs {S} m d tape a c (b ∷ bs) t u =
    Then (λ (mid : S) between. m.draws d a mid (visit b tape) t between)
    (λ (mid : S) between. Runs m d tape mid c bs between u)

-- what tracing those of some boxes takes that are traced together
abbrev pub traces : {S M : Type 0} → Meaning S M → List Step → List Indices → ℕ
traces m tape boxes = length (filter (is_traced m.plan) boxes) * length tape

-- boxes are traced together, and then the first of them are visited
pub record Group {S M : Type 0} (m : Meaning S M) (d : Descent) (tape : List Step) (boxes : List Indices)
    (a c : S) (visited : List Indices) (t u : Counts) : Type 0 where
  pub tally : Counts
  pub traced : CountsHulls (traces m tape boxes) t tally
  pub runs : Runs m d tape a c visited tally u

-- and the next one is left in its midst
pub record Left {S M : Type 0} (m : Meaning S M) (d : Descent) (tape : List Step) (boxes : List Indices)
    (a c : S) (t u : Counts) : Type 0 where
  pub place : ℕ
  pub box : Indices
  pub there : slice_get boxes place ≡ Some box
  pub mid : S
  pub tally : Counts
  pub before : Group m d tape boxes a mid (take place boxes) t tally
  pub left : m.halts d mid c (visit box tape) tally u

-- or they are not all traced
abbrev pub Stops : {S M : Type 0} → Meaning S M → Descent → List Step → List Indices → S → S → Counts → Counts → Type 0
Stops m d tape boxes a c t u =
    ((a ≡ c) × CountsAtMost 0 (traces m tape boxes) t u) ⊎ Left m d tape boxes a c t u

-- the children of a box of either group that a visitor wants
abbrev pub firsts : {S M : Type 0} → Meaning S M → Descent → S → Indices → List Indices
firsts m d s b = filter (m.wanted d s) (first_group m.plan b)

abbrev pub seconds : {S M : Type 0} → Meaning S M → Descent → S → Indices → List Indices
seconds m d s b = filter (m.wanted d s) (second_group m.plan b)

-- the children of a box are visited, one group after the other
pub record Below {S M : Type 0} (m : Meaning S M) (d : Descent) (v : Visit) (a c : S) (t u : Counts) : Type 0 where
  pub mid : S
  pub tally : Counts
  pub first : Group m d (handed_on d v) (firsts m d a v.box) a mid (firsts m d a v.box) t tally
  pub second : Group m d (handed_on d v) (seconds m d mid v.box) mid c (seconds m d mid v.box) tally u

-- one of the second group is left in its midst, or they are not all traced
pub record StopsLater {S M : Type 0} (m : Meaning S M) (d : Descent) (v : Visit) (a c : S) (t u : Counts) : Type 0 where
  pub mid : S
  pub tally : Counts
  pub first : Group m d (handed_on d v) (firsts m d a v.box) a mid (firsts m d a v.box) t tally
  pub second : Stops m d (handed_on d v) (seconds m d mid v.box) mid c tally u

-- or so one of the first
abbrev pub StopsBelow : {S M : Type 0} → Meaning S M → Descent → Visit → S → S → Counts → Counts → Type 0
StopsBelow m d v a c t u = Stops m d (handed_on d v) (firsts m d a v.box) a c t u ⊎ StopsLater m d v a c t u
