-- What is to hold of a visitor.
use Rattle.std.specs.Prelude.{◌≡◌, ◌<◌, ◌≤◌, true, List, ◌∷◌}
use Rattle.box_chains.specs.Chains.{Descent, Visit, handed_on, visit}
use Rattle.box_chains.specs.Visits.{IsVisit}
use Rattle.fixed_ops.specs.Counts.{Counts}
use Rattle.live_clauses.specs.declared.step.Step.{Step}
use Rattle.view_places.specs.Boxes.{Indices}
use Rattle.box_descent.specs.Plans.{goes_on}
use Rattle.box_descent.specs.Runs.{Below, Group, StopsBelow, firsts, seconds}
use Rattle.box_descent.specs.Visitors.{Meaning}

-- a box that is split is the next one that can be visited
pub record IsSplit {S M : Type 0} (m : Meaning S M) (d : Descent) (s : S) (v : Visit) : Type 0 where
  pub leaf : d.leaf ≡ m.plan.leaf
  pub visit_is : IsVisit d v
  pub long : goes_on m.plan d v ≡ true
  pub later : List Indices
  pub fits : m.fits d s v.list (v.box ∷ later)

pub record VisitsAreLawful {S M : Type 0} (m : Meaning S M) : Type 0 where
  -- leaves have some samples, and not too many
  pub some : 0 < m.plan.leaf
  pub small : m.plan.leaf ≤ 4096
  -- where boxes can be visited, the state goes with the descent
  pub ready : (d : Descent) (s : S) (tape : List Step) (bs : List Indices) → m.fits d s tape bs → m.ready d s
  -- after a box that can be visited next, the others can be
  pub next : (d : Descent) (a c : S) (tape : List Step) (b : Indices) (bs : List Indices) (t u : Counts)
      → m.fits d a tape (b ∷ bs) → m.draws d a c (visit b tape) t u → m.fits d c tape bs
  -- once a box is opened, its children of the first group can be visited that are wanted
  pub begins : (d : Descent) (a mid : S) (v : Visit) (mark : M) → IsSplit m d a v → m.opens d a mid v mark
      → m.fits d mid (handed_on d v) (firsts m d mid v.box)
  -- and then those of the second
  pub resumes : (d : Descent) (a mid c : S) (v : Visit) (mark : M) (t u : Counts) → IsSplit m d a v
      → m.opens d a mid v mark
      → Group m d (handed_on d v) (firsts m d mid v.box) mid c (firsts m d mid v.box) t u
      → m.fits d c (handed_on d v) (seconds m d c v.box)
  -- a box that is split does what opening it, its children and closing it do
  pub closes : (d : Descent) (a mid last c : S) (v : Visit) (mark : M) (t u : Counts) → IsSplit m d a v
      → m.opens d a mid v mark → Below m d v mid last t u → m.closes last c mark → m.draws d a c v t u
  -- and is left where its children are
  pub stops : (d : Descent) (a mid last : S) (v : Visit) (mark : M) (t u : Counts) → IsSplit m d a v
      → m.opens d a mid v mark → StopsBelow m d v mid last t u → m.halts d a last v t u
