-- How many edges lead from a vertex to another, and back.
use Rattle.std.specs.Prelude.{◌≡◌, ℕ, ◌==◌, ◌≤◌, ◌⊎◌, List, length, get_or, count_by, All, Contains}
use Rattle.ply_check.specs.declared.arc.Arc.{Arc}

-- how often a number is the first, or the second, of some pairs
abbrev pub leaving : List (ℕ × ℕ) → ℕ → ℕ
leaving es v = count_by (λ (e : ℕ × ℕ). e.0 == v) es

abbrev pub arriving : List (ℕ × ℕ) → ℕ → ℕ
arriving es v = count_by (λ (e : ℕ × ℕ). e.1 == v) es

-- two tables tell of the numbers below one how often they are the first, and the second, of some pairs
pub record AreDegrees (top : ℕ) (es : List (ℕ × ℕ)) (to back : List ℕ) : Type 0 where
  pub firsts : length to ≡ top
  pub seconds : length back ≡ top
  pub leave : (v : ℕ) → get_or to v 0 ≡ leaving es v
  pub arrive : (v : ℕ) → get_or back v 0 ≡ arriving es v

-- both tables tell 1 of a number
pub record IsOnce (to back : List ℕ) (v : ℕ) : Type 0 where
  pub to_one : get_or to v 0 ≡ 1
  pub back_one : get_or back v 0 ≡ 1

-- the place of an arc whose next vertex is not told 1 of by both
pub record IsUnpairedAt (to back : List ℕ) (arcs : List Arc) (place : ℕ) : Type 0 where
  pub arc : Arc
  pub among : Contains arcs arc
  pub there : arc.place ≡ place
  pub fails : IsOnce to back arc.next → ⊥

-- the least of a place and those of such arcs
pub record IsLeastUnpaired (to back : List ℕ) (arcs : List Arc) (first least : ℕ) : Type 0 where
  pub most : least ≤ first
  pub each : All (λ (a : Arc). IsOnce to back a.next ⊎ (least ≤ a.place)) arcs
  pub reached : (least ≡ first) ⊎ IsUnpairedAt to back arcs least
