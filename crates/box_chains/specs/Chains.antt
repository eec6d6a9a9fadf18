-- Boxes that receive lists of steps, and the boxes on the way to a sample.
use Rattle.std.specs.Prelude.{ℕ, zero, suc, ◌+◌, ◌-◌, Bool, false, ◌||◌, nat_lt, List, [], ◌∷◌, Option, Some, None, unwrap_or, if◌then◌else◌}
use Rattle.std.specs.List.{find, last_or, sum_by}
use Rattle.choice_trace.specs.Hulls.{choices_over, tape_hull}
use Rattle.interval_ops.specs.Decided.{decided_of}
use Rattle.live_clauses.specs.Live.{live_of}
use Rattle.live_clauses.specs.declared.step.Step.{Step}
use Rattle.view_places.specs.Boxes.{Indices, halves_of, has_sample}
use Rattle.view_places.specs.Spans.{region_of}
use Rattle.view_places.specs.Window.{Window}
use Rattle.view_places.specs.declared.lattice.Lattice.{Lattice}
use Rattle.box_chains.specs.Sums.{Sample}

-- how boxes are looked into: the samples of a lattice over a view, and the longest side that is not halved
pub record Descent : Type 0 where
  pub view : Window
  pub lattice : Lattice
  pub leaf : ℕ

-- a box with the list of steps that it receives
pub record Visit : Type 0 where
  pub box : Indices
  pub list : List Step

abbrev pub visit : Indices → List Step → Visit
visit b list = record { box = b; list = list }

-- the sum of a number over some boxes that receive a list
abbrev pub sum_over : (Visit → ℕ) → List Step → List Indices → ℕ
sum_over f list boxes = sum_by (λ b. f (visit b list)) boxes

-- inside or outside, where the hull of the received list over the box decides it
abbrev pub decision : Descent → Visit → Option Bool
decision d v = decided_of (tape_hull (region_of d.view d.lattice v.box) v.list)

-- the list that an undecided box hands on: what is live of the list that it receives
abbrev pub handed_on : Descent → Visit → List Step
handed_on d v = live_of v.list (choices_over (region_of d.view d.lattice v.box) v.list)

-- some side is longer than a leaf's
abbrev pub is_long : ℕ → Indices → Bool
is_long leaf b =
    nat_lt leaf (b.x1 - b.x0) || (nat_lt leaf (b.y1 - b.y0) || nat_lt leaf (b.z1 - b.z0))

-- a box is split where it is undecided and no leaf
abbrev pub is_split : Descent → Visit → Bool
is_split d v = by (decision d v)
  where
    by : Option Bool → Bool
    by None = is_long d.leaf v.box
    by (Some inside) = false

-- the half of a box that holds a sample
abbrev pub half_with : ℕ → Indices → Sample → Indices
half_with leaf b s = unwrap_or (find (λ half. has_sample s.i s.j s.k half) (halves_of leaf b)) b

-- that half, with the list that it receives
abbrev pub next_visit : Descent → Visit → Sample → Visit
next_visit d v s = record { box = half_with d.leaf v.box s; list = handed_on d v }

-- a half of a box that is split, with the list that it receives
abbrev pub half_visit : Descent → Visit → Indices → Visit
half_visit d v half = record { box = half; list = handed_on d v }

-- the lengths of the sides, of which a half has fewer
abbrev pub sides : Indices → ℕ
sides b = (b.x1 - b.x0) + (b.y1 - b.y0) + (b.z1 - b.z0)

unfoldable pub chain_within : ℕ → Descent → Visit → Sample → List Visit
chain_within zero d v s = []
chain_within (suc n) d v s =
    v ∷ (if is_split d v then chain_within n d (next_visit d v s) s else [])

-- The boxes on the way to a sample, from a box that holds it: that box, and where it is split the
-- boxes from the half that holds the sample on. So the last of them is decided or a leaf.
abbrev pub chain : Descent → Visit → Sample → List Visit
chain d v s = chain_within (sides v.box) d v s

-- the last box on the way
abbrev pub chain_end : Descent → Visit → Sample → Visit
chain_end d v s = unwrap_or (last_or None (chain d v s)) v
