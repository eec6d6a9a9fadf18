-- What a frame takes that comes after another of the same samples: the work of those boxes on the ways
-- to its samples that the other frame did not have, with an equal list, on the ways to the same samples.
use Rattle.std.specs.Prelude.{◌≡◌, ◌≢◌, ℕ, ◌==◌, Bool, ◌&&◌, List, [], length, Option, Some, None, if◌then◌else◌}
use Rattle.std.specs.List.{list_any, sum_by}
use Rattle.live_clauses.specs.Equality.{same_list}
use Rattle.live_clauses.specs.declared.step.Step.{Step}
use Rattle.view_places.specs.Boxes.{Indices}
use Rattle.box_chains.specs.Chains.{Descent, Visit, chain, chain_end, half_visit, is_split}
use Rattle.box_chains.specs.Counts.{cost, is_first, root_visit}
use Rattle.box_chains.specs.Sums.{Sample, sum_in}

-- two boxes are one
abbrev pub same_box : Indices → Indices → Bool
same_box a b =
    a.x0 == b.x0 && (a.x1 == b.x1
    && (a.y0 == b.y0 && (a.y1 == b.y1 && (a.z0 == b.z0 && a.z1 == b.z1))))

-- and receive equal lists
abbrev pub same_visit : Visit → Visit → Bool
same_visit a b = same_box a.box b.box && same_list a.list b.list

-- a box is old where it stands among those of the frame before, and received an equal list there
abbrev pub is_old : List Visit → Visit → Bool
is_old before v = list_any (same_visit v) before

-- the boxes on the way to each sample
abbrev pub Ways : Type 0
Ways = Sample → List Visit

-- those of the frame before, from a box that it reached; there are none where it did not reach it, or
-- where there is no such frame
abbrev pub ways_before : Descent → Option Visit → Ways
ways_before d None s = []
ways_before d (Some v) s = chain d v s

-- the lengths of the lists of those boxes that are not old, and have a sample as their first
abbrev pub new_lengths : List Visit → Sample → List Visit → ℕ
new_lengths before s visits =
    sum_by
    (λ v. if is_old before v then 0 else if is_first v.box s then length v.list else 0)
    visits

-- the steps that are traced over those boxes on some ways that are not old, each of them counted at
-- its first sample
abbrev pub new_spans : Ways → Ways → Indices → ℕ
new_spans before ways b = sum_in b (λ s. new_lengths (before s) s (ways s))

-- the evaluations that the samples of a box take where the last box on the way is not old
unfoldable pub points_after : Descent → Option Visit → Visit → ℕ
points_after d before v =
    sum_in v.box (λ s.
    if is_old (ways_before d before s) (chain_end d v s) then 0 else cost d v s)

-- the steps that are traced over a box and the boxes below it where they are not old
unfoldable pub spans_after : Descent → Option Visit → Visit → ℕ
spans_after d before v = new_spans (ways_before d before) (chain d v) v.box

-- the box of all samples in a frame before, which received its root list, where there is such a frame
abbrev pub frame_before : Descent → Option (List Step) → Option Visit
frame_before d None = None
frame_before d (Some list) = Some (root_visit d list)

-- a half of a box in the frame before, which reached it where it split the box
abbrev pub half_before : Descent → Option Visit → Indices → Option Visit
half_before d None half = None
half_before d (Some v) half = if is_split d v then Some (half_visit d v half) else None

-- the frame before did not reach a box, or another list was received there
abbrev pub IsNew : Option Visit → Visit → Type 0
IsNew before v = (old : Visit) → before ≡ Some old → (old.box ≡ v.box) × (old.list ≢ v.list)
