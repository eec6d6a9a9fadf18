-- Columns whose top sample lies in a box.
use Rattle.std.specs.Prelude.{ℕ, ◌+◌, ◌-◌, ◌*◌, ◌/◌, ◌%◌, ◌==◌, nat_le, nat_lt, Bool, ◌&&◌, List, get_or, if◌then◌else◌}
use Rattle.std.specs.List.{list_any}
use Rattle.live_clauses.specs.declared.step.Step.{Step}
use Rattle.view_places.specs.Boxes.{Indices}
use Rattle.view_places.specs.Places.{point_of}
use Rattle.view_places.specs.Window.{Window}
use Rattle.view_places.specs.declared.lattice.Lattice.TheVariants.{Height}
use Rattle.box_chains.specs.Sums.{Sample, sum_along, sum_in}
use Rattle.height_map.specs.Columns.{covers}
use Rattle.normal_shade.specs.DualWork.{dual_points}
use Rattle.normal_shade.specs.Shades.{shade_of}

-- a sample is the top one of its column by some tops, row by row, where a row has w columns
abbrev pub is_marked : ℕ → List ℕ → Sample → Bool
is_marked w tops s = get_or tops (s.j * w + s.i) 0 == s.k + 1

-- how many samples of a box are
abbrev pub tops_in : ℕ → List ℕ → Indices → ℕ
tops_in w tops b = sum_in b (λ s. if is_marked w tops s then 1 else 0)

-- the top sample of a column that has this top lies in the layers of a box
abbrev pub is_within : Indices → ℕ → Bool
is_within b top = nat_lt b.z0 top && nat_le top b.z1

-- how many columns from `low` on, below `high`, of a row have their top sample in a box
abbrev pub tops_along : ℕ → List ℕ → Indices → ℕ → ℕ → ℕ → ℕ
tops_along w tops b j low high =
    sum_along low high (λ i. if is_within b (get_or tops (j * w + i) 0) then 1 else 0)

-- the column at a place has its top sample in a box
abbrev pub has_top_at : ℕ → List ℕ → Indices → ℕ → Bool
has_top_at w tops b p = covers w b p && is_within b (get_or tops p 0)

-- or in one of some boxes
abbrev pub some_top_at : ℕ → List ℕ → List Indices → ℕ → Bool
some_top_at w tops boxes p = list_any (λ b. has_top_at w tops b p) boxes

-- the light on the top sample of the column at a place
abbrev pub shade_at : Window → List Step → List ℕ → ℕ → ℕ
shade_at view list tops p = shade_of view list (get_or tops p 0) (p % view.w) (p / view.w)

-- the evaluations for those columns from `low` on, below `high`, of a row that have their top sample in a
-- box, which are lit by a list
abbrev pub lit_along : Window → List Step → List ℕ → Indices → ℕ → ℕ → ℕ → ℕ
lit_along view list tops b j low high =
    sum_along low high (λ i. if is_within b (get_or tops (j * view.w + i) 0)
    then dual_points (point_of view Height i j (get_or tops (j * view.w + i) 0 - 1)) list else 0)
