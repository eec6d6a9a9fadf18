-- The tops of columns of samples.
use Rattle.std.specs.Prelude.{ℕ, ◌+◌, ◌-◌, Bool, List, map, if◌then◌else◌}
use Rattle.std.specs.List.{flat_map, range_with_len}
use Rattle.fixed_ops.specs.Raw.{is_inside}
use Rattle.live_clauses.specs.Steps.{tape_value}
use Rattle.live_clauses.specs.declared.step.Step.{Step}
use Rattle.box_chains.specs.Sums.{maximum}
use Rattle.view_places.specs.Places.{point_of}
use Rattle.view_places.specs.Window.{Window}
use Rattle.view_places.specs.declared.lattice.Lattice.TheVariants.{Height}

-- whether the value of a list is inside at sample k, from the far end on, of the column at i, from
-- the left on, in row j, from the top on
abbrev pub inside : Window → List Step → ℕ → ℕ → ℕ → Bool
inside view list i j k = is_inside (tape_value (point_of view Height i j k) list)

-- 1 plus the greatest index from low on, below high, of a sample of a column that is inside, or 0
-- where there is none
abbrev pub top_among : Window → List Step → ℕ → ℕ → ℕ → ℕ → ℕ
top_among view list low high i j =
    maximum (map (λ k. if inside view list i j k then k + 1 else 0) (range_with_len low (high - low)))

-- the top of a column
abbrev pub top_of : Window → List Step → ℕ → ℕ → ℕ
top_of view list i j = top_among view list 0 view.d i j

-- the tops of the columns of row j
abbrev pub row_of : Window → List Step → ℕ → List ℕ
row_of view list j = map (λ i. top_of view list i j) (range_with_len 0 view.w)

-- the tops of all columns, row by row
abbrev pub tops_of : Window → List Step → List ℕ
tops_of view list = flat_map (row_of view list) (range_with_len 0 view.h)
