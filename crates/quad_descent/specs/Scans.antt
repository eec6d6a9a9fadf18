-- The samples of a box one after another, row by row, as far as they are told.
use Rattle.std.specs.Prelude.{◌≡◌, ℕ, ◌+◌, ◌-◌, ◌*◌, ◌/◌, ◌%◌, ◌^◌, nat_lt, Bool, List, map, if◌then◌else◌}
use Rattle.std.specs.List.{range_with_len}
use Rattle.fixed_ops.specs.Points.{Point}
use Rattle.fixed_ops.specs.Raw.{is_inside}
use Rattle.live_clauses.specs.Steps.{tape_value}
use Rattle.live_clauses.specs.declared.step.Step.{Step}
use Rattle.view_places.specs.Boxes.{Indices}
use Rattle.view_places.specs.Places.{point_of}
use Rattle.view_places.specs.Window.{Window}
use Rattle.view_places.specs.declared.lattice.Lattice.{Lattice}
use Rattle.quad_descent.specs.Nodes.{bits_of}
use Rattle.quad_descent.specs.declared.scan.Scan.{Scan}

-- how many samples a layer of a box has
abbrev pub sample_count : Indices → ℕ
sample_count b = (b.x1 - b.x0) * (b.y1 - b.y0)

-- the column and the row of sample n
abbrev pub column_of : Indices → ℕ → ℕ
column_of b n = b.x0 + n % (b.x1 - b.x0)

abbrev pub row_of : Indices → ℕ → ℕ
row_of b n = b.y0 + n / (b.x1 - b.x0)

-- the point of sample n
abbrev pub nth_point : Window → Lattice → Indices → ℕ → Point
nth_point view lattice b n = point_of view lattice (column_of b n) (row_of b n) b.z0

-- whether the first so many samples are inside by a list
abbrev pub insides_upto : Window → Lattice → List Step → Indices → ℕ → List Bool
insides_upto view lattice list b count =
    map (λ n. is_inside (tape_value (nth_point view lattice b n) list)) (range_with_len 0 count)

-- the next sample of a scan is the one behind those that are told
pub record IsAtNext (b : Indices) (scan : Scan) : Type 0 where
  pub column : scan.i ≡ column_of b scan.told
  pub row : scan.j ≡ row_of b scan.told

-- and there is a binary digit for each of those
pub record IsTold (view : Window) (lattice : Lattice) (list : List Step) (b : Indices)
    (scan : Scan) : Type 0 where
  pub next : IsAtNext b scan
  pub bits : scan.bits ≡ bits_of (insides_upto view lattice list b scan.told)

-- the digits of row r, where each of so many rows has so many
abbrev pub row_digits : ℕ → ℕ → ℕ → ℕ → ℕ
row_digits bits width height r = bits / 2 ^ ((height - 1 - r) * width) % 2 ^ width

-- the rows, each as a number, in eight places of which the last may be empty
abbrev pub cut : ℕ → ℕ → ℕ → List ℕ
cut bits width height =
    map (λ r. if nat_lt r height then row_digits bits width height r else 0) (range_with_len 0 8)
