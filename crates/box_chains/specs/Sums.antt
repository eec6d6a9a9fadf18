-- Sums over the samples of a box.
use Rattle.std.specs.Prelude.{ℕ, ◌-◌, ◌*◌, ◌≤◌, ◌<◌, List, [], ◌∷◌, max}
use Rattle.std.specs.List.{range_with_len, sum_by}
use Rattle.view_places.specs.Boxes.{Indices}

-- a sample, by its index along each axis
pub record Sample : Type 0 where
  pub i : ℕ
  pub j : ℕ
  pub k : ℕ

-- a sample lies in a box
pub record LiesIn (b : Indices) (s : Sample) : Type 0 where
  pub x : (b.x0 ≤ s.i) × (s.i < b.x1)
  pub y : (b.y0 ≤ s.j) × (s.j < b.y1)
  pub z : (b.z0 ≤ s.k) × (s.k < b.z1)

-- the sum of f over the numbers from low on, up to the one below high
abbrev pub sum_along : ℕ → ℕ → (ℕ → ℕ) → ℕ
sum_along low high f = sum_by f (range_with_len low (high - low))

-- the sum of f over the samples of a box
abbrev pub sum_in : Indices → (Sample → ℕ) → ℕ
sum_in b f =
    sum_along b.z0 b.z1 (λ k. sum_along b.y0 b.y1 (λ j. sum_along b.x0 b.x1 (λ i.
    f (record { i = i; j = j; k = k }))))

-- the greatest of some numbers, 0 where there is none
abbrev pub maximum : List ℕ → ℕ
maximum [] = 0
maximum (n ∷ ns) = max n (maximum ns)

-- how many samples a box has
abbrev pub size : Indices → ℕ
size b = (b.z1 - b.z0) * ((b.y1 - b.y0) * (b.x1 - b.x0))
