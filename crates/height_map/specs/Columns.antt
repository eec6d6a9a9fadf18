-- Tops that change column by column.
use Rattle.std.specs.Prelude.{◌≡◌, ℕ, ◌+◌, ◌*◌, ◌/◌, ◌%◌, ◌<◌, ◌≤◌, ◌==◌, nat_le, nat_lt, Bool, true, ◌&&◌, List, length, get_or, if◌then◌else◌}
use Rattle.std.specs.List.{list_any, range_with_len}
use Rattle.box_chains.specs.Placing.{Sampling}
use Rattle.box_chains.specs.Sums.{Sample}
use Rattle.live_clauses.specs.declared.step.Step.{Step}
use Rattle.view_places.specs.Boxes.{Indices}
use Rattle.view_places.specs.Spans.{IsInRoot}
use Rattle.view_places.specs.Window.{Window}
use Rattle.view_places.specs.declared.lattice.Lattice.TheVariants.{Height}
use Rattle.height_map.specs.Tops.{top_among}

-- some whole rows of w columns have the columns of a box
pub record IsAmong (w len : ℕ) (b : Indices) : Type 0 where
  pub columns : b.x1 ≤ w
  pub rows : b.y1 * w ≤ len
  pub few : w ≤ 4096

-- whether the column at a place is one of a box
abbrev pub covers : ℕ → Indices → ℕ → Bool
covers w b p =
    nat_le b.x0 (p % w) && (nat_lt (p % w) b.x1 && (nat_le b.y0 (p / w) && nat_lt (p / w) b.y1))

-- some column of a box has no top
pub record HasOpen (w : ℕ) (b : Indices) (tops : List ℕ) : Type 0 where
  pub place : ℕ
  pub within : place < length tops
  pub covered : covers w b place ≡ true
  pub none : get_or tops place 0 ≡ 0

-- whether some column of a box has no top
abbrev pub has_open : ℕ → List ℕ → Indices → Bool
has_open w tops b =
    list_any (λ p. covers w b p && get_or tops p 0 == 0) (range_with_len 0 (length tops))

-- the numbers at some places become what they are to be, by place and number, and the others stay
pub record Changes (covers : ℕ → Bool) (becomes : ℕ → ℕ → ℕ) (before after : List ℕ) : Type 0 where
  pub same : length after ≡ length before
  pub each : (p : ℕ) → p < length before
      → get_or after p 0 ≡ (if covers p then becomes p (get_or before p 0) else get_or before p 0)

-- a column that has a top keeps it, and another gets one
abbrev pub lifted : ℕ → ℕ → ℕ
lifted new old = if old == 0 then new else old

-- the top of a column, once the samples of a box are looked at: the one that it has, or else the
-- one that they give
abbrev pub leaf_top : Window → List Step → Indices → ℕ → ℕ → ℕ
leaf_top view list b p old = lifted (top_among view list b.z0 b.z1 (p % view.w) (p / view.w)) old

-- the column of a sample has no top, and the sample does not lie behind the one that the samples of
-- the box give
abbrev pub is_open : Window → List Step → Indices → List ℕ → Sample → Bool
is_open view list b tops s = get_or tops (s.j * view.w + s.i) 0 == 0
    && nat_le (top_among view list b.z0 b.z1 s.i s.j) (s.k + 1)

-- the evaluations that a sample of a leaf takes
abbrev pub leaf_cost : Window → List Step → Indices → List ℕ → Sample → ℕ
leaf_cost view list b tops s = if is_open view list b tops s then length list else 0

-- a box is one of the height map's, whose tops there are
pub record IsLeafOf (sampling : Sampling) (w : ℕ) (b : Indices) (len : ℕ) : Type 0 where
  pub lattice : sampling.lattice ≡ Height
  pub within : IsInRoot sampling.view Height b
  pub width : w ≡ sampling.view.w
  pub among : IsAmong w len b
  pub high : b.z1 ≤ 1024
