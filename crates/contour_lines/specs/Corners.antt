-- What the known corners of a cell show.
use Rattle.std.specs.Prelude.{◌≡◌, ℕ, ◌<◌, ℤ, Bool, true, false, not, ◌||◌, Option, Some, None, ◌⊎◌}
use Rattle.fixed_ops.specs.Raw.{is_inside}
use Rattle.kuhn_cells.specs.Triangles.{GridPoint, further}
use Rattle.oct_descent.specs.Known.{Known}
use Rattle.oct_descent.specs.Tables.{is_known}
use Rattle.contour_lines.specs.declared.seen.Seen.{Seen}

-- some corner of a cell is not known
pub record LacksCorner (t : Known) (p : GridPoint) : Type 0 where
  pub corner : ℕ
  pub few : corner < 4
  pub unknown : is_known (t.at (further p corner)) ≡ false

-- some corner of a cell is known, and is inside or not
pub record ShowsCorner (t : Known) (p : GridPoint) (inside : Bool) : Type 0 where
  pub corner : ℕ
  pub few : corner < 4
  pub value : ℤ
  pub known : t.at (further p corner) ≡ Some value
  pub side : is_inside value ≡ inside

-- those of the first corners of a cell that are known are all inside, or all outside
abbrev pub AllShow : Known → GridPoint → ℕ → Bool → Type 0
AllShow t p count inside = (c : ℕ) (v : ℤ) → c < count
    → t.at (further p c) ≡ Some v → is_inside v ≡ inside

-- What the known corners of a cell show: whether all are known, and whether some known one is
-- inside, and some outside.
pub record IsSeen (t : Known) (p : GridPoint) (seen : Seen) : Type 0 where
  pub all : seen.all ≡ true → (c : ℕ) → c < 4 → is_known (t.at (further p c)) ≡ true
  pub lacks : seen.all ≡ false → LacksCorner t p
  pub inside : seen.inside ≡ true → ShowsCorner t p true
  pub none_inside : seen.inside ≡ false → AllShow t p 4 false
  pub outside : seen.outside ≡ true → ShowsCorner t p false
  pub none_outside : seen.outside ≡ false → AllShow t p 4 true

-- The known corners of a cell show how it lies: all corners are known, or some known one is inside
-- and some is outside.
abbrev pub IsShown : Known → GridPoint → Type 0
IsShown t p =
    ((c : ℕ) → c < 4 → is_known (t.at (further p c)) ≡ true)
    ⊎ (ShowsCorner t p true × ShowsCorner t p false)

-- what is seen with one more corner
abbrev pub side_seen : Seen → Option ℤ → Seen
side_seen seen None = record { all = false; inside = seen.inside; outside = seen.outside }
side_seen seen (Some v) = record {
  all = seen.all;
  inside = seen.inside || is_inside v;
  outside = seen.outside || not (is_inside v);
}
