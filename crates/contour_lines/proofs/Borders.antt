-- The border of a plane grid.
use Rattle.std.proofs.Common.{◌≡◌, ℕ, ◌≤◌, ℤ, Bool, true, false, refl, arith}
use Rattle.std.specs.Prelude.{pos, ◌==◌, ◌||◌}
use Rattle.std.specs.Int.{int_max}
use Rattle.std.proofs.lemmas.Int.{ints}
use Rattle.box_chains.specs.Sums.{LiesIn, Sample}
use Rattle.fixed_ops.specs.Raw.{is_inside}
use Rattle.kuhn_cells.specs.Triangles.{GridPoint}
use Rattle.kuhn_cells.specs.declared.grid_size.GridSize.{GridSize}
use Rattle.oct_descent.specs.Kinds.{BordersHold}
use Rattle.oct_descent.specs.Ways.{Covers}
use Rattle.view_places.specs.Boxes.{Indices}
use Rattle.contour_lines.specs.Planes.{is_on_border, within_border}
use Rattle.contour_lines.specs.Ways.{cell_square, meets_sides, plane}
use Rattle.oct_descent.proofs.Covered.{axis-apart}

-- no number that is 0 or more is inside
max-outside : (x : ℤ) → is_inside (int_max x (pos 0)) ≡ false
max-outside x = grind (arith, ints)

pub bordered-outside : (n : GridSize) (i j : ℕ) (v : ℤ) → is_on_border n i j ≡ true → is_inside (within_border n i j v) ≡ false
bordered-outside n i j v e = rw e (max-outside v)

pub or-false : (a b : Bool) → (a || b) ≡ false → (a ≡ false) × (b ≡ false)
or-false true b e = absurd (grind (arith, e))
or-false false b e = (refl, e)

border-apart : (n : GridSize) (b : Indices) (p : GridPoint) → b.x1 ≤ n.x → b.y1 ≤ n.y → Covers b p → meets_sides n b ≡ false → is_on_border n p.x p.y ≡ false
border-apart n b p x y covers e =
    let both = or-false (b.x0 == 0 || b.x1 == n.x) (b.y0 == 0 || b.y1 == n.y) e in
    let ex = axis-apart n.x b.x0 b.x1 p.x covers.x.0 covers.x.1 x both.0 in
    let ey = axis-apart n.y b.y0 b.y1 p.y covers.y.0 covers.y.1 y both.1 in
    rw (ex, ey) refl

-- the corners of a cell of a box are covered
corner-covered : (b : Indices) (s : Sample) (p : GridPoint) → LiesIn b s → Covers (cell_square s) p → Covers b p
corner-covered b s p lies covers = record {
  x = (omega (arith, lies.x, covers.x), omega (arith, lies.x, covers.x));
  y = (omega (arith, lies.y, covers.y), omega (arith, lies.y, covers.y));
  z = (omega (arith, lies.z, covers.z), omega (arith, lies.z, covers.z));
}

pub borders-hold : BordersHold plane
borders-hold = record { apart = λ n b p x y z covers e. border-apart n b p x y covers e; covered = corner-covered }
