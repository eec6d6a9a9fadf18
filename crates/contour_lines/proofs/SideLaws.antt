-- On which side the points of a plane grid lie.
use Rattle.std.proofs.Common.{◌≡◌, ℕ, zero, suc, ◌+◌, ◌-◌, ◌≤◌, ℤ, Bool, false, List, refl, sym, ap, ◌∙◌, ◌⊎◌, inl, inr, arith}
use Rattle.std.specs.Prelude.{Option, Some, None, unwrap_or}
use Rattle.std.proofs.lemmas.Bool.{false≢true}
use Rattle.box_chains.specs.Sums.{LiesIn, Sample}
use Rattle.fixed_ops.specs.Raw.{is_inside}
use Rattle.kuhn_cells.specs.Triangles.{point}
use Rattle.live_clauses.specs.declared.step.Step.{Step}
use Rattle.oct_descent.specs.GridValues.{value_on}
use Rattle.oct_descent.specs.Known.{AllKnown, Known}
use Rattle.oct_descent.specs.Tables.{IsUniform, is_known}
use Rattle.oct_descent.specs.Ways.{Covers}
use Rattle.view_places.specs.Spans.{root_box_of}
use Rattle.view_places.specs.Window.{Window, IsWindow, size_of}
use Rattle.view_places.specs.declared.lattice.Lattice.TheVariants as lattices
use Rattle.contour_lines.specs.Signs.{AreRows, side_after, side_of}
use Rattle.contour_lines.specs.Trees.{IsTold}
use Rattle.contour_lines.specs.Ways.{cell_square, flat_value}
use Rattle.contour_lines.proofs.Borders.{bordered-outside}

-- the side of the point before one in its row, and outside before the first
pub record IsBefore (view : Window) (list : List Step) (x y : ℕ) (side : Bool) : Type 0 where
  pub first : x ≡ 0 → side ≡ false
  pub other : (i : ℕ) → i + 1 ≡ x → side ≡ side_of view list i y

pub before-first : (view : Window) (list : List Step) (y : ℕ) → IsBefore view list 0 y false
before-first view list y = record { first = λ e. refl; other = λ i e. absurd (omega (arith, e)) }

pub before-next : (view : Window) (list : List Step) (x y : ℕ) (side : Bool) → side ≡ side_of view list x y → IsBefore view list (x + 1) y side
before-next view list x y side is = record {
  first = λ e. absurd (omega (arith, e));
  other = λ i e. let same : x ≡ i = omega (arith, e) in is ∙ ap (λ n. side_of view list n y) same;
}

-- a known point lies on the side of its value
pub known-side : (view : Window) (list : List Step) (t : Known) (x y : ℕ) (v : ℤ) → IsTold view list t → t.at (point x y 0) ≡ Some v → is_inside v ≡ side_of view list x y
known-side view list t x y v told e =
    ap (λ o. is_inside (unwrap_or o v)) (sym e ∙ told.right (point x y 0) (ap is_known e))

-- and one that is not on that of the one before it
pub unknown-side : (view : Window) (list : List Step) (t : Known) (x y : ℕ) (side : Bool) → IsWindow view → IsTold view list t → x ≤ t.n.x → y ≤ t.n.y → IsBefore view list x y side
    → t.at (point x y 0) ≡ None → side ≡ side_of view list x y
unknown-side view list t zero y side window told wide high before none =
    before.first refl ∙ sym (bordered-outside (size_of view) 0 y (value_on view list (point 0 y 0)) refl)
unknown-side view list t (suc i) y side window told wide high before none =
    before.other i (omega arith) ∙ by (told.settled s lies)
  where
    j : ℕ
    j = y - (y + 1 - view.ny)

    s : Sample
    s = record { i = i; j = j; k = 0 }

    rows : 1 ≤ view.ny
    rows = window.ny.some

    lies : LiesIn (root_box_of view lattices.Grid) s
    lies = record {
      x = (omega arith, omega (arith, wide, told.n.0));
      y = (omega arith, omega (arith, high, told.n.1.0, rows));
      z = (omega arith, omega (arith, window.nz.some));
    }

    here : Covers (cell_square s) (point (suc i) y 0)
    here = record { x = (omega arith, omega arith); y = (omega arith, omega (arith, high, told.n.1.0, rows)); z = (omega arith, omega arith) }

    there : Covers (cell_square s) (point i y 0)
    there = record { x = (omega arith, omega arith); y = (omega arith, omega (arith, high, told.n.1.0, rows)); z = (omega arith, omega arith) }

    by : AllKnown t (cell_square s) ⊎ IsUniform (flat_value view list) (cell_square s) → side_of view list i y ≡ side_of view list (suc i) y
    by (inl known) = absurd (false≢true (sym (ap is_known none) ∙ known (point (suc i) y 0) here))
    by (inr uniform) = uniform.each (point i y 0) there ∙ sym (uniform.each (point (suc i) y 0) here)

-- so each point lies on the side that is worked out for it
pub next-side : (view : Window) (list : List Step) (t : Known) (x y : ℕ) (side : Bool) → IsWindow view → IsTold view list t → x ≤ t.n.x → y ≤ t.n.y → IsBefore view list x y side
    → side_after (t.at (point x y 0)) side ≡ side_of view list x y
next-side view list t x y side window told wide high before = by (t.at (point x y 0)) refl
  where
    by : (o : Option ℤ) → t.at (point x y 0) ≡ o → side_after (t.at (point x y 0)) side ≡ side_of view list x y
    by (Some v) e = ap (λ o. side_after o side) e ∙ known-side view list t x y v told e
    by None e = ap (λ o. side_after o side) e ∙ unknown-side view list t x y side window told wide high before e

-- what is kept of the first points of a row: their sides stand behind those of the rows before, and the last of
-- them is at hand
pub record AreSoFar (view : Window) (list : List Step) (wide x y : ℕ) (side : Bool) (sides : List Bool) : Type 0 where
  pub before : IsBefore view list x y side
  pub rows : AreRows wide (side_of view list) false y x sides
