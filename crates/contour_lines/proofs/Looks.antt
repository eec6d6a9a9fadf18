-- Cells that are looked into, and flags.
use Rattle.std.proofs.Common.{◌≡◌, ℕ, ◌<◌, ℤ, Bool, true, false, inl, inr, refl, sym, ◌∙◌}
use Rattle.std.specs.Prelude.{not}
use Rattle.std.proofs.lemmas.Bool.{false≢true}
use Rattle.box_chains.specs.Chains.{Visit, is_long}
use Rattle.box_chains.specs.Visits.{IsVisit}
use Rattle.kuhn_cells.specs.Triangles.{GridPoint, further, point}
use Rattle.oct_descent.specs.GridLaws.{LawsOf}
use Rattle.oct_descent.specs.Kinds.{low_cell}
use Rattle.oct_descent.specs.Known.{AllKnown, AreRight, AreSettled, AreWorked, Known}
use Rattle.oct_descent.specs.Ways.{Covers, is_open}
use Rattle.view_places.specs.Boxes.{Indices}
use Rattle.view_places.specs.Window.{Window}
use Rattle.contour_lines.specs.declared.seen.Seen.{Seen}
use Rattle.contour_lines.specs.Corners.{AllShow, IsSeen, IsShown, ShowsCorner}
use Rattle.contour_lines.specs.Ways.{cell_square, flat_value, floor_of, planar, plane}
use Rattle.contour_lines.proofs.Corners.{IsLow, floor-square, mask-covered, square-floor}
use Rattle.oct_descent.proofs.Corners.{IsOne}

-- two known corners on either side show that a cell stays open
pub sides-open : (laws : LawsOf plane) (view : Window) (v : Visit) (t : Known) → IsVisit (planar view).boxes v → is_long 1 v.box ≡ false → IsLow v.box
    → AreRight (flat_value view v.list) v.box t → ShowsCorner t (point v.box.x0 v.box.y0 0) true
    → ShowsCorner t (point v.box.x0 v.box.y0 0) false → is_open (planar view) v ≡ true
sides-open laws view v t is short low right inner outer =
    laws.looks.sides view v t (corner inner.corner) (corner outer.corner) inner.value outer.value is short right (own inner.corner inner.few) (own outer.corner outer.few) inner.known inner.side outer.known outer.side
  where
    corner : ℕ → GridPoint
    corner c = further (point v.box.x0 v.box.y0 0) c

    own : (c : ℕ) → c < 4 → Covers (cell_square (low_cell v.box)) (corner c)
    own c few = floor-square v.box (corner c) low.one (mask-covered v.box c few low)

-- the corners of a cell are known where all points of its floor are
pub known-settled : (view : Window) (g : GridPoint → ℤ) (b : Indices) (t : Known) → IsOne b → AllKnown t (floor_of b) → AreSettled (planar view) g b t
known-settled view g b t one known s lies = inl (λ p covers. known p (square-floor b s p one lies covers))

-- those of a working one too
pub known-worked : (view : Window) (v : Visit) (t : Known) → IsOne v.box → AllKnown t (floor_of v.box) → AreWorked (planar view) v t
known-worked view v t one known s lies works p covers = known p (square-floor v.box s p one lies covers)

-- where the known corners of a cell show how it lies, though some corner is not known, what is seen of them has both sides
pub shown-sides : (t : Known) (p : GridPoint) (seen : Seen) → IsSeen t p seen → seen.all ≡ false → IsShown t p → (seen.inside ≡ true) × (seen.outside ≡ true)
shown-sides t p seen is lacks (inl known) =
    let corner = is.lacks lacks in
    absurd (false≢true (sym corner.unknown ∙ known corner.corner corner.few))
shown-sides t p seen is lacks (inr sides) = (by true seen.inside seen.inside refl sides.0 is.none_inside, by false seen.outside seen.outside refl sides.1 is.none_outside)
  where
    unlike : (inside : Bool) → inside ≡ not inside → ⊥
    unlike true e = false≢true (sym e)
    unlike false e = false≢true e

    by : (inside told side : Bool) → told ≡ side → ShowsCorner t p inside → (told ≡ false → AllShow t p 4 (not inside)) → told ≡ true
    by inside told true e shows none = e
    by inside told false e shows none = absurd (unlike inside (sym shows.side ∙ none e shows.corner shows.value shows.few shows.known))
