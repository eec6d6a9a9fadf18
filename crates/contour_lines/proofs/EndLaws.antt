-- What a cell filler does at a box that is not split.
use Rattle.std.proofs.Common.{◌≡◌, ℕ, ◌&&◌, Bool, true, false, cond, refl, sym, ap, subst, ◌∙◌, arith}
use Rattle.std.specs.Prelude.{Option, Some, None, Result, Ok, Err, OnOk}
use Rattle.std.proofs.lemmas.Bool.{false≢true}
use Rattle.box_chains.proofs.Theorems.{laws}
use Rattle.box_chains.specs.Chains.{Descent, Visit, decision, is_long, visit}
use Rattle.box_chains.specs.Desks.{Tracing, list_of}
use Rattle.box_chains.specs.Visits.{IsVisit}
use Rattle.box_descent.specs.Founds.{IsFound, child_tape}
use Rattle.box_descent.specs.Looked.{looked}
use Rattle.box_descent.specs.Plans.{meets_border}
use Rattle.box_descent.specs.declared.found.Found.{Found}
use Rattle.box_descent.specs.declared.found.Found.TheVariants.{Untraced, Inside, Outside, Ambiguous}
use Rattle.fixed_ops.specs.Counts.{Counts}
use Rattle.oct_descent.specs.Known.{AreSettled, AreWorked, ChargesBox, Grows, PaysBox}
use Rattle.oct_descent.specs.Ways.{is_open, is_open_by}
use Rattle.view_places.specs.Boxes.{Indices, IsBox}
use Rattle.view_places.specs.Window.{size_of}
use Rattle.contour_lines.specs.Fillers.{FillsAll, FillsSome, fill_plan}
use Rattle.contour_lines.specs.Tables.{known_of}
use Rattle.contour_lines.specs.Ways.{flat_value, meets_sides, planar}
use Rattle.contour_lines.specs.declared.cell_filler.CellFiller.{CellFiller}
use Rattle.contour_lines.proofs.Theorems.{planes}
use Rattle.contour_lines.proofs.Traced.{cell-traced, cell-traced_below, closed-traced}

-- ---- a box that is not split

and-true : (p q : Bool) → p ≡ true → (p && q) ≡ false → q ≡ false
and-true true q long e = e
and-true false q long e = absurd (false≢true long)

-- a box without a tape for children
no-tape : (l : Bool) (at : ℕ) → cond {A = Option ℕ} l (Some at) None ≡ None → l ≡ false
no-tape true at same = absurd (omega (arith, ap (λ (o : Option ℕ). some-number o) same))
  where
    some-number : Option ℕ → ℕ
    some-number None = 0
    some-number (Some n) = 1
no-tape false at same = refl

-- does not stay open where it is longer than a cell
pub end-closed : (desk : Tracing) (b : Indices) (given : ℕ) (found : Found) → looked fill_plan desk ≡ (planar desk.view).boxes → is_long 1 b ≡ true → IsFound fill_plan desk b given found
    → child_tape fill_plan desk b found ≡ None → is_open (planar desk.view) (visit b (list_of desk given)) ≡ false
end-closed desk b given found boxes long right end = by found right end
  where
    v : Visit
    v = visit b (list_of desk given)

    told : (t : Option Bool) → decision (looked fill_plan desk) v ≡ t → is_open (planar desk.view) v ≡ is_open_by (meets_sides (size_of desk.view)) b t
    told t e = ap (is_open_by (meets_sides (size_of desk.view)) b) (subst (λ (d : Descent). decision d v ≡ t) boxes e)

    by : (f : Found) → IsFound fill_plan desk b given f → child_tape fill_plan desk b f ≡ None → is_open (planar desk.view) v ≡ false
    by Untraced right end = absurd (false≢true (sym right ∙ long))
    by (Inside at) right end =
        told (Some true) right.0
        ∙ subst (λ (d : Descent). meets_border fill_plan d b ≡ false) boxes (and-true (is_long 1 b) (meets_border fill_plan (looked fill_plan desk) b) long (no-tape (is_long 1 b && meets_border fill_plan (looked fill_plan desk) b) at end))
    by Outside right end = told (Some false) right
    by (Ambiguous at) right end = absurd (false≢true (sym (no-tape (is_long 1 b) at end) ∙ long))

-- nothing is done at a box that does not stay open
pub closed-filled : (d : Descent) (s : CellFiller) (v : Visit) (t : Counts) → d ≡ (planar d.view).boxes → IsVisit d v → is_open (planar d.view) v ≡ false → FillsAll d s s v t t
closed-filled d s v t boxes is closed =
    let visit_is = subst (λ (e : Descent). IsVisit e v) boxes is in
    let known = known_of s.values in
    record {
      some = record {
        grows = planes.growth.none (flat_value d.view v.list) v.box known;
        counted = λ f enough. planes.work.free f _ known t;
        paid = λ f due. planes.work.unpaid f known t;
      };
      settled = planes.looks.settled d.view v known visit_is closed;
      worked = planes.looks.idle d.view v known visit_is closed;
      traced = closed-traced laws d.view v t is.box closed;
    }

-- ---- a cell

pub on_ok-both : {T E : Type 0} (r : Result T E) (P Q R : Type 0) → (P → Q → R) → OnOk r P → OnOk r Q → OnOk r R
on_ok-both (Ok x) P Q R f p q = f p q
on_ok-both (Err e) P Q R f p q = tt

-- what looking into a cell takes
pub cell-some : (d : Descent) (old new : CellFiller) (v : Visit) (t u : Counts) → is_long 1 v.box ≡ false → Grows (flat_value d.view v.list) v.box (known_of old.values) (known_of new.values)
    → ChargesBox (planar d.view) v (known_of old.values) (known_of new.values) t u → PaysBox (planar d.view) v (known_of old.values) (known_of new.values) t u → FillsSome d old new v t u
cell-some d old new v t u short grows charged paid =
    record { grows = grows; counted = planes.looks.cell_below (planar d.view) v (known_of old.values) (known_of new.values) t u short charged; paid = paid }

-- and what it does
pub cell-filled : (d : Descent) (old new : CellFiller) (v : Visit) (t u : Counts) → IsBox v.box → is_long 1 v.box ≡ false → FillsSome d old new v t u
    → AreSettled (planar d.view) (flat_value d.view v.list) v.box (known_of new.values) → AreWorked (planar d.view) v (known_of new.values) → FillsAll d old new v t u
cell-filled d old new v t u is short some settled worked = record {
  some = some;
  settled = settled;
  worked = worked;
  traced = cell-traced_below (planar d.view) v t u (cell-traced laws d.view v (known_of old.values) (known_of new.values) t u is short some.paid);
}
