-- What a cell filler does at the box of all cells.
use Rattle.std.proofs.Common.{add-mul, ◌≡◌, ℕ, zero, suc, ◌*◌, ◌≤◌, Bool, true, false, cond, List, [], ◌∷◌, length, take, refl, sym, ap, subst, ◌∙◌, inl, inr, zero-mul, arith}
use Rattle.std.specs.Prelude.{Option, Some, slice_get, unwrap_or}
use Rattle.std.proofs.lemmas.Option.{slice_get_within}
use Rattle.box_chains.proofs.Theorems.{laws}
use Rattle.box_chains.specs.Chains.{Descent, Visit, is_long, visit}
use Rattle.box_chains.specs.Desks.{Tracing, list_of}
use Rattle.box_descent.specs.Looked.{looked}
use Rattle.box_descent.specs.Runs.{Group, Stops, traces}
use Rattle.fixed_ops.specs.Counts.{Counts}
use Rattle.interval_ops.specs.HullCounts.{CountsHulls}
use Rattle.live_clauses.specs.declared.step.Step.{Step}
use Rattle.oct_descent.specs.Bound.{CountsHullsAtLeast, cell_spans_in, long_spans_in}
use Rattle.oct_descent.specs.Desks.{spans_below}
use Rattle.oct_descent.specs.Known.{AreSettled, AreWorked, Charges, ChargesBox, Grows, PaysBox}
use Rattle.view_places.specs.Boxes.{Indices, IsBox}
use Rattle.view_places.specs.Window.{Window}
use Rattle.view_places.specs.declared.lattice.Lattice.TheVariants.{Grid}
use Rattle.contour_lines.specs.Fillers.{FillsAll, FillsSome, fill_plan, filling}
use Rattle.contour_lines.specs.Tables.{known_of}
use Rattle.contour_lines.specs.Ways.{flat_value, planar, plane_root}
use Rattle.contour_lines.specs.declared.cell_filler.CellFiller.{CellFiller}
use Rattle.contour_lines.proofs.Theorems.{planes}
use Rattle.contour_lines.proofs.Traced.{below-traced, cell-traced}
use Rattle.live_clauses.specs.Steps.{IsTape}
use Rattle.view_places.specs.Spans.{root_box_of}
use Rattle.view_places.specs.Window.{IsWindow}
use Rattle.contour_lines.proofs.FillerLaws.{hulls-none}

-- ---- the box of all cells

-- what is traced of one box, where it is longer than a cell
one-long : (list : List Step) (b : Indices) → is_long 1 b ≡ true → traces filling list (b ∷ []) ≡ length list
one-long list b long = ap (λ t. length (cond t (b ∷ []) []) * length list) long ∙ omega (arith, add-mul 1 0 (length list), zero-mul (length list))

one-short : (list : List Step) (b : Indices) → is_long 1 b ≡ false → traces filling list (b ∷ []) ≡ 0 * length list
one-short list b short = ap (λ t. length (cond t (b ∷ []) []) * length list) short

-- its work is that of its own trace and of what is below it
root-charged : (d : Descent) (v : Visit) (a c : CellFiller) (t k u : Counts) → IsBox v.box → CountsHulls (traces filling v.list (v.box ∷ [])) t k → FillsSome d a c v k u
    → ChargesBox (planar d.view) v (known_of a.values) (known_of c.values) t u
root-charged d v a c t k u is hulls some = by (is_long 1 v.box) refl
  where
    by : (l : Bool) → is_long 1 v.box ≡ l → ChargesBox (planar d.view) v (known_of a.values) (known_of c.values) t u
    by true long = planes.looks.below_charged d.view v (known_of a.values) (known_of c.values) t k u is long (subst (λ n. CountsHulls n t k) (one-long v.list v.box long) hulls) some.counted
    by false short = λ f enough.
        planes.work.more f (spans_below (planar d.view) v) (cell_spans_in (planar d.view) v) (known_of a.values) (known_of c.values) t u (omega arith)
        (subst (λ (s : Counts). Charges f (spans_below (planar d.view) v) (known_of a.values) (known_of c.values) s u)
        (sym (hulls-none v.list t k (subst (λ n. CountsHulls n t k) (one-short v.list v.box short) hulls))) (some.counted f enough))

-- what is done at it
pub record FillsRoot (view : Window) (list : List Step) (b : Indices) (a c : CellFiller) (t u : Counts) : Type 0 where
  pub grows : Grows (flat_value view list) b (known_of a.values) (known_of c.values)
  pub settled : AreSettled (planar view) (flat_value view list) b (known_of c.values)
  pub worked : AreWorked (planar view) (visit b list) (known_of c.values)
  pub charged : ChargesBox (planar view) (visit b list) (known_of a.values) (known_of c.values) t u
  pub paid : PaysBox (planar view) (visit b list) (known_of a.values) (known_of c.values) t u
  pub traced : CountsHullsAtLeast (long_spans_in (planar view) (visit b list)) t u

root-filled : (d : Descent) (list : List Step) (b : Indices) (a c : CellFiller) (t u : Counts) → IsBox b → Group filling d list (b ∷ []) a c (b ∷ []) t u → FillsRoot d.view list b a c t u
root-filled d list b a c t u is h = by (is_long 1 b) refl
  where
    view : Window
    view = d.view

    v : Visit
    v = visit b list

    k : Counts
    k = h.tally

    all : FillsAll d a c v k u
    all = subst (λ (s : CellFiller). FillsAll d a s v k u) h.runs.rest.0 (subst (λ (n : Counts). FillsAll d a h.runs.mid v k n) h.runs.rest.1 h.runs.first)

    done : PaysBox (planar view) v (known_of a.values) (known_of c.values) t u → CountsHullsAtLeast (long_spans_in (planar view) v) t u → FillsRoot view list b a c t u
    done paid traced = record { grows = all.some.grows; settled = all.settled; worked = all.worked; charged = root-charged d v a c t k u is h.traced all.some; paid = paid; traced = traced }

    by : (l : Bool) → is_long 1 b ≡ l → FillsRoot view list b a c t u
    by true long =
        let hulls = subst (λ n. CountsHulls n t k) (one-long list b long) h.traced in
        done (planes.looks.below_paid (planar view) v (known_of a.values) (known_of c.values) t k u hulls all.some.paid) (below-traced laws (planar view) v t k u long hulls all.traced)
    by false short =
        let none = hulls-none list t k (subst (λ n. CountsHulls n t k) (one-short list b short) h.traced) in
        let paid = subst (λ (n : Counts). PaysBox (planar view) v (known_of a.values) (known_of c.values) n u) (sym none) all.some.paid in
        done paid (cell-traced laws view v (known_of a.values) (known_of c.values) t u is short paid)

-- and what that takes where memory is wanted
root-stops : (d : Descent) (list : List Step) (b : Indices) (a c : CellFiller) (t u : Counts) → IsBox b → Stops filling d list (b ∷ []) a c t u
    → ChargesBox (planar d.view) (visit b list) (known_of a.values) (known_of c.values) t u
root-stops d list b a c t u is (inl none) =
    subst (λ (s : CellFiller). ChargesBox (planar d.view) (visit b list) (known_of a.values) (known_of s.values) t u) none.0
    (planes.looks.looked (planar d.view) (visit b list) (known_of a.values) t u (omega arith) is (laws.bounds.more t u 0 (traces filling list (b ∷ [])) 0 (length list) (omega arith) (by (is_long 1 b) refl) none.1))
  where
    by : (l : Bool) → is_long 1 b ≡ l → traces filling list (b ∷ []) ≤ length list
    by true long = omega (arith, one-long list b long)
    by false short = omega (arith, one-short list b short, zero-mul (length list))
root-stops d list b a c t u is (inr left) = by left.place left.there left.before
  where
    by : (place : ℕ) → slice_get (b ∷ []) place ≡ Some left.box → Group filling d list (b ∷ []) a left.mid (take place (b ∷ [])) t left.tally
        → ChargesBox (planar d.view) (visit b list) (known_of a.values) (known_of c.values) t u
    by zero there before =
        let same : b ≡ left.box = ap (λ (o : Option Indices). unwrap_or o b) there in
        root-charged d (visit b list) a c t before.tally u is before.traced
        (subst (λ (s : CellFiller). FillsSome d s c (visit b list) before.tally u) (sym before.runs.0)
        (subst (λ (n : Counts). FillsSome d left.mid c (visit b list) n u) (sym before.runs.1) (subst (λ x. FillsSome d left.mid c (visit x list) left.tally u) (sym same) left.left)))
    by (suc n) there before = absurd (omega (arith, slice_get_within (b ∷ []) (suc n) left.box there))

-- ---- a grid that was begun

-- the desk of a grid
abbrev pub desk_of : Window → List Step → Tracing
desk_of view list = record { view = view; lattice = Grid; room = length list; lists = list ∷ [] }

pub whole-filled : (view : Window) (list : List Step) (desk : Tracing) (b : Indices) (a c : CellFiller) (t u : Counts) → desk ≡ desk_of view list → b ≡ root_box_of desk.view desk.lattice → IsWindow view → IsTape list
    → Group filling (looked fill_plan desk) (list_of desk 0) (b ∷ []) a c (b ∷ []) t u → FillsRoot view list (root_box_of view Grid) a c t u
whole-filled view list desk b a c t u made root window tape =
    subst (λ (d : Tracing). b ≡ root_box_of d.view d.lattice → Group filling (looked fill_plan d) (list_of d 0) (b ∷ []) a c (b ∷ []) t u → FillsRoot view list (root_box_of view Grid) a c t u) (sym made)
    (λ same h. root-filled (planar view).boxes list (root_box_of view Grid) a c t u (planes.whole.visits view list window tape).box (subst (λ x. Group filling (planar view).boxes list (x ∷ []) a c (x ∷ []) t u) same h)) root

pub whole-stops : (view : Window) (list : List Step) (desk : Tracing) (b : Indices) (a c : CellFiller) (t u : Counts) → desk ≡ desk_of view list → b ≡ root_box_of desk.view desk.lattice → IsWindow view → IsTape list
    → Stops filling (looked fill_plan desk) (list_of desk 0) (b ∷ []) a c t u → ChargesBox (planar view) (plane_root view list) (known_of a.values) (known_of c.values) t u
whole-stops view list desk b a c t u made root window tape =
    subst (λ (d : Tracing). b ≡ root_box_of d.view d.lattice → Stops filling (looked fill_plan d) (list_of d 0) (b ∷ []) a c t u → ChargesBox (planar view) (plane_root view list) (known_of a.values) (known_of c.values) t u) (sym made)
    (λ same h. root-stops (planar view).boxes list (root_box_of view Grid) a c t u (planes.whole.visits view list window tape).box (subst (λ x. Stops filling (planar view).boxes list (x ∷ []) a c t u) same h)) root
