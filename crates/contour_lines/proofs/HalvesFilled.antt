-- What a cell filler does at the halves of a box, one after another.
use Rattle.std.proofs.Common.{◌≡◌, ℕ, zero, suc, ◌+◌, ◌*◌, ◌<◌, ◌≤◌, Bool, true, false, cond, List, [], ◌∷◌, ◌++◌, length, get_or, take, refl, sym, ap, subst, ◌∙◌, inl, inr, arith}
use Rattle.std.specs.List.{All, filter}
use Rattle.std.specs.List.Sorted.{IsPermutation}
use Rattle.std.proofs.Math.Seq.{take-suc}
use Rattle.std.proofs.lemmas.List.{get_or_default, take_all}
use Rattle.std.proofs.lemmas.List.Concat.{flat_map-cons}
use Rattle.std.proofs.lemmas.List.Elements.{All-nil}
use Rattle.std.proofs.lemmas.Option.{get_or_from_slice_get, slice_get_within}
use Rattle.box_chains.proofs.Theorems.{laws}
use Rattle.box_chains.specs.Chains.{Descent, is_long, visit}
use Rattle.box_chains.specs.Tallied.{CountsAtMost}
use Rattle.box_chains.specs.Visits.{IsVisit}
use Rattle.box_chains.specs.declared.asked_box.AskedBox.{AskedBox}
use Rattle.box_descent.proofs.Groups.{runs-last}
use Rattle.box_descent.specs.Plans.{is_traced}
use Rattle.box_descent.specs.Runs.{Group, Runs, Stops, traces}
use Rattle.fixed_ops.specs.Counts.{Counts}
use Rattle.interval_ops.specs.HullCounts.{CountsHulls}
use Rattle.kuhn_cells.specs.Triangles.{GridPoint}
use Rattle.kuhn_cells.specs.declared.grid_size.GridSize.{GridSize}
use Rattle.live_clauses.specs.declared.step.Step.{Step}
use Rattle.oct_descent.specs.Asked.{asked_of, longer}
use Rattle.oct_descent.specs.Bound.{CountsHullsAtLeast}
use Rattle.oct_descent.specs.Halves.{ChargesHalves, PaysHalves, halves_below, owned}
use Rattle.oct_descent.specs.Known.{AreSettled, AreWorked, Charges, Grows}
use Rattle.oct_descent.specs.Tables.{IsEnough}
use Rattle.view_places.specs.Boxes.{Indices, halves_of, one_sample}
use Rattle.view_places.specs.Window.{Window, size_of}
use Rattle.contour_lines.specs.Fillers.{FillsAll, FillsSome, fill_plan, filling}
use Rattle.contour_lines.specs.Tables.{known_of}
use Rattle.contour_lines.specs.Ways.{flat_value, planar, plane}
use Rattle.contour_lines.specs.declared.cell_filler.CellFiller.{CellFiller}
use Rattle.contour_lines.proofs.Theorems.{planes}
use Rattle.contour_lines.proofs.Traced.{first-traced, halves_long_below, next-traced}

-- those that are traced together are those longer than a cell
traced-longer : (n : GridSize) (halves : List Indices) → length (filter (is_traced fill_plan) halves) ≡ length (longer plane n halves)
traced-longer n [] = refl
traced-longer n (h ∷ hs) = by (is_long 1 h) (traced-longer n hs) ∙ sym (ap length (flat_map-cons piece h hs))
  where
    piece : Indices → List AskedBox
    piece b = cond (is_long 1 b) (asked_of plane n b ∷ []) []

    by : (l : Bool) → length (filter (is_traced fill_plan) hs) ≡ length (longer plane n hs)
        → length (cond l (h ∷ filter (is_traced fill_plan) hs) (filter (is_traced fill_plan) hs)) ≡ length (cond {A = List AskedBox} l (asked_of plane n h ∷ []) [] ++ longer plane n hs)
    by true rest = ap suc rest
    by false rest = rest

-- boxes that are the halves of one, in some order
pub record AreHalves (view : Window) (list : List Step) (b : Indices) (halves : List Indices) : Type 0 where
  pub visit_is : IsVisit (planar view).boxes (visit b list)
  pub turned : IsPermutation (halves_of 1 b) halves

-- what is done at all halves of a box
pub record FillsHalves (view : Window) (list : List Step) (b : Indices) (old new : CellFiller) (t u : Counts) : Type 0 where
  pub grows : Grows (flat_value view list) b (known_of old.values) (known_of new.values)
  pub charged : ChargesHalves (planar view) list (halves_of 1 b) (known_of old.values) (known_of new.values) t u
  pub paid : PaysHalves (planar view) list (halves_of 1 b) (known_of old.values) (known_of new.values) t u

-- once so many of them were visited, or memory was wanted at the last of these
pub record AreBegun (view : Window) (list : List Step) (b : Indices) (halves : List Indices) (n : ℕ) (old new : CellFiller) (t u : Counts) : Type 0 where
  pub grows : Grows (flat_value view list) b (known_of old.values) (known_of new.values)
  pub charged : (f : GridPoint → ℕ) → All (λ h. IsEnough f (planar view) (visit h list)) halves
      → Charges f (owned list halves + halves_below (planar view) list (take n halves)) (known_of old.values) (known_of new.values) t u
  pub paid : PaysHalves (planar view) list halves (known_of old.values) (known_of new.values) t u

-- once they were all visited whole
pub record AreFilled (view : Window) (list : List Step) (b : Indices) (halves : List Indices) (n : ℕ) (old new : CellFiller) (t u : Counts) : Type 0 where
  pub begun : AreBegun view list b halves n old new t u
  pub settled : All (λ h. AreSettled (planar view) (flat_value view list) h (known_of new.values)) (take n halves)
  pub worked : All (λ h. AreWorked (planar view) (visit h list) (known_of new.values)) (take n halves)
  pub traced : CountsHullsAtLeast (owned list halves + halves_long_below (planar view) list (take n halves)) t u

first-filled : (view : Window) (list : List Step) (b : Indices) (halves : List Indices) (s : CellFiller) (t u : Counts) → CountsHulls (traces filling list halves) t u → AreFilled view list b halves 0 s s t u
first-filled view list b halves s t u traced =
    let known = known_of s.values in
    let hulls = subst (λ n. CountsHulls (n * length list) t u) (traced-longer (size_of view) halves) traced in
    record {
      begun = record {
        grows = planes.growth.none (flat_value view list) b known;
        charged = planes.halves.first (planar view) list halves (size_of view) known t u hulls;
        paid = planes.halves.begun_paid (planar view) list halves _ known t u (laws.bounds.hulls t u _ hulls);
      };
      settled = All-nil (λ h. AreSettled (planar view) (flat_value view list) h known);
      worked = All-nil (λ h. AreWorked (planar view) (visit h list) known);
      traced = first-traced (planar view) list halves (size_of view) t u hulls;
    }

-- one more
record IsNextHalf (halves : List Indices) (i : ℕ) (half : Indices) : Type 0 where
  pub within : i < length halves
  pub read : half ≡ get_or halves i half

next-begun : (d : Descent) (list : List Step) (b : Indices) (halves : List Indices) (i : ℕ) (x : Indices) (a mid c : CellFiller) (t k u : Counts) → AreHalves d.view list b halves → IsNextHalf halves i x
    → AreFilled d.view list b halves i a mid t k → FillsSome d mid c (visit x list) k u → AreBegun d.view list b halves (i + 1) a c t u
next-begun d list b halves i x a mid c t k u are next h one =
    let view = d.view in
    let part = planes.halves.part b x halves i are.visit_is.box are.turned next.within next.read in
    record {
      grows = planes.growth.chain (flat_value view list) b (known_of a.values) (known_of mid.values) (known_of c.values) h.begun.grows
          (planes.halves.grows view view list b x (known_of mid.values) (known_of c.values) refl part one.grows);
      charged = planes.halves.next_charged view view list x halves i _ (known_of a.values) (known_of mid.values) (known_of c.values) t k u refl next.within next.read h.begun.charged one.counted;
      paid = planes.halves.next_paid view view list x halves i (known_of a.values) (known_of mid.values) (known_of c.values) t k u refl next.within next.read h.begun.paid one.paid;
    }

next-filled : (d : Descent) (list : List Step) (b : Indices) (halves : List Indices) (i : ℕ) (x : Indices) (a mid c : CellFiller) (t k u : Counts) → AreHalves d.view list b halves → IsNextHalf halves i x
    → AreFilled d.view list b halves i a mid t k → FillsAll d mid c (visit x list) k u → AreFilled d.view list b halves (i + 1) a c t u
next-filled d list b halves i x a mid c t k u are next h one =
    let view = d.view in
    let part = planes.halves.part b x halves i are.visit_is.box are.turned next.within next.read in
    let grown = planes.halves.grows view view list b x (known_of mid.values) (known_of c.values) refl part one.some.grows in
    record {
      begun = next-begun d list b halves i x a mid c t k u are next h one.some;
      settled = planes.halves.next_settled view view list b x halves i (known_of mid.values) (known_of c.values) refl next.within next.read grown one.settled h.settled;
      worked = planes.halves.next_worked view view list b x halves i (known_of mid.values) (known_of c.values) refl next.within next.read grown one.worked h.worked;
      traced = next-traced laws (planar view) list x halves i _ t k u next.within next.read h.traced one.traced;
    }

halves-filled : (d : Descent) (list : List Step) (b : Indices) (halves : List Indices) (a : CellFiller) (t : Counts) → AreHalves d.view list b halves → (i : ℕ) (c : CellFiller) (u : Counts) → i ≤ length halves
    → Group filling d list halves a c (take i halves) t u → AreFilled d.view list b halves i a c t u
halves-filled d list b halves a t are zero c u few h =
    subst (λ (s : CellFiller). AreFilled d.view list b halves 0 a s t u) h.runs.0
    (subst (λ (k : Counts). AreFilled d.view list b halves 0 a a t k) h.runs.1 (first-filled d.view list b halves a t h.tally h.traced))
halves-filled d list b halves a t are (suc i) c u few h =
    let x = get_or halves i one_sample in
    let within : i < length halves = omega (arith, few) in
    let more : i + 1 ≡ suc i = omega arith in
    let split = runs-last filling d list a c (take i halves) x h.tally u (subst (λ bs. Runs filling d list a c bs h.tally u) (take-suc halves i one_sample within) h.runs) in
    let earlier = halves-filled d list b halves a t are i split.mid split.tally (omega (arith, few)) (record { tally = h.tally; traced = h.traced; runs = split.first }) in
    subst (λ n. AreFilled d.view list b halves n a c t u) more
    (next-filled d list b halves i x a split.mid c t split.tally u are (record { within = within; read = get_or_default halves i one_sample x within }) earlier split.last)

-- what is done at some of them is told of all
pub halves-begun : (view : Window) (list : List Step) (b : Indices) (halves : List Indices) (n : ℕ) (a c : CellFiller) (t u : Counts) → AreHalves view list b halves → AreBegun view list b halves n a c t u
    → FillsHalves view list b a c t u
halves-begun view list b halves n a c t u are h = record {
  grows = h.grows;
  charged = planes.halves.some_charged view list b halves n (known_of a.values) (known_of c.values) t u are.visit_is.box are.turned h.charged;
  paid = planes.halves.paid (planar view) list (halves_of 1 b) halves (known_of a.values) (known_of c.values) t u are.turned h.paid;
}

pub group-filled : (d : Descent) (list : List Step) (b : Indices) (halves : List Indices) (a c : CellFiller) (t u : Counts) → AreHalves d.view list b halves → Group filling d list halves a c halves t u
    → AreFilled d.view list b halves (length halves) a c t u
group-filled d list b halves a c t u are h =
    halves-filled d list b halves a t are (length halves) c u (omega arith)
    (subst (λ bs. Group filling d list halves a c bs t u) (sym (take_all (length halves) halves (omega arith))) h)

pub group-stops : (d : Descent) (list : List Step) (b : Indices) (halves : List Indices) (a c : CellFiller) (t u : Counts) → AreHalves d.view list b halves → Stops filling d list halves a c t u
    → FillsHalves d.view list b a c t u
group-stops d list b halves a c t u are (inl none) =
    let view = d.view in
    let known = known_of a.values in
    let hulls = subst (λ n. CountsAtMost 0 (n * length list) t u) (traced-longer (size_of view) halves) none.1 in
    subst (λ (s : CellFiller). FillsHalves view list b a s t u) none.0 (record {
      grows = planes.growth.none (flat_value view list) b known;
      charged = planes.halves.begun_charged view list b halves (size_of view) known t u are.visit_is.box are.turned hulls;
      paid = planes.halves.begun_paid (planar view) list (halves_of 1 b) _ known t u hulls;
    })
group-stops d list b halves a c t u are (inr left) =
    let i = left.place in
    let within = slice_get_within halves i left.box left.there in
    let next : IsNextHalf halves i left.box = record { within = within; read = sym (get_or_from_slice_get halves i left.box left.box left.there) } in
    halves-begun d.view list b halves (i + 1) a c t u are
    (next-begun d list b halves i left.box a left.mid c t left.tally u are next (halves-filled d list b halves a t are i left.mid left.tally (omega (arith, within)) left.before) left.left)
