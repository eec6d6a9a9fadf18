-- What a cell filler does at a box that is split, from what it does at its children.
use Rattle.std.proofs.Common.{◌≡◌, ◌*◌, ◌≤◌, ℤ, ◌&&◌, Bool, true, false, cond, List, [], ◌∷◌, length, reverse, take, drop, refl, sym, ap, subst, ◌∙◌, ◌⊎◌, inl, inr, zero-mul, arith}
use Rattle.std.specs.Prelude.{Option, Some, None}
use Rattle.std.specs.List.{All, filter}
use Rattle.std.specs.List.Sorted.{IsPermutation}
use Rattle.std.proofs.lemmas.Bool.{false≢true}
use Rattle.std.proofs.lemmas.List.{drop_all, take_all}
use Rattle.std.proofs.lemmas.List.Elements.{All-head, All-nil, All-tail, All-weaker}
use Rattle.std.proofs.lemmas.List.Sorted.{All-permutation, IsPermutation-refl, IsPermutation-reverse, IsPermutation-sym}
use Rattle.std.proofs.lemmas.Option.{slice_get_within}
use Rattle.box_chains.proofs.Theorems.{laws}
use Rattle.box_chains.specs.Chains.{Descent, Visit, decision, handed_on, is_long, visit}
use Rattle.box_chains.specs.Parts.{IsPart}
use Rattle.box_chains.specs.Tallied.{CountsAtMost}
use Rattle.box_chains.specs.Visits.{IsVisit}
use Rattle.box_descent.proofs.Descents.{children-many, children-parts}
use Rattle.box_descent.proofs.Groups.{runs-keep}
use Rattle.box_descent.specs.Plans.{children, goes_on, goes_on_by, is_backwards, meets_border}
use Rattle.box_descent.specs.Runs.{Below, Group, Stops, StopsBelow, firsts, seconds}
use Rattle.box_descent.specs.VisitorLaws.{IsSplit, VisitsAreLawful}
use Rattle.fixed_ops.proofs.CountLaws.{same_counts}
use Rattle.fixed_ops.specs.Counts.{Counts, RisesBy}
use Rattle.interval_ops.specs.HullCounts.{CountsHulls}
use Rattle.kuhn_cells.specs.Triangles.{GridPoint}
use Rattle.live_clauses.specs.declared.step.Step.{Step}
use Rattle.oct_descent.specs.Known.{AreRight, AreSettled, AreWorked, Grows, IsNew, Known}
use Rattle.oct_descent.specs.Tables.{is_known}
use Rattle.oct_descent.specs.Ways.{is_open, is_open_by}
use Rattle.view_places.specs.Boxes.{Indices, halves_of}
use Rattle.view_places.specs.Window.{Window, size_of}
use Rattle.contour_lines.specs.Fillers.{CanFill, CanLook, FillsAll, FillsSome, fill_plan, filling}
use Rattle.contour_lines.specs.Tables.{known_of}
use Rattle.contour_lines.specs.Ways.{flat_value, meets_sides, planar}
use Rattle.contour_lines.specs.declared.cell_filler.CellFiller.{CellFiller}
use Rattle.contour_lines.proofs.Theorems.{planes}
use Rattle.contour_lines.proofs.Traced.{all-traced, halves-traced}
use Rattle.contour_lines.proofs.HalvesFilled.{AreHalves, FillsHalves, group-filled, group-stops, halves-begun}

-- ---- the two groups of children, of which the second has none

-- all boxes are wanted
all-wanted : (boxes : List Indices) → filter (λ b. true) boxes ≡ boxes
all-wanted [] = refl
all-wanted (b ∷ bs) = ap (λ x. b ∷ x) (all-wanted bs)

-- no work leaves a tally as it was
same-after : (t u by : Counts) → RisesBy t u by → by.points ≤ 0 → by.spans ≤ 0 → by.corners ≤ 0 → t ≡ u
same-after t u by rises points spans corners =
    same_counts t u (omega (arith, points, ap (λ (k : Counts). k.points) rises)) (omega (arith, spans, ap (λ (k : Counts). k.spans) rises)) (omega (arith, corners, ap (λ (k : Counts). k.corners) rises))

pub hulls-none : (list : List Step) (t u : Counts) → CountsHulls (0 * length list) t u → t ≡ u
hulls-none list t u h = same-after t u _ h.rises (omega arith) (omega (arith, zero-mul (length list))) (omega (arith, h.few, zero-mul (length list)))

most-none : (list : List Step) (t u : Counts) → CountsAtMost 0 (0 * length list) t u → t ≡ u
most-none list t u h = same-after t u h.by h.rises (omega (arith, h.few.points)) (omega (arith, h.few.spans, zero-mul (length list))) (omega (arith, h.few.corners, zero-mul (length list)))

firsts-are : (d : Descent) (s : CellFiller) (b : Indices) → firsts filling d s b ≡ children fill_plan b
firsts-are d s b = all-wanted (take (length (halves_of 1 b)) (children fill_plan b)) ∙ take_all (length (halves_of 1 b)) (children fill_plan b) (omega (arith, children-many fill_plan b))

seconds-none : (d : Descent) (s : CellFiller) (b : Indices) → seconds filling d s b ≡ []
seconds-none d s b = all-wanted (drop (length (halves_of 1 b)) (children fill_plan b)) ∙ drop_all (length (halves_of 1 b)) (children fill_plan b) (omega (arith, children-many fill_plan b))

-- the children are visited
abbrev ChildrenVisited : Descent → Visit → CellFiller → CellFiller → Counts → Counts → Type 0
ChildrenVisited d v a c t u = Group filling d (handed_on d v) (children fill_plan v.box) a c (children fill_plan v.box) t u

first-visited : (d : Descent) (v : Visit) (a c : CellFiller) (t u : Counts) → Group filling d (handed_on d v) (firsts filling d a v.box) a c (firsts filling d a v.box) t u → ChildrenVisited d v a c t u
first-visited d v a c t u h = subst (λ bs. Group filling d (handed_on d v) bs a c bs t u) (firsts-are d a v.box) h

all-visited : (d : Descent) (v : Visit) (a c : CellFiller) (t u : Counts) → Below filling d v a c t u → ChildrenVisited d v a c t u
all-visited d v a c t u h =
    let second = subst (λ bs. Group filling d (handed_on d v) bs h.mid c bs h.tally u) (seconds-none d h.mid v.box) h.second in
    subst (λ (s : CellFiller). ChildrenVisited d v a s t u) second.runs.0
    (subst (λ (k : Counts). ChildrenVisited d v a h.mid t k) (hulls-none (handed_on d v) h.tally second.tally second.traced ∙ second.runs.1) (first-visited d v a h.mid t h.tally h.first))

-- or not all of them
some-visited : (d : Descent) (v : Visit) (a c : CellFiller) (t u : Counts) → StopsBelow filling d v a c t u → ChildrenVisited d v a c t u ⊎ Stops filling d (handed_on d v) (children fill_plan v.box) a c t u
some-visited d v a c t u (inl first) = inr (subst (λ bs. Stops filling d (handed_on d v) bs a c t u) (firsts-are d a v.box) first)
some-visited d v a c t u (inr later) = inl (by (subst (λ bs. Stops filling d (handed_on d v) bs later.mid c later.tally u) (seconds-none d later.mid v.box) later.second))
  where
    by : Stops filling d (handed_on d v) [] later.mid c later.tally u → ChildrenVisited d v a c t u
    by (inl none) =
        subst (λ (s : CellFiller). ChildrenVisited d v a s t u) none.0
        (subst (λ (k : Counts). ChildrenVisited d v a later.mid t k) (most-none (handed_on d v) later.tally u none.1) (first-visited d v a later.mid t later.tally later.first))
    by (inr left) = absurd (omega (arith, slice_get_within [] left.place left.box left.there))

-- ---- a box that is split

-- it stays open, and is longer than a cell
pub record IsCutBox (view : Window) (v : Visit) : Type 0 where
  pub open' : is_open (planar view) v ≡ true
  pub long : is_long 1 v.box ≡ true

goes-cut : (view : Window) (v : Visit) → goes_on fill_plan (planar view).boxes v ≡ true → IsCutBox view v
goes-cut view v goes = by (decision (planar view).boxes v) (is_long 1 v.box) refl refl goes
  where
    by : (t : Option Bool) (l : Bool) → decision (planar view).boxes v ≡ t → is_long 1 v.box ≡ l → (l && goes_on_by (meets_border fill_plan (planar view).boxes v.box) t) ≡ true → IsCutBox view v
    by None true e f g = record { open' = ap (is_open_by (meets_sides (size_of view)) v.box) e; long = f }
    by (Some true) true e f g = record { open' = ap (is_open_by (meets_sides (size_of view)) v.box) e ∙ g; long = f }
    by (Some false) true e f g = absurd (false≢true g)
    by None false e f g = absurd (false≢true g)
    by (Some true) false e f g = absurd (false≢true g)
    by (Some false) false e f g = absurd (false≢true g)

-- its children are its halves, which receive the list that it hands on
children-are : (view : Window) (v : Visit) → IsVisit (planar view).boxes v → AreHalves view (handed_on (planar view).boxes v) v.box (children fill_plan v.box)
children-are view v is = record {
  visit_is = record { window = is.window; box = is.box; within = is.within; tape = planes.handing.tape view v (handed_on (planar view).boxes v) is refl };
  turned = by (is_backwards fill_plan v.box);
}
  where
    by : (t : Bool) → IsPermutation (halves_of 1 v.box) (cond t (reverse (halves_of 1 v.box)) (halves_of 1 v.box))
    by true = IsPermutation-reverse (halves_of 1 v.box)
    by false = IsPermutation-refl (halves_of 1 v.box)

-- what is done at them is done at the box
box-some : (view : Window) (v : Visit) (a c : CellFiller) (t u : Counts) → IsVisit (planar view).boxes v → IsCutBox view v → FillsHalves view (handed_on (planar view).boxes v) v.box a c t u
    → FillsSome (planar view).boxes a c v t u
box-some view v a c t u is cut h =
    let live = handed_on (planar view).boxes v in
    record {
      grows = planes.handing.grows view v live (known_of a.values) (known_of c.values) is refl h.grows;
      counted = planes.handing.charged view v live (known_of a.values) (known_of c.values) t u is cut.open' cut.long refl h.charged;
      paid = planes.handing.paid view v live (known_of a.values) (known_of c.values) t u is cut.open' cut.long refl h.paid;
    }

abbrev ClosesAt : Descent → Type 0
ClosesAt d = (a c : CellFiller) (v : Visit) (t u : Counts) → IsSplit filling d a v → Below filling d v a c t u → FillsAll d a c v t u

closes-at : (view : Window) → ClosesAt (planar view).boxes
closes-at view a c v t u split h =
    let d = (planar view).boxes in
    let is = split.visit_is in
    let cut = goes-cut view v split.long in
    let live = handed_on d v in
    let halves = children fill_plan v.box in
    let are = children-are view v is in
    let all : take (length halves) halves ≡ halves = take_all (length halves) halves (omega arith) in
    let done = group-filled d live v.box halves a c t u are (all-visited d v a c t u h) in
    let g = flat_value view live in
    record {
      some = box-some view v a c t u is cut (halves-begun view live v.box halves (length halves) a c t u are done.begun);
      settled = planes.handing.settled view v live (known_of c.values) is refl
          (planes.halves.settled (planar view) g v.box halves (known_of c.values) are.turned (subst (All (λ h. AreSettled (planar view) g h (known_of c.values))) all done.settled));
      worked = planes.handing.worked view v live (known_of c.values) is cut.open' cut.long refl
          (All-permutation (λ h. AreWorked (planar view) (visit h live) (known_of c.values)) halves (halves_of 1 v.box) (IsPermutation-sym (halves_of 1 v.box) halves are.turned)
          (subst (All (λ h. AreWorked (planar view) (visit h live) (known_of c.values))) all done.worked));
      traced = halves-traced laws view v live t u is cut.open' cut.long refl (all-traced (planar view) live (halves_of 1 v.box) halves (length halves) t u are.turned (omega arith) done.traced);
    }

abbrev StopsAt : Descent → Type 0
StopsAt d = (a c : CellFiller) (v : Visit) (t u : Counts) → IsSplit filling d a v → StopsBelow filling d v a c t u → FillsSome d a c v t u

stops-at : (view : Window) → StopsAt (planar view).boxes
stops-at view a c v t u split h = box-some view v a c t u is (goes-cut view v split.long) (by (some-visited d v a c t u h))
  where
    d : Descent
    d = (planar view).boxes

    is : IsVisit (planar view).boxes v
    is = split.visit_is

    live : List Step
    live = handed_on d v

    halves : List Indices
    halves = children fill_plan v.box

    are : AreHalves view live v.box halves
    are = children-are view v is

    by : ChildrenVisited d v a c t u ⊎ Stops filling d live halves a c t u → FillsHalves view live v.box a c t u
    by (inl all) = halves-begun view live v.box halves (length halves) a c t u are (group-filled d live v.box halves a c t u are all).begun
    by (inr some) = group-stops d live v.box halves a c t u are some

-- what is known of the points that its children cover are their list's values
abbrev BeginsAt : Descent → Type 0
BeginsAt d = (a : CellFiller) (v : Visit) → IsSplit filling d a v → CanLook d a (handed_on d v) (children fill_plan v.box)

begins-at : (view : Window) → BeginsAt (planar view).boxes
begins-at view a v split =
    let known = known_of a.values in
    let live = handed_on (planar view).boxes v in
    let is = split.visit_is in
    let right = planes.handing.right view v live known is refl (All-head (λ b. AreRight (flat_value view v.list) b known) v.box split.later split.fits.right) in
    record {
      can = split.fits.can;
      right = All-weaker (IsPart 1 v.box) (λ b. AreRight (flat_value view live) b known) (λ h part p covers. right p (planes.halves.covers v.box h p part covers)) (children fill_plan v.box)
          (children-parts fill_plan v.box (omega arith) is.box);
    }

-- ---- a box that was visited

-- a value that becomes known is the list's
right-after : (g : GridPoint → ℤ) (x b : Indices) (before after : Known) → Grows g b before after → AreRight g x before → AreRight g x after
right-after g x b before after grows right p covers known = by (grows.each p)
  where
    by : (after.at p ≡ before.at p) ⊎ IsNew g b before after p → after.at p ≡ Some (g p)
    by (inl same) = same ∙ right p covers (ap is_known (sym same) ∙ known)
    by (inr new) = new.value

can-after : (d : Descent) (a c : CellFiller) (v : Visit) (t u : Counts) → CanFill d a → FillsAll d a c v t u → CanFill d c
can-after d a c v t u can done =
    record { boxes = can.boxes; flat = can.flat; n = planes.sizes.chain (known_of c.values).n (known_of a.values).n (size_of d.view) done.some.grows.n can.n }

pub fillings_are_lawful : VisitsAreLawful filling
fillings_are_lawful = record {
  some = omega arith;
  small = omega arith;
  ready = λ d s list bs fits. fits.can;
  next = λ d a c list b bs t u fits done. record {
    can = can-after d a c (visit b list) t u fits.can done;
    right = All-weaker (λ x. AreRight (flat_value d.view list) x (known_of a.values)) (λ x. AreRight (flat_value d.view list) x (known_of c.values))
        (λ x right. right-after (flat_value d.view list) x b (known_of a.values) (known_of c.values) done.some.grows right) bs
        (All-tail (λ x. AreRight (flat_value d.view list) x (known_of a.values)) b bs fits.right);
  };
  begins = λ d a mid v mark split same.
      subst (λ (s : CellFiller). CanLook d s (handed_on d v) (firsts filling d s v.box)) (sym same)
      (subst (CanLook d a (handed_on d v)) (sym (firsts-are d a v.box)) (subst BeginsAt (sym split.fits.can.boxes) (begins-at d.view) a v split));
  resumes = λ d a mid c v mark t u split same done.
      subst (CanLook d c (handed_on d v)) (sym (seconds-none d c v.box)) (record {
        can = runs-keep filling d (handed_on d v) (CanFill d) (λ s z b k l can one. can-after d s z (visit b (handed_on d v)) k l can one) mid c _ done.tally u
            (subst (CanFill d) (sym same) split.fits.can) done.runs;
        right = All-nil (λ b. AreRight (flat_value d.view (handed_on d v)) b (known_of c.values));
      });
  closes = λ d a mid last c v mark t u split same h end.
      subst (λ (s : CellFiller). FillsAll d a s v t u) (sym end)
      (subst ClosesAt (sym split.fits.can.boxes) (closes-at d.view) a last v t u split (subst (λ (s : CellFiller). Below filling d v s last t u) same h));
  stops = λ d a mid last v mark t u split same h.
      subst StopsAt (sym split.fits.can.boxes) (stops-at d.view) a last v t u split (subst (λ (s : CellFiller). StopsBelow filling d v s last t u) same h);
}
