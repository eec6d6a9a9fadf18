-- What a drawer does at a box, from what it does at its children.
use Rattle.std.proofs.Common.{◌≡◌, ◌≢◌, ℕ, ◌+◌, ◌-◌, ◌*◌, ◌<◌, ◌&&◌, Bool, true, false, cond, List, [], ◌∷◌, ◌++◌, append_assoc, append-nil, length, take, drop, set, refl, sym, ap, subst, ◌∙◌, ◌⊎◌, inl, inr, arith}
use Rattle.std.specs.Prelude.{IsTrue, Option, Some, None, Result, Ok, Err, OnErr, OnOk, unwrap_or}
use Rattle.std.specs.List.{All, filter, sum_by}
use Rattle.std.proofs.Math.Seq.{set-append_seam, take-append_seam}
use Rattle.std.proofs.lemmas.Bool.{false≢true}
use Rattle.std.proofs.lemmas.List.{drop_all, length-append, take_all}
use Rattle.std.proofs.lemmas.List.Concat.{flat_map-cons}
use Rattle.std.proofs.lemmas.List.Elements.{All-cons, All-head, All-nil, All-tail, All-weaker}
use Rattle.std.proofs.lemmas.List.Sums.{sum_by-cons, sum_by_more_le}
use Rattle.std.proofs.lemmas.Option.{cond_some, get_or_from_slice_get, none-some, slice_get_within}
use Rattle.box_chains.proofs.Theorems.{laws}
use Rattle.box_chains.specs.Chains.{Descent, Visit, decision, half_visit, handed_on, is_long, is_split, visit}
use Rattle.box_chains.specs.Counts.{end_cost}
use Rattle.box_chains.specs.Parts.{IsPart}
use Rattle.box_chains.specs.Redrawn.{IsNew, frame_before, points_after, spans_after}
use Rattle.box_chains.specs.Sums.{size}
use Rattle.box_chains.specs.Tallied.{CountsAtMost, CountsExactly}
use Rattle.box_descent.proofs.Groups.{StopsInGroup, one-group, runs-keep, stops-in}
use Rattle.box_descent.specs.Plans.{goes_on, goes_on_by, is_traced}
use Rattle.box_descent.specs.Runs.{Below, Group, Runs, Stops, StopsBelow, firsts, seconds}
use Rattle.box_descent.specs.VisitorLaws.{IsSplit, VisitsAreLawful}
use Rattle.fixed_ops.specs.Counts.{Counts, RisesBy, points_of}
use Rattle.interval_ops.specs.HullCounts.{CountsHulls}
use Rattle.live_clauses.specs.declared.step.Step.{Step}
use Rattle.view_places.specs.Boxes.{Indices, IsBox, halves_of}
use Rattle.view_places.specs.Window.{IsWindow, Window}
use Rattle.quad_descent.specs.Adding.{Adds}
use Rattle.quad_descent.specs.Drawers.{CanDraw, Closes, Draws, DrawsSome, Opens, draw_plan, drawing}
use Rattle.quad_descent.specs.KeptLists.{halves_lists, lists_of}
use Rattle.quad_descent.specs.Nodes.{box_nodes, halves_nodes, nodes_of, rows_of, split_node}
use Rattle.quad_descent.specs.OldTrees.{IsBehind, IsThere, Passes, StandNext, all_lists_before, all_nodes_before, lists_before, next_count, next_handed, nodes_before, spans_below, visit_before}
use Rattle.quad_descent.specs.Raster.{frame_points, frame_spans, fresh_points, fresh_spans, raster, raster_root}
use Rattle.quad_descent.specs.declared.boxes.Boxes.{Boxes}
use Rattle.quad_descent.specs.declared.drawing.Drawer.{Drawer}
use Rattle.quad_descent.specs.declared.drawing.Mark.{Mark}
use Rattle.quad_descent.specs.declared.node.Node.{Node}
use Rattle.quad_descent.specs.declared.node.Node.TheVariants.{Inside, Leaf, Outside, Split}
use Rattle.quad_descent.specs.declared.old_tree.OldTree.{OldTree}
use Rattle.std.proofs.Math.Nat.{mul-zero, mul_assoc}
use Rattle.box_chains.specs.Visits.{IsVisit}
use Rattle.view_places.specs.Spans.{IsInRoot, root_box_of}
use Rattle.view_places.specs.declared.lattice.Lattice.TheVariants.{Raster}
use Rattle.box_chains.specs.Desks.{Tracing, list_of}
use Rattle.box_descent.specs.Founds.{IsFound}
use Rattle.box_descent.specs.Looked.{looked}
use Rattle.box_descent.specs.declared.found.Found.{Found}
use Rattle.box_descent.specs.declared.found.Found.TheVariants.{Untraced, Outside as Outside_found}
use Rattle.quad_descent.proofs.NodeLaws.{lists-are, nodes-are, nodes_below}
use Rattle.quad_descent.proofs.OldTrees.{IsOpened, counted, handed-is, handed_in, next-passed, next-there, opened, passes-then, same-rest, split-parts, was-half}

-- ---- boxes that are drawn one after the other

-- the work of some boxes that are given a tape, where the tree before gave them another one
abbrev boxes_points : Descent → Option (List Step) → List Step → List Indices → ℕ
boxes_points d was tape boxes = sum_by (λ b. points_after d (visit_before was b) (visit b tape)) boxes

abbrev boxes_spans : Descent → Option (List Step) → List Step → List Indices → ℕ
boxes_spans d was tape boxes = sum_by (λ b. spans_after d (visit_before was b) (visit b tape)) boxes

abbrev boxes_below : Descent → Option (List Step) → List Step → List Indices → ℕ
boxes_below d was tape boxes = sum_by (λ b. spans_below d (visit_before was b) (visit b tape)) boxes

pub adds-none : (boxes : Boxes) → Adds boxes boxes [] []
adds-none boxes = record { nodes = sym (append-nil boxes.nodes.items); lists = λ keeps. sym (append-nil boxes.lists.items); keeps = refl }

adds-then : (a b c : Boxes) (x z : List Node) (y w : List (Option (List Step))) → Adds a b x y → Adds b c z w → Adds a c (x ++ z) (y ++ w)
adds-then a b c x z y w p q = record {
  nodes = q.nodes ∙ ap (λ l. l ++ z) p.nodes ∙ append_assoc a.nodes.items x z;
  lists = λ k. q.lists (subst IsTrue (sym p.keeps) k) ∙ ap (λ l. l ++ w) (p.lists k) ∙ append_assoc a.lists.items y w;
  keeps = q.keeps ∙ p.keeps;
}

pub adds-same : (a c : Boxes) (x z : List Node) (y w : List (Option (List Step))) → x ≡ z → y ≡ w → Adds a c x y → Adds a c z w
adds-same a c x z y w same alike h = subst (λ l. Adds a c l w) same (subst (λ l. Adds a c x l) alike h)

pub passes-same : (a c : OldTree) (x z : List Node) (y w : List (Option (List Step))) → x ≡ z → y ≡ w → Passes x y a c → Passes z w a c
passes-same a c x z y w same alike h = subst (λ l. Passes l w a c) same (subst (λ l. Passes x l a c) alike h)

pub exactly-same : (t u : Counts) (p s q r : ℕ) → p ≡ q → s ≡ r → CountsExactly p s t u → CountsExactly q r t u
exactly-same t u p s q r same alike h = subst (λ n. CountsExactly n r t u) same (subst (λ n. CountsExactly p n t u) alike h)

record AreDrawn (d : Descent) (tape : List Step) (a c : Drawer) (boxes : List Indices) (t u : Counts) : Type 0 where
  pub adds : Adds a.boxes c.boxes (halves_nodes d tape boxes) (halves_lists d tape boxes)
  pub passes : Passes (all_nodes_before d a.before.received boxes) (all_lists_before d a.before.received boxes) a.before c.before
  pub received : c.before.received ≡ a.before.received
  pub counted : CountsExactly (boxes_points d a.before.received tape boxes) (boxes_below d a.before.received tape boxes) t u

runs-drawn : (d : Descent) (tape : List Step) (a c : Drawer) (boxes : List Indices) (t u : Counts) → Runs drawing d tape a c boxes t u → AreDrawn d tape a c boxes t u
runs-drawn d tape a c [] t u h =
    subst (λ (s : Drawer). AreDrawn d tape a s [] t u) h.0 (subst (λ (k : Counts). AreDrawn d tape a a [] t k) h.1 (record {
      adds = adds-none a.boxes;
      passes = record { nodes = refl; lists = refl };
      received = refl;
      counted = laws.work.none t;
    }))
runs-drawn d tape a c (b ∷ bs) t u h =
    let mid = h.mid in
    let one = h.first in
    let was = a.before.received in
    let rest = runs-drawn d tape mid c bs h.tally u h.rest in
    let v = visit b tape in
    record {
      adds = adds-same a.boxes c.boxes (nodes_of d v ++ halves_nodes d tape bs) (halves_nodes d tape (b ∷ bs)) (lists_of d v ++ halves_lists d tape bs) (halves_lists d tape (b ∷ bs))
          (sym (flat_map-cons (λ x. nodes_of d (visit x tape)) b bs)) (sym (flat_map-cons (λ x. lists_of d (visit x tape)) b bs))
          (adds-then a.boxes mid.boxes c.boxes (nodes_of d v) (halves_nodes d tape bs) (lists_of d v) (halves_lists d tape bs) one.adds rest.adds);
      passes = passes-same a.before c.before (nodes_before d (visit_before was b) ++ all_nodes_before d was bs) (all_nodes_before d was (b ∷ bs)) (lists_before d (visit_before was b) ++ all_lists_before d was bs)
          (all_lists_before d was (b ∷ bs)) (sym (flat_map-cons (λ x. nodes_before d (visit_before was x)) b bs)) (sym (flat_map-cons (λ x. lists_before d (visit_before was x)) b bs))
          (passes-then a.before mid.before c.before _ _ _ _ one.passes (subst (λ r. Passes (all_nodes_before d r bs) (all_lists_before d r bs) mid.before c.before) one.received rest.passes));
      received = rest.received ∙ one.received;
      counted = exactly-same t u (points_after d (visit_before was b) v + boxes_points d was tape bs) (spans_below d (visit_before was b) v + boxes_below d was tape bs) (boxes_points d was tape (b ∷ bs)) (boxes_below d was tape (b ∷ bs))
          (sym (sum_by-cons (λ x. points_after d (visit_before was x) (visit x tape)) b bs)) (sym (sum_by-cons (λ x. spans_below d (visit_before was x) (visit x tape)) b bs))
          (laws.work.sum t h.tally u _ _ _ _ one.counted (subst (λ r. CountsExactly (boxes_points d r tape bs) (boxes_below d r tape bs) h.tally u) one.received rest.counted));
    }

-- all boxes are traced, and all are wanted
all-traced : (boxes : List Indices) → filter (is_traced draw_plan) boxes ≡ boxes
all-traced [] = refl
all-traced (b ∷ bs) = ap (λ x. b ∷ x) (all-traced bs)

pub all-wanted : (boxes : List Indices) → filter (λ b. true) boxes ≡ boxes
all-wanted [] = refl
all-wanted (b ∷ bs) = ap (λ x. b ∷ x) (all-wanted bs)

-- a box is new that received another list in the tree before, or none
pub new-by : (was : Option (List Step)) (list : List Step) (b : Indices) → was ≢ Some list → IsNew (visit_before was b) (visit b list)
new-by None list b other old is = absurd (none-some old is)
new-by (Some l) list b other old is =
    let same : visit b l ≡ old = ap (λ o. unwrap_or o old) is in
    (ap (λ w. w.box) (sym same), λ equal. other (ap (λ w. Some w.list) same ∙ ap Some equal))

-- the steps that are traced over such boxes: the list over each, and what lies below them
spans-below : (d : Descent) (was : Option Visit) (v : Visit) → 0 < d.leaf → IsBox v.box → IsNew was v → spans_after d was v ≡ length v.list + spans_below d was v
spans-below d was v some is new = omega (arith, laws.redrawn.spans d was v some is new)

spans-sum : (d : Descent) (was : Option (List Step)) (tape : List Step) (boxes : List Indices) → 0 < d.leaf → All IsBox boxes → was ≢ Some tape
    → boxes_spans d was tape boxes ≡ length boxes * length tape + boxes_below d was tape boxes
spans-sum d was tape [] some are new = omega arith
spans-sum d was tape (b ∷ bs) some are new =
    let first = spans-below d (visit_before was b) (visit b tape) some (All-head IsBox b bs are) (new-by was tape b new) in
    let rest = spans-sum d was tape bs some (All-tail IsBox b bs are) new in
    let sides : boxes_spans d was tape (b ∷ bs) ≡ spans_after d (visit_before was b) (visit b tape) + boxes_spans d was tape bs = sum_by-cons (λ x. spans_after d (visit_before was x) (visit x tape)) b bs in
    let below : boxes_below d was tape (b ∷ bs) ≡ spans_below d (visit_before was b) (visit b tape) + boxes_below d was tape bs = sum_by-cons (λ x. spans_below d (visit_before was x) (visit x tape)) b bs in
    omega (arith, first, rest, sides, below)

-- boxes that are traced together, of which so many were drawn
group-begun : (d : Descent) (tape : List Step) (a c : Drawer) (boxes : List Indices) (n : ℕ) (t u : Counts) → Group drawing d tape boxes a c (take n boxes) t u
    → CountsExactly (boxes_points d a.before.received tape (take n boxes)) (length boxes * length tape + boxes_below d a.before.received tape (take n boxes)) t u
group-begun d tape a c boxes n t u h =
    exactly-same t u (0 + boxes_points d a.before.received tape (take n boxes)) _ (boxes_points d a.before.received tape (take n boxes)) _ (omega arith) refl
    (laws.work.sum t h.tally u 0 (length boxes * length tape) _ _
    (laws.work.hulls t h.tally (length boxes * length tape) (subst (λ bs. CountsHulls (length bs * length tape) t h.tally) (all-traced boxes) h.traced))
    (runs-drawn d tape a c (take n boxes) h.tally u h.runs).counted)

pub record AreDone (d : Descent) (tape : List Step) (a c : Drawer) (boxes : List Indices) (t u : Counts) : Type 0 where
  pub adds : Adds a.boxes c.boxes (halves_nodes d tape boxes) (halves_lists d tape boxes)
  pub passes : Passes (all_nodes_before d a.before.received boxes) (all_lists_before d a.before.received boxes) a.before c.before
  pub received : c.before.received ≡ a.before.received
  pub counted : CountsExactly (boxes_points d a.before.received tape boxes) (boxes_spans d a.before.received tape boxes) t u

pub group-done : (d : Descent) (tape : List Step) (a c : Drawer) (boxes : List Indices) (t u : Counts) → 0 < d.leaf → All IsBox boxes → a.before.received ≢ Some tape → Group drawing d tape boxes a c boxes t u
    → AreDone d tape a c boxes t u
group-done d tape a c boxes t u some are new h =
    let ran = runs-drawn d tape a c boxes h.tally u h.runs in
    let whole : take (length boxes) boxes ≡ boxes = take_all (length boxes) boxes (omega arith) in
    let begun = group-begun d tape a c boxes (length boxes) t u (subst (λ bs. Group drawing d tape boxes a c bs t u) (sym whole) h) in
    let was = a.before.received in
    record {
      adds = ran.adds;
      passes = ran.passes;
      received = ran.received;
      counted = exactly-same t u _ _ (boxes_points d was tape boxes) (boxes_spans d was tape boxes) (ap (boxes_points d was tape) whole)
          (ap (λ bs. length boxes * length tape + boxes_below d was tape bs) whole ∙ sym (spans-sum d was tape boxes some are new)) begun;
    }

pub group-stops : (d : Descent) (tape : List Step) (a c : Drawer) (boxes : List Indices) (t u : Counts) → 0 < d.leaf → All IsBox boxes → a.before.received ≢ Some tape → Stops drawing d tape boxes a c t u
    → CountsAtMost (boxes_points d a.before.received tape boxes) (boxes_spans d a.before.received tape boxes) t u
group-stops d tape a c boxes t u some are new h = by h
  where
    was : Option (List Step)
    was = a.before.received

    sum : boxes_spans d was tape boxes ≡ length boxes * length tape + boxes_below d was tape boxes
    sum = spans-sum d was tape boxes some are new

    by : Stops drawing d tape boxes a c t u → CountsAtMost (boxes_points d was tape boxes) (boxes_spans d was tape boxes) t u
    by (inl none) =
        laws.bounds.more t u 0 (length boxes * length tape) (boxes_points d was tape boxes) (boxes_spans d was tape boxes) (omega arith) (omega (arith, sum))
        (subst (λ bs. CountsAtMost 0 (length bs * length tape) t u) (all-traced boxes) none.1)
    by (inr left) =
        let b = left.box in
        let i = left.place in
        let f : Indices → ℕ = λ x. points_after d (visit_before was x) (visit x tape) in
        let g : Indices → ℕ = λ x. spans_below d (visit_before was x) (visit x tape) in
        let within = slice_get_within boxes i b left.there in
        let read = get_or_from_slice_get boxes i b b left.there in
        let begun = group-begun d tape a left.mid boxes i t left.tally left.before in
        let kept = (runs-drawn d tape a left.mid (take i boxes) left.before.tally left.tally left.before.runs).received in
        laws.bounds.after t left.tally u (sum_by f (take i boxes)) (length boxes * length tape + sum_by g (take i boxes)) (f b) (g b) (sum_by f boxes) (boxes_spans d was tape boxes)
        (omega (arith, sum_by_more_le f boxes i b within, ap f read)) (omega (arith, sum, sum_by_more_le g boxes i b within, ap g read)) begun
        (subst (λ r. CountsAtMost (points_after d (visit_before r b) (visit b tape)) (spans_below d (visit_before r b) (visit b tape)) left.tally u) kept left.left)

-- ---- a box that is split

goes-split : (d : Descent) (v : Visit) → goes_on draw_plan d v ≡ true → is_split d v ≡ true
goes-split d v goes = by (decision d v) (is_long d.leaf v.box) refl refl goes
  where
    by : (t : Option Bool) (l : Bool) → decision d v ≡ t → is_long d.leaf v.box ≡ l → (l && goes_on_by false t) ≡ true → is_split d v ≡ true
    by None true e f g = rw e f
    by None false e f g = absurd (false≢true g)
    by (Some true) true e f g = absurd (false≢true g)
    by (Some true) false e f g = absurd (false≢true g)
    by (Some false) true e f g = absurd (false≢true g)
    by (Some false) false e f g = absurd (false≢true g)

split-boxes : (b : Indices) → IsBox b → All IsBox (halves_of 8 b)
split-boxes b is = All-weaker (IsPart 8 b) IsBox (λ h part. laws.parts.box 8 b h part) (halves_of 8 b) (laws.parts.all 8 b (omega arith) is)

-- its work is that of its children
split-points : (view : Window) (was : Option Visit) (v : Visit) → IsBox v.box → IsNew was v → is_split (raster view) v ≡ true
    → boxes_points (raster view) (handed_in (raster view) was) (handed_on (raster view) v) (halves_of 8 v.box) ≡ points_after (raster view) was v
split-points view was v is new split =
    let d = raster view in
    sym (was-half (λ half. sum_by (λ h. points_after d (half h) (half_visit d v h)) (halves_of 8 v.box)) d was) ∙ sym (rw split at (laws.redrawn.points d was v (omega arith) is new))

split-spans : (view : Window) (was : Option Visit) (v : Visit) → IsBox v.box → IsNew was v → is_split (raster view) v ≡ true
    → boxes_spans (raster view) (handed_in (raster view) was) (handed_on (raster view) v) (halves_of 8 v.box) ≡ spans_below (raster view) was v
split-spans view was v is new split =
    let d = raster view in
    let own = rw split at (laws.redrawn.spans d was v (omega arith) is new) in
    sym (was-half (λ half. sum_by (λ h. spans_after d (half h) (half_visit d v h)) (halves_of 8 v.box)) d was) ∙ omega (arith, own)

-- the node of a box that is split, once it is known how many stand below it
split-set : (old pushed all below : List Node) (first : Node) (at : ℕ) → pushed ≡ old ++ first ∷ [] → all ≡ pushed ++ below → at ≡ length old
    → (at < length all) × (set all at (Split (length all - at - 1)) ≡ old ++ split_node below)
split-set old pushed all below first at push grown start =
    let whole : all ≡ old ++ first ∷ below = grown ∙ ap (λ l. l ++ below) push ∙ append_assoc old (first ∷ []) below in
    let count : length all - at - 1 ≡ length below = omega (arith, start, ap length whole, length-append old (first ∷ below)) in (
      omega (arith, start, ap length whole, length-append old (first ∷ below)),
      ap (λ l. set l at (Split (length all - at - 1))) whole ∙ ap (λ n. set (old ++ first ∷ below) n (Split (length all - at - 1))) start
          ∙ set-append_seam old first below (Split (length all - at - 1)) ∙ ap (λ n. old ++ Split n ∷ below) count,
    )

abbrev ClosesAt : Descent → Type 0
ClosesAt d = (a mid last c : Drawer) (v : Visit) (mark : Mark) (t u : Counts) → IsSplit drawing d a v → Opens d a mid v mark → Below drawing d v mid last t u → Closes last c mark → Draws d a c v t u

closes-at : (view : Window) → ClosesAt (raster view)
closes-at view a mid last c v mark t u split o h e =
    let d = raster view in
    let is = split.visit_is.box in
    let splits = goes-split d v split.long in
    let live = handed_on d v in
    let halves = halves_of 8 v.box in
    let was = visit_before a.before.received v.box in
    let one = one-group drawing d v mid last t u refl h in
    let done = group-done d live mid last halves t one.tally (omega arith) (split-boxes v.box is) o.other (subst (λ bs. Group drawing d live bs mid last bs t one.tally) (all-wanted halves) one.group) in
    let new = new-by a.before.received v.list v.box split.fits.new in
    let was_opened = opened view v.box split.later a.before mid.before is split.fits.next o.behind o.handed in
    let parts = split-parts d v (omega arith) is splits in
    let below = subst (λ r. CountsExactly (boxes_points d r live halves) (boxes_spans d r live halves) t one.tally) was_opened.handed done.counted in
    let nodes = split-set a.boxes.nodes.items mid.boxes.nodes.items last.boxes.nodes.items (halves_nodes d live halves) (Split 0) mark.place o.adds.nodes done.adds.nodes o.place in
    let all = adds-then a.boxes mid.boxes last.boxes _ _ _ _ o.adds done.adds in
    record {
      adds = record {
        nodes = e.nodes nodes.0 ∙ nodes.1 ∙ ap (λ l. a.boxes.nodes.items ++ l) (sym parts.0);
        lists = λ keeps. e.lists ∙ all.lists keeps ∙ ap (λ l. a.boxes.lists.items ++ l) (sym parts.1);
        keeps = e.keeps ∙ all.keeps;
      };
      passes = passes-same a.before c.before _ (nodes_before d was) _ (lists_before d was) (sym was_opened.nodes) (sym was_opened.lists)
          (passes-then a.before mid.before c.before _ _ _ _ was_opened.passes (record {
            nodes = done.passes.nodes ∙ ap (λ l. all_nodes_before d mid.before.received halves ++ l) (sym e.behind.nodes);
            lists = done.passes.lists ∙ ap (λ l. all_lists_before d mid.before.received halves ++ l) (sym e.behind.lists);
          }));
      received = e.received ∙ o.received;
      counted = exactly-same t u _ _ (points_after d was v) (spans_below d was v) (sum-zero _ ∙ split-points view was v is new splits) (sum-zero _ ∙ split-spans view was v is new splits)
          (laws.work.sum t one.tally u _ _ 0 0 below (laws.work.hulls one.tally u 0 one.none));
    }
  where
    sum-zero : (n : ℕ) → n + 0 ≡ n
    sum-zero n = omega arith

abbrev StopsAt : Descent → Type 0
StopsAt d = (a mid last : Drawer) (v : Visit) (mark : Mark) (t u : Counts) → IsSplit drawing d a v → Opens d a mid v mark → StopsBelow drawing d v mid last t u → DrawsSome d a last v t u

stops-at : (view : Window) → StopsAt (raster view)
stops-at view a mid last v mark t u split o h =
    subst (λ p. CountsAtMost p (spans_below d was v) t u) (split-points view was v is new splits) (subst (λ s. CountsAtMost (boxes_points d (handed_in d was) live halves) s t u) (split-spans view was v is new splits)
    (subst (λ r. CountsAtMost (boxes_points d r live halves) (boxes_spans d r live halves) t u) was_opened.handed (by (stops-in drawing d v mid last t u refl h))))
  where
    d : Descent
    d = raster view

    is : IsBox v.box
    is = split.visit_is.box

    splits : is_split d v ≡ true
    splits = goes-split d v split.long

    live : List Step
    live = handed_on d v

    halves : List Indices
    halves = halves_of 8 v.box

    was : Option Visit
    was = visit_before a.before.received v.box

    new : IsNew was v
    new = new-by a.before.received v.list v.box split.fits.new

    was_opened : IsOpened d v.box a.before mid.before
    was_opened = opened view v.box split.later a.before mid.before is split.fits.next o.behind o.handed

    by : StopsInGroup drawing d v mid last t u → CountsAtMost (boxes_points d mid.before.received live halves) (boxes_spans d mid.before.received live halves) t u
    by (inl stops) = group-stops d live mid last halves t u (omega arith) (split-boxes v.box is) o.other (subst (λ bs. Stops drawing d live bs mid last t u) (all-wanted halves) stops)
    by (inr after) =
        let done = group-done d live mid last halves t after.tally (omega arith) (split-boxes v.box is) o.other (subst (λ bs. Group drawing d live bs mid last bs t after.tally) (all-wanted halves) after.group) in
        laws.bounds.after t after.tally u _ _ 0 0 _ _ (omega arith) (omega arith) done.counted after.none

abbrev BeginsAt : Descent → Type 0
BeginsAt d = (a mid : Drawer) (v : Visit) (mark : Mark) → IsSplit drawing d a v → Opens d a mid v mark → CanDraw d mid (handed_on d v) (firsts drawing d mid v.box)

begins-at : (view : Window) → BeginsAt (raster view)
begins-at view a mid v mark split o =
    let d = raster view in
    let halves = halves_of 8 v.box in
    let was_opened = opened view v.box split.later a.before mid.before split.visit_is.box split.fits.next o.behind o.handed in
    let first : firsts drawing d mid v.box ≡ halves = all-wanted (take (length halves) halves) ∙ take_all (length halves) halves (omega arith) in
    subst (CanDraw d mid (handed_on d v)) (sym first) (record { raster = refl; next = was_opened.next; new = o.other })

-- behind the last of some boxes stands any tree
none-next : (d : Descent) (tree : OldTree) → StandNext d [] tree
none-next d tree = record { more_nodes = tree.nodes.now; more_lists = tree.lists; nodes = refl; lists = refl }

next-stands : (d : Descent) (b : Indices) (bs : List Indices) (a c : OldTree) → StandNext d (b ∷ bs) a → Passes (nodes_before d (visit_before a.received b)) (lists_before d (visit_before a.received b)) a c
    → c.received ≡ a.received → StandNext d bs c
next-stands d b bs a c next passed same =
    let was = a.received in
    record {
      more_nodes = next.more_nodes;
      more_lists = next.more_lists;
      nodes = same-rest (nodes_before d (visit_before was b)) c.nodes.now (all_nodes_before d c.received bs ++ next.more_nodes)
          (sym passed.nodes ∙ next.nodes ∙ ap (λ l. l ++ next.more_nodes) (flat_map-cons (λ x. nodes_before d (visit_before was x)) b bs)
          ∙ append_assoc (nodes_before d (visit_before was b)) (all_nodes_before d was bs) next.more_nodes ∙ ap (λ r. nodes_before d (visit_before was b) ++ (all_nodes_before d r bs ++ next.more_nodes)) (sym same));
      lists = same-rest (lists_before d (visit_before was b)) c.lists (all_lists_before d c.received bs ++ next.more_lists)
          (sym passed.lists ∙ next.lists ∙ ap (λ l. l ++ next.more_lists) (flat_map-cons (λ x. lists_before d (visit_before was x)) b bs)
          ∙ append_assoc (lists_before d (visit_before was b)) (all_lists_before d was bs) next.more_lists ∙ ap (λ r. lists_before d (visit_before was b) ++ (all_lists_before d r bs ++ next.more_lists)) (sym same));
    }

pub drawings_are_lawful : VisitsAreLawful drawing
drawings_are_lawful = record {
  some = omega arith;
  small = omega arith;
  ready = λ d s tape bs fits. fits.raster;
  next = λ d a c tape b bs t u fits done. record {
    raster = fits.raster;
    next = next-stands d b bs a.before c.before fits.next done.passes done.received;
    new = λ same. fits.new (sym done.received ∙ same);
  };
  begins = λ d a mid v mark split o. subst BeginsAt (sym split.fits.raster) (begins-at d.view) a mid v mark split o;
  resumes = λ d a mid c v mark t u split o done.
      let halves = halves_of 8 v.box in
      let none : seconds drawing d c v.box ≡ [] = all-wanted (drop (length halves) halves) ∙ drop_all (length halves) halves (omega arith) in
      let kept = runs-keep drawing d (handed_on d v) (λ s. s.before.received ≡ mid.before.received) (λ s z b k l same one. one.received ∙ same) mid c _ done.tally u refl done.runs in
      subst (CanDraw d c (handed_on d v)) (sym none) (record { raster = split.fits.raster; next = none-next d c.before; new = λ same. o.other (sym kept ∙ same) });
  closes = λ d a mid last c v mark t u split o h e. subst ClosesAt (sym split.fits.raster) (closes-at d.view) a mid last c v mark t u split o h e;
  stops = λ d a mid last v mark t u split o h. subst StopsAt (sym split.fits.raster) (stops-at d.view) a mid last v mark t u split o h;
}

-- ---- a box that is not split

abbrev EndDrawn : Descent → Type 0
EndDrawn d = (a c : Drawer) (v : Visit) (later : List Indices) (node : Node) (t u : Counts) → CanDraw d a v.list (v.box ∷ later) → IsBox v.box → is_split d v ≡ false → nodes_of d v ≡ node ∷ [] → lists_of d v ≡ None ∷ []
    → Adds a.boxes c.boxes (node ∷ []) (None ∷ []) → IsBehind (next_count a.before) a.before c.before → c.before.received ≡ a.before.received → CountsExactly (size v.box * end_cost d v) 0 t u → Draws d a c v t u

end-points : (view : Window) (was : Option Visit) (v : Visit) → IsBox v.box → IsNew was v → is_split (raster view) v ≡ false → size v.box * end_cost (raster view) v ≡ points_after (raster view) was v
end-points view was v is new whole = sym (rw whole at (laws.redrawn.points (raster view) was v (omega arith) is new))

end-spans : (view : Window) (was : Option Visit) (v : Visit) → IsBox v.box → IsNew was v → is_split (raster view) v ≡ false → 0 ≡ spans_below (raster view) was v
end-spans view was v is new whole =
    let own = rw whole at (laws.redrawn.spans (raster view) was v (omega arith) is new) in
    omega (arith, own)

end-at : (view : Window) → EndDrawn (raster view)
end-at view a c v later node t u fits is whole nodes lists adds behind same work =
    let was = visit_before a.before.received v.box in
    let new = new-by a.before.received v.list v.box fits.new in
    record {
      adds = adds-same a.boxes c.boxes (node ∷ []) (nodes_of (raster view) v) (None ∷ []) (lists_of (raster view) v) (sym nodes) (sym lists) adds;
      passes = next-passed view v.box later a.before c.before is fits.next behind;
      received = same;
      counted = exactly-same t u (size v.box * end_cost (raster view) v) 0 (points_after (raster view) was v) (spans_below (raster view) was v) (end-points view was v is new whole) (end-spans view was v is new whole) work;
    }

pub end-drawn : (d : Descent) → EndDrawn d
end-drawn d a c v later node t u fits = subst EndDrawn (sym fits.raster) (end-at d.view) a c v later node t u fits

-- no work is within that of a box
pub halts-none : (d : Descent) (a c : Drawer) (v : Visit) (t : Counts) → DrawsSome d a c v t t
halts-none d a c v t = laws.bounds.none t _ _

-- and work that draws a box is
pub there-next : (d : Descent) (a : Drawer) (tape : List Step) (b : Indices) (later : List Indices) → CanDraw d a tape (b ∷ later) → IsBox b → IsThere a.before
there-next d a tape b later fits is = next-there d.view b later a.before is (subst (λ e. StandNext e (b ∷ later) a.before) fits.raster fits.next)

pub no-work : (t : Counts) (n m : ℕ) → m ≡ 0 → CountsExactly (n * m) 0 t t
no-work t n m zero = exactly-same t t 0 0 (n * m) 0 (sym (ap (λ k. n * k) zero ∙ mul-zero n)) refl (laws.work.none t)

pub decided-drawn : (d : Descent) (a c : Drawer) (v : Visit) (later : List Indices) (inside : Bool) (t : Counts) → CanDraw d a v.list (v.box ∷ later) → IsBox v.box → 0 < d.leaf → decision d v ≡ Some inside
    → Adds a.boxes c.boxes (cond inside Inside Outside ∷ []) (None ∷ []) → IsBehind (next_count a.before) a.before c.before → c.before.received ≡ a.before.received → Draws d a c v t t
decided-drawn d a c v later inside t fits is some e adds behind same =
    let whole : is_split d v ≡ false = rw e refl in
    let free : end_cost d v ≡ 0 = rw e refl in
    end-drawn d a c v later (cond inside Inside Outside) t t fits is whole (nodes-are laws d v some is ∙ rw e (by inside)) (lists-are laws d v some is ∙ rw e refl) adds behind same (no-work t (size v.box) (end_cost d v) free)
  where
    below : List Node
    below = nodes_below d v (halves_of d.leaf v.box)

    by : (inside : Bool) → box_nodes d v below (Some inside) ≡ cond inside Inside Outside ∷ []
    by true = refl
    by false = refl

-- an error says what holds anyway
pub on_err : {T E : Type 0} (r : Result T E) (P : Type 0) → P → OnErr r P
on_err (Ok x) P p = tt
on_err (Err e) P p = p

pub on_ok-then : {T E : Type 0} (r : Result T E) (P Q : Type 0) → (P → Q) → OnOk r P → OnOk r Q
on_ok-then (Ok x) P Q f p = f p
on_ok-then (Err e) P Q f p = tt

pub found-outside : (desk : Tracing) (b : Indices) (given : ℕ) (found : Found) → (found ≡ Outside_found) ⊎ (found ≡ Untraced) → IsFound draw_plan desk b given found → decision (looked draw_plan desk) (visit b (list_of desk given)) ≡ Some false
found-outside desk b given found (inl e) right = subst (IsFound draw_plan desk b given) e right
found-outside desk b given found (inr e) right = absurd (false≢true (sym (subst (IsFound draw_plan desk b given) e right)))

-- a raster has one layer
size-flat : (view : Window) (b : Indices) → IsBox b → IsInRoot view Raster b → size b ≡ (b.y1 - b.y0) * (b.x1 - b.x0)
size-flat view b is within =
    let layer : b.z1 - b.z0 ≡ 1 = omega (arith, is.z, within.z) in
    ap (λ n. n * ((b.y1 - b.y0) * (b.x1 - b.x0))) layer ∙ omega arith

-- what is counted at a leaf is its work
abbrev LeafCounted : Descent → Type 0
LeafCounted d = (v : Visit) (live : List Step) (t u : Counts) → IsVisit d v → decision d v ≡ None → live ≡ handed_on d v → RisesBy t u (points_of ((v.box.y1 - v.box.y0) * ((v.box.x1 - v.box.x0) * length live)))
    → CountsExactly (size v.box * end_cost d v) 0 t u

leaf-at : (view : Window) → LeafCounted (raster view)
leaf-at view v live t u is e same h =
    let cost : end_cost (raster view) v ≡ length (handed_on (raster view) v) = rw e refl in
    let y = v.box.y1 - v.box.y0 in
    let x = v.box.x1 - v.box.x0 in
    exactly-same t u (y * (x * length live)) 0 (size v.box * end_cost (raster view) v) 0
    (sym (mul_assoc y x (length live)) ∙ ap (λ n. n * length live) (sym (size-flat view v.box is.box is.within)) ∙ ap (λ l. size v.box * length l) same ∙ ap (λ n. size v.box * n) (sym cost)) refl
    (laws.work.points t u (y * (x * length live)) h)

abbrev LeafBounded : Descent → Type 0
LeafBounded d = (a c : Drawer) (v : Visit) (later : List Indices) (t u : Counts) → CanDraw d a v.list (v.box ∷ later) → IsBox v.box → is_split d v ≡ false → CountsExactly (size v.box * end_cost d v) 0 t u → DrawsSome d a c v t u

leaf-bounded : (view : Window) → LeafBounded (raster view)
leaf-bounded view a c v later t u fits is whole h =
    let was = visit_before a.before.received v.box in
    let new = new-by a.before.received v.list v.box fits.new in
    laws.bounds.exact t u (size v.box * end_cost (raster view) v) 0 (points_after (raster view) was v) (spans_below (raster view) was v) (omega (arith, end-points view was v is new whole)) (omega arith) h

-- a leaf that was found undecided
pub record IsLeaf (d : Descent) (v : Visit) (live : List Step) : Type 0 where
  pub visit_is : IsVisit d v
  pub undecided : decision d v ≡ None
  pub short : is_long 8 v.box ≡ false
  pub live_is : live ≡ handed_on d v

leaf-whole : (d : Descent) (v : Visit) (live : List Step) → d.leaf ≡ 8 → IsLeaf d v live → is_split d v ≡ false
leaf-whole d v live eight leaf = rw leaf.undecided (ap (λ n. is_long n v.box) eight ∙ leaf.short)

pub leaf-some : (d : Descent) (a c : Drawer) (v : Visit) (later : List Indices) (live : List Step) (t u : Counts) → d.leaf ≡ 8 → CanDraw d a v.list (v.box ∷ later) → IsLeaf d v live
    → RisesBy t u (points_of ((v.box.y1 - v.box.y0) * ((v.box.x1 - v.box.x0) * length live))) → DrawsSome d a c v t u
leaf-some d a c v later live t u eight fits leaf h =
    subst LeafBounded (sym fits.raster) (leaf-bounded d.view) a c v later t u fits leaf.visit_is.box (leaf-whole d v live eight leaf)
    (subst LeafCounted (sym fits.raster) (leaf-at d.view) v live t u leaf.visit_is leaf.undecided leaf.live_is h)

pub leaf-drawn : (d : Descent) (a c : Drawer) (v : Visit) (later : List Indices) (live : List Step) (rows : List ℕ) (t u : Counts) → d.leaf ≡ 8 → CanDraw d a v.list (v.box ∷ later) → IsLeaf d v live
    → RisesBy t u (points_of ((v.box.y1 - v.box.y0) * ((v.box.x1 - v.box.x0) * length live))) → rows ≡ rows_of d.view Raster live v.box
    → Adds a.boxes c.boxes (Leaf rows ∷ []) (None ∷ []) → IsBehind (next_count a.before) a.before c.before → c.before.received ≡ a.before.received → Draws d a c v t u
leaf-drawn d a c v later live rows t u eight fits leaf h are adds behind same =
    let some : 0 < d.leaf = omega (arith, eight) in
    let is = leaf.visit_is.box in
    let short : is_long d.leaf v.box ≡ false = ap (λ n. is_long n v.box) eight ∙ leaf.short in
    let lattice = ap (λ (e : Descent). e.lattice) fits.raster in
    end-drawn d a c v later (Leaf rows) t u fits is (leaf-whole d v live eight leaf)
    (nodes-are laws d v some is ∙ rw (leaf.undecided, short) (ap (λ r. Leaf r ∷ []) (ap (λ k. rows_of d.view k (handed_on d v) v.box) lattice ∙ ap (λ l. rows_of d.view Raster l v.box) (sym leaf.live_is) ∙ sym are)))
    (lists-are laws d v some is ∙ rw (leaf.undecided, short) refl) adds behind same (subst LeafCounted (sym fits.raster) (leaf-at d.view) v live t u leaf.visit_is leaf.undecided leaf.live_is h)

-- no children are visited of an undecided box only where it is a leaf
pub leaf-short : (l : Bool) (at : ℕ) → cond {A = Option ℕ} l (Some at) None ≡ None → l ≡ false
leaf-short true at e = absurd (none-some at (sym e))
leaf-short false at e = refl

-- ---- a box that is taken over

boxes-old : (d : Descent) (tape : List Step) (boxes : List Indices) → 0 < d.leaf → All IsBox boxes → (boxes_points d (Some tape) tape boxes ≡ 0) × (boxes_spans d (Some tape) tape boxes ≡ 0)
boxes-old d tape [] some are = (refl, refl)
boxes-old d tape (b ∷ bs) some are =
    let is = All-head IsBox b bs are in
    let rest = boxes-old d tape bs some (All-tail IsBox b bs are) in (
      sum_by-cons (λ x. points_after d (visit_before (Some tape) x) (visit x tape)) b bs ∙ omega (arith, laws.redrawn.old_points d (visit b tape) some is, rest.0),
      sum_by-cons (λ x. spans_after d (visit_before (Some tape) x) (visit x tape)) b bs ∙ omega (arith, laws.redrawn.old_spans d (visit b tape) some is, rest.1),
    )

kept-same : (view : Window) (b : Indices) (received : Option (List Step)) (v : Visit) → v.box ≡ b → IsBox b → is_split (raster view) v ≡ true → handed_in (raster view) (visit_before received b) ≡ Some (handed_on (raster view) v)
    → (nodes_before (raster view) (visit_before received b) ≡ nodes_of (raster view) v) × (lists_before (raster view) (visit_before received b) ≡ lists_of (raster view) v)
kept-same view b None v box is split handed = absurd (none-some (handed_on (raster view) v) handed)
kept-same view b (Some list) v box is split handed =
    let d = raster view in
    let w = visit b list in
    let told = cond_some (is_split d w) (handed_on d w) (handed_on d v) handed in
    let old = split-parts d w (omega arith) is told.0 in
    let now = split-parts d v (omega arith) (subst IsBox (sym box) is) split in (
      old.0 ∙ ap (λ l. split_node (halves_nodes d l (halves_of 8 b))) told.1 ∙ ap (λ x. split_node (halves_nodes d (handed_on d v) (halves_of 8 x))) (sym box) ∙ sym now.0,
      old.1 ∙ ap (λ l. Some l ∷ halves_lists d l (halves_of 8 b)) told.1 ∙ ap (λ x. Some (handed_on d v) ∷ halves_lists d (handed_on d v) (halves_of 8 x)) (sym box) ∙ sym now.1,
    )

abbrev OldDrawn : Descent → Type 0
OldDrawn d = (a c : Drawer) (v : Visit) (later : List Indices) (t : Counts) → CanDraw d a v.list (v.box ∷ later) → IsBox v.box → goes_on draw_plan d v ≡ true → next_handed a.before ≡ Some (handed_on d v)
    → Adds a.boxes c.boxes (take (next_count a.before) a.before.nodes.now) (take (next_count a.before) a.before.lists) → IsBehind (next_count a.before) a.before c.before → c.before.received ≡ a.before.received → Draws d a c v t t

old-at : (view : Window) → OldDrawn (raster view)
old-at view a c v later t fits is goes same_list adds behind same =
    let d = raster view in
    let split = goes-split d v goes in
    let was = visit_before a.before.received v.box in
    let new = new-by a.before.received v.list v.box fits.new in
    let handed : handed_in d was ≡ Some (handed_on d v) = sym (handed-is view v.box later a.before is fits.next) ∙ same_list in
    let kept = kept-same view v.box a.before.received v refl is split handed in
    let passed = next-passed view v.box later a.before c.before is fits.next behind in
    let count = counted view v.box later a.before is fits.next in
    let none = boxes-old d (handed_on d v) (halves_of 8 v.box) (omega arith) (split-boxes v.box is) in
    record {
      adds = adds-same a.boxes c.boxes _ (nodes_of d v) _ (lists_of d v)
          (ap (λ n. take n a.before.nodes.now) count.nodes ∙ ap (take (length (nodes_before d was))) passed.nodes ∙ take-append_seam (nodes_before d was) c.before.nodes.now ∙ kept.0)
          (ap (λ n. take n a.before.lists) count.lists ∙ ap (take (length (lists_before d was))) passed.lists ∙ take-append_seam (lists_before d was) c.before.lists ∙ kept.1) adds;
      passes = passed;
      received = same;
      counted = exactly-same t t 0 0 (points_after d was v) (spans_below d was v)
          (sym none.0 ∙ ap (λ r. boxes_points d r (handed_on d v) (halves_of 8 v.box)) (sym handed) ∙ split-points view was v is new split)
          (sym none.1 ∙ ap (λ r. boxes_spans d r (handed_on d v) (halves_of 8 v.box)) (sym handed) ∙ split-spans view was v is new split) (laws.work.none t);
    }

pub old-drawn : (d : Descent) → OldDrawn d
old-drawn d a c v later t fits = subst OldDrawn (sym fits.raster) (old-at d.view) a c v later t fits

-- ---- the box of all samples

frame-was : (view : Window) (was : Option (List Step)) → visit_before was (root_box_of view Raster) ≡ frame_before (raster view) was
frame-was view None = refl
frame-was view (Some list) = refl

abbrev OneRoot : Tracing → Indices → (ℕ → ℕ → Type 0) → Option (List Step) → Type 0
OneRoot desk root Counted was = Counted (boxes_points (looked draw_plan desk) was (list_of desk 0) (root ∷ [])) (boxes_spans (looked draw_plan desk) was (list_of desk 0) (root ∷ []))

pub root-work : (Counted : ℕ → ℕ → Type 0) (view : Window) (list : List Step) (desk : Tracing) (root : Indices) (was : Option (List Step)) → desk ≡ record { view = view; lattice = Raster; room = length list; lists = list ∷ [] }
    → root ≡ root_box_of desk.view desk.lattice → OneRoot desk root Counted was → Counted (frame_points view was list) (frame_spans view was list)
root-work Counted view list desk root was made is h =
    let d = raster view in
    let whole = root_box_of view Raster in
    let at = is ∙ ap (λ (e : Tracing). root_box_of e.view e.lattice) made in
    let here = subst (λ (e : Tracing). OneRoot e whole Counted was) made (subst (λ b. OneRoot desk b Counted was) at h) in
    let points : boxes_points d was list (whole ∷ []) ≡ frame_points view was list = sum-one (λ b. points_after d (visit_before was b) (visit b list)) whole ∙ ap (λ w. points_after d w (visit whole list)) (frame-was view was) in
    let spans : boxes_spans d was list (whole ∷ []) ≡ frame_spans view was list = sum-one (λ b. spans_after d (visit_before was b) (visit b list)) whole ∙ ap (λ w. spans_after d w (visit whole list)) (frame-was view was) in
    subst (λ p. Counted p (frame_spans view was list)) points (subst (λ s. Counted (boxes_points d was list (whole ∷ [])) s) spans here)
  where
    sum-one : (f : Indices → ℕ) (b : Indices) → sum_by f (b ∷ []) ≡ f b
    sum-one f b = sum_by-cons f b [] ∙ omega arith

pub root-box : (view : Window) (desk : Tracing) (list : List Step) (root : Indices) → IsWindow view → desk ≡ record { view = view; lattice = Raster; room = length list; lists = list ∷ [] } → root ≡ root_box_of desk.view desk.lattice → All IsBox (root ∷ [])
root-box view desk list root window made is =
    let box : IsBox (root_box_of view Raster) = record { x = window.w.some; y = window.h.some; z = omega arith } in
    All-cons IsBox root [] (subst IsBox (sym (is ∙ ap (λ (e : Tracing). root_box_of e.view e.lattice) made)) box) (All-nil IsBox)

pub fresh-work : (Counted : ℕ → ℕ → Type 0) (view : Window) (list : List Step) → Counted (frame_points view None list) (frame_spans view None list) → Counted (fresh_points view list) (fresh_spans view list)
fresh-work Counted view list h =
    subst (λ p. Counted p (fresh_spans view list)) (laws.redrawn.fresh_points (raster view) (raster_root view list))
    (subst (λ s. Counted (frame_points view None list) s) (laws.redrawn.fresh_spans (raster view) (raster_root view list)) h)

pub on_ok : {T E : Type 0} (r : Result T E) (P : Type 0) → P → OnOk r P
on_ok (Ok x) P p = p
on_ok (Err e) P p = tt
