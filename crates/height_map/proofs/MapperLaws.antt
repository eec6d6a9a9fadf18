-- What a mapper does at a box, from what it does at its children.
use Rattle.std.proofs.Common.{◌≡◌, ℕ, zero, suc, ◌+◌, ◌-◌, ◌*◌, ◌<◌, ◌≤◌, ◌&&◌, Bool, true, false, cond, List, [], ◌∷◌, drop, length, get_or, reverse, take, refl, sym, ap, subst, ◌∙◌, ◌⊎◌, inl, inr, arith}
use Rattle.std.specs.Prelude.{Option, Some, None, Result, Ok, Err, OnErr, OnOk}
use Rattle.std.specs.List.{All, filter}
use Rattle.std.proofs.Math.Seq.{take-suc}
use Rattle.std.proofs.lemmas.List.{get_or-map, get_or-reverse, get_or_default, length-reverse, take_all}
use Rattle.std.proofs.lemmas.List.Elements.{All-cons, All-filter, All-get_or, All-nil, All-weaker, filter_passes}
use Rattle.std.proofs.lemmas.List.Sums.{length-filter}
use Rattle.std.proofs.lemmas.Option.{get_or_from_slice_get, slice_get_within}
use Rattle.box_chains.proofs.Theorems.{laws}
use Rattle.box_chains.specs.Chains.{Descent, Visit, decision, handed_on, is_long, visit}
use Rattle.box_chains.specs.Counts.{halves_spans, spans_in}
use Rattle.box_chains.specs.Desks.{Tracing, list_of}
use Rattle.box_chains.specs.Opened.{outcome_spans, sampling}
use Rattle.box_chains.specs.Outcomes.{outcome_by, outcome_of, outcomes_of}
use Rattle.box_chains.specs.Parts.{IsPart}
use Rattle.box_chains.specs.Sums.{sum_in}
use Rattle.box_chains.specs.Tallied.{CountsAtMost}
use Rattle.box_chains.specs.Tested.{halves_points_where, points_where, spans_where}
use Rattle.box_chains.specs.Visits.{IsVisit}
use Rattle.box_chains.specs.declared.outcome.Outcome.{Outcome}
use Rattle.box_chains.specs.declared.outcome.Outcome.TheVariants.{Open}
use Rattle.box_descent.specs.Founds.{IsFound}
use Rattle.box_descent.specs.Looked.{looked}
use Rattle.box_descent.specs.declared.found.Found.{Found}
use Rattle.box_descent.specs.declared.found.Found.TheVariants.{Outside, Untraced}
use Rattle.box_descent.proofs.Groups.{runs-keep, runs-last}
use Rattle.box_descent.specs.Plans.{first_group, goes_on, goes_on_by, is_traced, second_group}
use Rattle.box_descent.specs.Runs.{Below, Group, Runs, Stops, StopsBelow}
use Rattle.box_descent.specs.VisitorLaws.{IsSplit, VisitsAreLawful}
use Rattle.fixed_ops.specs.Counts.{Counts, RisesBy, points_of}
use Rattle.interval_ops.specs.HullCounts.{CountsHulls}
use Rattle.live_clauses.specs.Steps.{IsTape}
use Rattle.live_clauses.specs.declared.step.Step.{Step}
use Rattle.view_places.specs.Boxes.{Indices, IsBox, halves_of, one_sample}
use Rattle.view_places.specs.Spans.{IsInRoot, root_box_of}
use Rattle.view_places.specs.Window.{IsWindow, Window}
use Rattle.view_places.specs.declared.lattice.Lattice.TheVariants.{Height}
use Rattle.height_map.specs.Beside.{LieBeside, beside_points, beside_top, beside_traced, farther, nearer}
use Rattle.height_map.specs.Bound.{CountsPoints, CountsSpans, layered}
use Rattle.height_map.specs.Columns.{Changes, IsAmong, covers, has_open, is_open, leaf_cost, leaf_top}
use Rattle.height_map.specs.Mappers.{CanMap, Draws, DrawsSome, map_plan, mapping, told_of}
use Rattle.height_map.specs.Opened.{outcome_points, outcome_top, outcome_traced}
use Rattle.height_map.specs.declared.drawing.Mapper.{Mapper}
use Rattle.height_map.proofs.Beside.{farther-beside, nearer-beside}
use Rattle.height_map.proofs.Drawn.{columns-there, farther-drawn, farther-parts, halves-drawn, leaf-counted, nearer-drawn, nearer-parts}
use Rattle.height_map.proofs.Evaluated.{points-are, points-halves, points-leaf, points-none}
use Rattle.height_map.proofs.Groups.{filter-reverse, first-nearer, second-farther}
use Rattle.height_map.proofs.Opens.{kept-beside, rest-beside}
use Rattle.height_map.proofs.Steps.{AreGroups, IsNext, IsOver, begun-bounded, begun-points, begun-top, begun-traced, groups-bounded, groups-points, groups-traced, kept-bounded, kept-drawn, kept-points, kept-traced, nearer-bounded, next-bounded, next-is, next-points, next-top, next-traced, rest-bounded, told-some, traces-bounded}
use Rattle.height_map.proofs.Traced.{spans-are, spans-none, traced-halves, traced-leaf}

-- a box of the map, which is given a list
pub record IsSpot (view : Window) (list : List Step) (len : ℕ) (b : Indices) : Type 0 where
  pub visit_is : IsVisit (layered view) (visit b list)
  pub among : IsAmong view.w len b

abbrev told : Window → List Step → Indices → Outcome (List Step)
told view list b = outcome_of (sampling (layered view)) list b

-- what is drawn of a box, by what tracing tells of it
pub record DrawnBy (view : Window) (old new : List ℕ) (b : Indices) (o : Outcome (List Step)) (t u : Counts) : Type 0 where
  pub tops : Changes (covers view.w b) (outcome_top view b o) old new
  pub at_most : CountsAtMost (outcome_points view old b o) (outcome_spans (layered view) b o) t u
  pub points : CountsPoints (outcome_points view old b o) t u
  pub hulls : CountsSpans (outcome_traced view old b o) t u

drawn-by : (d : Descent) (a c : Mapper) (v : Visit) (t u : Counts) → d ≡ layered d.view → Draws d a c v t u → DrawnBy d.view a.tops.items c.tops.items v.box (told d.view v.list v.box) t u
drawn-by d a c v t u layers h =
    subst (λ (e : Descent). DrawnBy d.view a.tops.items c.tops.items v.box (outcome_of (sampling e) v.list v.box) t u) layers (record { tops = h.tops; at_most = h.at_most; points = h.points; hulls = h.hulls })

all-traced : (boxes : List Indices) → filter (is_traced map_plan) boxes ≡ boxes
all-traced [] = refl
all-traced (b ∷ bs) = ap (λ x. b ∷ x) (all-traced bs)

-- ---- boxes that lie beside each other, visited from the last on

-- those from a place on were drawn
pub record AreBegun (view : Window) (list : List Step) (boxes : List Indices) (old new : List ℕ) (i : ℕ) (t u : Counts) : Type 0 where
  pub tops : Changes (λ p. true) (beside_top view list (drop i boxes)) old new
  pub at_most : CountsAtMost (beside_points view list old (drop i boxes)) (i * length list + halves_spans (layered view) list (drop i boxes)) t u
  pub points : CountsPoints (beside_points view list old (drop i boxes)) t u
  pub hulls : CountsSpans (i * length list + beside_traced view list old (drop i boxes)) t u

-- what is so of them at first
pub record AreOpen (view : Window) (list : List Step) (boxes : List Indices) (old : List ℕ) : Type 0 where
  pub spots : All (IsSpot view list (length old)) boxes
  pub apart : LieBeside view.w boxes
  pub open' : All (λ b. has_open view.w old b ≡ true) boxes

traces-many : (list : List Step) (boxes : List Indices) (t u : Counts) → CountsHulls (length (filter (is_traced map_plan) (reverse boxes)) * length list) t u → CountsHulls (length boxes * length list) t u
traces-many list boxes t u h = subst (λ n. CountsHulls (n * length list) t u) (ap length (all-traced (reverse boxes)) ∙ length-reverse boxes) h

-- the next of them
next-box : (boxes : List Indices) (j i : ℕ) → j < length boxes → i + suc j ≡ length boxes → (i < length boxes) × (get_or (reverse boxes) j one_sample ≡ get_or boxes i (get_or (reverse boxes) j one_sample))
next-box boxes j i few is =
    let within : i < length boxes = omega (arith, is) in
    let at : length boxes - 1 - j ≡ i = omega (arith, is) in
    (within, get_or-reverse boxes j one_sample few ∙ ap (λ k. get_or boxes k one_sample) at ∙ get_or_default boxes i one_sample (get_or (reverse boxes) j one_sample) within)

begun : (d : Descent) (list : List Step) (boxes : List Indices) (a : Mapper) (t : Counts) → d ≡ layered d.view → AreOpen d.view list boxes a.tops.items
    → (j i : ℕ) (c : Mapper) (u : Counts) → i + j ≡ length boxes → Group mapping d list (reverse boxes) a c (take j (reverse boxes)) t u → AreBegun d.view list boxes a.tops.items c.tops.items i t u
begun d list boxes a t layers are zero i c u all h =
    let view = d.view in
    let hulls = subst (λ (k : Counts). CountsHulls (length boxes * length list) t k) h.runs.1 (traces-many list boxes t h.tally h.traced) in
    let many : i ≡ length boxes = omega (arith, all) in
    subst (λ (s : Mapper). AreBegun view list boxes a.tops.items s.tops.items i t u) h.runs.0 (record {
      tops = begun-top view list boxes a.tops.items i many;
      at_most = begun-bounded laws view list boxes a.tops.items i t u many hulls;
      points = begun-points view list boxes a.tops.items i (length boxes * length list) t u many hulls;
      hulls = begun-traced view list boxes a.tops.items i t u many hulls;
    })
begun d list boxes a t layers are (suc j) i c u all h =
    let view = d.view in
    let old = a.tops.items in
    let few : j < length boxes = omega (arith, all) in
    let b = get_or (reverse boxes) j one_sample in
    let there = next-box boxes j i few all in
    let split = runs-last mapping d list a c (take j (reverse boxes)) b h.tally u
    (subst (λ bs. Runs mapping d list a c bs h.tally u) (take-suc (reverse boxes) j one_sample (omega (arith, few, length-reverse boxes))) h.runs) in
    let mid = split.mid.tops.items in
    let rest = begun d list boxes a t layers are j (suc i) split.mid split.tally (omega (arith, all)) (record { tally = h.tally; traced = h.traced; runs = split.first }) in
    let spot = subst (IsSpot view list (length old)) (sym there.1) (All-get_or (IsSpot view list (length old)) boxes i b there.0 are.spots) in
    let o = told view list b in
    let outcome = sym (get_or-map (outcome_of (sampling (layered view)) list) boxes i b o there.0 ∙ ap (outcome_of (sampling (layered view)) list) (sym there.1)) in
    let next : IsNext view list boxes old mid i b o = next-is view list boxes (outcomes_of (sampling (layered view)) list boxes) old mid (suc i) i b o refl there.0 there.1 outcome refl are.apart spot.visit_is spot.among rest.tops in
    let some = told-some laws view list b view.w old refl spot.visit_is.box (subst (λ x. has_open view.w old x ≡ true) (sym there.1) (All-get_or (λ x. has_open view.w old x ≡ true) boxes i b there.0 are.open')) in
    let drawn = drawn-by d split.mid c (visit b list) split.tally u layers split.last in
    record {
      tops = next-top laws view list boxes old mid c.tops.items (suc i) i view.w b o refl refl next rest.tops drawn.tops;
      at_most = next-bounded laws view list boxes old mid (suc i) i b o t split.tally u refl next rest.at_most drawn.at_most;
      points = next-points laws view list boxes old mid (suc i) i b o t split.tally u refl next rest.points drawn.points;
      hulls = next-traced laws view list boxes old mid (suc i) i b o t split.tally u refl next some rest.hulls drawn.hulls;
    }

-- ---- those of some boxes that have an open column

-- boxes of the map that lie beside each other
pub record AreBeside (view : Window) (list : List Step) (boxes : List Indices) (old : List ℕ) : Type 0 where
  pub spots : All (IsSpot view list (length old)) boxes
  pub apart : LieBeside view.w boxes

pub record AreDone (view : Window) (list : List Step) (boxes : List Indices) (old new : List ℕ) (t u : Counts) : Type 0 where
  pub tops : Changes (λ p. true) (beside_top view list boxes) old new
  pub at_most : CountsAtMost (beside_points view list old boxes) (halves_spans (layered view) list boxes) t u
  pub points : CountsPoints (beside_points view list old boxes) t u
  pub hulls : CountsSpans (beside_traced view list old boxes) t u

are-open : (view : Window) (list : List Step) (boxes : List Indices) (old : List ℕ) → AreBeside view list boxes old → AreOpen view list (filter (has_open view.w old) boxes) old
are-open view list boxes old are = record {
  spots = All-filter (has_open view.w old) (IsSpot view list (length old)) boxes are.spots;
  apart = kept-beside view.w (has_open view.w old) boxes are.apart;
  open' = filter_passes (has_open view.w old) boxes;
}

are-over : (view : Window) (list : List Step) (boxes : List Indices) (old : List ℕ) → AreBeside view list boxes old → All (IsOver view view.w old) boxes
are-over view list boxes old are =
    All-weaker (IsSpot view list (length old)) (IsOver view view.w old) (λ b spot. record { width = refl; box = spot.visit_is.box; among = spot.among }) boxes are.spots

are-boxes : (view : Window) (list : List Step) (boxes : List Indices) (old : List ℕ) → AreOpen view list boxes old → All IsBox boxes
are-boxes view list boxes old are = All-weaker (IsSpot view list (length old)) IsBox (λ b spot. spot.visit_is.box) boxes are.spots

pub group-done : (d : Descent) (list : List Step) (boxes : List Indices) (a c : Mapper) (t u : Counts) → d ≡ layered d.view → AreBeside d.view list boxes a.tops.items
    → Group mapping d list (filter (has_open d.view.w a.tops.items) (reverse boxes)) a c (filter (has_open d.view.w a.tops.items) (reverse boxes)) t u → AreDone d.view list boxes a.tops.items c.tops.items t u
group-done d list boxes a c t u layers are h =
    let view = d.view in
    let old = a.tops.items in
    let kept = filter (has_open view.w old) boxes in
    let open' = are-open view list boxes old are in
    let over = are-over view list boxes old are in
    let whole : take (length kept) (reverse kept) ≡ reverse kept = take_all (length kept) (reverse kept) (omega (arith, length-reverse kept)) in
    let turned = subst (λ bs. Group mapping d list bs a c bs t u) (filter-reverse (has_open view.w old) boxes) h in
    let all = begun d list kept a t layers open' (length kept) 0 c u (omega arith) (subst (λ bs. Group mapping d list (reverse kept) a c bs t u) (sym whole) turned) in
    record {
      tops = kept-drawn view list view.w old c.tops.items boxes kept over are.apart refl all.tops;
      at_most = kept-bounded laws view list view.w old boxes kept t u over refl (rest-bounded laws view list kept old 0 t u (are-boxes view list kept old open') (omega arith) all.at_most);
      points = subst (λ n. CountsPoints n t u) (kept-points laws view list view.w old boxes kept over refl) all.points;
      hulls = spans-are t u (0 * length list + beside_traced view list old kept) (beside_traced view list old boxes) (omega (arith, kept-traced laws view list view.w old boxes kept over refl)) all.hulls;
    }

pub group-stops : (d : Descent) (list : List Step) (boxes : List Indices) (a c : Mapper) (t u : Counts) → d ≡ layered d.view → AreBeside d.view list boxes a.tops.items
    → Stops mapping d list (filter (has_open d.view.w a.tops.items) (reverse boxes)) a c t u → CountsAtMost (beside_points d.view list a.tops.items boxes) (halves_spans (layered d.view) list boxes) t u
group-stops d list boxes a c t u layers are h =
    kept-bounded laws view list view.w old boxes kept t u over refl (by (subst (λ bs. Stops mapping d list bs a c t u) (filter-reverse (has_open view.w old) boxes) h))
  where
    view : Window
    view = d.view

    old : List ℕ
    old = a.tops.items

    kept : List Indices
    kept = filter (has_open view.w old) boxes

    open' : AreOpen view list kept old
    open' = are-open view list boxes old are

    over : All (IsOver view view.w old) boxes
    over = are-over view list boxes old are

    by : Stops mapping d list (reverse kept) a c t u → CountsAtMost (beside_points view list old kept) (halves_spans (layered view) list kept) t u
    by (inl none) =
        traces-bounded laws view list kept old t u (are-boxes view list kept old open')
        (subst (λ n. CountsAtMost 0 (n * length list) t u) (ap length (all-traced (reverse kept)) ∙ length-reverse kept) none.1)
    by (inr left) =
        let few : left.place < length kept = omega (arith, slice_get_within (reverse kept) left.place left.box left.there, length-reverse kept) in
        let i = length kept - suc left.place in
        let b : Indices = left.box in
        let is : get_or (reverse kept) left.place one_sample ≡ b = get_or_from_slice_get (reverse kept) left.place b one_sample left.there in
        let there = subst (λ x. (i < length kept) × (x ≡ get_or kept i x)) is (next-box kept left.place i few (omega (arith, few))) in
        let mid = left.mid.tops.items in
        let rest = begun d list kept a t layers open' left.place (suc i) left.mid left.tally (omega (arith, few)) left.before in
        let spot = subst (IsSpot view list (length old)) (sym there.1) (All-get_or (IsSpot view list (length old)) kept i b there.0 open'.spots) in
        let o = told view list b in
        let outcome = sym (get_or-map (outcome_of (sampling (layered view)) list) kept i b o there.0 ∙ ap (outcome_of (sampling (layered view)) list) (sym there.1)) in
        let next : IsNext view list kept old mid i b o = next-is view list kept (outcomes_of (sampling (layered view)) list kept) old mid (suc i) i b o refl there.0 there.1 outcome refl open'.apart spot.visit_is spot.among rest.tops in
        rest-bounded laws view list kept old i t u (are-boxes view list kept old open') (omega (arith, there.0))
        (next-bounded laws view list kept old mid (suc i) i b o t left.tally u refl next rest.at_most
        (subst (λ (e : Descent). CountsAtMost (outcome_points view mid b (outcome_of (sampling e) list b)) (outcome_spans (layered view) b (outcome_of (sampling e) list b)) left.tally u) layers left.left))

-- ---- a box that is split

pub record IsOpenBox (d : Descent) (v : Visit) : Type 0 where
  pub none : decision d v ≡ None
  pub long : is_long 8 v.box ≡ true

goes-open : (d : Descent) (v : Visit) → d.leaf ≡ 8 → goes_on map_plan d v ≡ true → IsOpenBox d v
goes-open d v leaf goes = by (decision d v) (is_long d.leaf v.box) refl refl goes
  where
    no : {A : Type 0} → false ≡ true → A
    no same = absurd (omega (arith, ap {B = ℕ} (λ (t : Bool). cond t 1 0) same))

    by : (t : Option Bool) (l : Bool) → decision d v ≡ t → is_long d.leaf v.box ≡ l → (l && goes_on_by false t) ≡ true → IsOpenBox d v
    by None true e f g = record { none = e; long = ap (λ n. is_long n v.box) (sym leaf) ∙ f }
    by None false e f g = no g
    by (Some true) true e f g = no g
    by (Some true) false e f g = no g
    by (Some false) true e f g = no g
    by (Some false) false e f g = no g

-- its two groups of children
record AreChildren (d : Descent) (a : Mapper) (v : Visit) : Type 0 where
  pub among : IsAmong d.view.w (length a.tops.items) v.box
  pub near : AreBeside d.view (handed_on d v) (nearer 8 v.box) a.tops.items
  pub far : (len : ℕ) → len ≡ length a.tops.items → All (IsSpot d.view (handed_on d v) len) (farther 8 v.box)

children-are : (d : Descent) (a : Mapper) (v : Visit) → CanMap d a → IsVisit d v → AreChildren d a v
children-are d a v can is = record {
  among = columns-there d.view v.box d.view.w (length a.tops.items) is.window (within v.box is) refl can.tops;
  near = record { spots = All-weaker (IsPart 8 v.box) (IsSpot d.view (handed_on d v) (length a.tops.items)) (λ h part. spot (length a.tops.items) refl h part) (nearer 8 v.box) (nearer-parts laws v.box is.box); apart = nearer-beside d.view.w 8 v.box };
  far = λ len same. All-weaker (IsPart 8 v.box) (IsSpot d.view (handed_on d v) len) (λ h part. spot len same h part) (farther 8 v.box) (farther-parts laws v.box is.box);
}
  where
    within : (b : Indices) → IsVisit d v → IsInRoot d.view Height v.box
    within b is = subst (λ (e : Descent). IsInRoot d.view e.lattice v.box) can.layers is.within

    spot : (len : ℕ) → len ≡ length a.tops.items → (h : Indices) → IsPart 8 v.box h → IsSpot d.view (handed_on d v) len h
    spot len same h part =
        let root = within v.box is in
        let inside : IsInRoot d.view Height h = record { x = omega (arith, part.x.below, root.x); y = omega (arith, part.y.below, root.y); z = omega (arith, part.z.below, root.z) } in
        record {
          visit_is = record { window = is.window; box = laws.parts.box 8 v.box h part; within = inside; tape = (laws.visits.handed d v is).0 };
          among = columns-there d.view h d.view.w len is.window inside refl (same ∙ can.tops);
        }

kept-can : (d : Descent) (a c : Mapper) (v : Visit) (t u : Counts) → CanMap d a → Draws d a c v t u → CanMap d c
kept-can d a c v t u can h = record { layers = can.layers; tops = h.tops.same ∙ can.tops }

told-open : (d : Descent) (v : Visit) → decision d v ≡ None → told_of d v ≡ Open (handed_on d v)
told-open d v none = ap (λ t. outcome_by t (handed_on d v)) none

bounded-halves : (view : Window) (list : List Step) (b : Indices) (tops : List ℕ) (t u : Counts) → is_long 8 b ≡ true
    → CountsAtMost (halves_points_where (is_open view list b tops) (layered view) list (halves_of 8 b)) (halves_spans (layered view) list (halves_of 8 b)) t u
    → CountsAtMost (outcome_points view tops b (Open list)) (outcome_spans (layered view) b (Open list)) t u
bounded-halves view list b tops t u long h = rw long h

-- a group of children that is visited
near-done : (d : Descent) (a c : Mapper) (v : Visit) (t u : Counts) → CanMap d a → IsVisit d v
    → Group mapping d (handed_on d v) (filter (has_open d.view.w a.tops.items) (first_group map_plan v.box)) a c (filter (has_open d.view.w a.tops.items) (first_group map_plan v.box)) t u
    → AreDone d.view (handed_on d v) (nearer 8 v.box) a.tops.items c.tops.items t u
near-done d a c v t u can is h =
    group-done d (handed_on d v) (nearer 8 v.box) a c t u can.layers (children-are d a v can is).near
    (subst (λ bs. Group mapping d (handed_on d v) (filter (has_open d.view.w a.tops.items) bs) a c (filter (has_open d.view.w a.tops.items) bs) t u) (first-nearer v.box) h)

far-beside : (d : Descent) (a mid : Mapper) (v : Visit) → CanMap d a → IsVisit d v → length mid.tops.items ≡ length a.tops.items → AreBeside d.view (handed_on d v) (farther 8 v.box) mid.tops.items
far-beside d a mid v can is same = record { spots = (children-are d a v can is).far (length mid.tops.items) same; apart = farther-beside d.view.w 8 v.box }

groups-of : (d : Descent) (a mid : Mapper) (v : Visit) → CanMap d a → IsVisit d v → Changes (λ p. true) (beside_top d.view (handed_on d v) (nearer 8 v.box)) a.tops.items mid.tops.items
    → AreGroups d.view (handed_on d v) v.box a.tops.items mid.tops.items
groups-of d a mid v can is first = record {
  among = (children-are d a v can is).among;
  near = nearer-drawn laws d.view (handed_on d v) v.box a.tops.items is.box;
  far = farther-drawn laws d.view (handed_on d v) v.box a.tops.items mid.tops.items is.box first;
}

map-closes : (d : Descent) (a last : Mapper) (v : Visit) (t u : Counts) → IsSplit mapping d a v → Below mapping d v a last t u → Draws d a last v t u
map-closes d a last v t u split h =
    let view = d.view in
    let b = v.box in
    let live = handed_on d v in
    let can = split.fits.can in
    let is = split.visit_is in
    let mid = h.mid in
    let open' = goes-open d v split.leaf split.long in
    let near = near-done d a mid v t h.tally can is h.first in
    let far = group-done d live (farther 8 b) mid last h.tally u can.layers (far-beside d a mid v can is near.tops.same)
    (subst (λ bs. Group mapping d live (filter (has_open view.w mid.tops.items) bs) mid last (filter (has_open view.w mid.tops.items) bs) h.tally u) (second-farther b) h.second) in
    let are = groups-of d a mid v can is near.tops in
    let by : DrawnBy view a.tops.items last.tops.items b (Open live) t u = record {
      tops = halves-drawn view live b a.tops.items mid.tops.items last.tops.items is.box near.tops far.tops;
      at_most = bounded-halves view live b a.tops.items t u open'.long (groups-bounded laws view live b a.tops.items mid.tops.items t h.tally u are near.at_most far.at_most);
      points = points-halves view live b a.tops.items t u open'.long (groups-points laws view live b a.tops.items mid.tops.items t h.tally u are near.points far.points);
      hulls = traced-halves view live b a.tops.items t u open'.long (groups-traced laws view live b a.tops.items mid.tops.items t h.tally u are near.hulls far.hulls);
    } in
    let told-by = subst (λ o. DrawnBy view a.tops.items last.tops.items b o t u) (sym (told-open d v open'.none)) by in
    record { tops = told-by.tops; at_most = told-by.at_most; points = told-by.points; hulls = told-by.hulls }

map-stops : (d : Descent) (a last : Mapper) (v : Visit) (t u : Counts) → IsSplit mapping d a v → StopsBelow mapping d v a last t u → DrawsSome d a last v t u
map-stops d a last v t u split h =
    subst (λ o. CountsAtMost (outcome_points d.view a.tops.items v.box o) (outcome_spans (layered d.view) v.box o) t u) (sym (told-open d v open'.none))
    (bounded-halves d.view (handed_on d v) v.box a.tops.items t u open'.long (by h))
  where
    view : Window
    view = d.view

    b : Indices
    b = v.box

    live : List Step
    live = handed_on d v

    can : CanMap d a
    can = split.fits.can

    is : IsVisit d v
    is = split.visit_is

    open' : IsOpenBox d v
    open' = goes-open d v split.leaf split.long

    by : StopsBelow mapping d v a last t u → CountsAtMost (halves_points_where (is_open view live b a.tops.items) (layered view) live (halves_of 8 b)) (halves_spans (layered view) live (halves_of 8 b)) t u
    by (inl first) =
        nearer-bounded laws view live b a.tops.items t u (children-are d a v can is).among (nearer-drawn laws view live b a.tops.items is.box)
        (group-stops d live (nearer 8 b) a last t u can.layers (children-are d a v can is).near
        (subst (λ bs. Stops mapping d live (filter (has_open view.w a.tops.items) bs) a last t u) (first-nearer b) first))
    by (inr later) =
        let mid = later.mid in
        let near = near-done d a mid v t later.tally can is later.first in
        groups-bounded laws view live b a.tops.items mid.tops.items t later.tally u (groups-of d a mid v can is near.tops) near.at_most
        (group-stops d live (farther 8 b) mid last later.tally u can.layers (far-beside d a mid v can is near.tops.same)
        (subst (λ bs. Stops mapping d live (filter (has_open view.w mid.tops.items) bs) mid last later.tally u) (second-farther b) later.second))

-- boxes that lie beside each other do so from the last on
reverse-beside : (w : ℕ) (boxes : List Indices) → LieBeside w boxes → LieBeside w (reverse boxes)
reverse-beside w boxes apart p =
    let test : Indices → Bool = λ b. covers w b p in
    omega (arith, apart p, length-filter test boxes, length-filter test (reverse boxes), ap length (filter-reverse test boxes), length-reverse (filter test boxes))

pub maps_are_lawful : VisitsAreLawful mapping
maps_are_lawful = record {
  some = omega arith;
  small = omega arith;
  ready = λ d s list bs fits. fits.can;
  next = λ d a c list b bs t u fits done. record { can = kept-can d a c (visit b list) t u fits.can done; beside = rest-beside d.view.w b bs fits.beside };
  begins = λ d a mid v mark split same. record {
    can = subst (CanMap d) (sym same) split.fits.can;
    beside = kept-beside d.view.w (has_open d.view.w mid.tops.items) (first_group map_plan v.box)
        (subst (LieBeside d.view.w) (sym (first-nearer v.box)) (reverse-beside d.view.w (nearer 8 v.box) (nearer-beside d.view.w 8 v.box)));
  };
  resumes = λ d a mid c v mark t u split same done. record {
    can = runs-keep mapping d (handed_on d v) (CanMap d) (λ s z b k l can one. kept-can d s z (visit b (handed_on d v)) k l can one) mid c _ done.tally u (subst (CanMap d) (sym same) split.fits.can) done.runs;
    beside = kept-beside d.view.w (has_open d.view.w c.tops.items) (second_group map_plan v.box)
        (subst (LieBeside d.view.w) (sym (second-farther v.box)) (reverse-beside d.view.w (farther 8 v.box) (farther-beside d.view.w 8 v.box)));
  };
  closes = λ d a mid last c v mark t u split same h end.
      subst (λ (s : Mapper). Draws d a s v t u) (sym end) (map-closes d a last v t u split (subst (λ (s : Mapper). Below mapping d v s last t u) same h));
  stops = λ d a mid last v mark t u split same h. map-stops d a last v t u split (subst (λ (s : Mapper). StopsBelow mapping d v s last t u) same h);
}

-- ---- a box that is not split

pub draws-of : (d : Descent) (a c : Mapper) (v : Visit) (o : Outcome (List Step)) (t u : Counts) → told_of d v ≡ o → DrawnBy d.view a.tops.items c.tops.items v.box o t u → Draws d a c v t u
draws-of d a c v o t u is h =
    let by = subst (λ x. DrawnBy d.view a.tops.items c.tops.items v.box x t u) (sym is) h in
    record { tops = by.tops; at_most = by.at_most; points = by.points; hulls = by.hulls }

pub told-decided : (d : Descent) (v : Visit) (t : Option Bool) → decision d v ≡ t → told_of d v ≡ outcome_by t (handed_on d v)
told-decided d v t e = ap (λ x. outcome_by x (handed_on d v)) e

-- no work, of a box that is decided
pub decided-drawn : (view : Window) (old new : List ℕ) (b : Indices) (o : Outcome (List Step)) (t : Counts) → outcome_points view old b o ≡ 0 → outcome_traced view old b o ≡ 0
    → Changes (covers view.w b) (outcome_top view b o) old new → DrawnBy view old new b o t t
decided-drawn view old new b o t points hulls changed = record {
  tops = changed;
  at_most = laws.bounds.none t (outcome_points view old b o) (outcome_spans (layered view) b o);
  points = points-none t (outcome_points view old b o) points;
  hulls = spans-none t (outcome_traced view old b o) hulls;
}

pub leaf-drawn : (view : Window) (list : List Step) (old new : List ℕ) (b : Indices) (t u : Counts) → is_long 8 b ≡ false → Changes (covers view.w b) (leaf_top view list b) old new
    → RisesBy t u (points_of (sum_in b (leaf_cost view list b old))) → DrawnBy view old new b (Open list) t u
leaf-drawn view list old new b t u short changed h = record {
  tops = changed;
  at_most = leaf-counted laws view list b old t u short h;
  points = points-leaf view list b old t u short h;
  hulls = traced-leaf view list b old (sum_in b (leaf_cost view list b old)) t u short h;
}

-- a leaf has no tape for children
pub leaf-short : (l : Bool) (at : ℕ) → cond {A = Option ℕ} l (Some at) None ≡ None → l ≡ false
leaf-short true at same = absurd (omega (arith, ap (λ (o : Option ℕ). some-number o) same))
  where
    some-number : Option ℕ → ℕ
    some-number None = 0
    some-number (Some n) = 1
leaf-short false at same = refl

-- ---- the box of all samples

pub record RootDone (view : Window) (list : List Step) (b : Indices) (old new : List ℕ) (t u : Counts) : Type 0 where
  pub tops : Changes (covers view.w b) (leaf_top view list b) old new
  pub at_most : CountsAtMost (points_where (is_open view list b old) (layered view) (visit b list)) (spans_in (layered view) (visit b list)) t u
  pub points : CountsPoints (points_where (is_open view list b old) (layered view) (visit b list)) t u
  pub hulls : CountsSpans (spans_where (is_open view list b old) (layered view) (visit b list)) t u

one-beside : (view : Window) (list : List Step) (b : Indices) (old : List ℕ) → IsSpot view list (length old) b → AreBeside view list (b ∷ []) old
one-beside view list b old spot = record {
  spots = All-cons (IsSpot view list (length old)) b [] spot (All-nil (IsSpot view list (length old)));
  apart = λ p. by (covers view.w b p);
}
  where
    by : (t : Bool) → 0 + cond {A = ℕ} t 1 0 ≤ 1
    by true = omega arith
    by false = omega arith

one-bounded : (view : Window) (list : List Step) (b : Indices) (old : List ℕ) (t u : Counts) → CountsAtMost (beside_points view list old (b ∷ [])) (halves_spans (layered view) list (b ∷ [])) t u
    → CountsAtMost (points_where (is_open view list b old) (layered view) (visit b list)) (spans_in (layered view) (visit b list)) t u
one-bounded view list b old t u h =
    laws.bounds.more t u (beside_points view list old (b ∷ [])) (halves_spans (layered view) list (b ∷ [])) (points_where (is_open view list b old) (layered view) (visit b list)) (spans_in (layered view) (visit b list))
    (omega arith) (omega arith) h

pub root-done : (d : Descent) (list : List Step) (b : Indices) (a c : Mapper) (t u : Counts) → d ≡ layered d.view → IsSpot d.view list (length a.tops.items) b
    → Group mapping d list (filter (mapping.wanted d a) (b ∷ [])) a c (filter (mapping.wanted d a) (b ∷ [])) t u → RootDone d.view list b a.tops.items c.tops.items t u
root-done d list b a c t u layers spot h =
    let done = group-done d list (b ∷ []) a c t u layers (one-beside d.view list b a.tops.items spot) h in
    record {
      tops = record { same = done.tops.same; each = done.tops.each };
      at_most = one-bounded d.view list b a.tops.items t u done.at_most;
      points = points-are t u (beside_points d.view list a.tops.items (b ∷ [])) (points_where (is_open d.view list b a.tops.items) (layered d.view) (visit b list)) (omega arith) done.points;
      hulls = spans-are t u (beside_traced d.view list a.tops.items (b ∷ [])) (spans_where (is_open d.view list b a.tops.items) (layered d.view) (visit b list)) (omega arith) done.hulls;
    }

pub root-stops : (d : Descent) (list : List Step) (b : Indices) (a c : Mapper) (t u : Counts) → d ≡ layered d.view → IsSpot d.view list (length a.tops.items) b
    → Stops mapping d list (filter (mapping.wanted d a) (b ∷ [])) a c t u
    → CountsAtMost (points_where (is_open d.view list b a.tops.items) (layered d.view) (visit b list)) (spans_in (layered d.view) (visit b list)) t u
root-stops d list b a c t u layers spot h = one-bounded d.view list b a.tops.items t u (group-stops d list (b ∷ []) a c t u layers (one-beside d.view list b a.tops.items spot) h)

pub one-lies : (w : ℕ) (test : Indices → Bool) (b : Indices) → LieBeside w (filter test (b ∷ []))
one-lies w test b = kept-beside w test (b ∷ []) (λ p. by (covers w b p))
  where
    by : (t : Bool) → 0 + cond {A = ℕ} t 1 0 ≤ 1
    by true = omega arith
    by false = omega arith

-- what holds of an error holds of what follows from it
pub on_err-then : {T E : Type 0} (r : Result T E) (P Q : Type 0) → (P → Q) → OnErr r P → OnErr r Q
on_err-then (Ok x) P Q f p = tt
on_err-then (Err e) P Q f p = f p

-- an answer that both of two facts of a success give
pub on_ok-both : {T E : Type 0} (r : Result T E) (P Q R : Type 0) → (P → Q → R) → OnOk r P → OnOk r Q → OnOk r R
on_ok-both (Ok x) P Q R f p q = f p q
on_ok-both (Err e) P Q R f p q = tt

-- a box that was traced, and is neither inside nor ambiguous, is outside
pub found-outside : (desk : Tracing) (b : Indices) (given : ℕ) (f : Found) → (f ≡ Outside) ⊎ (f ≡ Untraced) → IsFound map_plan desk b given f → decision (looked map_plan desk) (visit b (list_of desk given)) ≡ Some false
found-outside desk b given f (inl is) right = subst (IsFound map_plan desk b given) is right
found-outside desk b given f (inr is) right = absurd (omega (arith, ap {B = ℕ} (λ (t : Bool). cond t 1 0) (subst (IsFound map_plan desk b given) is right)))

-- a map that was begun
pub record IsStart (view : Window) (list : List Step) (desk : Tracing) (s : Mapper) (b : Indices) : Type 0 where
  pub layers : looked map_plan desk ≡ layered desk.view
  pub can : CanMap (looked map_plan desk) s
  pub spot : IsSpot desk.view (list_of desk 0) (length s.tops.items) b

pub start-is : (view : Window) (list : List Step) (desk : Tracing) (s : Mapper) (b : Indices) → desk ≡ record { view = view; lattice = Height; room = length list; lists = list ∷ [] }
    → b ≡ root_box_of desk.view desk.lattice → IsWindow view → IsTape list → length s.tops.items ≡ view.h * view.w → IsStart view list desk s b
start-is view list desk s b made root window tape many =
    let layers = ap (λ l. record { view = desk.view; lattice = l; leaf = 8 }) (ap (λ (d : Tracing). d.lattice) made) in
    let tops = many ∙ ap (λ (d : Tracing). d.view.h * d.view.w) (sym made) in
    let is = root ∙ ap (λ (d : Tracing). root_box_of d.view d.lattice) made in
    let visit_is : IsVisit (layered view) (visit (root_box_of view Height) list) = record {
      window = window;
      box = record { x = window.w.some; y = window.h.some; z = window.d.some };
      within = record { x = omega arith; y = omega arith; z = omega arith };
      tape = tape;
    } in
    record {
      layers = layers;
      can = record { layers = layers; tops = tops };
      spot = subst (λ (d : Tracing). IsSpot d.view (list_of d 0) (length s.tops.items) b) (sym made)
          (subst (IsSpot view list (length s.tops.items)) (sym is) (record { visit_is = visit_is; among = columns-there view (root_box_of view Height) view.w (length s.tops.items) window visit_is.within refl many }));
    }

-- what is done of its box of all samples, over the view and the list that it is made of
pub at-start : (P : Window → List Step → Indices → Type 0) (view : Window) (list : List Step) (desk : Tracing) (b : Indices) → desk ≡ record { view = view; lattice = Height; room = length list; lists = list ∷ [] }
    → P desk.view (list_of desk 0) b → P view list b
at-start P view list desk b made h = subst (λ (d : Tracing). P d.view (list_of d 0) b) made h
