-- The tops of a height map are those of the solid, and its work is bounded.
use Rattle.std.proofs.Common.{◌≡◌, ℕ, zero, suc, ◌+◌, ◌-◌, ◌*◌, ◌≤◌, Bool, true, false, List, length, map, if◌then◌else◌, sym, ap, subst, ◌∙◌, arith, mul-le-mul_left, zero-add}
use Rattle.std.specs.Prelude.{All, Err, IfOk, Ok, OnOk, Result}
use Rattle.std.specs.List.{flat_map, range_with_len}
use Rattle.std.proofs.lemmas.List.{length-append}
use Rattle.std.proofs.lemmas.List.Concat.{flat_map-cons}
use Rattle.std.proofs.lemmas.List.Elements.{All-append, All-cons, All-nil}
use Rattle.std.proofs.lemmas.List.FromFn.{length-map-range_with_len}
use Rattle.box_chains.specs.Tallied.{CountsAtMost, work_of}
use Rattle.fixed_ops.specs.Counts.{Counts, risen}
use Rattle.fixed_ops.specs.Points.{Point}
use Rattle.fixed_ops.specs.Raw.{is_inside}
use Rattle.height_map.specs.Bound.{CountsPoints, CountsSpans, height_points, height_spans, near_spans}
use Rattle.height_map.specs.Laws.{HeightPointsAreBounded}
use Rattle.height_map.specs.TopMaps.{Heights}
use Rattle.height_map.specs.Tops.{tops_of as drawn_tops}
use Rattle.box_chains.specs.Sums.{maximum}
use Rattle.live_clauses.specs.Live.{root_of}
use Rattle.live_clauses.specs.Steps.{IsTape, tape_value}
use Rattle.live_clauses.specs.declared.step.Step.{Step}
use Rattle.raster_pgm.specs.Samples.{samples_of}
use Rattle.solid_model.specs.Values.{solid_value}
use Rattle.solid_model.specs.declared.clause.Clause.{Clause}
use Rattle.view_places.specs.Places.{point_of}
use Rattle.view_places.specs.Window.{IsWindow, Window}
use Rattle.view_places.specs.declared.lattice.Lattice.TheVariants.{Height}
use Rattle.model_frames.specs.Heights.{heights_of, plain_depths, top_at, tops_at, tops_of}
use Rattle.model_frames.specs.Work.{CountsWithin, CountsWork, PointsRiseAtMost, height_work}
use Rattle.model_frames.proofs.Frames.{plain-within, root-few}

-- a top is of the values of its column: where a list has the solid's value, its tops are the solid's
tops-same : (view : Window) (clauses : List Clause) (list : List Step) → ((p : Point) → tape_value p list ≡ solid_value p clauses)
    → drawn_tops view list ≡ tops_of view clauses
tops-same view clauses list same =
    let deep : view.d - 0 ≡ view.d = omega arith in
    λ k. flat_map (λ j. map (λ i. maximum (map
    (λ n. if is_inside (same (point_of view Height i j n) k) then n + 1 else 0)
    (range_with_len 0 (deep k)))) (range_with_len 0 view.w)) (range_with_len 0 view.h)

-- the map of some tops
abbrev map_with : Window → List ℕ → Heights
map_with view tops = record { w = view.w; h = view.h; d = view.d; tops = tops }

pub map-same : {E : Type 0} (r : Result Heights E) (view : Window) (clauses : List Clause) (list : List Step)
    → ((p : Point) → tape_value p list ≡ solid_value p clauses)
    → IfOk r (λ map. map ≡ record { w = view.w; h = view.h; d = view.d; tops = drawn_tops view list })
    → IfOk r (λ map. map ≡ record { w = view.w; h = view.h; d = view.d; tops = tops_of view clauses })
map-same r view clauses list same =
    subst (λ tops. IfOk r (λ map. map ≡ map_with view tops)) (tops-same view clauses list same)

-- there are as many tops as columns
pub tops-count : (view : Window) (clauses : List Clause) → length (tops_of view clauses) ≡ view.w * view.h
tops-count view clauses = rows 0 view.h
  where
    rows : (from n : ℕ) → length (flat_map (tops_at view clauses) (range_with_len from n)) ≡ view.w * n
    rows from zero = omega arith
    rows from (suc n) =
        let row = tops_at view clauses in
        let others = range_with_len (from + 1) n in
        let first = length-map-range_with_len (λ i. top_at view clauses i from) 0 view.w in
        let both = ap length (flat_map-cons row from others) ∙ length-append (row from) (flat_map row others) in
        let more : view.w * suc n ≡ view.w + view.w * n = grind arith in
        omega (arith, first, both, more, rows (from + 1) n)

-- no top lies above the samples
top-below : (inside : ℕ → Bool) (from n : ℕ)
    → maximum (map (λ k. if inside k then k + 1 else 0) (range_with_len from n)) ≤ from + n
top-below inside from zero = omega arith
top-below inside from (suc n) = omega (arith, item (inside from), top-below inside (from + 1) n)
  where
    item : (t : Bool) → (if t then from + 1 else 0) ≤ from + 1
    item true = omega arith
    item false = omega arith

pub tops-below : (view : Window) (clauses : List Clause) → All (λ top. top ≤ view.d) (tops_of view clauses)
tops-below view clauses = rows 0 view.h
  where
    Low : ℕ → Type 0
    Low top = top ≤ view.d

    top : (i j : ℕ) → top_at view clauses i j ≤ view.d
    top i j =
        subst (λ n. top_at view clauses i j ≤ n) (zero-add view.d)
        (top-below (λ k. is_inside (solid_value (point_of view Height i j k) clauses)) 0 view.d)

    row : (j from n : ℕ) → All Low (map (λ i. top_at view clauses i j) (range_with_len from n))
    row j from zero = All-nil Low
    row j from (suc n) =
        All-cons Low (top_at view clauses from j) (map (λ i. top_at view clauses i j) (range_with_len (from + 1) n))
        (top from j) (row j (from + 1) n)

    rows : (from n : ℕ) → All Low (flat_map (tops_at view clauses) (range_with_len from n))
    rows from zero = All-nil Low
    rows from (suc n) =
        let first = tops_at view clauses from in
        let others = range_with_len (from + 1) n in
        subst (All Low) (sym (flat_map-cons (tops_at view clauses) from others))
        (All-append Low first (flat_map (tops_at view clauses) others) (row from 0 view.w) (rows (from + 1) n))

-- what is counted of a list is counted of its root list
pub heights_within : (before after : Counts) (view : Window) (clauses : List Clause) (list : List Step) → list ≡ root_of clauses
    → CountsAtMost (height_points view list) (height_spans view list) before after
    → CountsWithin before after (height_work view clauses)
unfolding CountsWithin
heights_within before after view clauses list is h =
    let root = subst (λ l. CountsAtMost (height_points view l) (height_spans view l) before after) is h in
    record { by = root.by; within = root.few; rises = root.rises }

-- counts are those of which each is
pub counts-same : (counts : Counts) (points spans corners : ℕ) → counts.points ≡ points → counts.spans ≡ spans → counts.corners ≡ corners
    → counts ≡ work_of points spans corners
counts-same counts points spans corners p s c = λ k. record { points = p k; spans = s k; corners = c k }

-- a map that is made has taken exactly its evaluations and its traced steps
heights-done : (before after : Counts) (view : Window) (clauses : List Clause)
    → CountsAtMost (height_points view (root_of clauses)) (height_spans view (root_of clauses)) before after
    → CountsPoints (height_points view (root_of clauses)) before after → CountsSpans (near_spans view (root_of clauses)) before after
    → CountsWork before after (height_work view clauses)
unfolding CountsWork
heights-done before after view clauses h points spans =
    let p = height_points view (root_of clauses) in
    let s = near_spans view (root_of clauses) in
    record {
      by = work_of p s h.by.corners;
      enough = record { points = omega arith; spans = omega arith; corners = omega arith };
      within = record { points = omega arith; spans = omega arith; corners = h.few.corners };
      rises = counts-same after (risen before.points p) (risen before.spans s) (risen before.corners h.by.corners) points spans (ap (λ c. c.corners) h.rises);
    }

pub heights_counted : {T E : Type 0} (r : Result T E) (before after : Counts) (view : Window) (clauses : List Clause) (list : List Step) → list ≡ root_of clauses
    → CountsAtMost (height_points view list) (height_spans view list) before after → OnOk r (CountsPoints (height_points view list) before after)
    → OnOk r (CountsSpans (near_spans view list) before after) → OnOk r (CountsWork before after (height_work view clauses))
heights_counted (Err e) before after view clauses list is h points spans = tt
heights_counted (Ok x) before after view clauses list is h points spans =
    heights-done before after view clauses
    (subst (λ l. CountsAtMost (height_points view l) (height_spans view l) before after) is h)
    (subst (λ l. CountsPoints (height_points view l) before after) is points)
    (subst (λ l. CountsSpans (near_spans view l) before after) is spans)

-- a height map takes no more evaluations than evaluating each clause at each sample
pub heights_plain : (before after : Counts) (view : Window) (clauses : List Clause) (list : List Step) → list ≡ root_of clauses
    → IsWindow view → IsTape list → HeightPointsAreBounded → CountsWithin before after (height_work view clauses)
    → PointsRiseAtMost before after (plain_depths view (length clauses))
heights_plain before after view clauses list is window tape points h =
    let few = points view (root_of clauses) window (subst IsTape is tape) in
    plain-within before after (height_work view clauses) (plain_depths view (length clauses))
    (omega (arith, few, mul-le-mul_left (view.w * view.h * view.d) (root-few clauses))) h

-- the bytes of a map of the solid's tops are those of the solid's height map
pub bytes-same : {T E : Type 0} (r : Result T E) (items : T → List ℕ) (view : Window) (clauses : List Clause) (map : Heights)
    (tops : List ℕ) → map ≡ record { w = view.w; h = view.h; d = view.d; tops = tops_of view clauses } → tops ≡ map.tops
    → IfOk r (λ text. items text ≡ samples_of map.w map.h map.d tops) → IfOk r (λ text. items text ≡ heights_of view clauses)
unfolding heights_of
bytes-same r items view clauses map tops is same put =
    subst (λ m. IfOk r (λ text. items text ≡ samples_of m.w m.h m.d m.tops)) is
    (subst (λ t. IfOk r (λ text. items text ≡ samples_of map.w map.h map.d t)) same put)
