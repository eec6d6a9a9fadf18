-- The evaluations of a map are exactly those of the samples that do not lie behind a top.
use Rattle.std.proofs.Common.{◌≡◌, ℕ, zero, suc, ◌+◌, ◌*◌, ◌<◌, Bool, true, false, cond, List, length, get_or, replicate, refl, sym, ap, subst, ◌∙◌, arith}
use Rattle.std.specs.Prelude.{Option, Some, None, nat_le, ◌==◌, ◌&&◌}
use Rattle.std.proofs.lemmas.Bool.{ne_eqb}
use Rattle.box_chains.specs.Chains.{Descent, Visit, decision, handed_on, is_long, visit}
use Rattle.box_chains.specs.Counts.{end_cost}
use Rattle.box_chains.specs.Sums.{LiesIn, Sample, sum_in}
use Rattle.box_chains.specs.Visits.{IsVisit}
use Rattle.box_chains.specs.Laws.{Lawful}
use Rattle.fixed_ops.specs.Counts.{Counts, RisesBy, points_of, risen}
use Rattle.interval_ops.specs.HullCounts.{CountsHulls}
use Rattle.live_clauses.specs.declared.step.Step.{Step}
use Rattle.view_places.specs.Boxes.{Indices, halves_of}
use Rattle.view_places.specs.Spans.{root_box_of}
use Rattle.view_places.specs.Window.{Window}
use Rattle.view_places.specs.declared.lattice.Lattice.TheVariants.{Height}
use Rattle.box_chains.specs.Outcomes.{outcome_by, outcome_of}
use Rattle.box_chains.specs.Opened.{sampling}
use Rattle.height_map.specs.Opened.{outcome_points}
use Rattle.height_map.specs.Bound.{CountsPoints, height_points, is_near, layered, layers_root}
use Rattle.box_chains.specs.Tested.{halves_points_where, open_points_where, points_where}
use Rattle.height_map.specs.Columns.{IsAmong, covers, is_open, leaf_cost}
use Rattle.height_map.specs.Tops.{top_among, top_of}
use Rattle.height_map.proofs.ChangeLaws.{covers-place, place-within}
use Rattle.height_map.proofs.Drawn.{handed-top}
use Rattle.height_map.proofs.Leaves.{sum-nothing}
use Rattle.height_map.proofs.WorkLaws.{decided-split, points-end, points-open}

-- no evaluation
pub points-none : (counts : Counts) (n : ℕ) → n ≡ 0 → CountsPoints n counts counts
points-none counts n none = omega (arith, none)

-- the same number of them
pub points-are : (before after : Counts) (m n : ℕ) → m ≡ n → CountsPoints m before after → CountsPoints n before after
points-are before after m n same h = h ∙ ap (risen before.points) same

-- evaluations after others
pub points-then : (before mid after : Counts) (m n k : ℕ) → m + n ≡ k → CountsPoints m before mid → CountsPoints n mid after → CountsPoints k before after
points-then before mid after m n k same first second = omega (arith, same, first, second)

-- hulls are no evaluations
pub points-hulls : (before after : Counts) (n : ℕ) → CountsHulls n before after → CountsPoints 0 before after
points-hulls before after n h = ap (λ (c : Counts). c.points) h.rises

pub points-rise : (before after : Counts) (n : ℕ) → RisesBy before after (points_of n) → CountsPoints n before after
points-rise before after n h = ap (λ (c : Counts). c.points) h

-- where none passes
pub points-closed : (laws : Lawful) (test : Sample → Bool) (d : Descent) (v : Visit) → ((s : Sample) → LiesIn v.box s → test s ≡ false) → points_where test d v ≡ 0
points-closed laws test d v none = laws.tested.points_same test (λ s. false) d v none ∙ laws.tested.points_none d v

-- no sample of a box is open whose columns all have tops
pub covered-closed : (view : Window) (list : List Step) (b : Indices) (w : ℕ) (tops : List ℕ) → w ≡ view.w → IsAmong view.w (length tops) b
    → ((p : ℕ) → p < length tops → covers w b p ≡ true → 0 < get_or tops p 0) → (s : Sample) → LiesIn b s → is_open view list b tops s ≡ false
covered-closed view list b w tops width among covered s lies =
    let p = s.j * view.w + s.i in
    let narrow : s.i < view.w = omega (arith, lies.x, among.columns) in
    let here = covers-place view.w s.i s.j b narrow lies.x.0 lies.x.1 lies.y.0 lies.y.1 in
    let there = place-within view.w (length tops) s.i s.j b among lies.x.1 lies.y.1 in
    let some = covered p there (ap (λ n. covers n b p) width ∙ here) in
    ap (λ t. t && nat_le (top_among view list b.z0 b.z1 s.i s.j) (s.k + 1)) (ne_eqb (get_or tops p 0) 0 (λ e. omega (arith, some, e)))

-- the same samples are open by the list that is handed on
pub handed-open : (laws : Lawful) (view : Window) (list live : List Step) (b : Indices) (tops : List ℕ) → IsVisit (layered view) (visit b list) → live ≡ handed_on (layered view) (visit b list)
    → (s : Sample) → LiesIn b s → is_open view live b tops s ≡ is_open view list b tops s
handed-open laws view list live b tops is same s lies =
    ap (λ n. get_or tops (s.j * view.w + s.i) 0 == 0 && nat_le n (s.k + 1)) (ap (λ l. top_among view l b.z0 b.z1 s.i s.j) same ∙ handed-top laws view b list s.i s.j is lies.x lies.y)

-- a box takes the evaluations of its outcome
pub points-outcome : (laws : Lawful) (view : Window) (list : List Step) (b : Indices) (tops : List ℕ) → IsVisit (layered view) (visit b list)
    → points_where (is_open view list b tops) (layered view) (visit b list) ≡ outcome_points view tops b (outcome_of (sampling (layered view)) list b)
points-outcome laws view list b tops is = by (decision d v) refl
  where
    d : Descent
    d = layered view

    v : Visit
    v = visit b list

    test : Sample → Bool
    test = is_open view list b tops

    either : (t : Bool) → cond {A = ℕ} t 0 0 ≡ 0
    either true = refl
    either false = refl

    free : (inside : Bool) → decision d v ≡ Some inside → end_cost d v ≡ 0
    free inside e = rw e refl

    none : (inside : Bool) → decision d v ≡ Some inside → points_where test d v ≡ 0
    none inside e =
        points-end laws test d v (omega arith) is.box (decided-split d v inside e)
        ∙ sum-nothing laws b (λ s. cond (test s) (end_cost d v) 0) (λ s lies. ap (λ n. cond (test s) n 0) (free inside e) ∙ either (test s))

    by : (t : Option Bool) → decision d v ≡ t → points_where test d v ≡ outcome_points view tops b (outcome_by t (handed_on d v))
    by (Some true) e = none true e
    by (Some false) e = none false e
    by None e =
        sym (laws.tested.points_same (is_open view (handed_on d v) b tops) test d v (handed-open laws view list (handed_on d v) b tops is refl))
        ∙ points-open laws (is_open view (handed_on d v) b tops) d v (omega arith) is.box e

pub points-leaf : (view : Window) (list : List Step) (b : Indices) (tops : List ℕ) (before after : Counts) → is_long 8 b ≡ false
    → RisesBy before after (points_of (sum_in b (leaf_cost view list b tops)))
    → CountsPoints (open_points_where (is_open view list b tops) (layered view) b list) before after
points-leaf view list b tops before after short h = rw short (points-rise before after (sum_in b (leaf_cost view list b tops)) h)

pub points-halves : (view : Window) (list : List Step) (b : Indices) (tops : List ℕ) (before after : Counts) → is_long 8 b ≡ true
    → CountsPoints (halves_points_where (is_open view list b tops) (layered view) list (halves_of 8 b)) before after
    → CountsPoints (open_points_where (is_open view list b tops) (layered view) b list) before after
points-halves view list b tops before after long h = rw long h

no_tops : (n p : ℕ) → get_or (replicate n zero) p zero ≡ zero
no_tops zero p = refl
no_tops (suc n) zero = refl
no_tops (suc n) (suc p) = no_tops n p

-- over no tops the samples are open that do not lie behind a top
pub map-open : (view : Window) (list : List Step) (n : ℕ) (tops : List ℕ) → tops ≡ replicate n 0 → (s : Sample) → is_open view list (root_box_of view Height) tops s ≡ is_near view list s
map-open view list n tops empty s =
    let p = s.j * view.w + s.i in
    ap (λ t. t == 0 && nat_le (top_of view list s.i s.j) (s.k + 1)) (ap (λ l. get_or l p 0) empty ∙ no_tops n p)

-- the evaluations of the box of all samples, over no tops
pub map-points : (laws : Lawful) (view : Window) (list : List Step) (b : Indices) (n : ℕ) (tops : List ℕ) (before after : Counts) → b ≡ root_box_of view Height → tops ≡ replicate n 0
    → CountsPoints (points_where (is_open view list b tops) (layered view) (visit b list)) before after → CountsPoints (height_points view list) before after
map-points laws view list b n tops before after is empty h =
    points-are before after _ (height_points view list)
    (laws.tested.points_same (is_open view list (root_box_of view Height) tops) (is_near view list) (layered view) (layers_root view list) (λ s lies. map-open view list n tops empty s))
    (subst (λ c. CountsPoints (points_where (is_open view list c tops) (layered view) (visit c list)) before after) is h)
