-- The work of a shaded height map is bounded by its columns, and by the boxes of all samples.
use Rattle.std.proofs.Common.{◌≡◌, ℕ, zero, suc, ◌+◌, ◌-◌, ◌*◌, ◌<◌, ◌≤◌, ℤ, pos, Bool, true, false, cond, List, [], ◌∷◌, length, get_or, refl, sym, ap, subst, ◌∙◌, arith}
use Rattle.std.specs.Prelude.{◌==◌, ◌&&◌, int_le, int_lt, unsigned_abs}
use Rattle.std.specs.List.{range_with_len}
use Rattle.std.proofs.Math.Nat.{mul-le-mul_right}
use Rattle.std.proofs.lemmas.List.FromFn.{length-range_with_len}
use Rattle.std.proofs.lemmas.List.Sums.{sum_by-cons, sum_by-le}
use Rattle.box_chains.specs.Chains.{Descent, Visit, chain, chain_end, half_with, is_split, next_visit, sides}
use Rattle.box_chains.specs.Counts.{first_lengths, is_first, spans_in}
use Rattle.box_chains.specs.Laws.{Lawful}
use Rattle.box_chains.specs.Sums.{LiesIn, Sample, sum_along, sum_in}
use Rattle.box_chains.specs.Tested.{has_some, lengths_where, spans_where}
use Rattle.box_chains.specs.Visits.{IsVisit, sample_point}
use Rattle.fixed_ops.specs.Points.{Point}
use Rattle.fixed_ops.specs.declared.operation.Op.{Op}
use Rattle.fixed_ops.specs.declared.operation.Op.TheVariants.{X, Y, Z, Const, Neg, Square, Sqrt, Abs, Floor, Add, Sub, Mul, Div, Min, Max}
use Rattle.live_clauses.specs.Choices.{step_at}
use Rattle.live_clauses.specs.Steps.{IsTape, value_at}
use Rattle.live_clauses.specs.declared.step.Step.{Step}
use Rattle.view_places.specs.Boxes.{Indices, IsBox}
use Rattle.view_places.specs.Spans.{root_box_of}
use Rattle.view_places.specs.Window.{Window, IsWindow}
use Rattle.view_places.specs.declared.lattice.Lattice.TheVariants.{Height}
use Rattle.height_map.specs.Bound.{layered, layers_root}
use Rattle.height_map.specs.Tops.{top_of}
use Rattle.normal_shade.specs.Branches.{is_reached}
use Rattle.normal_shade.specs.DualWork.{derivative_cost, derivative_cost_at, dual_points}
use Rattle.normal_shade.specs.Laws.{ShadePointsAreBounded, ShadeSpansAreBounded}
use Rattle.normal_shade.specs.Lit.{lit_where, pruned}
use Rattle.normal_shade.specs.Marks.{is_within}
use Rattle.normal_shade.specs.Shades.{is_top}
use Rattle.normal_shade.proofs.Sums.{sum-tested, tops-by_columns}
use Rattle.normal_shade.proofs.Visits.{pruned-tape, split-long}

whole-visit : (view : Window) (list : List Step) → IsWindow view → IsTape list → IsVisit (layered view) (layers_root view list)
whole-visit view list window tape = record {
  window = window;
  box = record { x = window.w.some; y = window.h.some; z = window.d.some };
  within = record { x = omega arith; y = omega arith; z = omega arith };
  tape = tape;
}

-- smaller numbers have smaller sums
sum-below : (laws : Lawful) (b : Indices) (f g : Sample → ℕ) → ((s : Sample) → LiesIn b s → f s ≤ g s) → sum_in b f ≤ sum_in b g
sum-below laws b f g below =
    let apart = laws.sums.same b g (λ s. f s + (g s - f s)) (λ s lies. let less = below s lies in omega (arith, less)) in
    omega (arith, apart, laws.sums.plus b f (λ s. g s - f s))

-- ---- one list at one sample takes at most ten evaluations for each step

cost-few : (op : Op) (a b r : ℤ) → derivative_cost op a b r ≤ 9
cost-few X a b r = omega arith
cost-few Y a b r = omega arith
cost-few Z a b r = omega arith
cost-few Const a b r = omega arith
cost-few Neg a b r = omega arith
cost-few Square a b r = omega arith
cost-few Sqrt a b r = by (int_lt (pos 0) r)
  where
    by : (t : Bool) → cond {A = ℕ} t 4 0 ≤ 9
    by true = omega arith
    by false = omega arith
cost-few Abs a b r = by (int_le (pos 0) a)
  where
    by : (t : Bool) → cond {A = ℕ} t 0 3 ≤ 9
    by true = omega arith
    by false = omega arith
cost-few Floor a b r = omega arith
cost-few Add a b r = omega arith
cost-few Sub a b r = omega arith
cost-few Mul a b r = omega arith
cost-few Div a b r = by (unsigned_abs b == 0)
  where
    by : (t : Bool) → cond {A = ℕ} t 0 9 ≤ 9
    by true = omega arith
    by false = omega arith
cost-few Min a b r = omega arith
cost-few Max a b r = omega arith

dual-few : (p : Point) (steps : List Step) → dual_points p steps ≤ 10 * length steps
unfolding dual_points
dual-few p steps =
    let all = sum_by-le (λ place. cond (is_reached p steps place) (derivative_cost_at p steps place) 0) 9 (range_with_len 0 (length steps)) (λ k d h. few (get_or (range_with_len 0 (length steps)) k d)) in
    omega (arith, all, length-range_with_len 0 (length steps))
  where
    few : (place : ℕ) → cond {A = ℕ} (is_reached p steps place) (derivative_cost_at p steps place) 0 ≤ 9
    few place = by (is_reached p steps place) (cost-few (step_at steps place).op (value_at p steps (step_at steps place).a) (value_at p steps (step_at steps place).b) (value_at p steps place))
      where
        by : (t : Bool) → derivative_cost_at p steps place ≤ 9 → cond {A = ℕ} t (derivative_cost_at p steps place) 0 ≤ 9
        by true h = h
        by false h = omega arith

-- ---- the list that the last box prunes is no longer than that which the first receives

-- the last box, which receives a list no longer than the first
record IsShortEnd (d : Descent) (v w : Visit) : Type 0 where
  visit_is : IsVisit d w
  short : length w.list ≤ length v.list

end-short : (n : ℕ) (laws : Lawful) (d : Descent) (v : Visit) (s : Sample) → 0 < d.leaf → IsVisit d v → LiesIn v.box s → sides v.box ≤ n → IsShortEnd d v (chain_end d v s)
end-short zero laws d v s some is lies few = absurd (omega (arith, few, is.box.x))
end-short (suc n) laws d v s some is lies few = by (is_split d v) refl (λ next visit_is within less. end-short n laws d next s some visit_is within less)
  where
    by : (t : Bool) → is_split d v ≡ t
        → ((next : Visit) → IsVisit d next → LiesIn next.box s → sides next.box ≤ n → IsShortEnd d next (chain_end d next s))
        → IsShortEnd d v (chain_end d v s)
    by false e below =
        let ends : chain_end d v s ≡ v = rw e at (laws.ends d v s some is.box lies) in
        subst (IsShortEnd d v) (sym ends) (record { visit_is = is; short = omega arith })
    by true e below =
        let ends : chain_end d v s ≡ chain_end d (next_visit d v s) s = rw e at (laws.ends d v s some is.box lies) in
        let part = laws.parts.part d.leaf v.box s some is.box lies in
        let half = half_with d.leaf v.box s in
        let shorter = laws.parts.shorter d.leaf v.box half (split-long d v e) part.0 in
        let next = laws.visits.halves d v half some is (laws.parts.among d.leaf v.box s lies).0 in
        let end = below (next_visit d v s) next part.1 (omega (arith, shorter, few)) in
        subst (IsShortEnd d v) (sym ends) (record { visit_is = end.visit_is; short = omega (arith, end.short, (laws.visits.handed d v is).1) })

lit-below : (laws : Lawful) (test : Sample → Bool) (d : Descent) (v : Visit) → 0 < d.leaf → IsVisit d v → lit_where test d v ≤ sum_in v.box (λ s. cond (test s) 1 0) * (10 * length v.list)
unfolding lit_where
lit-below laws test d v some is =
    omega (
      arith,
      sum-below laws v.box (λ s. cond (test s) (at s) 0) (λ s. cond (test s) (10 * length v.list) 0) (λ s lies. one (test s) (at s) (few s lies)),
      sum-tested test (10 * length v.list) v.box,
    )
  where
    at : Sample → ℕ
    at s = dual_points (sample_point d s) (pruned d (chain_end d v s))

    few : (s : Sample) → LiesIn v.box s → at s ≤ 10 * length v.list
    few s lies =
        let end = end-short (sides v.box) laws d v s some is lies (omega arith) in
        omega (arith, dual-few (sample_point d s) (pruned d (chain_end d v s)), (pruned-tape laws d (chain_end d v s) end.visit_is).1, end.short)

    one : (t : Bool) (m : ℕ) → m ≤ 10 * length v.list → cond {A = ℕ} t m 0 ≤ cond {A = ℕ} t (10 * length v.list) 0
    one true m h = h
    one false m h = omega arith

-- each column has at most one top sample
along-few : (low high most : ℕ) (f : ℕ → ℕ) → ((i : ℕ) → f i ≤ most) → sum_along low high f ≤ (high - low) * most
along-few low high most f few =
    let all = sum_by-le f most (range_with_len low (high - low)) (λ k d h. few _) in
    omega (arith, all, ap (λ n. n * most) (length-range_with_len low (high - low)))

columns-bounded : (view : Window) (list : List Step) → IsWindow view → sum_in (root_box_of view Height) (λ s. cond (is_top view list s) 1 0) ≤ view.h * view.w
columns-bounded view list window =
    let root : Indices = root_box_of view Height in
    let box : IsBox root = record { x = window.w.some; y = window.h.some; z = window.d.some } in
    let row : (j : ℕ) → sum_along root.x0 root.x1 (λ i. cond (is_within root (top_of view list i j)) 1 0) ≤ (root.x1 - root.x0) * 1 =
    λ j. along-few root.x0 root.x1 1 (λ i. cond (is_within root (top_of view list i j)) 1 0) (λ i. one (is_within root (top_of view list i j))) in
    let all = along-few root.y0 root.y1 ((root.x1 - root.x0) * 1) (λ j. sum_along root.x0 root.x1 (λ i. cond (is_within root (top_of view list i j)) 1 0)) row in
    let wide : (root.x1 - root.x0) * 1 ≡ view.w = omega arith in
    let high : root.y1 - root.y0 ≡ view.h = omega arith in
    let both : (root.y1 - root.y0) * ((root.x1 - root.x0) * 1) ≡ view.h * view.w = ap (λ n. n * ((root.x1 - root.x0) * 1)) high ∙ ap (λ n. view.h * n) wide in
    omega (arith, tops-by_columns (top_of view list) root box, all, both)
  where
    one : (t : Bool) → cond {A = ℕ} t 1 0 ≤ 1
    one true = omega arith
    one false = omega arith

pub points_bounded : (laws : Lawful) → ShadePointsAreBounded
points_bounded laws view list window tape =
    let all = lit-below laws (is_top view list) (layered view) (layers_root view list) (omega arith) (whole-visit view list window tape) in
    let columns = mul-le-mul_right (10 * length list) (columns-bounded view list window) in
    let same : view.h * view.w * (10 * length list) ≡ 10 * (view.h * view.w * length list) = grind arith in
    omega (arith, all, columns, same)

-- ---- the steps that are traced on the ways to top samples are among those that are traced over all boxes

spans-below : (laws : Lawful) (test : Sample → Bool) (d : Descent) (v : Visit) → spans_where test d v ≤ spans_in d v
unfolding spans_where spans_in
spans-below laws test d v =
    sum-below laws v.box (λ s. lengths_where test s (chain d v s)) (λ s. first_lengths s (chain d v s)) (λ s lies. fewer s (chain d v s))
  where
    one : (t u : Bool) (n : ℕ) → cond {A = ℕ} (t && u) n 0 ≤ cond {A = ℕ} u n 0
    one true u n = omega arith
    one false true n = omega arith
    one false false n = omega arith

    fewer : (s : Sample) (visits : List Visit) → lengths_where test s visits ≤ first_lengths s visits
    fewer s [] = omega arith
    fewer s (w ∷ ws) =
        omega (
          arith,
          sum_by-cons (λ (u : Visit). cond (has_some test u.box && is_first u.box s) (length u.list) 0) w ws,
          sum_by-cons (λ (u : Visit). cond (is_first u.box s) (length u.list) 0) w ws,
          one (has_some test w.box) (is_first w.box s) (length w.list),
          fewer s ws,
        )

pub spans_bounded : (laws : Lawful) → ShadeSpansAreBounded
spans_bounded laws view list window tape = spans-below laws (is_top view list) (layered view) (layers_root view list)
