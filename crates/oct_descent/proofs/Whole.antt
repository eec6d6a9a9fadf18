-- What looking into the box of all cells leaves.
use Rattle.std.proofs.Common.{◌≡◌, ℕ, Bool, true, false, cond, List, refl, sym, ap, subst, ◌∙◌, ◌⊎◌, inl, inr, arith}
use Rattle.std.specs.Prelude.{Some, None}
use Rattle.std.proofs.lemmas.Bool.{false≢true}
use Rattle.box_chains.specs.Chains.{visit}
use Rattle.box_chains.specs.Sums.{sum_in}
use Rattle.box_chains.specs.Tallied.{CountsAtMost}
use Rattle.box_chains.specs.Laws.{Lawful}
use Rattle.fixed_ops.specs.Counts.{Counts}
use Rattle.kuhn_cells.specs.Triangles.{GridPoint, point}
use Rattle.kuhn_cells.specs.Sizes.{IsBounded}
use Rattle.live_clauses.specs.declared.step.Step.{Step}
use Rattle.view_places.specs.Boxes.{Indices}
use Rattle.view_places.specs.Spans.{root_box_of}
use Rattle.view_places.specs.Window.{Window, size_of}
use Rattle.oct_descent.proofs.Sizes.{size-from, size-is, size-then}
use Rattle.oct_descent.specs.Bound.{CountsAtLeast}
use Rattle.oct_descent.specs.GridValues.{list_grid_value}
use Rattle.oct_descent.specs.Kinds.{GridKind, descent_of, known_of, least_at, least_points, mesh, most_at, most_points, most_spans, root_of, value_in}
use Rattle.oct_descent.specs.Known.{AreSettled, AreWorked, ChargesBox, Grows, IsNew, Known, PaysBox, left}
use Rattle.oct_descent.specs.Tables.{PointValues, is_known, known_at}
use Rattle.oct_descent.specs.Trees.{IsTold}
use Rattle.oct_descent.specs.Ways.{gridded}
use Rattle.oct_descent.proofs.Bounds.{none_due, points_due, points_suffice}
use Rattle.view_places.specs.declared.lattice.Lattice.TheVariants as lattices

-- while nothing is known, all points are left
pub left-all : (laws : Lawful) (f : GridPoint → ℕ) (t : Known) → ((p : GridPoint) → t.at p ≡ None) → left f t ≡ sum_in t.points (λ s. f (point s.i s.j s.k))
left-all laws f t none =
    laws.sums.same t.points (λ s. cond (is_known (t.at (point s.i s.j s.k))) 0 (f (point s.i s.j s.k))) (λ s. f (point s.i s.j s.k))
    (λ s lies. ap (λ o. cond (is_known o) 0 (f (point s.i s.j s.k))) (none (point s.i s.j s.k)))

pub left-whole : (laws : Lawful) (f : GridPoint → ℕ) (t : Known) (b : Indices) → t.points ≡ b → ((p : GridPoint) → t.at p ≡ None) → left f t ≡ sum_in b (λ s. f (point s.i s.j s.k))
left-whole laws f t b same none = left-all laws f t none ∙ ap (λ c. sum_in c (λ s. f (point s.i s.j s.k))) same

-- the work of the box of all cells is within that of the grid
pub whole-counted : (laws : Lawful) (k : GridKind) (view other : Window) (list : List Step) (b : Indices) (before after : Known) (told now : Counts) → other ≡ view → b ≡ root_box_of view lattices.Grid
    → before.points ≡ k.points (size_of view) → ((p : GridPoint) → before.at p ≡ None) → ChargesBox (descent_of k other) (visit b list) before after told now → CountsAtMost (most_points k view list) (most_spans k view list) told now
whole-counted laws k view other list b before after told now same root all none charges =
    let f = most_at k view list in
    let here = subst (λ v. ChargesBox (descent_of k v) (visit (root_box_of view lattices.Grid) list) before after told now) same (subst (λ c. ChargesBox (descent_of k other) (visit c list) before after told now) root charges) in
    let h = here f (points_suffice k view list) in
    laws.bounds.more told now h.points (most_spans k view list) (most_points k view list) (most_spans k view list)
    (omega (arith, h.enough, left-whole laws f before (k.points (size_of view)) all none)) (omega arith) h.counts

-- once all working cells are known, nothing is left that is due
none-left : (laws : Lawful) (k : GridKind) (view : Window) (list : List Step) (t : Known) → AreWorked (descent_of k view) (root_of k view list) t → left (least_at k view list) t ≡ 0
none-left laws k view list t worked =
    laws.sums.same t.points (λ s. cond (is_known (t.at (point s.i s.j s.k))) 0 (least_at k view list (point s.i s.j s.k))) (λ s. 0)
    (λ s lies. by (point s.i s.j s.k) (is_known (t.at (point s.i s.j s.k))) refl)
    ∙ laws.sums.const t.points 0 ∙ omega arith
  where
    by : (p : GridPoint) (b : Bool) → is_known (t.at p) ≡ b → cond b 0 (least_at k view list p) ≡ 0
    by p true e = refl
    by p false e = none_due k view list t p worked e

-- and no less work is counted than what is due
pub whole-paid : (laws : Lawful) (k : GridKind) (view other : Window) (list : List Step) (b : Indices) (before after : Known) (told now : Counts) → other ≡ view → b ≡ root_box_of view lattices.Grid
    → before.points ≡ k.points (size_of view) → ((p : GridPoint) → before.at p ≡ None) → AreWorked (descent_of k other) (visit b list) after → PaysBox (descent_of k other) (visit b list) before after told now
    → CountsAtLeast (least_points k view list) told now
whole-paid laws k view other list b before after told now same root all none worked pays =
    let f = least_at k view list in
    let here = subst (λ v. PaysBox (descent_of k v) (visit (root_box_of view lattices.Grid) list) before after told now) same (subst (λ c. PaysBox (descent_of k other) (visit c list) before after told now) root pays) in
    let there = subst (λ v. AreWorked (descent_of k v) (visit (root_box_of view lattices.Grid) list) after) same (subst (λ c. AreWorked (descent_of k other) (visit c list) after) root worked) in
    let h = here f (points_due k view list) in
    record { by = h.counts.by; many = omega (arith, h.due, h.counts.many, left-whole laws f before (k.points (size_of view)) all none, none-left laws k view list after there); rises = h.counts.rises }

-- what becomes known are the list's values
pub whole-right : (k : GridKind) (view other : Window) (list : List Step) (b : Indices) (before after : Known) → other ≡ view → ((p : GridPoint) → before.at p ≡ None) → Grows (value_in k other list) b before after
    → (p : GridPoint) → is_known (after.at p) ≡ true → after.at p ≡ Some (value_in k view list p)
whole-right k view other list b before after same none grows p known = by (grows.each p)
  where
    by : (after.at p ≡ before.at p) ⊎ IsNew (value_in k other list) b before after p → after.at p ≡ Some (value_in k view list p)
    by (inl stays) = absurd (false≢true (sym (ap is_known (stays ∙ none p)) ∙ known))
    by (inr new) = new.value ∙ ap (λ v. Some (value_in k v list p)) same

-- and its cells are settled by them
pub whole-settled : (k : GridKind) (view other : Window) (list : List Step) (b : Indices) (t : Known) → other ≡ view → b ≡ root_box_of view lattices.Grid → AreSettled (descent_of k other) (value_in k other list) b t
    → AreSettled (descent_of k view) (value_in k view list) (root_box_of view lattices.Grid) t
whole-settled k view other list b t same root settled =
    subst (λ v. AreSettled (descent_of k v) (value_in k v list) (root_box_of view lattices.Grid) t) same (subst (λ c. AreSettled (descent_of k other) (value_in k other list) c t) root settled)

-- so the grid of a mesh is told
pub whole-told : (view other : Window) (list : List Step) (b : Indices) (before after : PointValues) → other ≡ view → b ≡ root_box_of view lattices.Grid → before.n ≡ size_of view → IsBounded (size_of view)
    → ((p : GridPoint) → known_at before p ≡ None) → Grows (list_grid_value other list) b (known_of before) (known_of after) → AreSettled (gridded other) (list_grid_value other list) b (known_of after) → IsTold view list after
whole-told view other list b before after same root n few none grows settled =
    let all = size-then after.n before.n (size_of view) grows.n (size-from before.n (size_of view) n) in
    record {
      n = all;
      few = subst IsBounded (sym (size-is after.n (size_of view) all)) few;
      right = whole-right mesh view other list b (known_of before) (known_of after) same none grows;
      settled = whole-settled mesh view other list b (known_of after) same root settled;
    }
