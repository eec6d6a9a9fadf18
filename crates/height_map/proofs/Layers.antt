-- How columns are drawn side by side.
use Rattle.std.proofs.Common.{◌≡◌, ℕ, ◌+◌, ◌-◌, ◌*◌, ◌/◌, ◌%◌, ◌<◌, Bool, true, false, cond, List, drop, length, get_or, set, take, refl, sym, ap, subst, ◌∙◌, arith}
use Rattle.std.specs.Prelude.{ℤ, ◌==◌, ◌||◌}
use Rattle.std.proofs.lemmas.List.{length-drop, take_all}
use Rattle.std.proofs.lemmas.List.Folds.{list_any-append, list_any_more}
use Rattle.std.proofs.lemmas.Nat.{div-mul-add, mod-mul-add}
use Rattle.std.proofs.Math.Seq.{take-add}
use Rattle.fixed_ops.specs.Counts.{Counts, RisesBy, points_of}
use Rattle.fixed_ops.specs.Laws.{TalliesAddUp}
use Rattle.fixed_ops.specs.Raw.{is_inside}
use Rattle.live_clauses.specs.Steps.{tape_value}
use Rattle.live_clauses.specs.declared.step.Step.{Step}
use Rattle.view_places.specs.Window.{Window}
use Rattle.height_map.specs.Columns.{Changes}
use Rattle.height_map.specs.Layers.{IsColumn, layer_top, nth, point_at, stand_at}
use Rattle.height_map.specs.Tops.{inside}
use Rattle.height_map.specs.declared.column.Column.{Column}
use Rattle.height_map.proofs.ChangeLaws.{Changes-keep, Changes-set}

-- changes at places after those at others, where a number that is changed twice stands
pub Changes-again : (c d e : ℕ → Bool) (f : ℕ → ℕ → ℕ) (xs ys zs : List ℕ) → ((p : ℕ) → e p ≡ (c p || d p)) → ((p old : ℕ) → f p (f p old) ≡ f p old)
    → Changes c f xs ys → Changes d f ys zs → Changes e f xs zs
Changes-again c d e f xs ys zs joined again first second = record {
  same = second.same ∙ first.same;
  each = λ p h.
      second.each p (omega (arith, h, first.same))
      ∙ ap (λ old. cond (d p) (f p old) old) (first.each p h)
      ∙ either (c p) (d p) p (get_or xs p 0)
      ∙ ap (λ t. cond t (f p (get_or xs p 0)) (get_or xs p 0)) (sym (joined p));
}
  where
    either : (s t : Bool) → (p old : ℕ) → cond t (f p (cond s (f p old) old)) (cond s (f p old) old) ≡ cond (s || t) (f p old) old
    either true true p old = again p old
    either true false p old = refl
    either false t p old = refl

layer-again : (view : Window) (list : List Step) (k p old : ℕ) → layer_top view list k p (layer_top view list k p old) ≡ layer_top view list k p old
layer-again view list k p old = by (inside view list (p % view.w) (p / view.w) k)
  where
    by : (t : Bool) → cond t (k + 1) (cond t (k + 1) old) ≡ cond t (k + 1) old
    by true = refl
    by false = refl

-- one more column changes
pub lane-changed : (view : Window) (list : List Step) (k n place : ℕ) (columns : List Column) (xs ys zs : List ℕ) → n < length columns → place ≡ (nth columns n).place
    → Changes (stand_at (take n columns)) (layer_top view list k) xs ys → Changes (λ p. p == place) (layer_top view list k) ys zs
    → Changes (stand_at (take (n + 1) columns)) (layer_top view list k) xs zs
lane-changed view list k n place columns xs ys zs within is =
    Changes-again (stand_at (take n columns)) (λ p. p == place) (stand_at (take (n + 1) columns)) (layer_top view list k) xs ys zs
    (λ p. list_any_more (λ (column : Column). p == column.place) columns n (record { i = 0; j = 0; place = 0 }) within
    ∙ ap (λ q. stand_at (take n columns) p || p == q) (sym is))
    (layer-again view list k)

-- and some more
pub lanes-changed : (view : Window) (list : List Step) (k at more : ℕ) (columns : List Column) (xs ys zs : List ℕ)
    → Changes (stand_at (take at columns)) (layer_top view list k) xs ys → Changes (stand_at (take more (drop at columns))) (layer_top view list k) ys zs
    → Changes (stand_at (take (at + more) columns)) (layer_top view list k) xs zs
lanes-changed view list k at more columns xs ys zs =
    Changes-again (stand_at (take at columns)) (stand_at (take more (drop at columns))) (stand_at (take (at + more) columns)) (layer_top view list k) xs ys zs
    (λ p. ap (λ l. stand_at l p) (take-add at more columns) ∙ list_any-append (λ (column : Column). p == column.place) (take at columns) (take more (drop at columns)))
    (layer-again view list k)

-- what stands behind a place
pub rest-is : (columns : List Column) (at : ℕ) → take (length columns - at) (drop at columns) ≡ drop at columns
rest-is columns at = take_all (length columns - at) (drop at columns) (omega (arith, length-drop at columns))

-- a column whose sample is inside gets the top right above it
pub column-inside : (view : Window) (list : List Step) (k place v : ℕ) (xs : List ℕ) → place < length xs → inside view list (place % view.w) (place / view.w) k ≡ true → v ≡ k + 1
    → Changes (λ p. p == place) (layer_top view list k) xs (set xs place v)
column-inside view list k place v xs within is top =
    Changes-set (layer_top view list k) xs place v within (top ∙ sym (ap (λ t. cond t (k + 1) (get_or xs place 0)) is))

-- and another keeps what it has
pub column-outside : (view : Window) (list : List Step) (k place : ℕ) (xs : List ℕ) → inside view list (place % view.w) (place / view.w) k ≡ false
    → Changes (λ p. p == place) (layer_top view list k) xs xs
column-outside view list k place xs is = Changes-keep (layer_top view list k) xs place (ap (λ t. cond t (k + 1) (get_or xs place 0)) is)

-- so many more are counted
pub lanes-counted : TalliesAddUp → (before mid after : Counts) (at more len : ℕ) → RisesBy before mid (points_of (at * len)) → RisesBy mid after (points_of (more * len)) → RisesBy before after (points_of ((at + more) * len))
lanes-counted tallies before mid after at more len first second =
    let both : at * len + more * len ≡ (at + more) * len = grind arith in
    subst (λ n. RisesBy before after (points_of n)) both (tallies.sum before mid after (points_of (at * len)) (points_of (more * len)) first second)

-- whether the sample of a column is inside
pub sample-inside : (view : Window) (list : List Step) (k len : ℕ) (column : Column) (value : ℤ) (test : Bool) → IsColumn view len column → value ≡ tape_value (point_at view k column) list
    → test ≡ is_inside value → inside view list (column.place % view.w) (column.place / view.w) k ≡ test
sample-inside view list k len column value test is told tested =
    let i : column.place % view.w ≡ column.i = ap (λ p. p % view.w) is.place ∙ mod-mul-add column.j view.w column.i is.narrow in
    let j : column.place / view.w ≡ column.j = ap (λ p. p / view.w) is.place ∙ div-mul-add column.j view.w column.i is.narrow in
    ap (λ n. inside view list n (column.place / view.w) k) i ∙ ap (λ n. inside view list column.i n k) j ∙ sym (tested ∙ ap is_inside told)
