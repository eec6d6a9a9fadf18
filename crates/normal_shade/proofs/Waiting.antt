-- Top samples that wait until there are enough to be lit side by side.
use Rattle.std.proofs.Common.{◌≡◌, ℕ, ◌+◌, ◌-◌, ◌*◌, ◌<◌, ◌≤◌, Bool, true, false, cond, List, [], ◌∷◌, ◌++◌, get_or, length, refl, sym, ap, subst, zero-add, ◌∙◌, arith}
use Rattle.std.specs.Prelude.{◌==◌, ◌||◌, ◌&&◌}
use Rattle.std.proofs.lemmas.Bool.{false≢true}
use Rattle.std.proofs.lemmas.List.Elements.{All-append, All-cons, All-nil}
use Rattle.std.proofs.lemmas.List.Folds.{list_any-append}
use Rattle.std.proofs.lemmas.List.Sums.{sum_by_push}
use Rattle.fixed_ops.proofs.CountLaws.{tallies_add_up_is}
use Rattle.fixed_ops.specs.Counts.{Counts, RisesBy, points_of}
use Rattle.live_clauses.specs.declared.step.Step.{Step}
use Rattle.box_chains.specs.Laws.{Lawful}
use Rattle.view_places.specs.Boxes.{Indices}
use Rattle.view_places.specs.Places.{point_of}
use Rattle.view_places.specs.Spans.{IsInRoot}
use Rattle.view_places.specs.Window.{Window}
use Rattle.view_places.specs.declared.lattice.Lattice.TheVariants.{Height}
use Rattle.height_map.specs.Columns.{IsAmong}
use Rattle.height_map.proofs.ChangeLaws.{place-within}
use Rattle.normal_shade.specs.DualWork.{dual_points}
use Rattle.normal_shade.specs.Marks.{has_top_at, is_within, lit_along, shade_at}
use Rattle.normal_shade.specs.TopSamples.{AllButWaiting, HasTop, IsSample, lit_samples, point_at, stand_at}
use Rattle.normal_shade.specs.declared.top_sample.TopSample.{TopSample}
use Rattle.normal_shade.proofs.Lit.{Becomes, and-false, and-true, at-place, column-more, left_of, or-false}
use Rattle.normal_shade.proofs.Rows.{within-some}
use Rattle.normal_shade.proofs.Sums.{along-more, along-none}
use Rattle.normal_shade.proofs.TopSamples.{has_top_in, top_sample}

or-true : (t : Bool) → (t || true) ≡ true
or-true true = refl
or-true false = refl

-- neither holds
neither : (s t : Bool) → (s || t) ≡ false → (s ≡ false) × (t ≡ false)
neither true t e = absurd (false≢true (sym e))
neither false t e = (refl, e)

module _ (view : Window) (list : List Step) (tops : List ℕ) (old : List ℕ) (before : Counts) where
  abbrev Waits : (ℕ → Bool) → ℕ → List TopSample → List ℕ → Counts → Type 0
  Waits columns points waiting new after = AllButWaiting view list tops columns points waiting old new before after

  -- nothing is lit yet
  pub waits-none : Waits (λ p. false) 0 [] old before
  waits-none = record {
    same = refl;
    among = λ p h. h;
    each = λ p within none. refl;
    have = All-nil (HasTop tops);
    lit = 0;
    rises = tallies_add_up_is.none before;
    all = refl;
  }

  -- the same columns, and as many points
  pub waits-same : (columns others : ℕ → Bool) (points more : ℕ) (waiting : List TopSample) (new : List ℕ) (after : Counts) → ((p : ℕ) → columns p ≡ others p) → points ≡ more
      → Waits columns points waiting new after → Waits others more waiting new after
  waits-same columns others points more waiting new after agree as_many was = record {
    same = was.same;
    among = λ p h. sym (agree p) ∙ was.among p h;
    each = λ p within none. was.each p within none ∙ ap (λ t. cond t (shade_at view list tops p) (get_or old p 0)) (agree p);
    have = was.have;
    lit = was.lit;
    rises = was.rises;
    all = was.all ∙ as_many;
  }

  -- one more waits
  pub waits-more : (columns : ℕ → Bool) (points : ℕ) (waiting : List TopSample) (sample : TopSample) (new : List ℕ) (after : Counts) → HasTop tops sample → Waits columns points waiting new after
      → Waits (λ p. columns p || p == sample.place) (points + dual_points (point_at view sample) list) (waiting ++ sample ∷ []) new after
  waits-more columns points waiting sample new after top was = record {
    same = was.same;
    among = λ p h. by (stand_at waiting p) p refl (sym (stands p) ∙ h);
    each = λ p within none.
        let parts = neither (stand_at waiting p) (p == sample.place) (sym (stands p) ∙ none) in
        was.each p within parts.0
        ∙ ap (λ t. cond t (shade_at view list tops p) (get_or old p 0)) (sym (or-false (columns p)) ∙ ap (λ t. columns p || t) (sym parts.1));
    have = All-append (HasTop tops) waiting (sample ∷ []) was.have (All-cons (HasTop tops) sample [] top (All-nil (HasTop tops)));
    lit = was.lit;
    rises = was.rises;
    all = omega (arith, was.all, sum_by_push (λ s. dual_points (point_at view s) list) waiting sample);
  }
    where
      stands : (p : ℕ) → stand_at (waiting ++ sample ∷ []) p ≡ (stand_at waiting p || p == sample.place)
      stands p = list_any-append (λ (s : TopSample). p == s.place) waiting (sample ∷ []) ∙ ap (λ t. stand_at waiting p || t) (or-false (p == sample.place))

      by : (t : Bool) (p : ℕ) → stand_at waiting p ≡ t → (stand_at waiting p || p == sample.place) ≡ true → (columns p || p == sample.place) ≡ true
      by true p e h = ap (λ t. t || p == sample.place) (was.among p e)
      by false p e h = ap (λ t. columns p || t) (ap (λ t. t || p == sample.place) (sym e) ∙ h) ∙ or-true (columns p)

  -- those that wait are lit
  pub waits-lit : (columns : ℕ → Bool) (points : ℕ) (waiting : List TopSample) (mid new : List ℕ) (now after : Counts) → Becomes (stand_at waiting) (shade_at view list tops) mid new
      → RisesBy now after (points_of (lit_samples view list waiting)) → Waits columns points waiting mid now → Waits columns points [] new after
  waits-lit columns points waiting mid new now after changed rises was = record {
    same = changed.same ∙ was.same;
    among = λ p h. absurd (false≢true h);
    each = λ p within none. changed.each p (omega (arith, within, was.same)) ∙ by (stand_at waiting p) p within refl;
    have = All-nil (HasTop tops);
    lit = was.lit + lit_samples view list waiting;
    rises = tallies_add_up_is.sum before now after (points_of was.lit) (points_of (lit_samples view list waiting)) was.rises rises;
    all = omega (arith, was.all);
  }
    where
      by : (t : Bool) (p : ℕ) → p < length old → stand_at waiting p ≡ t
          → cond t (shade_at view list tops p) (get_or mid p 0) ≡ cond (columns p) (shade_at view list tops p) (get_or old p 0)
      by true p within e = ap (λ t. cond t (shade_at view list tops p) (get_or old p 0)) (sym (was.among p e))
      by false p within e = was.each p within e

  -- none waits
  pub waits-end : (columns : ℕ → Bool) (points : ℕ) (new : List ℕ) (after : Counts) → Waits columns points [] new after → Becomes columns (shade_at view list tops) old new
  waits-end columns points new after was = record { same = was.same; each = λ p within. was.each p within refl }

  pub waits-counted : (columns : ℕ → Bool) (points : ℕ) (new : List ℕ) (after : Counts) → Waits columns points [] new after → RisesBy before after (points_of points)
  waits-counted columns points new after was = subst (λ n. RisesBy before after (points_of n)) (omega (arith, was.all)) was.rises

-- ---- one more column of a row

or-assoc : (s t u : Bool) → ((s || t) || u) ≡ (s || (t || u))
or-assoc true t u = refl
or-assoc false t u = refl

sum-zero : (m n : ℕ) → n ≡ 0 → m ≡ m + n
sum-zero m n none = omega (arith, none)

sum-next : (m k n all : ℕ) → all ≡ k + n → m + k + n ≡ m + all
sum-next m k n all e = omega (arith, e)

module _ (laws : Lawful) (view : Window) (list : List Step) (w : ℕ) (tops : List ℕ) (b : Indices) (j i : ℕ) (width : w ≡ view.w) (above : b.x0 ≤ i) (narrow : i < w) where
  -- the evaluations for it
  abbrev one : ℕ
  one = cond (is_within b (get_or tops (j * view.w + i) 0)) (dual_points (point_of view Height i j (get_or tops (j * view.w + i) 0 - 1)) list) 0

  alone : lit_along view list tops b j i (i + 1) ≡ one
  alone =
      let more : lit_along view list tops b j i (i + 1) ≡ lit_along view list tops b j i i + one =
      along-more laws i i (λ c. cond (is_within b (get_or tops (j * view.w + c) 0)) (dual_points (point_of view Height c j (get_or tops (j * view.w + c) 0 - 1)) list) 0) (omega arith) in
      let none : lit_along view list tops b j i i ≡ 0 =
      along-none i (λ c. cond (is_within b (get_or tops (j * view.w + c) 0)) (dual_points (point_of view Height c j (get_or tops (j * view.w + c) 0 - 1)) list) 0) in
      more ∙ ap (λ n. n + one) none ∙ zero-add one

  -- that has its top sample in the box
  pub column-lit : (columns : ℕ → Bool) (points : ℕ) (waiting : List TopSample) (old new : List ℕ) (before after : Counts) (sample : TopSample) → has_top_in w tops b j i ≡ true → sample ≡ top_sample w tops j i
      → AllButWaiting view list tops (λ p. columns p || p == sample.place) (points + dual_points (point_at view sample) list) waiting old new before after
      → AllButWaiting view list tops (λ p. columns p || (p == j * w + i && is_within b (get_or tops p 0))) (points + lit_along view list tops b j i (i + 1)) waiting old new before after
  column-lit columns points waiting old new before after sample e is was =
      waits-same view list tops old before (λ p. columns p || p == sample.place) (λ p. columns p || (p == j * w + i && is_within b (get_or tops p 0)))
      (points + dual_points (point_at view sample) list) (points + lit_along view list tops b j i (i + 1)) waiting new after
      (λ p. ap (λ t. columns p || t)
      (ap (λ (s : TopSample). p == s.place) is ∙ sym (at-place (j * w + i) p (λ q. is_within b (get_or tops q 0)) true e ∙ and-true (p == j * w + i))))
      (ap (λ n. points + n) (cost ∙ sym alone)) was
    where
      there : is_within b (get_or tops (j * view.w + i) 0) ≡ true
      there = ap (λ n. is_within b (get_or tops (j * n + i) 0)) (sym width) ∙ e

      cost : dual_points (point_at view sample) list ≡ one
      cost =
          ap (λ (s : TopSample). dual_points (point_at view s) list) is
          ∙ ap (λ n. dual_points (point_of view Height i j (get_or tops (j * n + i) 0 - 1)) list) width
          ∙ sym (ap (λ t. cond t (dual_points (point_of view Height i j (get_or tops (j * view.w + i) 0 - 1)) list) 0) there)

  -- or has not
  pub column-dark : (columns : ℕ → Bool) (points : ℕ) (waiting : List TopSample) (old new : List ℕ) (before after : Counts) → has_top_in w tops b j i ≡ false
      → AllButWaiting view list tops columns points waiting old new before after
      → AllButWaiting view list tops (λ p. columns p || (p == j * w + i && is_within b (get_or tops p 0))) (points + lit_along view list tops b j i (i + 1)) waiting old new before after
  column-dark columns points waiting old new before after e was =
      waits-same view list tops old before columns (λ p. columns p || (p == j * w + i && is_within b (get_or tops p 0)))
      points (points + lit_along view list tops b j i (i + 1)) waiting new after
      (λ p. sym (or-false (columns p))
      ∙ ap (λ t. columns p || t) (sym (at-place (j * w + i) p (λ q. is_within b (get_or tops q 0)) false e ∙ and-false (p == j * w + i))))
      (sum-zero points (lit_along view list tops b j i (i + 1)) (alone ∙ none)) was
    where
      none : one ≡ 0
      none = ap (λ t. cond {A = ℕ} t (dual_points (point_of view Height i j (get_or tops (j * view.w + i) 0 - 1)) list) 0)
          (ap (λ n. is_within b (get_or tops (j * n + i) 0)) (sym width) ∙ e)

  -- the columns up to it
  pub column-next : (columns : ℕ → Bool) (points : ℕ) (waiting : List TopSample) (old new : List ℕ) (before after : Counts)
      → AllButWaiting view list tops (λ p. (columns p || has_top_at w tops (left_of b j i) p) || (p == j * w + i && is_within b (get_or tops p 0)))
      (points + lit_along view list tops b j b.x0 i + lit_along view list tops b j i (i + 1)) waiting old new before after
      → AllButWaiting view list tops (λ p. columns p || has_top_at w tops (left_of b j (i + 1)) p) (points + lit_along view list tops b j b.x0 (i + 1)) waiting old new before after
  column-next columns points waiting old new before after was =
      waits-same view list tops old before (λ p. (columns p || has_top_at w tops (left_of b j i) p) || (p == j * w + i && is_within b (get_or tops p 0)))
      (λ p. columns p || has_top_at w tops (left_of b j (i + 1)) p)
      (points + lit_along view list tops b j b.x0 i + lit_along view list tops b j i (i + 1)) (points + lit_along view list tops b j b.x0 (i + 1)) waiting new after
      (λ p. or-assoc (columns p) (has_top_at w tops (left_of b j i) p) (p == j * w + i && is_within b (get_or tops p 0))
      ∙ ap (λ t. columns p || t) (sym (column-more w i j p b tops narrow above)))
      (sum-next points (lit_along view list tops b j b.x0 i) (lit_along view list tops b j i (i + 1)) (lit_along view list tops b j b.x0 (i + 1)) (more ∙ ap (λ n. lit_along view list tops b j b.x0 i + n) (sym alone))) was
    where
      more : lit_along view list tops b j b.x0 (i + 1) ≡ lit_along view list tops b j b.x0 i + one
      more = along-more laws b.x0 i (λ c. cond (is_within b (get_or tops (j * view.w + c) 0)) (dual_points (point_of view Height c j (get_or tops (j * view.w + c) 0 - 1)) list) 0) above

  -- its top sample is one of the height map's
  pub column-top : has_top_in w tops b j i ≡ true → (sample : TopSample) → sample ≡ top_sample w tops j i → HasTop tops sample
  column-top e sample is = subst (HasTop tops) (sym is) (omega (arith, (within-some b (get_or tops (j * w + i) 0) e).0))

  pub column-there : (len : ℕ) → IsInRoot view Height b → IsAmong w len b → j < b.y1 → i < b.x1 → has_top_in w tops b j i ≡ true → (sample : TopSample) → sample ≡ top_sample w tops j i → IsSample view len sample
  column-there len within among row left e sample is =
      let some = within-some b (get_or tops (j * w + i) 0) e in
      subst (IsSample view len) (sym is) (record {
        narrow = omega (arith, left, within.x);
        low = omega (arith, row, within.y);
        high = omega (arith, some.0, some.1, within.z);
        place = ap (λ n. j * n + i) width;
        there = place-within w len i j b among left row;
      })
