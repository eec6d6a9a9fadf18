-- Top samples of pieces of rows, and how they are lit side by side.
use Rattle.std.proofs.Common.{◌≡◌, ℕ, zero, suc, ◌+◌, ◌-◌, ◌*◌, ◌/◌, ◌%◌, ◌<◌, ◌≤◌, Bool, cond, List, [], ◌∷◌, ◌++◌, drop, get_or, length, set, take, refl, sym, ap, subst, ◌∙◌, ◌⊎◌, inl, inr, pos, zero-add, arith}
use Rattle.std.specs.Prelude.{ℤ, ◌==◌, ◌||◌}
use Rattle.std.specs.List.{range_with_len, sum_by}
use Rattle.std.proofs.lemmas.Bool.{cases_eq, ne_eqb}
use Rattle.std.proofs.lemmas.List.{get_or-set_other, get_or-set_same, take_all, take_more}
use Rattle.std.proofs.lemmas.List.Folds.{list_any-append, list_any_more}
use Rattle.std.proofs.lemmas.List.Sums.{sum_by-append, sum_by_push}
use Rattle.std.proofs.lemmas.Nat.{div-mul-add, mod-mul-add}
use Rattle.std.proofs.Math.Seq.{take-add}
use Rattle.choice_trace.specs.Lanes.{in_lane}
use Rattle.fixed_ops.specs.Counts.{Counts, RisesBy, points_of}
use Rattle.fixed_ops.specs.Laws.{TalliesAddUp}
use Rattle.fixed_ops.specs.Points.{Point}
use Rattle.fixed_ops.specs.Slopes.{Sloped}
use Rattle.live_clauses.specs.Meanings.{sloped_at, tape_meaning}
use Rattle.live_clauses.specs.declared.step.Step.{Step}
use Rattle.view_places.specs.Boxes.{Indices}
use Rattle.view_places.specs.Places.{point_of}
use Rattle.view_places.specs.Window.{Window}
use Rattle.view_places.specs.declared.lattice.Lattice.TheVariants.{Height}
use Rattle.normal_shade.specs.DualWork.{dual_points}
use Rattle.normal_shade.specs.Marks.{is_within, shade_at}
use Rattle.normal_shade.specs.Shades.{lit, light_at, shade_of}
use Rattle.normal_shade.specs.TopSamples.{HasTop, IsSample, lit_samples, nth, point_at, stand_at}
use Rattle.normal_shade.specs.declared.top_sample.TopSample.{TopSample}
use Rattle.normal_shade.proofs.Lit.{Becomes, lit-set, lit-then}

-- ---- the top samples of a row

-- the top sample of column i of row j
abbrev pub top_sample : ℕ → List ℕ → ℕ → ℕ → TopSample
top_sample w tops j i = record { i = i; j = j; k = get_or tops (j * w + i) 0 - 1; place = j * w + i }

-- lies in a box
abbrev pub has_top_in : ℕ → List ℕ → Indices → ℕ → ℕ → Bool
has_top_in w tops b j i = is_within b (get_or tops (j * w + i) 0)

-- ---- the evaluations for them

-- some more of some samples
pub samples-counted : TalliesAddUp → (view : Window) (list : List Step) (samples : List TopSample) (at more : ℕ) (before mid after : Counts)
    → RisesBy before mid (points_of (lit_samples view list (take at samples))) → RisesBy mid after (points_of (lit_samples view list (take more (drop at samples))))
    → RisesBy before after (points_of (lit_samples view list (take (at + more) samples)))
samples-counted tallies view list samples at more before mid after first second =
    let cost = λ (sample : TopSample). dual_points (point_at view sample) list in
    let both : lit_samples view list (take at samples) + lit_samples view list (take more (drop at samples)) ≡ lit_samples view list (take (at + more) samples) =
    sym (ap (sum_by cost) (take-add at more samples) ∙ sum_by-append cost (take at samples) (take more (drop at samples))) in
    subst (λ n. RisesBy before after (points_of n)) both (tallies.sum before mid after (points_of (lit_samples view list (take at samples))) (points_of (lit_samples view list (take more (drop at samples)))) first second)

-- one more number
range-more : (low n : ℕ) → range_with_len low (suc n) ≡ range_with_len low n ++ (low + n) ∷ []
range-more low zero = ap (λ m. m ∷ []) (omega arith)
range-more low (suc n) = let last : low + 1 + n ≡ low + suc n = omega arith in ap (λ l. low ∷ l) (range-more (low + 1) n ∙ ap (λ m. range_with_len (low + 1) n ++ m ∷ []) last)

-- the numbers of some lanes, each that of an element
lanes-sum : {X : Type 0} (f : ℕ → ℕ) (g : X → ℕ) (xs : List X) (d : X) (n : ℕ) → n ≤ length xs → ((lane : ℕ) → lane < n → f lane ≡ g (get_or xs lane d)) → sum_by f (range_with_len 0 n) ≡ sum_by g (take n xs)
lanes-sum f g xs d zero few same = refl
lanes-sum f g xs d (suc n) few same =
    let next : suc n ≡ n + 1 = omega arith in
    ap (sum_by f) (range-more 0 n ∙ ap (λ m. range_with_len 0 n ++ m ∷ []) (zero-add n))
    ∙ sum_by_push f (range_with_len 0 n) n
    ∙ ap (λ m. m + f n) (lanes-sum f g xs d n (omega (arith, few)) (λ lane h. same lane (omega (arith, h))))
    ∙ ap (λ m. sum_by g (take n xs) + m) (same n (omega arith))
    ∙ sym (ap (λ m. sum_by g (take m xs)) next ∙ ap (sum_by g) (take_more xs n d (omega (arith, few))) ∙ sum_by_push g (take n xs) (get_or xs n d))

pub lanes-lit : (view : Window) (list : List Step) (samples : List TopSample) (n : ℕ) (points : ℕ → Point) → length samples ≡ n → ((lane : ℕ) → lane < n → points lane ≡ point_at view (nth samples lane))
    → sum_by (λ lane. dual_points (points lane) list) (range_with_len 0 n) ≡ lit_samples view list samples
lanes-lit view list samples n points many same =
    let none : TopSample = record { i = 0; j = 0; k = 0; place = 0 } in
    lanes-sum (λ lane. dual_points (points lane) list) (λ sample. dual_points (point_at view sample) list) samples none n (omega (arith, many))
    (λ lane h. ap (λ p. dual_points p list) (same lane h))
    ∙ ap (lit_samples view list) (take_all n samples (omega (arith, many)))

-- ---- the light on them

-- some more of some samples
pub samples-lit : (samples : List TopSample) (at more : ℕ) (g : ℕ → ℕ) (xs ys zs : List ℕ) → Becomes (stand_at (take at samples)) g xs ys → Becomes (stand_at (take more (drop at samples))) g ys zs
    → Becomes (stand_at (take (at + more) samples)) g xs zs
samples-lit samples at more g xs ys zs =
    lit-then (stand_at (take at samples)) (stand_at (take more (drop at samples))) (stand_at (take (at + more) samples)) g xs ys zs
    (λ p. ap (λ l. stand_at l p) (take-add at more samples) ∙ list_any-append (λ (sample : TopSample). p == sample.place) (take at samples) (take more (drop at samples)))

-- one more
pub lane-lit : (samples : List TopSample) (n place v : ℕ) (g : ℕ → ℕ) (xs ys : List ℕ) → n < length samples → place ≡ (nth samples n).place → place < length ys → v ≡ g place
    → Becomes (stand_at (take n samples)) g xs ys → Becomes (stand_at (take (n + 1) samples)) g xs (set ys place v)
lane-lit samples n place v g xs ys within at there is first =
    lit-then (stand_at (take n samples)) (λ p. p == place) (stand_at (take (n + 1) samples)) g xs ys (set ys place v)
    (λ p. list_any_more (λ (sample : TopSample). p == sample.place) samples n (record { i = 0; j = 0; k = 0; place = 0 }) within ∙ ap (λ q. stand_at (take n samples) p || p == q) (sym at))
    first (lit-set g ys place v there is)

-- the light by the derivatives at a top sample is that on its column
pub sample-light : (view : Window) (list : List Step) (tops : List ℕ) (len : ℕ) (sample : TopSample) (m : Sloped) → IsSample view len sample → HasTop tops sample → m ≡ tape_meaning (sloped_at (point_at view sample)) list
    → lit m ≡ shade_at view list tops sample.place
sample-light view list tops len sample m is top told =
    let column : sample.place % view.w ≡ sample.i = ap (λ p. p % view.w) is.place ∙ mod-mul-add sample.j view.w sample.i is.narrow in
    let row : sample.place / view.w ≡ sample.j = ap (λ p. p / view.w) is.place ∙ div-mul-add sample.j view.w sample.i is.narrow in
    let layer : sample.k + 1 - 1 ≡ sample.k = omega arith in
    ap lit told
    ∙ sym (ap (λ n. shade_of view list n (sample.place % view.w) (sample.place / view.w)) top
    ∙ ap (λ n. shade_of view list (sample.k + 1) n (sample.place / view.w)) column
    ∙ ap (λ n. shade_of view list (sample.k + 1) sample.i n) row
    ∙ ap (λ t. cond t 0 (light_at (point_of view Height sample.i sample.j (sample.k + 1 - 1)) list)) (ne_eqb (sample.k + 1) 0 (λ e. omega (arith, e)))
    ∙ ap (λ k. light_at (point_of view Height sample.i sample.j k) list) layer)

-- the numbers of one more lane
pub lane-set : (row : List ℤ) (lane : ℕ) (v : ℤ) (f : ℕ → ℤ) → lane < length row → v ≡ f lane → ((n : ℕ) → n < lane → in_lane n row ≡ f n) → (n : ℕ) → n < lane + 1 → in_lane n (set row lane v) ≡ f n
lane-set row lane v f within is before n h = by (cases_eq n lane)
  where
    by : (n ≡ lane) ⊎ (n ≡ lane → ⊥) → in_lane n (set row lane v) ≡ f n
    by (inl same) = ap (λ m. in_lane m (set row lane v)) same ∙ get_or-set_same row lane v (pos 0) within ∙ is ∙ ap f (sym same)
    by (inr other) = get_or-set_other row lane n v (pos 0) other ∙ before n (omega (arith, h, other))
