-- The samples of a box by their numbers, and the digits of its rows.
use Rattle.std.proofs.Common.{◌≡◌, ◌^◌, ℕ, zero, suc, ◌+◌, ◌-◌, ◌*◌, ◌/◌, ◌%◌, ◌<◌, ◌≤◌, Bool, true, false, cond, List, [], ◌∷◌, ◌++◌, length, map, refl, sym, ap, subst, ◌∙◌, arith, add-zero, append-nil, append_assoc, mul_comm}
use Rattle.std.specs.Prelude.{nat_lt}
use Rattle.std.specs.List.{range_with_len}
use Rattle.std.proofs.lemmas.Bool.{ltb-true}
use Rattle.std.proofs.lemmas.Nat.{div-add-mod', div-mul-add, div_below, mod-mul-add, shr_high, mod_low}
use Rattle.std.proofs.Math.Pow.{pow_mono}
use Rattle.std.proofs.lemmas.List.FromFn.{length-map-range_with_len, map-range_with_len_more}
use Rattle.fixed_ops.specs.Counts.{Counts, RisesBy, points_of}
use Rattle.fixed_ops.specs.Laws.{TalliesAddUp}
use Rattle.fixed_ops.specs.Raw.{is_inside}
use Rattle.live_clauses.specs.Steps.{tape_value}
use Rattle.live_clauses.specs.declared.step.Step.{Step}
use Rattle.view_places.specs.Boxes.{Indices}
use Rattle.view_places.specs.Places.{point_of, steps_of}
use Rattle.view_places.specs.Spans.{IsInRoot}
use Rattle.view_places.specs.Window.{Window}
use Rattle.view_places.specs.declared.lattice.Axis.TheVariants.{Y}
use Rattle.view_places.specs.declared.lattice.Lattice.{Lattice}
use Rattle.view_places.specs.declared.lattice.Lattice.TheVariants.{Raster, Height, Grid}
use Rattle.quad_descent.specs.Nodes.{bits_of, insides, rows_of}
use Rattle.quad_descent.specs.Scans.{cut, insides_upto, nth_point, row_digits, row_of, sample_count}
use Rattle.quad_descent.proofs.Leaves.{bits-append, bits-below, bits-more}

-- the next sample stands in the same row, or first in the next
pub next-column : (n w : ℕ) → n % w + 1 < w → ((n + 1) % w ≡ n % w + 1) × ((n + 1) / w ≡ n / w)
next-column n w below =
    let parts = div-add-mod' n w in
    let whole : n + 1 ≡ n / w * w + (n % w + 1) = omega (arith, parts) in
    (ap (λ k. k % w) whole ∙ mod-mul-add (n / w) w (n % w + 1) below, ap (λ k. k / w) whole ∙ div-mul-add (n / w) w (n % w + 1) below)

pub next-row : (n w : ℕ) → n % w + 1 ≡ w → ((n + 1) % w ≡ 0) × ((n + 1) / w ≡ n / w + 1)
next-row n w full =
    let parts = div-add-mod' n w in
    let once : (n / w + 1) * w ≡ n / w * w + w = grind arith in
    let whole : n + 1 ≡ (n / w + 1) * w + 0 = omega (arith, parts, once, full) in
    (ap (λ k. k % w) whole ∙ mod-mul-add (n / w + 1) w 0 (omega (arith, full)), ap (λ k. k / w) whole ∙ div-mul-add (n / w + 1) w 0 (omega (arith, full)))

-- so many numbers in two parts
map-parts : {X : Type 0} (f : ℕ → X) (low m n : ℕ) → map f (range_with_len low (m + n)) ≡ map f (range_with_len low m) ++ map f (range_with_len (low + m) n)
map-parts f low m zero = ap (λ k. map f (range_with_len low k)) (add-zero m) ∙ sym (append-nil (map f (range_with_len low m)))
map-parts f low m (suc n) =
    ap (λ k. map f (range_with_len low k)) (omega arith)
    ∙ map-range_with_len_more f low (m + n) (low + m + n) (omega arith)
    ∙ ap (λ l. l ++ f (low + m + n) ∷ []) (map-parts f low m n)
    ∙ append_assoc (map f (range_with_len low m)) (map f (range_with_len (low + m) n)) (f (low + m + n) ∷ [])
    ∙ ap (λ l. map f (range_with_len low m) ++ l) (sym (map-range_with_len_more f (low + m) n (low + m + n) refl))
    ∙ ap (λ k. map f (range_with_len low m) ++ map f (range_with_len (low + m) k)) (next n)
  where
    next : (n : ℕ) → n + 1 ≡ suc n
    next n = omega arith

-- two maps that agree from two starts on
map-shifted : {X : Type 0} (f g : ℕ → X) (a b n : ℕ) → ((c i j : ℕ) → c < n → a + c ≡ i → b + c ≡ j → f i ≡ g j) → map f (range_with_len a n) ≡ map g (range_with_len b n)
map-shifted f g a b zero same = refl
map-shifted f g a b (suc n) same =
    ap (λ x. x ∷ map f (range_with_len (a + 1) n)) (same 0 a b (omega arith) (omega arith) (omega arith))
    ∙ ap (λ l. g b ∷ l) (map-shifted f g (a + 1) (b + 1) n (λ c i j h p q. same (c + 1) i j (omega (arith, h)) (omega (arith, p)) (omega (arith, q))))

-- the samples of a row stand behind those of the rows above it, and before those below it
row-among : (w h r : ℕ) → r < h → w * h ≡ r * w + w + (h - 1 - r) * w
row-among w h r within =
    let t = h - 1 - r in
    let rows : h ≡ r + 1 + t = omega (arith, within) in
    ap (λ k. w * k) rows ∙ spread w r t
  where
    spread : (w r t : ℕ) → w * (r + 1 + t) ≡ r * w + w + t * w
    spread w r t = grind arith

-- the digits of a row among those of all
cut-row : (f : ℕ → Bool) (w h r : ℕ) → r < h
    → row_digits (bits_of (map f (range_with_len 0 (w * h)))) w h r ≡ bits_of (map f (range_with_len (r * w) w))
cut-row f w h r within =
    let rest = (h - 1 - r) * w in
    let above = map f (range_with_len 0 (r * w)) in
    let row = map f (range_with_len (0 + r * w) w) in
    let below = map f (range_with_len (0 + (r * w + w)) rest) in
    let start : 0 + r * w ≡ r * w = omega arith in
    let few : length row ≡ w = length-map-range_with_len f (0 + r * w) w in
    let others : length below ≡ rest = length-map-range_with_len f (0 + (r * w + w)) rest in
    let all : bits_of (map f (range_with_len 0 (w * h))) ≡ bits_of (above ++ row) * 2 ^ rest + bits_of below =
    ap (λ n. bits_of (map f (range_with_len 0 n))) (row-among w h r within)
    ∙ ap bits_of (map-parts f 0 (r * w + w) rest ∙ ap (λ l. l ++ below) (map-parts f 0 (r * w) w))
    ∙ bits-append (above ++ row) below ∙ ap (λ n. bits_of (above ++ row) * 2 ^ n + bits_of below) others in
    let upper : bits_of (above ++ row) ≡ bits_of above * 2 ^ w + bits_of row =
    bits-append above row ∙ ap (λ n. bits_of above * 2 ^ n + bits_of row) few in
    ap (λ n. n / 2 ^ rest % 2 ^ w) all
    ∙ ap (λ n. n % 2 ^ w) (shr_high (bits_of (above ++ row)) rest (bits_of below) (subst (λ n. bits_of below < 2 ^ n) others (bits-below below)))
    ∙ ap (λ n. n % 2 ^ w) upper
    ∙ mod_low (bits_of above) w (bits_of row) (subst (λ n. bits_of row < 2 ^ n) few (bits-below row))
    ∙ ap (λ n. bits_of (map f (range_with_len n w))) start

-- the rows of a leaf stand in the digits of its samples
pub rows-cut : (view : Window) (lattice : Lattice) (list : List Step) (b : Indices) (bits : ℕ) → bits ≡ bits_of (insides_upto view lattice list b (sample_count b))
    → cut bits (b.x1 - b.x0) (b.y1 - b.y0) ≡ rows_of view lattice list b
rows-cut view lattice list b bits is =
    let w = b.x1 - b.x0 in
    let h = b.y1 - b.y0 in
    map-shifted (λ r. cond (nat_lt r h) (row_digits bits w h r) 0) (λ r. cond (nat_lt r h) (bits_of (insides view lattice list b (b.y0 + r))) 0) 0 0 8
    (λ c i j few p q. subst (λ r. cond (nat_lt i h) (row_digits bits w h i) 0 ≡ cond (nat_lt r h) (bits_of (insides view lattice list b (b.y0 + r))) 0) (omega (arith, p, q)) (by i (nat_lt i h) refl))
  where
    row : (r : ℕ) → r < b.y1 - b.y0 → row_digits bits (b.x1 - b.x0) (b.y1 - b.y0) r ≡ bits_of (insides view lattice list b (b.y0 + r))
    row r within =
        let w = b.x1 - b.x0 in
        ap (λ n. row_digits n w (b.y1 - b.y0) r) is ∙ cut-row (λ n. is_inside (tape_value (nth_point view lattice b n) list)) w (b.y1 - b.y0) r within
        ∙ ap bits_of (map-shifted (λ n. is_inside (tape_value (nth_point view lattice b n) list)) (λ i. is_inside (tape_value (point_of view lattice i (b.y0 + r) b.z0) list)) (r * w) b.x0 w
        (λ c i j few p q.
        ap (λ m. is_inside (tape_value (point_of view lattice (b.x0 + m) (b.y0 + i / w) b.z0) list)) (ap (λ k. k % w) (sym p) ∙ mod-mul-add r w c few)
        ∙ ap (λ m. is_inside (tape_value (point_of view lattice m (b.y0 + i / w) b.z0) list)) q
        ∙ ap (λ m. is_inside (tape_value (point_of view lattice j (b.y0 + m) b.z0) list)) (ap (λ k. k / w) (sym p) ∙ div-mul-add r w c few)))

    by : (r : ℕ) (t : Bool) → nat_lt r (b.y1 - b.y0) ≡ t → cond t (row_digits bits (b.x1 - b.x0) (b.y1 - b.y0) r) 0 ≡ cond t (bits_of (insides view lattice list b (b.y0 + r))) 0
    by r true e = row r (ltb-true r (b.y1 - b.y0) e)
    by r false e = refl

-- each sample's row is one of the box, and so of the lattice
pub row-within : (view : Window) (lattice : Lattice) (b : Indices) (n : ℕ) → IsInRoot view lattice b → b.x0 < b.x1 → n < sample_count b → row_of b n ≤ steps_of view lattice Y
row-within view lattice b n inside some few =
    let room : n < (b.y1 - b.y0) * (b.x1 - b.x0) = omega (arith, few, mul_comm (b.x1 - b.x0) (b.y1 - b.y0)) in
    let below = div_below n (b.x1 - b.x0) (b.y1 - b.y0) (omega (arith, some)) room in
    last view lattice (omega (arith, below)) inside
  where
    last : (view : Window) (lattice : Lattice) → row_of b n < b.y1 → IsInRoot view lattice b → row_of b n ≤ steps_of view lattice Y
    last view Raster below inside = omega (arith, inside.y)
    last view Height below inside = omega (arith, inside.y)
    last view Grid below inside = omega (arith, inside.y)

-- a digit more fits
pub more-fits : (f : ℕ → Bool) (n bits digit : ℕ) → n < 64 → bits ≡ bits_of (map f (range_with_len 0 n)) → digit ≤ 1 → bits * 2 + digit < 2 ^ 64
more-fits f n bits digit few is one =
    let below = bits-below (map f (range_with_len 0 n)) in
    let short : length (map f (range_with_len 0 n)) ≤ 63 = omega (arith, few, length-map-range_with_len f 0 n) in
    let power : 2 ^ length (map f (range_with_len 0 n)) ≤ 2 ^ 63 = pow_mono short in
    omega (arith, below, power, is, one)

-- and stands last
pub more-told : (f : ℕ → Bool) (n bits digit : ℕ) → bits ≡ bits_of (map f (range_with_len 0 n)) → digit ≡ cond (f n) 1 0 → bits * 2 + digit ≡ bits_of (map f (range_with_len 0 (n + 1)))
more-told f n bits digit is one =
    let more = bits-more f 0 n n (omega arith) in
    omega (arith, is, one, more)

-- so many more samples are counted
pub more-counted : TalliesAddUp → (before mid after : Counts) (first told more next len : ℕ) → first ≤ told → next ≡ told + more → RisesBy before mid (points_of ((told - first) * len)) → RisesBy mid after (points_of (more * len))
    → RisesBy before after (points_of ((next - first) * len))
more-counted tallies before mid after first told more next len onward is one two =
    let sum : next - first ≡ (told - first) + more = omega (arith, onward, is) in
    subst (λ n. RisesBy before after (points_of n)) (sym (ap (λ k. k * len) sum ∙ both (told - first) more len))
    (tallies.sum before mid after (points_of ((told - first) * len)) (points_of (more * len)) one two)
  where
    both : (a b len : ℕ) → (a + b) * len ≡ a * len + b * len
    both a b len = grind arith
