-- Rows of eight samples, whose bytes the digits of a number tell.
use Rattle.std.proofs.Common.{◌≡◌, ℕ, zero, suc, ◌+◌, ◌-◌, ◌*◌, ◌/◌, ◌%◌, ◌^◌, ◌<◌, ◌≤◌, Bool, true, not, cond, eqb, bit_and, List, [], ◌∷◌, length, map, get_or, replicate, refl, sym, ap, subst, ◌∙◌, ◌⊎◌, inl, inr, arith}
use Rattle.std.specs.Prelude.{◌==◌, nat_le, nat_lt}
use Rattle.std.specs.List.{range_with_len}
use Rattle.std.proofs.Math.Nat.{div-div-eq-div-mul, div-one, pow-suc}
use Rattle.std.proofs.lemmas.Bool.{agree_below_at, and_parts, cases_lt, eqb-true, le-leb, le-ltb, lt-leb, lt-ltb, leb-true, ltb-true}
use Rattle.std.proofs.lemmas.Simd.{get_or-put_chunk_above, get_or-put_chunk_at, get_or-put_chunk_below, length-put_chunk}
use lib.Lanes.{put_chunk, sel_l, top, zip2}
use Rattle.fixed_ops.specs.Raw.{is_inside}
use Rattle.live_clauses.specs.Steps.{tape_value}
use Rattle.live_clauses.specs.declared.step.Step.{Step}
use Rattle.view_places.specs.Boxes.{Indices, IsBox}
use Rattle.view_places.specs.Places.{point_of}
use Rattle.view_places.specs.Spans.{IsInRoot}
use Rattle.view_places.specs.Window.{Window}
use Rattle.view_places.specs.declared.lattice.Lattice.TheVariants.{Raster}
use Rattle.quad_descent.specs.Nodes.{bits_of, insides}
use Rattle.quad_descent.specs.Painting.{Paints, among, byte_at, digit_byte}
use Rattle.quad_descent.proofs.PaintLaws.{Paints-bytes, byte-there, digit-read}

-- the digits of a number that are left after so many
module _ (f : ℕ → Bool) (x0 x1 bits : ℕ) (is : bits ≡ bits_of (map f (range_with_len x0 (x1 - x0)))) where
  left : (n : ℕ) → n < x1 - x0 → bits / 2 ^ n ≡ bits_of (map f (range_with_len x0 (x1 - x0 - n)))
  left zero less =
      let all : x1 - x0 ≡ x1 - x0 - 0 = omega arith in div-one bits ∙ is ∙ ap (λ m. bits_of (map f (range_with_len x0 m))) all
  left (suc n) less =
      let next : n + 1 ≡ suc n = omega arith in
      ap (λ m. bits / m) (pow-suc 2 n) ∙ sym (div-div-eq-div-mul bits (2 ^ n) 2)
      ∙ (digit-read f x0 x1 n (bits / 2 ^ n) (omega (arith, less)) (left n (omega (arith, less)))).0
      ∙ ap (λ m. bits_of (map f (range_with_len x0 (x1 - x0 - m)))) next

  pub digit-told : (n : ℕ) → n < x1 - x0 → (bits / 2 ^ n % 2 == 1) ≡ f (x1 - 1 - n)
  digit-told n less = (digit-read f x0 x1 n (bits / 2 ^ n) less (left n less)).1

-- what is written for a number
abbrev pub eight : ℕ → List ℕ
eight bits =
    sel_l (map (top 7) (zip2 (λ a b. cond (not (eqb a b)) 255 0) (zip2 bit_and (replicate 8 bits) (128 ∷ 64 ∷ 32 ∷ 16 ∷ 8 ∷ 4 ∷ 2 ∷ 1 ∷ [])) (replicate 8 0)))
    (replicate 8 255) (replicate 8 0)

eight-is : (bits k : ℕ) → bits < 256 → k < 8 → get_or (eight bits) k 0 ≡ digit_byte bits (7 - k)
eight-is bits k fits within =
    let m = bits * 8 + k in
    let number : m / 8 ≡ bits = omega (arith, within) in
    let place : m % 8 ≡ k = omega (arith, within) in
    eqb-true (get_or (eight bits) k 0) (digit_byte bits (7 - k))
    (subst (λ n. eqb (get_or (eight n) k 0) (digit_byte n (7 - k)) ≡ true) number
    (subst (λ n. eqb (get_or (eight (m / 8)) n 0) (digit_byte (m / 8) (7 - n)) ≡ true) place
    (agree_below_at (λ m. eqb (get_or (eight (m / 8)) (m % 8) 0) (digit_byte (m / 8) (7 - m % 8))) (λ _. true) 2048 m refl (omega (arith, fits, within)))))

pub eight-painted : (bits from : ℕ) (xs : List ℕ) → bits < 256 → from + 8 ≤ length xs
    → Paints (among from (from + 8)) (λ p. digit_byte bits (from + 7 - p)) xs (put_chunk from xs (eight bits))
eight-painted bits from xs fits room = record {
  same = length-put_chunk from xs (eight bits);
  each = λ p h. by p (cases_lt p from) (cases_lt p (from + 8));
}
  where
    by : (p : ℕ) → (p < from) ⊎ (from ≤ p) → (p < from + 8) ⊎ (from + 8 ≤ p)
        → get_or (put_chunk from xs (eight bits)) p 0 ≡ cond (among from (from + 8) p) (digit_byte bits (from + 7 - p)) (get_or xs p 0)
    by p (inl before) _ = rw (lt-leb from p before) (get_or-put_chunk_below from xs (eight bits) p 0 before)
    by p (inr after) (inl within) =
        let there : from + (p - from) ≡ p = omega (arith, after) in
        let digit : 7 - (p - from) ≡ from + 7 - p = omega (arith, after, within) in
        rw (le-leb from p after, lt-ltb p (from + 8) within)
        (ap (λ q. get_or (put_chunk from xs (eight bits)) q 0) (sym there)
        ∙ get_or-put_chunk_at from xs (eight bits) (p - from) 0 (omega (arith, after, within)) room
        ∙ eight-is bits (p - from) fits (omega (arith, after, within))
        ∙ ap (digit_byte bits) digit)
    by p (inr after) (inr past) =
        rw (le-leb from p after, le-ltb p (from + 8) past) (get_or-put_chunk_above from xs (eight bits) p 0 past)

-- a row of eight samples is painted
pub row-painted : (view : Window) (list : List Step) (row j bits from : ℕ) (b : Indices) (xs ys : List ℕ)
    → IsBox b → IsInRoot view Raster b → row ≤ j → b.x1 - b.x0 ≡ 8 → from ≡ (j - row) * view.w + b.x0
    → bits ≡ bits_of (insides view Raster list b j)
    → Paints (among from (from + 8)) (λ p. digit_byte bits (from + 7 - p)) xs ys
    → Paints (among ((j - row) * view.w + b.x0) ((j - row) * view.w + b.x1)) (byte_at view list row) xs ys
row-painted view list row j bits from b xs ys is within above wide begin told painted =
    let start = (j - row) * view.w in
    let f : ℕ → Bool = λ i. is_inside (tape_value (point_of view Raster i j b.z0) list) in
    let end : from + 8 ≡ start + b.x1 = omega (arith, begin, wide) in
    Paints-bytes (among (start + b.x0) (start + b.x1)) (λ p. digit_byte bits (from + 7 - p)) (byte_at view list row) xs ys
    (λ p h e.
    let parts = and_parts (nat_le (start + b.x0) p) (nat_lt p (start + b.x1)) e in
    let low = leb-true (start + b.x0) p parts.0 in
    let high = ltb-true p (start + b.x1) parts.1 in
    let i = p - start in
    let there : start + i ≡ p = omega (arith, low) in
    let column : b.x1 - 1 - (from + 7 - p) ≡ i = omega (arith, begin, wide, low, high) in
    ap (λ t. cond t 255 0) (digit-told f b.x0 b.x1 bits told (from + 7 - p) (omega (arith, begin, wide, low, high)) ∙ ap f column)
    ∙ byte-there view list row j i b (omega (arith, high, low, within.x)) above (omega (arith, is.z, within.z))
    ∙ ap (byte_at view list row) there)
    (subst (λ n. Paints (among (start + b.x0) n) (λ p. digit_byte bits (from + 7 - p)) xs ys) end
    (subst (λ n. Paints (among n (from + 8)) (λ p. digit_byte bits (from + 7 - p)) xs ys) begin painted))
