-- Marks that are looked at together: a mask of them tells the first in a lane.
use Rattle.std.proofs.Common.{◌≡◌, ℕ, ◌+◌, ◌*◌, ◌%◌, ◌^◌, ◌<◌, ◌≤◌, Bool, true, not, cond, eqb, ltb, bit_and, List, length, map, replicate, get_or, inl, inr, ap, sym, ◌∙◌, w8, zero-mul, arith}
use Rattle.std.specs.Int.{bit_at, trailing_zeros, w64}
use Rattle.std.specs.List.{prefix_len}
use Rattle.std.proofs.lemmas.List.{length-map}
use Rattle.std.proofs.lemmas.Bool.{ne_eqb}
use Rattle.std.proofs.lemmas.Nat.{one_shl, pow_pos}
use Rattle.std.proofs.lemmas.Nat.Bits.{and_pow, bit_at-lt}
use Rattle.std.proofs.lemmas.Simd.{bitmask_splat, first_set_mask_l, length-chunk, map-map, run_in_chunk_fails, run_in_chunk_le, run_in_chunk_stops, zip2_splat}
use lib.Lanes.{chunk, mask_l, top, zip2}
use Rattle.live_clauses.specs.Choices.{has_bit}
use Rattle.live_clauses.specs.Marks.{AreIdle, is_marked}
use Rattle.live_clauses.proofs.Bits.{zero_or_one}

-- how a mark in a lane is told
abbrev told : ℕ → ℕ → Bool
told l byte = not (eqb (bit_and byte (1 * 2 ^ l % 2 ^ 8)) 0)

told-is : (l byte : ℕ) → l < 8 → told l byte ≡ has_bit byte l
told-is l byte within =
    let bit : bit_and byte (1 * 2 ^ l % 2 ^ 8) ≡ bit_at byte l * 2 ^ l = ap (bit_and byte) (one_shl l 8 within) ∙ and_pow byte l in
    ap (λ n. not (eqb n 0)) bit ∙ by_bit (bit_at byte l) (bit_at-lt byte l)
  where
    by_bit : (n : ℕ) → n < 2 → not (eqb (n * 2 ^ l) 0) ≡ ltb 0 n
    by_bit n less = elim (zero_or_one n less) [
      | inl none ↦ ap (λ m. not (eqb (m * 2 ^ l) 0)) none ∙ ap (λ m. not (eqb m 0)) (zero-mul (2 ^ l)) ∙ sym (ap (ltb 0) none)
      | inr one ↦ ap (λ m. not (eqb (m * 2 ^ l) 0)) one ∙ ap not (ne_eqb (1 * 2 ^ l) 0 (omega (arith, pow_pos l))) ∙ sym (ap (ltb 0) one)
    ]

module _ (marks : List ℕ) (l at found : ℕ) (within : l < 8) (room : at + 16 ≤ length marks)
    (is : found ≡ cond (eqb (mask_l (map (top 7) (zip2 (λ a b. cond (not (eqb a b)) 255 0) (zip2 bit_and (chunk at 16 marks) (replicate 16 (1 * 2 ^ l % 2 ^ 8))) (replicate 16 0))) % 2 ^ 64) 0) 16
    (trailing_zeros w64 (mask_l (map (top 7) (zip2 (λ a b. cond (not (eqb a b)) 255 0) (zip2 bit_and (chunk at 16 marks) (replicate 16 (1 * 2 ^ l % 2 ^ 8))) (replicate 16 0))) % 2 ^ 64))) where
  counted : found ≡ prefix_len (λ x. not (told l x)) (chunk at 16 marks)
  counted =
      let v = chunk at 16 marks in
      let bit = 1 * 2 ^ l % 2 ^ 8 in
      let long : length v ≡ 16 = length-chunk at 16 marks room in
      let mask = ap (λ lanes. mask_l (map (top 7) (zip2 (λ a b. cond (not (eqb a b)) 255 0) lanes (replicate 16 0))) % 2 ^ 64) (zip2_splat bit_and v 16 bit long)
      ∙ bitmask_splat w8 (λ a b. not (eqb a b)) (map (λ x. bit_and x bit) v) 16 0 (length-map v (λ x. bit_and x bit) ∙ long) (omega arith)
      ∙ ap mask_l (map-map (λ x. not (eqb x 0)) (λ x. bit_and x bit) v) in
      is ∙ ap (λ m. cond (eqb m 0) 16 (trailing_zeros w64 m)) mask ∙ first_set_mask_l (told l) v 16 long (omega arith)

  pub found-few : found ≤ 16
  found-few = run_in_chunk_le (told l) marks at 16 found 0 room counted

  pub found-idle : AreIdle l marks at (at + found)
  found-idle place from to = sym (told-is l (get_or marks place 0) within) ∙ run_in_chunk_fails (told l) marks at 16 found 0 room counted place from to

  pub found-there : found < 16 → is_marked l marks (at + found) ≡ true
  found-there short = sym (told-is l (get_or marks (at + found) 0) within) ∙ run_in_chunk_stops (told l) marks at 16 found 0 room counted short
