-- What the steps of a list read lies in each memory that they lie in.
use Rattle.std.proofs.Common.{ℤ, ◌≡◌, ℕ, ◌<◌, ◌≤◌, Bool, true, false, cond, ltb, List, length, map, get_or, inl, inr, refl, ap, sym, ◌∙◌, arith}
use Rattle.std.proofs.lemmas.Bool.{cases_lt}
use Rattle.std.proofs.lemmas.Bool.Decides.{Decides-ltb}
use Rattle.fixed_ops.specs.Arity.{arity_of}
use Rattle.live_clauses.specs.declared.packed_step.PackedStep.{PackedStep}
use Rattle.live_clauses.specs.Packed.{first_of, is_constant, unpacked}
use Rattle.live_clauses.specs.Steps.{IsTape}
use Rattle.live_clauses.proofs.MarkTurns.{first_within, second_within}
use Rattle.live_clauses.proofs.Stored.{constant-arity, first-kept, read-stands, read-stored}

-- the place that is marked for a first operand
pub first-index : (kept : PackedStep) (operands : ℕ) → operands ≡ arity_of kept.op → (arity_of kept.op ≡ 0 → first_of kept ≡ 0) → cond (ltb 0 operands) kept.a 0 ≡ first_of kept
first-index kept operands is none = by_kind (is_constant kept.op) refl
  where
    by_arity : (n : ℕ) → (n ≡ 0 → first_of kept ≡ 0) → first_of kept ≡ kept.a → cond (ltb 0 n) kept.a 0 ≡ first_of kept
    by_arity n zeroed same = elim (cases_lt 0 n) [
      | inl some ↦ ap (λ b. cond b kept.a 0) ((Decides-ltb 0 n).1 some) ∙ sym same
      | inr none_there ↦ let is_zero : n ≡ 0 = omega (arith, none_there) in ap (λ m. cond (ltb 0 m) kept.a 0) is_zero ∙ sym (zeroed is_zero)
    ]

    by_kind : (b : Bool) → is_constant kept.op ≡ b → cond (ltb 0 operands) kept.a 0 ≡ first_of kept
    by_kind true constant =
        let zero_of : arity_of kept.op ≡ 0 = constant-arity kept.op constant in
        ap (λ n. cond (ltb 0 n) kept.a 0) (is ∙ zero_of) ∙ sym (none zero_of)
    by_kind false other = by_arity operands (λ zeroed. none (sym is ∙ zeroed)) (first-kept kept other)

module _ (constants : List ℤ) (kept : List PackedStep) (tape : IsTape (map (unpacked constants) kept)) where
  -- the operands of a step lie in each memory that it lies in
  pub reads-first : (at bound : ℕ) (read : PackedStep) → at < length kept → at < bound → read ≡ get_or kept at read → first_of read < bound
  reads-first at bound read within room is = first_within at bound (unpacked constants read) (read-stands constants kept tape.each at read within is) room

  pub reads-second : (at bound : ℕ) (read : PackedStep) → at < length kept → at < bound → read ≡ get_or kept at read → read.b < bound
  reads-second at bound read within room is = second_within at bound (unpacked constants read) (read-stands constants kept tape.each at read within is) room

  -- so does the place of a number, where there is room for as many numbers
  pub reads-kept : (at bound : ℕ) (read : PackedStep) → at < length kept → at < bound → length constants ≤ bound → read ≡ get_or kept at read → read.a < bound
  reads-kept at bound read within room table is = by_kind (is_constant read.op) refl
    where
      by_kind : (b : Bool) → is_constant read.op ≡ b → read.a < bound
      by_kind true constant = omega (arith, table, read-stored constants kept tape.each at read within is constant)
      by_kind false other = omega (arith, first-kept read other, reads-first at bound read within room is)

  -- a step without operands has none
  pub reads-none : (at : ℕ) (read : PackedStep) → at < length kept → read ≡ get_or kept at read → arity_of read.op ≡ 0 → first_of read ≡ 0
  reads-none at read within is none = (read-stands constants kept tape.each at read within is).fits.no_first none
