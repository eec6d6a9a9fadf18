-- Each text has one judgement.
use Rattle.std.proofs.Common.{◌≡◌, ℕ, ◌<◌, ◌≤◌, ◌⊎◌, inl, inr, List, refl, ap, sym, ◌∙◌, arith}
use Rattle.std.proofs.lemmas.Bool.{cases_lt}
use Rattle.solid_lang.specs.declared.solid_fault.SolidFault.{SolidFault}
use Rattle.solid_lang.specs.declared.solid_reason.SolidReason.{SolidReason}
use Rattle.solid_lang.specs.declared.solid_reason.SolidReason.TheVariants.{TooMany}
use Rattle.solid_lang.specs.Counts.{clause_count}
use Rattle.solid_lang.specs.Gives.{HasClauses}
use Rattle.solid_lang.specs.Judged.{fault_at}
use Rattle.solid_lang.specs.NumberedTokens.{numbered_tokens}
use Rattle.solid_lang.specs.Reading.{SolidReads}
use Rattle.solid_lang.specs.Refusing.{SolidRefuses, TokensRefuse}
use Rattle.solid_lang.specs.Solids.{SolidTree}
use Rattle.solid_lang.proofs.BuildLemmas.{one-read}
use Rattle.solid_lang.proofs.Judging.{each_answered, never_both, tokens_refuse_once}

pub each_judged : (text : List ℕ) → ((clauses : ℕ) × HasClauses text clauses) ⊎ ((fault : SolidFault) × SolidRefuses text fault.line fault.reason)
each_judged text = by (each_answered (numbered_tokens text))
  where
    count : (s : SolidTree) → SolidReads text s → (65535 < clause_count s) ⊎ (clause_count s ≤ 65535)
        → ((clauses : ℕ) × HasClauses text clauses) ⊎ ((fault : SolidFault) × SolidRefuses text fault.line fault.reason)
    count s reads (inr few) = inl (clause_count s, record { solid = s; reads = reads; count = refl; few = few })
    count s reads (inl many) = inr (fault_at 0 TooMany, inr (record { solid = s; read = reads; many = many; zero = refl; too_many = refl }))

    by : ((s : SolidTree) × SolidReads text s) ⊎ ((f : SolidFault) × TokensRefuse (numbered_tokens text) f.line f.reason)
        → ((clauses : ℕ) × HasClauses text clauses) ⊎ ((fault : SolidFault) × SolidRefuses text fault.line fault.reason)
    by (inl h) = count h.0 h.1 (cases_lt 65535 (clause_count h.0))
    by (inr h) = inr (h.0, inl h.1)

pub none_judged_and_refused : (text : List ℕ) (clauses : ℕ) (f : SolidFault) → HasClauses text clauses → SolidRefuses text f.line f.reason → ⊥
none_judged_and_refused text clauses f has (inl x) = never_both (numbered_tokens text) has.solid f.line f.reason has.reads x
none_judged_and_refused text clauses f has (inr y) =
    let same : has.solid ≡ y.solid = one-read (numbered_tokens text) has.solid y.solid has.reads y.read in
    let counts : clause_count has.solid ≡ clause_count y.solid = ap (λ (s : SolidTree). clause_count s) same in
    omega (arith, counts, has.count, has.few, y.many)

pub one_count : (text : List ℕ) (a b : ℕ) → HasClauses text a → HasClauses text b → a ≡ b
one_count text a b x y =
    let same : x.solid ≡ y.solid = one-read (numbered_tokens text) x.solid y.solid x.reads y.reads in
    x.count ∙ (ap (λ (s : SolidTree). clause_count s) same ∙ sym y.count)

pub one_fault : (text : List ℕ) (a b : SolidFault) → SolidRefuses text a.line a.reason → SolidRefuses text b.line b.reason → a ≡ b
one_fault text a b (inl x) (inl y) = tokens_refuse_once (numbered_tokens text) a b x y
one_fault text a b (inl x) (inr y) = absurd (never_both (numbered_tokens text) y.solid a.line a.reason y.read x)
one_fault text a b (inr x) (inl y) = absurd (never_both (numbered_tokens text) x.solid b.line b.reason x.read y)
one_fault text a b (inr x) (inr y) =
    ap (λ (line : ℕ). fault_at line a.reason) (x.zero ∙ sym y.zero)
    ∙ ap (λ (reason : SolidReason). fault_at b.line reason) (x.too_many ∙ sym y.too_many)
