-- What the readers give, from what is told of the tokens.
use Rattle.std.proofs.Common.{◌≡◌, ℕ, ◌<◌, ◌≤◌, List, [], Option, Some, None, Result, Ok, Err, refl, sym, ◌∙◌, ap, subst, inl, inr, arith}
use Rattle.std.specs.Prelude.{IfErr, IfOk, IsSome}
use Rattle.std.specs.Option.{option_map_or}
use Rattle.solid_lang.specs.declared.solid.Solid.{Solid}
use Rattle.solid_lang.specs.declared.solid_fault.SolidFault.{SolidFault}
use Rattle.solid_lang.specs.declared.solid_reason.SolidReason.{SolidReason}
use Rattle.solid_lang.specs.declared.solid_reason.SolidReason.TheVariants.{NoMemory, TooMany}
use Rattle.solid_lang.specs.Building.{solid_read}
use Rattle.solid_lang.specs.Counts.{clause_count}
use Rattle.solid_lang.specs.Gives.{GivesShortSolid, GivesSolid, HasClauses, LacksMemory, LacksRoom, ReadsShort, Withholds, WithholdsShort}
use Rattle.solid_lang.specs.Judged.{capped, fault_at, judged}
use Rattle.solid_lang.specs.NumberedTokens.{numbered_tokens}
use Rattle.solid_lang.specs.Reading.{SolidReads}
use Rattle.solid_lang.specs.Refusing.{HasTooMany, NoSolid, SolidRefuses}
use Rattle.solid_lang.specs.Solids.{SolidTree, tree}
use Rattle.solid_lang.specs.Wants.{whole_solid}
use Rattle.solid_lang.proofs.BuildLemmas.{whole-built}
use Rattle.solid_lang.proofs.Judging.{judged-counts, no-memory, told-refuses}
use Rattle.solid_lang.proofs.Passing.{Tokens}

capped-few : (n k : ℕ) → n ≡ capped k → n ≤ 65535 → n ≡ k
capped-few n k e few = omega arith

capped-many : (n k : ℕ) → n ≡ capped k → 65535 < n → 65535 < k
capped-many n k e many = omega arith

pub judges-few : (text : List ℕ) (n : ℕ) → Ok n ≡ judged 3 None whole_solid (numbered_tokens text) → n ≤ 65535 → HasClauses text n
judges-few text n e few =
    let h = judged-counts (numbered_tokens text) n (sym e) in
    record { solid = h.solid; reads = h.read; count = capped-few n _ h.count few; few = few }

pub judges-many : (text : List ℕ) (n : ℕ) → Ok n ≡ judged 3 None whole_solid (numbered_tokens text) → 65535 < n → SolidRefuses text 0 TooMany
judges-many text n e many =
    let h = judged-counts (numbered_tokens text) n (sym e) in
    inr (record { solid = h.solid; read = h.read; many = capped-many n _ h.count many; zero = refl; too_many = refl })

pub judges-fault : (text : List ℕ) (f : SolidFault) → Err f ≡ judged 3 None whole_solid (numbered_tokens text) → SolidRefuses text f.line f.reason
judges-fault text f e = inl (told-refuses (numbered_tokens text) f (sym e))

withheld : (text : List ℕ) (line : ℕ) (reason : SolidReason) → NoSolid text line reason → Withholds text line reason
withheld text line NoMemory h = absurd (no-memory (numbered_tokens text) line h)
withheld text line reason h = h

pub gives-fault : (text : List ℕ) (f : SolidFault) → Err f ≡ judged 3 None whole_solid (numbered_tokens text) → Withholds text f.line f.reason
gives-fault text f e = withheld text f.line f.reason (told-refuses (numbered_tokens text) f (sym e))

pub gives-solid : (text : List ℕ) (n : ℕ) (s : Solid) (rest : Tokens) → Ok n ≡ judged 3 None whole_solid (numbered_tokens text)
    → solid_read 256 (numbered_tokens text) ≡ Some (tree s, rest) → SolidReads text (tree s)
gives-solid text n s rest e built =
    let h = judged-counts (numbered_tokens text) n (sym e) in
    let same : Some (h.solid, []) ≡ Some (tree s, rest) = sym (whole-built (numbered_tokens text) h.solid h.read) ∙ built in
    subst (λ (solid : SolidTree). SolidReads text solid)
    (ap (λ (read : Option (SolidTree × Tokens)). option_map_or (λ (pair : SolidTree × Tokens). pair.0) read h.solid) same) h.read

pub gives-memory : (text : List ℕ) (n : ℕ) → Ok n ≡ judged 3 None whole_solid (numbered_tokens text) → LacksMemory text 0
gives-memory text n e =
    let h = judged-counts (numbered_tokens text) n (sym e) in
    record { solid = h.solid; reads = h.read; zero = refl }

pub can-build : (text : List ℕ) (n : ℕ) → Ok n ≡ judged 3 None whole_solid (numbered_tokens text) → IsSome (solid_read 256 (numbered_tokens text))
can-build text n e =
    let h = judged-counts (numbered_tokens text) n (sym e) in
    rw (whole-built (numbered_tokens text) h.solid h.read) refl

-- what building gives, told as a reading
pub gives-lack : (text : List ℕ) (n : ℕ) (f : SolidFault) → Ok n ≡ judged 3 None whole_solid (numbered_tokens text)
    → f ≡ fault_at 0 NoMemory → Withholds text f.line f.reason
gives-lack text n f e same =
    subst (λ (g : SolidFault). Withholds text g.line g.reason) (sym same) (gives-memory text n e)

-- a solid of so many clauses can be built
pub can-build-short : (text : List ℕ) (n : ℕ) → HasClauses text n → IsSome (solid_read 256 (numbered_tokens text))
can-build-short text n h = rw (whole-built (numbered_tokens text) h.solid h.reads) refl

-- and is built as the one that the text says
pub gives-short : (text : List ℕ) (n : ℕ) (s : Solid) (rest : Tokens) → HasClauses text n
    → solid_read 256 (numbered_tokens text) ≡ Some (tree s, rest) → ReadsShort text (tree s)
gives-short text n s rest h built =
    let few : clause_count h.solid ≤ 65535 = omega (arith, h.count, h.few) in
    let same : Some (h.solid, []) ≡ Some (tree s, rest) = sym (whole-built (numbered_tokens text) h.solid h.reads) ∙ built in
    subst (λ (solid : SolidTree). ReadsShort text solid)
    (ap (λ (read : Option (SolidTree × Tokens)). option_map_or (λ (pair : SolidTree × Tokens). pair.0) read h.solid) same)
    (record { reads = h.reads; few = few })

pub lacks-short : (text : List ℕ) (n : ℕ) (f : SolidFault) → HasClauses text n → f ≡ fault_at 0 NoMemory → WithholdsShort text f.line f.reason
lacks-short text n f h same =
    let few : clause_count h.solid ≤ 65535 = omega (arith, h.count, h.few) in
    let lacks : LacksRoom text 0 = record { solid = h.solid; reads = record { reads = h.reads; few = few }; zero = refl } in
    subst (λ (g : SolidFault). WithholdsShort text g.line g.reason) (sym same) lacks

withheld-short : (text : List ℕ) (line : ℕ) (reason : SolidReason) → SolidRefuses text line reason → WithholdsShort text line reason
withheld-short text line NoMemory (inl h) = absurd (no-memory (numbered_tokens text) line h)
withheld-short text line NoMemory (inr h) = let e : NoMemory ≡ TooMany = h.too_many in absurd (cc)
withheld-short text line reason h = h

pub refuses-short : (text : List ℕ) (f : SolidFault) → SolidRefuses text f.line f.reason → WithholdsShort text f.line f.reason
refuses-short text f h = withheld-short text f.line f.reason h

-- what building all tokens gives
abbrev Built : List ℕ → Result Solid SolidFault → Type 0
Built text r = IfOk r (λ s. (rest : Tokens) × (solid_read 256 (numbered_tokens text) ≡ Some (tree s, rest)))

abbrev Lacks : Result Solid SolidFault → Type 0
Lacks r = IfErr r (λ f. f ≡ fault_at 0 NoMemory)

pub gives-built : (text : List ℕ) (n : ℕ) (r : Result Solid SolidFault) → Ok n ≡ judged 3 None whole_solid (numbered_tokens text)
    → Built text r → Lacks r → GivesSolid text r
gives-built text n (Ok s) e built lacks = gives-solid text n s built.0 e built.1
gives-built text n (Err f) e built lacks = gives-lack text n f e lacks

pub gives-built-short : (text : List ℕ) (n : ℕ) (r : Result Solid SolidFault) → HasClauses text n → Built text r → Lacks r → GivesShortSolid text r
gives-built-short text n (Ok s) h built lacks = gives-short text n s built.0 h built.1
gives-built-short text n (Err f) h built lacks = lacks-short text n f h lacks
