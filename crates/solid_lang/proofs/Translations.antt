-- What the text of a solid is translated to.
use Rattle.std.proofs.Common.{◌≡◌, ◌≢◌, IsOk, ℕ, ◌<◌, ◌≤◌, Bool, true, false, List, None, Result, Ok, Err, nat_le, ◌⊎◌, inl, inr, refl, sym, ap, subst, ◌∙◌}
use Rattle.std.specs.Prelude.{IfErr, IsErrAnd}
use Rattle.std.proofs.lemmas.Bool.{cases_lt, le-leb, leb-false, leb-true, lt-leb}
use Rattle.clause_reader.specs.ModelText.{model_text}
use Rattle.solid_lang.specs.declared.solid_fault.SolidFault.{SolidFault}
use Rattle.solid_lang.specs.declared.solid_reason.SolidReason.{SolidReason}
use Rattle.solid_lang.specs.declared.solid_reason.SolidReason.TheVariants.{NoMemory, TooMany}
use Rattle.solid_lang.specs.Compiled.{compiled}
use Rattle.solid_lang.specs.Counts.{clause_count}
use Rattle.solid_lang.specs.Gives.{HasClauses, LacksRoom, WithholdsShort}
use Rattle.solid_lang.specs.Judged.{fault_at, judged}
use Rattle.solid_lang.specs.NumberedTokens.{numbered_tokens}
use Rattle.solid_lang.specs.Reading.{SolidReads}
use Rattle.solid_lang.specs.Refusing.{SolidRefuses}
use Rattle.solid_lang.specs.Solids.{SolidTree}
use Rattle.solid_lang.specs.Translated.{translated}
use Rattle.solid_lang.specs.TranslationLaws.{RefusalsStand, SaysValuesOf, SolidsAreTranslated, TranslationsKeepValues}
use Rattle.solid_lang.specs.Wants.{whole_solid}
use Rattle.solid_lang.proofs.BuildLemmas.{whole-built}
use Rattle.solid_lang.proofs.Giving.{judges-fault, judges-few, judges-many}
use Rattle.solid_lang.proofs.JudgingLemmas.{none_judged_and_refused, one_fault}
use Rattle.solid_lang.proofs.MeaningLemmas.{compiled_keep}
use Rattle.solid_lang.proofs.ModelLemmas.{compiled_text_is_read}
use Rattle.solid_lang.proofs.RawReads.{said-raw}

-- a judgement, and what the text is translated to by it
few_yes : (n : ℕ) → n ≤ 65535 → nat_le n 65535 ≡ true
few_yes n few = le-leb n 65535 few

many_no : (n : ℕ) → 65535 < n → nat_le n 65535 ≡ false
many_no n many = lt-leb n 65535 many

module _ (text : List ℕ) where
  abbrev judgement : Result ℕ SolidFault
  judgement = judged 3 None whole_solid (numbered_tokens text)

  by_fault : (f : SolidFault) → judgement ≡ Err f → translated text ≡ Err f
  unfolding translated
  by_fault f is = rw is refl

  by_many : (n : ℕ) → judgement ≡ Ok n → 65535 < n → translated text ≡ Err (fault_at 0 TooMany)
  unfolding translated
  by_many n is many = rw (is, many_no n many) refl

  by_few : (n : ℕ) (s : SolidTree) → judgement ≡ Ok n → n ≤ 65535 → SolidReads text s → translated text ≡ Ok (model_text (compiled s))
  unfolding translated
  by_few n s is few reads = rw (is, few_yes n few, whole-built (numbered_tokens text) s reads) refl

  -- a text that says a solid of few clauses
  translates : (s : SolidTree) → SolidReads text s → clause_count s ≤ 65535 → translated text ≡ Ok (model_text (compiled s))
  translates s reads few = by judgement refl
    where
      has : HasClauses text (clause_count s)
      has = record { solid = s; reads = reads; count = refl; few = few }

      counted : (n : ℕ) (low : Bool) → judgement ≡ Ok n → nat_le n 65535 ≡ low → translated text ≡ Ok (model_text (compiled s))
      counted n true is low = by_few n s is (leb-true n 65535 low) reads
      counted n false is high = absurd (none_judged_and_refused text (clause_count s) (fault_at 0 TooMany) has (judges-many text n (sym is) (leb-false n 65535 high)))

      by : (j : Result ℕ SolidFault) → judgement ≡ j → translated text ≡ Ok (model_text (compiled s))
      by (Err f) is = absurd (none_judged_and_refused text (clause_count s) f has (judges-fault text f (sym is)))
      by (Ok n) is = counted n (nat_le n 65535) is refl

  -- a text that is refused
  refuses : (f : SolidFault) → SolidRefuses text f.line f.reason → translated text ≡ Err f
  refuses f refused = by judgement refl
    where
      counted : (n : ℕ) (low : Bool) → judgement ≡ Ok n → nat_le n 65535 ≡ low → translated text ≡ Err f
      counted n true is low = absurd (none_judged_and_refused text n f (judges-few text n (sym is) (leb-true n 65535 low)) refused)
      counted n false is high =
          by_many n is (leb-false n 65535 high)
          ∙ ap (λ (g : SolidFault). Err g) (one_fault text (fault_at 0 TooMany) f (judges-many text n (sym is) (leb-false n 65535 high)) refused)

      by : (j : Result ℕ SolidFault) → judgement ≡ j → translated text ≡ Err f
      by (Err g) is = by_fault g is ∙ ap (λ (h : SolidFault). Err h) (one_fault text g f (judges-fault text g (sym is)) refused)
      by (Ok n) is = counted n (nat_le n 65535) is refl

pub solids_are_translated : SolidsAreTranslated
solids_are_translated text solid reads few = translates text solid reads few

pub refusals_stand : RefusalsStand
refusals_stand text line reason refused = refuses text (fault_at line reason) refused

-- what a reading that gave no solid says of the translation
pub short_refused : (text : List ℕ) (line : ℕ) (reason : SolidReason) → WithholdsShort text line reason → reason ≢ NoMemory → translated text ≡ Err (fault_at line reason)
short_refused text line NoMemory why other = absurd (other refl)
short_refused text line reason why other = refuses text (fault_at line reason) why

is_zero : (text : List ℕ) (line : ℕ) → LacksRoom text line → (line ≡ 0) × IsOk (translated text)
is_zero text line lacks =
    (lacks.zero, subst (λ (r : Result (List ℕ) SolidFault). IsOk r) (sym (translates text lacks.solid lacks.reads.reads lacks.reads.few)) refl)

pub short_lacks : (text : List ℕ) (line : ℕ) (reason : SolidReason) → WithholdsShort text line reason → reason ≡ NoMemory → (line ≡ 0) × IsOk (translated text)
short_lacks text line reason why memory = is_zero text line (subst (WithholdsShort text line) memory why)

-- what is so of a fault is so of the fault that is handed on
pub handed_on : {T : Type 0} (r : Result T SolidFault) (f : SolidFault) (P : SolidFault → Type 0) → IsErrAnd r (λ e. e ≡ f) → P f → IfErr r P
handed_on (Ok x) f P «is» p = absurd «is»
handed_on (Err e) f P «is» p = subst P (sym «is») p

-- what is written has the solid's values: it is the text of its clauses, since a text of more is refused
kept : (text : List ℕ) (s : SolidTree) (written : List ℕ) → SolidReads text s → clause_count s ≤ 65535 → translated text ≡ Ok written
    → SaysValuesOf s written
kept text s written reads few says =
    let both : Ok (model_text (compiled s)) ≡ Ok written = sym (translates text s reads few) ∙ says in
    let same : model_text (compiled s) ≡ written = cc in
    subst (SaysValuesOf s) same (record {
      clauses = compiled s;
      read = compiled_text_is_read s (said-raw s (numbered_tokens text) reads.said) few;
      values = compiled_keep s;
    })

pub translations_keep_values : TranslationsKeepValues
translations_keep_values text s written reads says = by (cases_lt 65535 (clause_count s))
  where
    by : (65535 < clause_count s) ⊎ (clause_count s ≤ 65535) → SaysValuesOf s written
    by (inr few) = kept text s written reads few says
    by (inl many) =
        let refused = refuses text (fault_at 0 TooMany) (inr (record { solid = s; read = reads; many = many; zero = refl; too_many = refl })) in
        let both : Err (fault_at 0 TooMany) ≡ Ok written = sym refused ∙ says in
        absurd cc
