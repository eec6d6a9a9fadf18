-- The input of a job, and what the words say of it.
use Rattle.std.proofs.Common.{◌≡◌, ℕ, ◌<◌, Bool, true, false, List, [], length, Option, Some, None, Result, Ok, Err, IfSome, refl, sym, subst, ap, ◌∙◌, arith}
use Rattle.std.specs.Prelude.{IsErrAnd}
use Rattle.std.specs.Io.KnownBytes.{Consumes}
use Rattle.modeller_io.specs.Count.{RoseBy}
use Rattle.modeller_io.specs.Took.{LosesAtMost}
use Rattle.view_settings.specs.Words.{job_of}
use Rattle.view_settings.specs.declared.job.Job.{Job}
use Rattle.view_settings.specs.declared.word_fault.WordFault.{WordFault}
use Rattle.modeller_cmd.specs.Asking.{asked, input_told, reads_nothing}
use Rattle.modeller_cmd.specs.Output.{input_limit, outcome}
use Rattle.modeller_cmd.specs.declared.refusal.Refusal.{Refusal}
use Rattle.modeller_cmd.specs.declared.refusal.Refusal.TheVariants as refusal
use Rattle.modeller_cmd.specs.declared.refusal.Refusal.TheVariants.{Words}
use Rattle.modeller_cmd.specs.declared.stop.Stop.{Stop}
use Rattle.modeller_cmd.specs.declared.stop.Stop.TheVariants.{Refused}
use Rattle.modeller_cmd.proofs.Outcomes.{asked_made, made_long}

-- what is so of the input of a job is so of the input of the words that ask for it
pub told-by-words : {S : Type 0} (rest : S → Option (List ℕ)) (source : S) (a b : Bool) (P : List ℕ → Type 0) → a ≡ b
    → IfSome (input_told rest source a) P → IfSome (input_told rest source b) P
told-by-words rest source a b P same p = subst (λ nothing. IfSome (input_told rest source nothing) P) same p

-- a job that reads its input has what the source tells
pub told-by-source : {S : Type 0} (rest : S → Option (List ℕ)) (source : S) (nothing : Bool) (P : List ℕ → Type 0) → nothing ≡ false
    → IfSome (rest source) P → IfSome (input_told rest source nothing) P
told-by-source rest source true P reads p = cc
told-by-source rest source false P reads p = p

-- an input that is too long is refused
pub too_long_outcome : (words : List (List ℕ)) (job : Job) (input : List ℕ) → Ok job ≡ asked words → reads_nothing job ≡ false → input_limit < length input
    → outcome words input ≡ Err refusal.TooLong
too_long_outcome words job input asks reads long =
    asked_made words job input asks ∙ made_long job input reads long

-- a source that stands lost nothing
consumes_none : (a : Option (List ℕ)) → Consumes a a []
consumes_none None = tt
consumes_none (Some xs) = refl

pub loses_none : {S : Type 0} (rest : S → Option (List ℕ)) (taken : S → ℕ) (source : S) (most : ℕ) → RoseBy taken source source 0 → LosesAtMost rest taken source source most
loses_none rest taken source most stands = record {
  bytes = [];
  within = omega arith;
  lost = consumes_none (rest source);
  counted = stands;
}

-- an ending of which only one stop is known is that stop
pub stopped : {T : Type 0} (r : Result T Stop) (stop : Stop) → IsErrAnd r (λ e. e ≡ stop) → r ≡ Err stop
stopped (Ok done) stop is = absurd is
stopped (Err e) stop is = ap (λ s. Err s) is

-- a run whose words are refused ends with their refusal
pub words-refused : {T : Type 0} (words : List (List ℕ)) (r : Result T Stop) (why : Refusal) → Err why ≡ asked words → IsErrAnd r (λ e. e ≡ Refused why)
    → (P : Result T Stop → Type 0) → ((fault : WordFault) → asked words ≡ Err (Words fault) → P (Err (Refused (Words fault)))) → P r
words-refused words r why refused ends P so = by (job_of words) refl
  where
    by : (o : Result Job WordFault) → job_of words ≡ o → P r
    by (Ok job) is =
        let asks : asked words ≡ Ok job = rw is refl in
        let both : Err why ≡ Ok job = refused ∙ asks in
        absurd cc
    by (Err fault) is =
        let asks : asked words ≡ Err (Words fault) = rw is refl in
        let same : Err why ≡ Err (Words fault) = refused ∙ asks in
        let one : why ≡ Words fault = cc in
        subst P (sym (stopped r (Refused why) ends ∙ ap (λ w. Err (Refused w)) one)) (so fault asks)
