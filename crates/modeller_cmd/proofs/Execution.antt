-- What work on the bytes that were read says of the words and of what the source reports.
use Rattle.std.proofs.Common.{◌≡◌, ℕ, List, inl, inr, Option, Some, None, Result, Ok, Err, IfSome, sym, subst}
use Rattle.std.specs.Prelude.{OnErr, OnOk}
use Rattle.modeller_io.specs.Count.{RoseBy, Stands}
use Rattle.modeller_io.specs.Held.{Gains, GainsProperPrefix}
use Rattle.view_settings.specs.declared.job.Job.{Job}
use Rattle.modeller_cmd.specs.Asking.{asked}
use Rattle.modeller_cmd.specs.Endings.{TakesLine}
use Rattle.modeller_cmd.specs.Output.{made, outcome}
use Rattle.model_frames.specs.Frames.{Part}
use Rattle.modeller_cmd.specs.declared.refusal.Refusal.{Refusal}
use Rattle.modeller_cmd.proofs.Outcomes.{asked_made}

-- what is so of the bytes that were read is so of those that are told
pub told-input : (told : Option (List ℕ)) (input : List ℕ) (P : List ℕ → Type 0) → IfSome told (λ rest. input ≡ rest) → P input → IfSome told P
told-input None input P all p = tt
told-input (Some rest) input P all p = subst P all p

module _ (words : List (List ℕ)) (told : Option (List ℕ)) (input : List ℕ) (all : IfSome told (λ rest. input ≡ rest)) (job : Job) (asks : Ok job ≡ asked words) where
  -- what is so of what a job makes is so of the outcome
  pub as-told : (P : Result (List Part) Refusal → Type 0) → P (made job input) → IfSome told (λ bytes. P (outcome words bytes))
  as-told P p =
      told-input told input (λ bytes. P (outcome words bytes)) all (subst P (sym (asked_made words job input asks)) p)

-- a line that is written to the notes
pub takes-line : {N T E : Type 0} (held : N → Option (List ℕ)) (faults : N → ℕ) (before after : N) (bytes line : List ℕ) (r : Result T E) → bytes ≡ line
    → OnOk r (Gains held before after bytes) → OnOk r (Stands faults before after) → OnErr r (GainsProperPrefix held before after bytes) → OnErr r (RoseBy faults before after 1)
    → TakesLine held faults before after line
takes-line held faults before after bytes line (Ok x) is gained stands prefix rose = inl (subst (Gains held before after) is gained, stands)
takes-line held faults before after bytes line (Err e) is gained stands prefix rose =
    inr (record { gained = subst (GainsProperPrefix held before after) is prefix; fault = rose })
