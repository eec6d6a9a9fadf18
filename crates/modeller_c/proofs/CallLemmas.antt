-- What follows from the run of a call.
use Rattle.std.proofs.Common.{◌≡◌, ◌≢◌, ◌⊎◌, ℕ, List, [], Bool, true, false, Some, Result, Ok, Err, IfSome, inl, inr, refl, sym, ap, subst, ◌∙◌, arith}
use Rattle.std.specs.Prelude.{if◌then◌else◌}
use Rattle.fixed_ops.specs.Counts.{Counts, no_counts}
use Rattle.modeller_io.specs.Held.{Extends}
use Rattle.modeller_io.specs.SourceView.{SureSourceView}
use Rattle.view_settings.specs.declared.job.Job.{Job}
use Rattle.view_settings.specs.declared.job.Job.TheVariants as jobs
use Rattle.modeller_cmd.specs.Asking.{asked, asks_nothing, reads_nothing}
use Rattle.modeller_cmd.specs.Notes.{refusal_line}
use Rattle.modeller_cmd.specs.Output.{Output, made, outcome, output_as, output_of}
use Rattle.modeller_cmd.specs.Parts.{bytes_of_parts}
use Rattle.modeller_cmd.specs.Promises.{IsRefused, IsRun}
use Rattle.modeller_cmd.specs.Runs.{IsNoted, Run, input_of, run_of}
use Rattle.modeller_cmd.specs.Statuses.{number_of}
use Rattle.modeller_cmd.specs.declared.refusal.Refusal.{Refusal}
use Rattle.modeller_cmd.specs.declared.status.Status.{Status}
use Rattle.modeller_cmd.specs.declared.status.Status.TheVariants as statuses
use Rattle.modeller_c.specs.Calls.{WasRun, run_on, source_of}
use Rattle.modeller_c.specs.Gathering.{Gathering, nothing_yet}
use Rattle.modeller_c.specs.Rooms.{IsHandedOver}
use Rattle.modeller_c.specs.Words.{words_in}
use Rattle.modeller_c.specs.declared.ran.Ran.{Ran}
use Rattle.modeller_cmd.proofs.Outcomes.{some_follows}

-- that a run from these begins, and leaves this
abbrev pub IsRunOf : SureSourceView → Gathering → Gathering → Counts → Status → List (List ℕ) → SureSourceView → Gathering → Gathering → Counts → Type 0
IsRunOf source_after written noted last status words source out note first =
    IsRun (run_of (λ (s : SureSourceView). Some s.rest) (λ s. s.taken) (λ _. 0) (λ (s : Gathering). Some s.held) (λ s. s.faults)
    (λ (s : Gathering). Some s.held) (λ s. s.faults) words source source_after out written note noted first last status)

-- such a run is that of a call, where it begins as that does
pub begun : (line input : List ℕ) (source_after : SureSourceView) (written noted : Gathering) (last : Counts) (status : Status)
    (words : List (List ℕ)) (source : SureSourceView) (out note : Gathering) (first : Counts)
    → words ≡ words_in line → source ≡ source_of input → out ≡ nothing_yet → note ≡ nothing_yet → first ≡ no_counts
    → IsRunOf source_after written noted last status words source out note first → IsRun (run_on line input source_after written noted last status)
begun line input source_after written noted last status words source out note first words_is source_is out_is note_is first_is is =
    let by_words = subst (λ it. IsRunOf source_after written noted last status it source out note first) words_is is in
    let by_source = subst (λ it. IsRunOf source_after written noted last status (words_in line) it out note first) source_is by_words in
    let by_out = subst (λ it. IsRunOf source_after written noted last status (words_in line) (source_of input) it note first) out_is by_source in
    let by_note = subst (λ it. IsRunOf source_after written noted last status (words_in line) (source_of input) nothing_yet it first) note_is by_out in
    subst (λ it. IsRunOf source_after written noted last status (words_in line) (source_of input) nothing_yet nothing_yet it) first_is by_note

-- a job that reads nothing makes the same of any input
same : (job : Job) (input : List ℕ) → reads_nothing job ≡ true → made job [] ≡ made job input
same (jobs.Render view) input nothing = absurd cc
same (jobs.Height view) input nothing = absurd cc
same (jobs.Mesh view) input nothing = absurd cc
same (jobs.Count view) input nothing = absurd cc
same jobs.Text input nothing = absurd cc
same jobs.Replay input nothing = absurd cc
same (jobs.Forge forge) input nothing = refl
same (jobs.Shade view) input nothing = absurd cc
same (jobs.Contour view) input nothing = absurd cc
same jobs.Solid input nothing = absurd cc
same jobs.Check input nothing = absurd cc

unread : (words : List (List ℕ)) (input : List ℕ) → asks_nothing words ≡ true → outcome words [] ≡ outcome words input
unread words input nothing = by (asked words) refl
  where
    by : (asks : Result Job Refusal) → asked words ≡ asks → outcome words [] ≡ outcome words input
    by (Ok job) is =
        let reads : asks_nothing words ≡ reads_nothing job = rw is refl in
        rw is (same job input (sym reads ∙ nothing))
    by (Err why) is =
        let reads : asks_nothing words ≡ false = rw is refl in
        absurd cc

-- so what is told of the input that a call reads is so of the one that it is given
of_input : (words : List (List ℕ)) (input : List ℕ) (P : Output → Type 0) (b : Bool) → asks_nothing words ≡ b
    → IfSome (if b then Some [] else Some input) (λ (it : List ℕ). P (output_of words it)) → P (output_of words input)
of_input words input P true is p = subst P (ap output_as (unread words input is)) p
of_input words input P false is p = p

number_done : (status : Status) → number_of status ≡ number_of statuses.Done → status ≡ statuses.Done
number_done statuses.Done is = refl
number_done statuses.Usage is = absurd (omega (arith, is))
number_done statuses.BadModel is = absurd (omega (arith, is))
number_done statuses.BadScript is = absurd (omega (arith, is))
number_done statuses.TooLong is = absurd (omega (arith, is))
number_done statuses.ReadFault is = absurd (omega (arith, is))
number_done statuses.WriteFault is = absurd (omega (arith, is))
number_done statuses.NoMemory is = absurd (omega (arith, is))

module _ (line input out out_after note note_after : List ℕ) (ran : Ran) (was : WasRun line input out out_after note note_after ran) where
  abbrev run : Run SureSourceView Gathering Gathering
  run = run_on line input was.source was.written was.noted was.last was.status

  abbrev words : List (List ℕ)
  words = words_in line

  -- a run that is done has handed over the output
  pub done : ran.status ≡ number_of statuses.Done → IsHandedOver (bytes_of_parts (output_of words input).parts) out out_after ran.out
  done zero =
      let is = was.run.done (number_done was.status (sym was.number ∙ zero)) in
      let written : was.written.held ≡ bytes_of_parts (output_of words input).parts = of_input words input
      (λ o. Extends (Some []) (Some was.written.held) (bytes_of_parts o.parts)) (asks_nothing words) refl
      (some_follows (input_of run) _ _ (λ it p. p.1) is.output) in
      subst (λ bytes. IsHandedOver bytes out out_after ran.out) written was.output

  -- the notes of a refusal took its line
  line_held : (why : Refusal) → IsNoted run (refusal_line why) → was.noted.held ≡ refusal_line why
  line_held why (inl taken) = taken.0
  line_held why (inr failed) = absurd (omega (arith, sym was.unfailing.1 ∙ failed.fault))

  -- what is so of a refused run
  module _ (is : IsRefused run) where
    -- the output is that of the refusal
    because : {A : Type 0} (part : Output → A) → part (output_of words input) ≡ part (output_as (Err is.why))
    because part = of_input words input (λ o. part o ≡ part (output_as (Err is.why))) (asks_nothing words) refl
        (some_follows (input_of run) _ _ (λ it refused. ap (λ o. part (output_as o)) refused) is.outcome)

    handed : IsHandedOver [] out out_after ran.out × IsHandedOver (output_of words input).note note note_after ran.note
    handed = (
      subst (λ (sink : Gathering). IsHandedOver sink.held out out_after ran.out) is.unwritten was.output,
      subst (λ bytes. IsHandedOver bytes note note_after ran.note) (line_held is.why is.line ∙ sym (because (λ o. o.note))) was.line_noted,
    )

    answered : ran.status ≡ number_of (output_of words input).status
    answered = was.number ∙ ap number_of (is.status ∙ sym (because (λ o. o.status)))

  -- a refusal has handed over its line, and nothing else
  pub refused : ran.status ≢ number_of statuses.Done → ran.status ≢ number_of statuses.NoMemory
      → IsHandedOver [] out out_after ran.out × IsHandedOver (output_of words input).note note note_after ran.note
  refused some there = by was.status refl
    where
      by : (status : Status) → was.status ≡ status
          → IsHandedOver [] out out_after ran.out × IsHandedOver (output_of words input).note note note_after ran.note
      by statuses.Done at = absurd (some (was.number ∙ ap number_of at))
      by statuses.Usage at = handed (was.run.refused (rw at tt))
      by statuses.BadModel at = handed (was.run.refused (rw at tt))
      by statuses.BadScript at = handed (was.run.refused (rw at tt))
      by statuses.TooLong at = handed (was.run.refused (rw at tt))
      by statuses.ReadFault at = absurd (omega (arith, (was.run.read_fault at).fault))
      by statuses.WriteFault at = absurd (omega (arith, sym was.unfailing.0 ∙ (was.run.write_fault at).fault))
      by statuses.NoMemory at = absurd (there (was.number ∙ ap number_of at))

  -- the status is that of the output, or says that memory was refused
  pub answer : (ran.status ≡ number_of (output_of words input).status) ⊎ (ran.status ≡ number_of statuses.NoMemory)
  answer = by was.status refl
    where
      by : (status : Status) → was.status ≡ status
          → (ran.status ≡ number_of (output_of words input).status) ⊎ (ran.status ≡ number_of statuses.NoMemory)
      by statuses.Done at =
          let is = was.run.done at in
          let status = of_input words input (λ o. o.status ≡ statuses.Done) (asks_nothing words) refl
          (some_follows (input_of run) _ _ (λ it p. p.0) is.output) in
          inl (was.number ∙ ap number_of (at ∙ sym status))
      by statuses.Usage at = inl (answered (was.run.refused (rw at tt)))
      by statuses.BadModel at = inl (answered (was.run.refused (rw at tt)))
      by statuses.BadScript at = inl (answered (was.run.refused (rw at tt)))
      by statuses.TooLong at = inl (answered (was.run.refused (rw at tt)))
      by statuses.ReadFault at = absurd (omega (arith, (was.run.read_fault at).fault))
      by statuses.WriteFault at = absurd (omega (arith, sym was.unfailing.0 ∙ (was.run.write_fault at).fault))
      by statuses.NoMemory at = inr (was.number ∙ ap number_of at)
