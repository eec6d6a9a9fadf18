-- What follows from the promises of a run, and is therefore none of them.
use Rattle.std.proofs.Common.{◌≡◌, ◌≢◌, ◌+◌, ◌<◌, ◌≤◌, ◌++◌, ℕ, false, List, [], length, take, drop, Option, refl, sym, ap, subst, ◌∙◌, length-append, arith}
use Rattle.std.proofs.Math.Seq.{take-append_seam}
use Rattle.edit_script.specs.declared.command.Command.{Command}
use Rattle.edit_session.specs.Sessions.{State, started}
use Rattle.fixed_ops.specs.Counts.{Counts}
use Rattle.model_frames.specs.Frames.{Part}
use Rattle.modeller_io.specs.Count.{last_count, RoseAtMost, RoseBy}
use Rattle.modeller_io.specs.Held.{Gains}
use Rattle.modeller_cmd.specs.Asking.{asks_nothing}
use Rattle.modeller_cmd.specs.Halting.{FailsIn, HaltsReplay}
use Rattle.modeller_cmd.specs.Output.{output_as}
use Rattle.modeller_cmd.specs.Parts.{bytes_of_parts}
use Rattle.modeller_cmd.specs.Promises.{IsRefused, IsRun}
use Rattle.modeller_cmd.specs.Replays.{parts_at, replayed, standing, state_after}
use Rattle.modeller_cmd.specs.Runs.{IsNoted, OfOutput, Run, input_of}
use Rattle.modeller_cmd.specs.declared.status.Status.{Status}
use Rattle.modeller_cmd.specs.declared.status.Status.TheVariants as statuses
use Rattle.modeller_cmd.specs.declared.stop.Stop.TheVariants as stop
use Rattle.modeller_cmd.proofs.Outcomes.{some_follows}
use Rattle.modeller_cmd.proofs.ReplayLaws.{replayed-between}

-- no fault was counted, and the count does not stand at its last value
abbrev pub NoFault : {X : Type 0} → (X → ℕ) → X → X → Type 0
NoFault faults before after = (faults after ≤ faults before) × (faults after < last_count)

rose : {X : Type 0} (faults : X → ℕ) (before after : X) → RoseBy faults before after 1 → NoFault faults before after → ⊥
rose faults before after by none = omega (arith, none.0, none.1, by)

-- the faults of the notes never fall
pub never_falls : {N : Type 0} (faults : N → ℕ) (before after : N) → RoseAtMost faults before after 1 → faults before ≤ faults after
never_falls faults before after once = omega (arith, once.rose)

-- a command in which the sink fails writes something
pub writes_something : {K : Type 0} (held : K → Option (List ℕ)) (faults : K → ℕ) (before after : K) (first last : Counts) (written : List ℕ) (state : State) (command : Command)
    → FailsIn held faults before after first last written state command → bytes_of_parts (parts_at state command) ≢ []
writes_something held faults before after first last written state command fails none =
    let few : fails.gained.count < length (bytes_of_parts (parts_at state command)) = fails.gained.within in
    omega (arith, few, ap length none)

module _ {S K N : Type 0} (run : Run S K N) (is : IsRun run) where
  of_refusal : (refused : IsRefused run) → OfOutput run (λ output. output.status ≡ run.status)
  of_refusal refused = some_follows (input_of run) _ _ (λ input because. ap (λ o. (output_as o).status) because ∙ sym refused.status) refused.outcome

  -- where nothing fails and memory is there, the status is the output's
  pub complete : (asks_nothing run.words ≡ false → NoFault run.read_faults run.source run.source_after) → NoFault run.write_faults run.out run.out_after → run.status ≢ statuses.NoMemory
      → OfOutput run (λ output. output.status ≡ run.status)
  complete source out memory = by run.status refl
    where
      by : (status : Status) → run.status ≡ status → OfOutput run (λ output. output.status ≡ run.status)
      by statuses.Done at = some_follows (input_of run) _ _ (λ input done. done.0 ∙ sym at) (is.done at).output
      by statuses.Usage at = of_refusal (is.refused (rw at tt))
      by statuses.BadModel at = of_refusal (is.refused (rw at tt))
      by statuses.BadScript at = of_refusal (is.refused (rw at tt))
      by statuses.TooLong at = of_refusal (is.refused (rw at tt))
      by statuses.ReadFault at = let fault = is.read_fault at in absurd (rose run.read_faults run.source run.source_after fault.fault (source fault.asked))
      by statuses.WriteFault at = absurd (rose run.write_faults run.out run.out_after (is.write_fault at).fault out)
      by statuses.NoMemory at = absurd (memory at)

  -- a refusal is that of the output, and the notes took its line
  pub noted : (refused : IsRefused run) → OfOutput run (λ output. (output.status ≡ run.status) × IsNoted run output.note)
  noted refused = some_follows (input_of run) _ _ (λ input because. (
    ap (λ o. (output_as o).status) because ∙ sym refused.status,
    subst (λ o. IsNoted run (output_as o).note) (sym because) refused.line,
  )) refused.outcome

-- a sink that reports what it holds grew by the first of these parts, each of them whole
pub record GainsParts {K : Type 0} (held : K → Option (List ℕ)) (before after : K) (parts : List Part) : Type 0 where
  pub count : ℕ
  pub within : count ≤ length parts
  pub gained : Gains held before after (bytes_of_parts (take count parts))

-- out of memory, a script has written the first of its parts, each of them whole
pub whole : {K : Type 0} (held : K → Option (List ℕ)) (faults : K → ℕ) (before after : K) (first last : Counts) (input : List ℕ)
    → (replay : HaltsReplay held faults before after first last input stop.NoMemory) → GainsParts held before after (replayed (started replay.clauses) replay.commands)
whole held faults before after first last input replay =
    let at = replay.halts in
    let state = started replay.clauses in
    let earlier = take at.k replay.commands in
    let ps = replayed state earlier in
    let rest = parts_at (standing state earlier) at.command ++ replayed (state_after (standing state earlier) at.command) (drop (at.k + 1) replay.commands) in
    let all : replayed state replay.commands ≡ ps ++ rest = ap (replayed state) at.kth ∙ replayed-between state earlier at.command (drop (at.k + 1) replay.commands) in
    subst (GainsParts held before after) (sym all) (record {
      count = length ps;
      within = omega (arith, length-append ps rest);
      gained = subst (λ parts. Gains held before after (bytes_of_parts parts)) (sym (take-append_seam ps rest)) at.halts.gained;
    })
