-- What work comes to whose parts are written when the last of them is made.
use Rattle.std.proofs.Common.{◌≡◌, ◌≢◌, ℕ, ◌≤◌, List, [], ◌∷◌, length, Option, Result, Ok, Err, refl, sym, ap, subst, ◌∙◌, rules}
use Rattle.std.specs.Prelude.{IsErrAnd}
use Rattle.clause_reader.specs.Reading.{text_read}
use Rattle.clause_reader.specs.declared.text_fault.TextFault.{TextFault}
use Rattle.clause_reader.specs.declared.text_reason.TextReason.{TextReason}
use Rattle.clause_reader.specs.declared.text_reason.TextReason.TheVariants as reasons
use Rattle.fixed_ops.specs.Counts.{Counts}
use Rattle.model_frames.specs.Frames.{Part}
use Rattle.model_frames.specs.Work.{CountsWithin, CountsWork, PointsRiseAtMost}
use Rattle.ply_check.specs.Reports.{reported}
use Rattle.ply_check.specs.declared.ply_fault.PlyFault.{PlyFault}
use Rattle.ply_check.specs.declared.ply_reason.PlyReason.{PlyReason}
use Rattle.ply_check.specs.declared.ply_reason.PlyReason.TheVariants as mesh
use Rattle.solid_lang.specs.Translated.{translated}
use Rattle.solid_lang.specs.declared.solid_fault.SolidFault.{SolidFault}
use Rattle.solid_lang.specs.declared.solid_reason.SolidReason.{SolidReason}
use Rattle.solid_lang.specs.declared.solid_reason.SolidReason.TheVariants as forms
use Rattle.solid_model.specs.declared.clause.Clause.{Clause}
use Rattle.view_settings.specs.declared.job.Job.{Job}
use Rattle.modeller_cmd.specs.Endings.{Ends, IsRefusal, IsExecutionStop}
use Rattle.modeller_cmd.specs.Output.{input_limit, made, of_forms, of_mesh, of_model, output_as}
use Rattle.modeller_cmd.specs.Parts.{work_of_parts}
use Rattle.modeller_cmd.specs.Execution.{Sent, Executed, ExecutedAtOnce}
use Rattle.modeller_cmd.specs.Writing.{FailsToSend}
use Rattle.modeller_cmd.specs.Stops.{status_at, stop_of_forms, stop_of_mesh, stop_of_text}
use Rattle.modeller_cmd.specs.Tasks.{task_of}
use Rattle.modeller_cmd.specs.declared.bad_text.BadText.TheVariants as bad
use Rattle.modeller_cmd.specs.declared.refusal.Refusal.{Refusal}
use Rattle.modeller_cmd.specs.declared.refusal.Refusal.TheVariants as refusal
use Rattle.modeller_cmd.specs.declared.status.Status.TheVariants.{BadScript}
use Rattle.modeller_cmd.specs.declared.stop.Stop.{Stop}
use Rattle.modeller_cmd.specs.declared.stop.Stop.TheVariants.{Refused, ReadFault, WriteFault, NoMemory}
use Rattle.modeller_cmd.specs.declared.task.Task.{Task}
use Rattle.modeller_cmd.specs.declared.task.Task.TheVariants as tasks
use Rattle.modeller_cmd.proofs.Outcomes.{forms_refused, mesh_refused, solid_refused, work_of_one}
use Rattle.modeller_cmd.proofs.Tasks.{made-by, made_by}
use Rattle.modeller_cmd.proofs.Writing.{part-counted, part-written, part-halted, halted-before}
use Rattle.model_frames.proofs.WorkLaws.{frames_add_up_is}

-- bytes that were sent, where they did not all go out
pub sent-none : {K T : Type 0} (held : K → Option (List ℕ)) (faults : K → ℕ) (out : K) (bytes : List ℕ) (r : Result T Stop)
    → IsErrAnd r (λ stop. stop ≡ NoMemory) → Sent held faults out out bytes r
sent-none held faults out bytes (Ok x) is = absurd is
sent-none {K} {T} held faults out bytes (Err stop) is =
    subst (λ s. Sent {T = T} held faults out out bytes (Err s)) (sym is) (record {
      stop = tt;
      gained = tt;
      no_fault = tt;
      failed = λ fault. cc;
      unwritten = λ memory. refl;
    })

pub sent-in-part : {K T : Type 0} (held : K → Option (List ℕ)) (faults : K → ℕ) (before after : K) (bytes : List ℕ) (r : Result T Stop)
    → IsErrAnd r (λ stop. stop ≡ WriteFault) → FailsToSend held faults before after bytes → Sent held faults before after bytes r
sent-in-part held faults before after bytes (Ok x) is failed = absurd is
sent-in-part {K} {T} held faults before after bytes (Err stop) is failed =
    subst (λ s. Sent {T = T} held faults before after bytes (Err s)) (sym is) (record {
      stop = tt;
      gained = tt;
      no_fault = tt;
      failed = λ fault. failed;
      unwritten = λ memory. cc;
    })

module _ {K T : Type 0} (held : K → Option (List ℕ)) (faults : K → ℕ) where
  -- nothing of it was written
  unexecuted : (out : K) (s t : Counts) (outcome : Result (List Part) Refusal) (stop : Stop) → Ends {T = T} outcome (Err stop) → IsExecutionStop stop → stop ≢ WriteFault
      → status_at stop ≢ BadScript → (IsRefusal (status_at stop) → t ≡ s)
      → CountsWithin s t (work_of_parts (output_as outcome).parts) → PointsRiseAtMost s t (work_of_parts (output_as outcome).parts).plain
      → ExecutedAtOnce {T = T} held faults out out s t outcome (Err stop)
  unexecuted out s t outcome stop ends may other script same few plain = record {
    ends = ends;
    stop = may;
    written = tt;
    halted = halted-before held faults out s t (output_as outcome).parts stop other few plain;
    refused = λ is. (refl, same is);
    script = script;
    unwritten = λ memory. refl;
    counted = λ fault. let is : stop ≡ WriteFault = cc in absurd (other is);
  }

  -- the text of its solid was refused, or memory to read it in
  pub refused-at-once : (out : K) (counts : Counts) (input : List ℕ) (part : List Clause → Part) (line : ℕ) (reason : TextReason) (r : Result T Stop)
      → length input ≤ input_limit → (reason ≢ reasons.NoMemory → text_read input ≡ Err (record { line = line; reason = reason }))
      → IsErrAnd r (λ stop. stop ≡ stop_of_text (record { line = line; reason = reason })) → ExecutedAtOnce held faults out out counts counts (of_model input part) r
  refused-at-once out counts input part line reason (Ok x) few reads is = absurd is
  refused-at-once out counts input part line reasons.NoMemory (Err stop) few reads is =
      subst (λ s. ExecutedAtOnce {T = T} held faults out out counts counts (of_model input part) (Err s)) (sym is)
      (unexecuted out counts counts (of_model input part) NoMemory tt tt (λ fault. cc) (λ script. cc) (λ refused. refl)
      (frames_add_up_is.within_none counts (work_of_parts (output_as (of_model input part)).parts)) (frames_add_up_is.plain_none counts (work_of_parts (output_as (of_model input part)).parts).plain))
  refused-at-once out counts input part line other (Err stop) few reads is =
      let fault : TextFault = record { line = line; reason = other } in
      subst (λ s. ExecutedAtOnce {T = T} held faults out out counts counts (of_model input part) (Err s)) (sym is)
      (unexecuted out counts counts (of_model input part) (Refused (refusal.Text (bad.Model fault)))
      (solid_refused input input (λ clauses. Ok (part clauses ∷ [])) fault few (reads (λ memory. cc))) tt (λ write. cc) (λ script. cc) (λ refused. refl)
      (frames_add_up_is.within_none counts (work_of_parts (output_as (of_model input part)).parts)) (frames_add_up_is.plain_none counts (work_of_parts (output_as (of_model input part)).parts).plain))

  -- the text of a solid, written as forms, was refused, or memory to read it in and to write what it means
  pub forms-refused : (out : K) (counts : Counts) (input : List ℕ) (line : ℕ) (reason : SolidReason) (r : Result T Stop)
      → length input ≤ input_limit → (reason ≢ forms.NoMemory → translated input ≡ Err (record { line = line; reason = reason }))
      → IsErrAnd r (λ stop. stop ≡ stop_of_forms (record { line = line; reason = reason })) → ExecutedAtOnce held faults out out counts counts (of_forms input) r
  forms-refused out counts input line reason (Ok x) few reads is = absurd is
  forms-refused out counts input line forms.NoMemory (Err stop) few reads is =
      subst (λ s. ExecutedAtOnce {T = T} held faults out out counts counts (of_forms input) (Err s)) (sym is)
      (unexecuted out counts counts (of_forms input) NoMemory tt tt (λ fault. cc) (λ script. cc) (λ refused. refl)
      (frames_add_up_is.within_none counts (work_of_parts (output_as (of_forms input)).parts)) (frames_add_up_is.plain_none counts (work_of_parts (output_as (of_forms input)).parts).plain))
  forms-refused out counts input line other (Err stop) few reads is =
      let fault : SolidFault = record { line = line; reason = other } in
      subst (λ s. ExecutedAtOnce {T = T} held faults out out counts counts (of_forms input) (Err s)) (sym is)
      (unexecuted out counts counts (of_forms input) (Refused (refusal.Text (bad.Solid fault)))
      (forms_refused input fault few (reads (λ memory. cc))) tt (λ write. cc) (λ script. cc) (λ refused. refl)
      (frames_add_up_is.within_none counts (work_of_parts (output_as (of_forms input)).parts)) (frames_add_up_is.plain_none counts (work_of_parts (output_as (of_forms input)).parts).plain))

  -- a mesh was refused, or memory to read it in and to look at its faces
  pub mesh-refused : (out : K) (counts : Counts) (input : List ℕ) (line : ℕ) (reason : PlyReason) (r : Result T Stop)
      → length input ≤ input_limit → (reason ≢ mesh.NoMemory → reported input ≡ Err (record { line = line; reason = reason }))
      → IsErrAnd r (λ stop. stop ≡ stop_of_mesh (record { line = line; reason = reason })) → ExecutedAtOnce held faults out out counts counts (of_mesh input) r
  mesh-refused out counts input line reason (Ok x) few reads is = absurd is
  mesh-refused out counts input line mesh.NoMemory (Err stop) few reads is =
      subst (λ s. ExecutedAtOnce {T = T} held faults out out counts counts (of_mesh input) (Err s)) (sym is)
      (unexecuted out counts counts (of_mesh input) NoMemory tt tt (λ fault. cc) (λ script. cc) (λ refused. refl)
      (frames_add_up_is.within_none counts (work_of_parts (output_as (of_mesh input)).parts)) (frames_add_up_is.plain_none counts (work_of_parts (output_as (of_mesh input)).parts).plain))
  mesh-refused out counts input line other (Err stop) few reads is =
      let fault : PlyFault = record { line = line; reason = other } in
      subst (λ s. ExecutedAtOnce {T = T} held faults out out counts counts (of_mesh input) (Err s)) (sym is)
      (unexecuted out counts counts (of_mesh input) (Refused (refusal.Text (bad.Mesh fault)))
      (mesh_refused input fault few (reads (λ memory. cc))) tt (λ write. cc) (λ script. cc) (λ refused. refl)
      (frames_add_up_is.within_none counts (work_of_parts (output_as (of_mesh input)).parts)) (frames_add_up_is.plain_none counts (work_of_parts (output_as (of_mesh input)).parts).plain))

  -- memory was refused while its one part was made
  pub undrawn-at-once : (out : K) (s t : Counts) (outcome : Result (List Part) Refusal) (part : Part) (r : Result T Stop) → outcome ≡ Ok (part ∷ [])
      → CountsWithin s t part.work → PointsRiseAtMost s t part.work.plain → IsErrAnd r (λ stop. stop ≡ NoMemory) → ExecutedAtOnce held faults out out s t outcome r
  undrawn-at-once out s t outcome part (Ok x) makes few plain is = absurd is
  undrawn-at-once out s t outcome part (Err stop) makes few plain is =
      let work = sym (work_of_one outcome part makes) in
      subst (λ e. ExecutedAtOnce {T = T} held faults out out s t outcome (Err e)) (sym is)
      (unexecuted out s t outcome NoMemory tt tt (λ fault. cc) (λ script. cc) (λ refused. absurd refused) (subst (CountsWithin s t) work few)
      (subst (λ w. PointsRiseAtMost s t w.plain) work plain))

  -- its one part was made, and its bytes were sent
  pub sent-at-once : (before after : K) (s t : Counts) (outcome : Result (List Part) Refusal) (part : Part) (bytes : List ℕ) (r : Result T Stop) → outcome ≡ Ok (part ∷ [])
      → bytes ≡ part.bytes → Sent held faults before after bytes r → CountsWork s t part.work → CountsWithin s t part.work → PointsRiseAtMost s t part.work.plain
      → ExecutedAtOnce held faults before after s t outcome r
  sent-at-once before after s t outcome part bytes r makes same sent done few plain =
      subst (λ o. ExecutedAtOnce held faults before after s t o r) (sym makes) (by r sent)
    where
      by : (q : Result T Stop) → Sent held faults before after bytes q → ExecutedAtOnce held faults before after s t (Ok (part ∷ [])) q
      by (Ok x) sent = record {
        ends = search rules;
        stop = tt;
        written = part-written held faults before after s t part bytes same sent.gained sent.no_fault done few plain;
        halted = tt;
        refused = λ is. absurd is;
        script = λ is. cc;
        unwritten = λ is. cc;
        counted = λ is. cc;
      }
      by (Err NoMemory) sent =
          subst (λ k. ExecutedAtOnce {T = T} held faults before k s t (Ok (part ∷ [])) (Err NoMemory)) (sym (sent.unwritten refl))
          (undrawn-at-once before s t (Ok (part ∷ [])) part (Err NoMemory) refl few plain refl)
      by (Err WriteFault) sent = record {
        ends = search rules;
        stop = tt;
        written = tt;
        halted = part-halted held faults before after s t part bytes same (sent.failed refl) few plain;
        refused = λ is. absurd is;
        script = λ is. cc;
        unwritten = λ is. cc;
        counted = λ is. part-counted s t part done;
      }
      by (Err ReadFault) sent = absurd sent.stop
      by (Err (Refused why)) sent = absurd sent.stop

  -- so a job is executed, where its task is no script
  pub executed-at-once : (before after : K) (s t : Counts) (job : Job) (task : Task) (input : List ℕ) (r : Result T Stop) → task ≡ task_of job → task ≢ tasks.Replay
      → ExecutedAtOnce held faults before after s t (made_by task input) r → Executed held faults before after s t job input r
  executed-at-once before after s t job task input r is other executed =
      let so : ExecutedAtOnce held faults before after s t (made job input) r =
      subst (λ outcome. ExecutedAtOnce held faults before after s t outcome r) (ap (λ task. made_by task input) is ∙ sym (made-by job input)) executed in
      record {
        ends = so.ends;
        stop = so.stop;
        written = so.written;
        halted = so.halted;
        refused = so.refused;
        script = λ script. absurd (so.script script);
        unwritten = λ _. so.unwritten;
        counted = λ _. so.counted;
        halts = λ replays. absurd (other (is ∙ ap task_of replays));
      }
