-- How a run ends, by what ends it: its words are refused, its source is not read, or a job was executed.
use Rattle.std.proofs.Common.{◌≡◌, ◌≢◌, ◌+◌, ◌<◌, ◌≤◌, ℕ, true, false, List, [], length, inl, inr, Option, Some, Result, Ok, Err, IfSome, refl, sym, ap, subst, ◌∙◌, arith}
use Rattle.std.specs.Prelude.{IsErr, IsErrAnd}
use Rattle.fixed_ops.specs.Counts.{Counts}
use Rattle.model_frames.specs.Work.{CountsWithin, CountsWork, PointsRiseAtMost}
use Rattle.modeller_io.specs.Count.{last_count, RoseAtMost, RoseBy, Stands}
use Rattle.modeller_io.specs.Held.{Gains, GainsProperPrefix}
use Rattle.modeller_io.specs.Took.{LosesAtMost}
use Rattle.modeller_io.specs.declared.read_end.ReadEnd.{ReadEnd}
use Rattle.modeller_io.specs.declared.read_end.ReadEnd.TheVariants as end
use Rattle.view_settings.specs.declared.job.Job.{Job}
use Rattle.view_settings.specs.declared.job.Job.TheVariants.{Replay}
use Rattle.modeller_cmd.specs.Asking.{asked, asks_nothing, input_told, reads_nothing}
use Rattle.modeller_cmd.specs.Endings.{IsRefusal, ReadsWhole, TakesLine, line_after, status_after}
use Rattle.modeller_cmd.specs.Execution.{Executed}
use Rattle.modeller_cmd.specs.Halting.{HaltsScript}
use Rattle.modeller_cmd.specs.Notes.{line_of, refusal_line}
use Rattle.modeller_cmd.specs.Output.{input_limit, made, output_as, output_of}
use Rattle.modeller_cmd.specs.Parts.{bytes_of_parts, work_of_parts}
use Rattle.modeller_cmd.specs.Promises.{Always, IsRun, SourceAfter}
use Rattle.modeller_cmd.specs.Runs.{Run, run_of}
use Rattle.modeller_cmd.specs.Stops.{status_at, stop_of_end}
use Rattle.modeller_cmd.specs.Writing.{Halted}
use Rattle.modeller_cmd.specs.declared.refusal.Refusal.{Refusal}
use Rattle.modeller_cmd.specs.declared.refusal.Refusal.TheVariants as refusal
use Rattle.modeller_cmd.specs.declared.status.Status.{Status}
use Rattle.modeller_cmd.specs.declared.status.Status.TheVariants as statuses
use Rattle.modeller_cmd.specs.declared.stop.Stop.{Stop}
use Rattle.modeller_cmd.specs.declared.stop.Stop.TheVariants as stop
use Rattle.modeller_cmd.proofs.Execution.{as-told, told-input}
use Rattle.modeller_cmd.proofs.Gaining.{Extends-none, Grew-gains}
use Rattle.modeller_cmd.proofs.Inputs.{loses_none, stopped, told-by-source, too_long_outcome, words-refused}
use Rattle.modeller_cmd.proofs.Outcomes.{asked_made, ok_done, some-none, some_all, some_follows}
use Rattle.model_frames.proofs.WorkLaws.{frames_add_up_is}

-- notes that are a list of bytes take a whole line, and no fault is counted of them
whole_line : (line : List ℕ) → TakesLine Some (λ (bytes : List ℕ). 0) [] line line
whole_line line = inl (refl, refl)

unfailed : (line : List ℕ) → RoseAtMost (λ (bytes : List ℕ). 0) [] line 1
unfailed line = record { by = 0; within = omega arith; rose = omega arith }

-- words that ask for a job are not refused
unrefused : (words : List (List ℕ)) (job : Job) → Ok job ≡ asked words → IsErr (asked words) → ⊥
unrefused words job asks refused = let no : IsErr {E = Refusal} (Ok job) = subst (λ (o : Result Job Refusal). IsErr o) (sym asks) refused in absurd (grind (arith, no))

replay_of : (words : List (List ℕ)) (job : Job) → Ok job ≡ asked words → asked words ≡ Ok Replay → job ≡ Replay
replay_of words job asks replays = cc

module _ {S K : Type 0} (rest : S → Option (List ℕ)) (taken read_faults : S → ℕ) (held : K → Option (List ℕ)) (write_faults : K → ℕ)
    (words : List (List ℕ)) (source : S) (out : K) (first : Counts) where
  -- a run that ends so, whose notes are a list of bytes
  abbrev pub ended : S → K → Counts → List ℕ → Status → Run S K (List ℕ)
  ended source_after out_after last line status =
      run_of rest taken read_faults held write_faults Some (λ _. 0) words source source_after out out_after [] line first last status

  abbrev told : Option (List ℕ)
  told = input_told rest source (asks_nothing words)

  -- its words are refused
  pub words-end : {T : Type 0} (r : Result T Stop) (why : Refusal) → Err why ≡ asked words → IsErrAnd r (λ e. e ≡ stop.Refused why)
      → IsRun (ended source out first (line_after r) (status_after r))
  words-end r why refused is =
      words-refused words r why refused is (λ r. IsRun (ended source out first (line_after r) (status_after r))) (λ fault asks. record {
        done = λ other. absurd cc;
        refused = λ _. record {
          why = refusal.Words fault;
          status = refl;
          outcome = some_all told _ (λ input. rw asks refl);
          words = λ _. asks;
          script = λ other. cc;
          source = refl;
          unwritten = refl;
          uncounted = refl;
          line = whole_line (refusal_line (refusal.Words fault));
        };
        read_fault = λ other. absurd cc;
        write_fault = λ other. absurd cc;
        out_of_memory = λ other. absurd cc;
        always = record {
          usage = (λ _. subst (λ o. IsErr o) (sym asks) refl, λ _. refl);
          too_long = λ more few. absurd (omega (arith, more));
          no_read_fault = λ _. refl;
          no_write_fault = λ _. refl;
          unasked = λ _. refl;
          lost = loses_none rest taken source 8388609 (omega arith);
          notes = unfailed (refusal_line (refusal.Words fault));
          at_most = some_all told _ (λ input. frames_add_up_is.within_none first (work_of_parts (output_of words input).parts));
          plain = some_all told _ (λ input. frames_add_up_is.plain_none first (work_of_parts (output_of words input).parts).plain);
          grew = Grew-gains held out out [] (Extends-none (held out));
          some = some-none words first;
        };
      })

  -- its source is not read to the end
  module _ (after : S) (job : Job) (why : ReadEnd) (asks : Ok job ≡ asked words) (same : reads_nothing job ≡ asks_nothing words) (reads : reads_nothing job ≡ false)
      (failed : why ≡ end.Failed → RoseBy read_faults source after 1) (no_fault : why ≢ end.Failed → Stands read_faults source after)
      (too_long : why ≡ end.TooLong → IfSome (rest source) (λ bytes. input_limit < length bytes)) (took : why ≡ end.TooLong → RoseBy taken source after 8388609)
      (too_long_there : taken after ≡ taken source + 8388609 → taken after < last_count → why ≡ end.TooLong) (lost : LosesAtMost rest taken source after 8388609) where
    unread-always : (status : Status) (line : List ℕ) → (status ≡ statuses.Usage → ⊥) → (why ≡ end.TooLong → status ≡ statuses.TooLong)
        → (status ≢ statuses.ReadFault → why ≢ end.Failed) → Always (ended after out first line status)
    unread-always status line usage long unfailing = record {
      usage = (λ is. absurd (usage is), λ refused. absurd (unrefused words job asks refused));
      too_long = λ more few. long (too_long_there more few);
      no_read_fault = λ other. no_fault (unfailing other);
      no_write_fault = λ _. refl;
      unasked = λ nothing. let no : false ≡ true = sym reads ∙ same ∙ nothing in absurd cc;
      lost = lost;
      notes = unfailed line;
      at_most = some_all told _ (λ input. frames_add_up_is.within_none first (work_of_parts (output_of words input).parts));
      plain = some_all told _ (λ input. frames_add_up_is.plain_none first (work_of_parts (output_of words input).parts).plain);
      grew = Grew-gains held out out [] (Extends-none (held out));
      some = some-none words first;
    }

    unread-by : (other : ReadEnd) → why ≡ other → IsRun (ended after out first (line_of (stop_of_end other)) (status_at (stop_of_end other)))
    unread-by end.Failed is = record {
      done = λ other. absurd cc;
      refused = λ other. absurd other;
      read_fault = λ _. record {
        asked = sym same ∙ reads;
        fault = failed is;
        unwritten = refl;
        uncounted = refl;
        line = whole_line (line_of stop.ReadFault);
      };
      write_fault = λ other. absurd cc;
      out_of_memory = λ other. absurd cc;
      always = unread-always statuses.ReadFault (line_of stop.ReadFault) (λ other. cc) (λ long. absurd cc) (λ other. absurd (other refl));
    }
    unread-by end.TooLong is = record {
      done = λ other. absurd cc;
      refused = λ _. record {
        why = refusal.TooLong;
        status = refl;
        outcome = told-by-source rest source (asks_nothing words) _ (sym same ∙ reads) (some_follows (rest source) _ _ (λ bytes long. too_long_outcome words job bytes asks reads long) (too_long is));
        words = λ other. cc;
        script = λ other. cc;
        source = took is;
        unwritten = refl;
        uncounted = refl;
        line = whole_line (refusal_line refusal.TooLong);
      };
      read_fault = λ other. absurd cc;
      write_fault = λ other. absurd cc;
      out_of_memory = λ other. absurd cc;
      always = unread-always statuses.TooLong (refusal_line refusal.TooLong) (λ other. cc) (λ long. refl) (λ other failing. cc);
    }
    unread-by end.NoMemory is = record {
      done = λ other. absurd cc;
      refused = λ other. absurd other;
      read_fault = λ other. absurd cc;
      write_fault = λ other. absurd cc;
      out_of_memory = λ _. record {
        unwritten = λ _. refl;
        script = λ _. some_all told _ (λ input. inl (refl, refl));
        line = whole_line (line_of stop.NoMemory);
      };
      always = unread-always statuses.NoMemory (line_of stop.NoMemory) (λ other. cc) (λ long. absurd cc) (λ other failing. cc);
    }

    pub unread-end : {T : Type 0} (r : Result T Stop) → IsErrAnd r (λ e. e ≡ stop_of_end why) → IsRun (ended after out first (line_after r) (status_after r))
    unread-end {T} r is = subst (λ (r : Result T Stop). IsRun (ended after out first (line_after r) (status_after r))) (sym (stopped r (stop_of_end why) is)) (unread-by why refl)

  -- the job that its words ask for was executed on the input that it read
  module _ (after : S) (out_after : K) (last : Counts) (job : Job) (input : List ℕ) (asks : Ok job ≡ asked words) (same : reads_nothing job ≡ asks_nothing words)
      (all : IfSome (input_told rest source (asks_nothing words)) (λ bytes. input ≡ bytes)) (few : length input ≤ input_limit) (stands : Stands read_faults source after)
      (whole : reads_nothing job ≡ false → ReadsWhole rest source after) (unasked : reads_nothing job ≡ true → after ≡ source)
      (short : taken after ≡ taken source + 8388609 → taken after < last_count → ⊥) (lost : LosesAtMost rest taken source after 8388609) where
    executed-always : (status : Status) (line : List ℕ) → (status ≡ statuses.Usage → ⊥) → (status ≢ statuses.WriteFault → Stands write_faults out out_after)
        → CountsWithin first last (work_of_parts (output_as (made job input)).parts) → PointsRiseAtMost first last (work_of_parts (output_as (made job input)).parts).plain
        → (bytes : List ℕ) → Gains held out out_after bytes → Always (ended after out_after last line status)
    executed-always status line usage no_fault within plain bytes gained =
        let makes = asked_made words job input asks in
        record {
          usage = (λ is. absurd (usage is), λ refused. absurd (unrefused words job asks refused));
          too_long = λ more below. absurd (short more below);
          no_read_fault = λ _. stands;
          no_write_fault = no_fault;
          unasked = λ nothing. unasked (same ∙ nothing);
          lost = lost;
          notes = unfailed line;
          at_most = as-told words told input all job asks (λ o. CountsWithin first last (work_of_parts (output_as o).parts)) within;
          plain = as-told words told input all job asks (λ o. PointsRiseAtMost first last (work_of_parts (output_as o).parts).plain) plain;
          grew = Grew-gains held out out_after bytes gained;
          some = record {
            input = input;
            few = few;
            work = subst (λ o. CountsWithin first last (work_of_parts (output_as o).parts)) (sym makes) within;
            plain = subst (λ o. PointsRiseAtMost first last (work_of_parts (output_as o).parts).plain) (sym makes) plain;
          };
        }

    refused-run : (why : Refusal) → made job input ≡ Err why → IsRefusal (status_at (stop.Refused why)) → (status_at (stop.Refused why) ≡ statuses.Usage → ⊥)
        → (status_at (stop.Refused why) ≡ statuses.BadScript → job ≡ Replay)
        → SourceAfter (ended after out_after last (refusal_line why) (status_at (stop.Refused why))) why
        → Halted held write_faults out out_after first last (output_as (made job input)).parts (stop.Refused why) → (out_after ≡ out) × (last ≡ first)
        → IsRun (ended after out_after last (refusal_line why) (status_at (stop.Refused why)))
    refused-run why makes is usage script left halted undone = record {
      done = λ other. absurd (not_of why statuses.Done other is (λ e. e));
      refused = λ _. record {
        why = why;
        status = refl;
        outcome = as-told words told input all job asks (λ o. o ≡ Err why) makes;
        words = λ other. absurd (usage other);
        script = λ bad. sym asks ∙ ap (λ j. Ok j) (script bad);
        source = left;
        unwritten = undone.0;
        uncounted = undone.1;
        line = whole_line (refusal_line why);
      };
      read_fault = λ other. absurd (not_of why statuses.ReadFault other is (λ e. e));
      write_fault = λ other. absurd (not_of why statuses.WriteFault other is (λ e. e));
      out_of_memory = λ other. absurd (not_of why statuses.NoMemory other is (λ e. e));
      always = executed-always (status_at (stop.Refused why)) (refusal_line why) usage (λ other. halted.no_fault (λ fault. cc)) halted.at_most halted.plain halted.grew.bytes halted.grew.gained;
    }
      where
        not_of : (why : Refusal) (status : Status) → status_at (stop.Refused why) ≡ status → IsRefusal (status_at (stop.Refused why)) → (IsRefusal status → ⊥) → ⊥
        not_of why status same is other = other (subst IsRefusal same is)

    pub executed-end : {T : Type 0} (r : Result T Stop) → Executed held write_faults out out_after first last job input r → IsRun (ended after out_after last (line_after r) (status_after r))
    executed-end (Ok x) executed = record {
      done = λ _. record {
        output = as-told words told input all job asks
            (λ o. ((output_as o).status ≡ statuses.Done) × Gains held out out_after (bytes_of_parts (output_as o).parts) × CountsWork first last (work_of_parts (output_as o).parts))
            (ok_done (made job input) executed.ends, executed.written.gained, executed.written.counted);
        read = λ asks. whole (same ∙ asks);
        silent = refl;
      };
      refused = λ other. absurd other;
      read_fault = λ other. absurd cc;
      write_fault = λ other. absurd cc;
      out_of_memory = λ other. absurd cc;
      always = executed-always statuses.Done [] (λ other. cc) (λ _. executed.written.no_fault) executed.written.at_most executed.written.plain
          (bytes_of_parts (output_as (made job input)).parts) executed.written.gained;
    }
    executed-end (Err (stop.Refused (refusal.Text bad))) executed =
        refused-run (refusal.Text bad) executed.ends tt (λ other. cc) (λ other. absurd cc) (λ asks. whole (same ∙ asks)) executed.halted (executed.refused tt)
    executed-end (Err (stop.Refused (refusal.Script fault))) executed =
        refused-run (refusal.Script fault) executed.ends tt (λ other. cc) executed.script (λ asks. whole (same ∙ asks)) executed.halted (executed.refused tt)
    executed-end (Err (stop.Refused (refusal.Words fault))) executed = absurd executed.stop
    executed-end (Err (stop.Refused refusal.TooLong)) executed = absurd executed.stop
    executed-end (Err stop.ReadFault) executed = absurd executed.stop
    executed-end (Err stop.WriteFault) executed =
        let failed = executed.halted.failed refl in
        record {
          done = λ other. absurd cc;
          refused = λ other. absurd other;
          read_fault = λ other. absurd cc;
          write_fault = λ _. record {
            fault = failed.fault;
            read = λ asks. whole (same ∙ asks);
            output = as-told words told input all job asks
                (λ o. ((output_as o).status ≡ statuses.Done) × GainsProperPrefix held out out_after (bytes_of_parts (output_as o).parts))
                (ok_done (made job input) executed.ends, failed.gained);
            counted = λ once. as-told words told input all job asks (λ o. CountsWork first last (work_of_parts (output_as o).parts))
                (executed.counted (λ is. once (sym asks ∙ ap (λ j. Ok j) is)) refl);
            script = λ replays. told-input told input (λ bytes. HaltsScript held write_faults out out_after first last bytes stop.WriteFault) all (executed.halts (replay_of words job asks replays));
            line = whole_line (line_of stop.WriteFault);
          };
          out_of_memory = λ other. absurd cc;
          always = executed-always statuses.WriteFault (line_of stop.WriteFault) (λ other. cc) (λ other. absurd (other refl)) executed.halted.at_most executed.halted.plain
              executed.halted.grew.bytes executed.halted.grew.gained;
        }
    executed-end (Err stop.NoMemory) executed = record {
      done = λ other. absurd cc;
      refused = λ other. absurd other;
      read_fault = λ other. absurd cc;
      write_fault = λ other. absurd cc;
      out_of_memory = λ _. record {
        unwritten = λ once. executed.unwritten (λ is. once (sym asks ∙ ap (λ j. Ok j) is)) refl;
        script = λ replays. told-input told input (λ bytes. HaltsScript held write_faults out out_after first last bytes stop.NoMemory) all (executed.halts (replay_of words job asks replays));
        line = whole_line (line_of stop.NoMemory);
      };
      always = executed-always statuses.NoMemory (line_of stop.NoMemory) (λ other. cc) (λ _. executed.halted.no_fault (λ fault. cc)) executed.halted.at_most executed.halted.plain
          executed.halted.grew.bytes executed.halted.grew.gained;
    }

-- notes that are a list of bytes took the one line that they hold
line_taken : (line other : List ℕ) → TakesLine Some (λ (bytes : List ℕ). 0) [] line other → line ≡ other
line_taken line other (inl whole) = whole.0
line_taken line other (inr failed) = absurd (omega (arith, failed.fault))

unrefusing : (status : Status) → IsRefusal status → status ≢ statuses.Done
unrefusing status is done = let no : IsRefusal statuses.Done = subst IsRefusal done is in absurd no

-- the notes took a line, and failed at most once
pub takes-once : {N : Type 0} (held : N → Option (List ℕ)) (faults : N → ℕ) (before after : N) (line : List ℕ) → TakesLine held faults before after line → RoseAtMost faults before after 1
takes-once held faults before after line (inl whole) = record { by = 0; within = omega arith; rose = omega (arith, whole.1) }
takes-once held faults before after line (inr failed) = record { by = 1; within = omega arith; rose = failed.fault }

-- what is so of a run whose notes are a list of bytes is so of one whose notes took its line
module _ {S K N : Type 0} (rest : S → Option (List ℕ)) (taken read_faults : S → ℕ) (held : K → Option (List ℕ)) (write_faults : K → ℕ) (notes_held : N → Option (List ℕ)) (note_faults : N → ℕ)
    (words : List (List ℕ)) (source source_after : S) (out out_after : K) (notes notes_after : N) (first last : Counts) (line : List ℕ) (status : Status) where
  pub noted : (status ≡ statuses.Done → notes_after ≡ notes) → (status ≢ statuses.Done → TakesLine notes_held note_faults notes notes_after line) → RoseAtMost note_faults notes notes_after 1
      → IsRun (run_of rest taken read_faults held write_faults Some (λ (bytes : List ℕ). 0) words source source_after out out_after [] line first last status)
      → IsRun (run_of rest taken read_faults held write_faults notes_held note_faults words source source_after out out_after notes notes_after first last status)
  noted silent takes once run = record {
    done = λ is. let r = run.done is in record { output = r.output; read = r.read; silent = silent is };
    refused = λ is. let r = run.refused is in record {
      why = r.why;
      status = r.status;
      outcome = r.outcome;
      words = r.words;
      script = r.script;
      source = source_of r.why r.source;
      unwritten = r.unwritten;
      uncounted = r.uncounted;
      line = took (refusal_line r.why) (unrefusing status is) r.line;
    };
    read_fault = λ is. let r = run.read_fault is in record {
      asked = r.asked;
      fault = r.fault;
      unwritten = r.unwritten;
      uncounted = r.uncounted;
      line = took (line_of stop.ReadFault) (λ done. cc) r.line;
    };
    write_fault = λ is. let r = run.write_fault is in record {
      fault = r.fault;
      read = r.read;
      output = r.output;
      counted = r.counted;
      script = r.script;
      line = took (line_of stop.WriteFault) (λ done. cc) r.line;
    };
    out_of_memory = λ is. let r = run.out_of_memory is in record {
      unwritten = r.unwritten;
      script = r.script;
      line = took (line_of stop.NoMemory) (λ done. cc) r.line;
    };
    always = let r = run.always in record {
      usage = r.usage;
      too_long = r.too_long;
      no_read_fault = r.no_read_fault;
      no_write_fault = r.no_write_fault;
      unasked = r.unasked;
      lost = r.lost;
      notes = once;
      at_most = r.at_most;
      plain = r.plain;
      grew = r.grew;
      some = r.some;
    };
  }
    where
      took : (other : List ℕ) → status ≢ statuses.Done → TakesLine Some (λ (bytes : List ℕ). 0) [] line other → TakesLine notes_held note_faults notes notes_after other
      took other undone told = subst (TakesLine notes_held note_faults notes notes_after) (line_taken line other told) (takes undone)

      source_of : (why : Refusal) → SourceAfter (run_of rest taken read_faults held write_faults Some (λ (bytes : List ℕ). 0) words source source_after out out_after [] line first last status) why
          → SourceAfter (run_of rest taken read_faults held write_faults notes_held note_faults words source source_after out out_after notes notes_after first last status) why
      source_of (refusal.Words fault) left = left
      source_of refusal.TooLong left = left
      source_of (refusal.Text bad) left = left
      source_of (refusal.Script fault) left = left
