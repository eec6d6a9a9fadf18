-- What is so of a run, and what no run does, on runs that were worked out by hand.
use Rattle.std.proofs.Common.{◌≡◌, ◌+◌, ◌-◌, ◌*◌, ◌/◌, ◌<◌, ◌≤◌, min, ℕ, suc, List, ◌∷◌, ◌++◌, [], length, take, inl, inr, subst, Some, None, Ok, Err, ap, refl, arith, ◌∙◌}
use Rattle.std.proofs.lemmas.List.{length-take}
use Rattle.std.specs.Prelude.{codes}
use Rattle.std.specs.Fmt.{digits}
use Rattle.clause_reader.specs.declared.text_reason.TextReason.TheVariants as reasons
use Rattle.view_places.specs.Window.{Window}
use Rattle.view_settings.specs.Setting.{setting_of}
use Rattle.fixed_ops.specs.Counts.{Counts, RisesAtMost, RisesWithin, no_counts, risen}
use Rattle.model_frames.specs.Work.{CountsWithin, CountsWork, PointsRiseAtMost}
use Rattle.modeller_cmd.specs.Bands.{HasRoom, most_rows}
use Rattle.modeller_cmd.specs.Execution.{Executed}
use Rattle.modeller_cmd.specs.Endings.{TakesLine}
use Rattle.modeller_cmd.specs.Notes.{refusal_line}
use Rattle.modeller_cmd.specs.Promises.{IsRun, SourceAfter}
use Rattle.modeller_cmd.specs.Runs.{OfOutput, Run, input_of}
use Rattle.modeller_cmd.specs.Statuses.{status_of}
use Rattle.modeller_cmd.specs.declared.bad_text.BadText.TheVariants as bad
use Rattle.modeller_cmd.specs.declared.refusal.Refusal.{Refusal}
use Rattle.modeller_cmd.specs.declared.refusal.Refusal.TheVariants as refusal
use Rattle.modeller_cmd.specs.declared.status.Status.TheVariants as status
use Rattle.modeller_cmd.specs.declared.stop.Stop.TheVariants as stop
use Rattle.view_settings.specs.declared.job.Job.TheVariants as jobs

-- how many bytes are written together of so many rows of so many columns
rows_together : (view : Window) (w h : ℕ) → view.w ≡ w → view.h ≡ h → most_rows view * view.w ≡ min (min 16 (65536 / w)) h * w
rows_together view w h columns rows = ap (λ n. min (min 16 (65536 / n)) view.h * n) columns ∙ ap (λ n. min (min 16 (65536 / w)) n * w) rows

-- a line takes 64 bytes at most, and a header 24: with sixteen rows of three columns 136 in all
room_for_rows : (view : Window) (buffer : List ℕ) → view.w ≡ 3 → view.h ≡ 16 → length buffer ≡ 136 → HasRoom view buffer
room_for_rows view buffer columns rows bytes = omega (arith, rows_together view 3 16 columns rows, bytes)

no_room_for_rows : (view : Window) (buffer : List ℕ) → view.w ≡ 3 → view.h ≡ 16 → length buffer ≡ 135 → HasRoom view buffer → ⊥
no_room_for_rows view buffer columns rows bytes room =
    let fits : 88 + most_rows view * view.w ≤ length buffer = room in omega (arith, rows_together view 3 16 columns rows, bytes, fits)

-- sixteen rows are written together, of 4,096 bytes and of one, and fewer only where there are fewer
widest_rows : (view : Window) → view.w ≡ 4096 → view.h ≡ 20 → most_rows view ≡ 16
widest_rows view columns rows = ap (λ w. min (min 16 (65536 / w)) view.h) columns ∙ ap (min 16) rows

narrowest_rows : (view : Window) → view.w ≡ 1 → view.h ≡ 20 → most_rows view ≡ 16
narrowest_rows view columns rows = ap (λ w. min (min 16 (65536 / w)) view.h) columns ∙ ap (min 16) rows

few_rows : (view : Window) → view.w ≡ 3855 → view.h ≡ 15 → most_rows view ≡ 15
few_rows view columns rows = ap (λ w. min (min 16 (65536 / w)) view.h) columns ∙ ap (min 16) rows

-- a run of the verb `text`: its source holds a clause and is read to its end, and its sink holds what was written; nothing
-- fails, and nothing is noted or counted
abbrev run : Run (List ℕ) (List ℕ) (List ℕ)
run = record {
  rest = λ s. Some s;
  taken = λ s. 9 - length s;
  read_faults = λ s. 0;
  held = λ s. Some s;
  write_faults = λ s. 0;
  notes_held = λ s. Some s;
  note_faults = λ s. 0;
  words = codes "text" ∷ [];
  source = codes " x  var-x";
  source_after = [];
  out = codes "a";
  out_after = codes "ax var-x\n";
  notes = codes "b";
  notes_after = codes "b";
  first = no_counts;
  last = no_counts;
  status = status.Done;
}

-- the input is what the source held, or nothing where the words make their own solid
input_of_a_run : input_of run ≡ Some (codes " x  var-x")
input_of_a_run = refl

input_of_a_forge : input_of (record run { words = codes "forge" ∷ codes "solids=7" ∷ [] }) ≡ Some []
unfolding digits setting_of
input_of_a_forge = refl

input_that_is_not_told : input_of (record run { rest = λ s. None }) ≡ None
input_that_is_not_told = refl

output_of_a_run : OfOutput run (λ output. output.status ≡ status.Done)
output_of_a_run = refl

nothing_of_what_is_not_told : OfOutput (record run { rest = λ s. None }) (λ output. ⊥)
nothing_of_what_is_not_told = tt

-- that run keeps every promise
no_less_no_more : RisesWithin no_counts no_counts no_counts no_counts
no_less_no_more = record {
  by = no_counts;
  enough = record { points = omega arith; spans = omega arith; corners = omega arith };
  within = record { points = omega arith; spans = omega arith; corners = omega arith };
  rises = refl;
}

none_at_most : RisesAtMost no_counts no_counts no_counts
none_at_most = record { by = no_counts; within = record { points = omega arith; spans = omega arith; corners = omega arith }; rises = refl }

whole_run : IsRun run
unfolding CountsWork CountsWithin
whole_run = record {
  done = λ is. record {
    output = (refl, refl, no_less_no_more);
    read = λ asks. (refl, omega arith);
    silent = refl;
  };
  refused = λ is. absurd is;
  read_fault = λ is. absurd cc;
  write_fault = λ is. absurd cc;
  out_of_memory = λ is. absurd cc;
  always = record {
    usage = (λ is. cc, λ refused. absurd (grind (arith, refused)));
    too_long = λ more few. absurd (omega (arith, more));
    no_read_fault = λ other. refl;
    no_write_fault = λ other. refl;
    unasked = λ nothing. cc;
    lost = record { bytes = codes " x  var-x"; within = omega arith; lost = refl; counted = omega arith };
    notes = record { by = 0; within = omega arith; rose = refl };
    at_most = none_at_most;
    plain = record { by = 0; few = omega arith; rises = refl };
    grew = record { bytes = codes "x var-x\n"; gained = refl };
    some = record {
      input = codes " x  var-x";
      few = omega arith;
      work = none_at_most;
      plain = record { by = 0; few = omega arith; rises = refl };
    };
  };
}

-- a run that is done has written all of its output, and nothing to the notes
half_is_written : IsRun (record run { out_after = codes "ax" }) → ⊥
half_is_written is = let same : codes "ax" ≡ codes "ax var-x\n" = (is.done refl).output.1 in (cc)

note_of_what_is_done : IsRun (record run { notes_after = codes "bc" }) → ⊥
note_of_what_is_done is = let same : codes "bc" ≡ codes "b" = (is.done refl).silent in (cc)

-- it has the status of its output, and reads its source to the end
words_are_good : IsRun (record run { status = status.Usage }) → ⊥
words_are_good is = let refused = is.always.usage.0 refl in absurd (grind (arith, refused))

source_is_left : IsRun (record run { source_after = codes "x" }) → ⊥
source_is_left is = let none : Some (codes "x") ≡ Some [] = ((is.done refl).read refl).0 in (cc)

-- a fault that was counted ends a run as one, and no other is
fault_of_the_source : IsRun (record run { status = status.ReadFault }) → ⊥
fault_of_the_source is = let rose : 0 ≡ 1 = (is.read_fault refl).fault in omega (arith, rose)

fault_of_the_sink : IsRun (record run { status = status.WriteFault }) → ⊥
fault_of_the_sink is = let rose : 0 ≡ 1 = (is.write_fault refl).fault in omega (arith, rose)

source_failed : IsRun (record run { read_faults = λ s. length s; source = codes "x"; source_after = codes "xyz" }) → ⊥
source_failed is = let stands : 3 ≡ 1 = is.always.no_read_fault (λ e. cc) in omega (arith, stands)

sink_failed : IsRun (record run { write_faults = λ s. length s }) → ⊥
sink_failed is = let stands : 9 ≡ 1 = is.always.no_write_fault (λ e. cc) in omega (arith, stands)

-- a sink that failed holds a proper prefix of the output, and not all of it
abbrev failed : Run (List ℕ) (List ℕ) (List ℕ)
failed = record run {
  status = status.WriteFault;
  write_faults = λ s. length s / 9;
  notes_after = codes "bmodeller: write fault\n";
}

all_is_written_of_a_fault : IsRun failed → ⊥
all_is_written_of_a_fault is = let output = (is.write_fault refl).output in by output.1.count output.1.within output.1.gained
  where
    by : (count : ℕ) → count < 8 → codes "ax var-x\n" ≡ codes "a" ++ take count (codes "x var-x\n") → ⊥
    by count few same =
        let long : 9 ≡ suc (length (take count (codes "x var-x\n"))) = ap length same in
        omega (arith, few, long, length-take count (codes "x var-x\n"))

-- an input that is too long took one byte more than 8 MiB
short_input : IsRun (record run { status = status.TooLong }) → ⊥
short_input is = let refused = is.refused tt in by refused.why refused.status refused.source
  where
    by : (why : Refusal) → status.TooLong ≡ status_of why → SourceAfter (record run { status = status.TooLong }) why → ⊥
    by refusal.TooLong same source = let rose : 9 ≡ 8388609 = source in omega (arith, rose)
    by (refusal.Words fault) same source = (cc)
    by (refusal.Text bad) same source = (cc)
    by (refusal.Script fault) same source = (cc)

-- a script alone is refused as one
bad_script_of_no_script : IsRun (record run { status = status.BadScript }) → ⊥
bad_script_of_no_script is = let asks : Ok jobs.Text ≡ Ok jobs.Replay = (is.refused tt).script refl in (cc)

-- words are refused exactly where the run says so
bad_words_are_told : IsRun (record run { words = codes "draw" ∷ [] }) → ⊥
bad_words_are_told is = let told : status.Done ≡ status.Usage = is.always.usage.1 refl in (cc)

-- the source is left as it was by words that ask for none of it
source_is_read_for_a_forge : IsRun (record run { words = codes "forge" ∷ codes "solids=7" ∷ [] }) → ⊥
unfolding digits setting_of
source_is_read_for_a_forge is = let same : [] ≡ codes " x  var-x" = is.always.unasked refl in (cc)

-- and by all others it loses at most one byte more than 8 MiB
read_past_the_limit : (after : List ℕ) → length after ≡ 8388610
    → IsRun (record run { rest = λ s. None; taken = λ s. length s; source = []; source_after = after }) → ⊥
read_past_the_limit after many is =
    let lost = is.always.lost in
    let few : length lost.bytes ≤ 8388609 = lost.within in
    let rose : length after ≡ risen 0 (length lost.bytes) = lost.counted in
    omega (arith, many, few, rose)

-- where the words are refused nothing is read, and where anything is refused nothing is written or counted
read_for_bad_words : IsRun (record run { status = status.Usage; words = codes "draw" ∷ [] }) → ⊥
read_for_bad_words is = let refused = is.refused tt in by refused.why refused.status refused.source
  where
    by : (why : Refusal) → status.Usage ≡ status_of why → SourceAfter (record run { status = status.Usage; words = codes "draw" ∷ [] }) why → ⊥
    by (refusal.Words fault) same source = let left : [] ≡ codes " x  var-x" = source in (cc)
    by refusal.TooLong same source = (cc)
    by (refusal.Text bad) same source = (cc)
    by (refusal.Script fault) same source = (cc)

written_for_a_bad_model : IsRun (record run { status = status.BadModel; source = codes "x" }) → ⊥
written_for_a_bad_model is = let same : codes "ax var-x\n" ≡ codes "a" = (is.refused tt).unwritten in (cc)

abbrev counted : Counts
counted = record { points = 1; spans = 0; corners = 0 }

counted_for_a_bad_model : IsRun (record run { status = status.BadModel; last = counted }) → ⊥
counted_for_a_bad_model is =
    let same : 1 ≡ 0 = ap (λ (counts : Counts). counts.points) (is.refused tt).uncounted in omega (arith, same)

-- where nothing fails no status is told but that of the output
bad_model_of_a_good_one : IsRun (record run { status = status.BadModel }) → ⊥
bad_model_of_a_good_one is = let why = (is.refused tt).outcome in (cc)

-- no byte of the sink is lost, and the notes fail at most once
lost_bytes : IsRun (record run { out_after = [] }) → ⊥
lost_bytes is = let same : [] ≡ codes "a" ++ is.always.grew.bytes = is.always.grew.gained in (cc)

notes_that_recover : IsRun (record run { note_faults = λ s. 4 - length s; notes_after = codes "bc" }) → ⊥
notes_that_recover is = omega (arith, is.always.notes.rose)

notes_that_fail_twice : IsRun (record run { note_faults = λ s. length s; notes_after = codes "bcd" }) → ⊥
notes_that_fail_twice is = omega (arith, is.always.notes.within, is.always.notes.rose)

-- without memory the sink holds nothing of a text
part_without_memory : IsRun (record run { status = status.NoMemory; out_after = codes "ax" }) → ⊥
part_without_memory is = let same : codes "ax" ≡ codes "a" = (is.out_of_memory refl).unwritten (λ replays. cc) in (cc)

-- a model that is refused is told in the notes
abbrev no_operation : Refusal
no_operation = refusal.Text (bad.Model (record { line = 1; reason = reasons.NoOperation }))

bad_model_is_not_told : IsRun (record run { source = codes "x"; out_after = codes "a"; status = status.BadModel }) → ⊥
unfolding digits
bad_model_is_not_told is =
    let refused = is.refused tt in
    let because : Err no_operation ≡ Err refused.why = refused.outcome in
    let same : refused.why ≡ no_operation = cc in
    by (subst (λ why. TakesLine (λ (s : List ℕ). Some s) (λ s. 0) (codes "b") (codes "b") (refusal_line why)) same refused.line)
  where
    by : TakesLine (λ (s : List ℕ). Some s) (λ s. 0) (codes "b") (codes "b") (codes "modeller: line 1: NoOperation\n") → ⊥
    by (inl whole) = let told : codes "b" ≡ codes "bmodeller: line 1: NoOperation\n" = whole.0 in (cc)
    by (inr failed) = let rose : 0 ≡ 1 = failed.fault in omega (arith, rose)

-- what was done is counted between the least and the most of its work, which is none
counted_for_no_work : IsRun (record run { last = counted }) → ⊥
unfolding CountsWork
counted_for_no_work is =
    let work : RisesWithin no_counts counted no_counts no_counts = (is.done refl).output.2 in
    let points : 1 ≡ risen 0 work.by.points = ap (λ (counts : Counts). counts.points) work.rises in
    omega (arith, work.within.points, points)

-- no more is counted than the work, which is none
more_than_no_work : IsRun (record run { last = counted }) → ⊥
unfolding CountsWithin
more_than_no_work is =
    let work : RisesAtMost no_counts counted no_counts = is.always.at_most in
    let points : 1 ≡ risen 0 work.by.points = ap (λ (counts : Counts). counts.points) work.rises in
    omega (arith, work.within.points, points)

-- nor than evaluating all clauses at all samples, of which a text has none
more_than_plain_evaluation : IsRun (record run { last = counted }) → ⊥
more_than_plain_evaluation is =
    let work : PointsRiseAtMost no_counts counted 0 = is.always.plain in
    let points : 1 ≡ risen 0 work.by = work.rises in
    omega (arith, work.few, points)

-- without memory a job other than a script writes nothing
nothing_is_written : (before after : List ℕ) (input : List ℕ)
    → Executed {T = ℕ} (λ (held : List ℕ). Some held) length before after no_counts no_counts jobs.Text input (Err stop.NoMemory)
    → after ≡ before
nothing_is_written before after input executed = executed.unwritten (λ e. cc) refl
