-- What waits to be written, and where a script is halted, worked out by hand.
use Rattle.std.proofs.Common.{◌≡◌, ◌+◌, ◌<◌, ◌∙◌, drop, length-append, ℕ, zero, suc, pos, negsuc, inl, inr, List, [], ◌∷◌, ◌++◌, length, take, Option, Some, refl, sym, ap, subst, arith}
use Rattle.std.specs.Prelude.{codes, slice_index_or}
use Rattle.std.specs.Fmt.{digits}
use Rattle.edit_script.specs.declared.command.Command.{Command}
use Rattle.edit_script.specs.declared.command.Command.TheVariants as commands
use Rattle.edit_session.specs.Sessions.{State, started}
use Rattle.fixed_ops.specs.Counts.{Counts, RisesAtMost, RisesWithin, no_counts, risen}
use Rattle.fixed_ops.specs.declared.operation.Op.TheVariants as op
use Rattle.model_frames.specs.Frames.{Part}
use Rattle.model_frames.specs.Work.{CountsWithin, CountsWork, Work, exactly, no_work}
use Rattle.solid_model.specs.declared.edit.Edit.TheVariants as edits
use Rattle.view_places.specs.Window.{Window}
use Rattle.modeller_cmd.specs.Halting.{FailsIn, HaltsAt, HaltsIn, RunsOutIn}
use Rattle.modeller_cmd.specs.Parts.{bytes_of_parts, work_of_parts}
use Rattle.modeller_cmd.specs.Pending.{Draws, GoesOut, HaltsPlay, IsPlayed, Waits, WaitsOrSent}
use Rattle.modeller_cmd.specs.Replays.{parts_at, replayed, standing}
use Rattle.modeller_cmd.specs.Writing.{FailsToSend, GainsBeyond, Worked}
use Rattle.modeller_cmd.specs.declared.stop.Stop.TheVariants as stop

-- a sink that is what it holds, of which no call fails, and one with a fault for each of its bytes
abbrev told : List ℕ → Option (List ℕ)
told bytes = Some bytes

abbrev none : List ℕ → ℕ
none bytes = 0

abbrev each : List ℕ → ℕ
each bytes = length bytes

abbrev counts_of : ℕ → ℕ → ℕ → Counts
counts_of points spans corners = record { points = points; spans = spans; corners = corners }

abbrev idle : List ℕ → Part
idle bytes = record { bytes = bytes; work = no_work }

abbrev busy : List ℕ → Part
busy bytes = record { bytes = bytes; work = exactly 1 2 3 }

abbrev shown : State
shown = started (record { name = codes "x"; op = op.X; a = 0; b = 0; value = pos 0 } ∷ [])

abbrev pixel : Window
pixel = record {
  x0 = negsuc 4294967295;
  x1 = pos 4294967296;
  y0 = negsuc 4294967295;
  y1 = pos 4294967296;
  z0 = negsuc 4294967295;
  z1 = pos 4294967296;
  z = pos 0;
  w = 1;
  h = 1;
  d = 1;
  nx = 1;
  ny = 1;
  nz = 1;
}

-- images, maps, meshes and texts are frames; edits, undos and costs are lines
image_draws : Draws (commands.Render pixel)
image_draws = tt

map_draws : Draws (commands.Height pixel)
map_draws = tt

mesh_draws : Draws (commands.Mesh pixel)
mesh_draws = tt

text_draws : Draws commands.Text
text_draws = tt

edit_draws_nothing : Draws (commands.Edit 3 (edits.Cut (codes "x"))) → ⊥
edit_draws_nothing draws = draws

stray_draws_nothing : Draws (commands.Stray 3) → ⊥
stray_draws_nothing draws = draws

undo_draws_nothing : Draws (commands.Undo 3) → ⊥
undo_draws_nothing draws = draws

cost_draws_nothing : Draws commands.Cost → ⊥
cost_draws_nothing draws = draws

-- bytes wait, or all of them went out; they are not lost, nor sent and kept, nor sent in part
bytes_wait : WaitsOrSent told none (codes "a") (codes "a") (codes "bc") (codes "bc")
bytes_wait = inl (refl, refl)

bytes_went_out : WaitsOrSent told none (codes "a") (codes "abc") (codes "bc") []
bytes_went_out = inr (refl, refl, refl)

bytes_are_lost : WaitsOrSent told none [] [] (codes "b") [] → ⊥
bytes_are_lost (inl waits) = let same : [] ≡ codes "b" = waits.1 in (cc)
bytes_are_lost (inr sent) = let same : [] ≡ codes "b" = sent.0 in (cc)

bytes_are_kept : WaitsOrSent told none [] (codes "b") (codes "b") (codes "b") → ⊥
bytes_are_kept (inl waits) = let same : codes "b" ≡ [] = waits.0 in (cc)
bytes_are_kept (inr sent) = let same : codes "b" ≡ [] = sent.2 in (cc)

sent_with_a_fault : WaitsOrSent told each [] (codes "b") (codes "b") [] → ⊥
sent_with_a_fault (inl waits) = let same : codes "b" ≡ [] = waits.0 in (cc)
sent_with_a_fault (inr sent) = let same : 1 ≡ 0 = sent.1 in omega (arith, same)

-- a sink fails in some bytes: it takes a proper prefix of them, and counts one fault
fails_behind_a_byte : FailsToSend told each [] (codes "a") (codes "ab")
fails_behind_a_byte = record { gained = record { count = 1; within = omega arith; gained = refl }; fault = refl }

fails_in_nothing : FailsToSend told each [] (codes "a") [] → ⊥
fails_in_nothing fails = let few : fails.gained.count < 0 = fails.gained.within in omega (arith, few)

fails_twice : FailsToSend told each [] (codes "ab") (codes "abc") → ⊥
fails_twice fails = let twice : 2 ≡ 1 = fails.fault in omega (arith, twice)

fails_behind_another : FailsToSend told each [] (codes "b") (codes "ab") → ⊥
fails_behind_another fails = by fails.gained.count fails.gained.gained
  where
    by : (count : ℕ) → codes "b" ≡ take count (codes "ab") → ⊥
    by zero same = (cc)
    by (suc count) same = let byte : 98 ≡ 97 = ap (λ s. slice_index_or s 0 0) same in absurd (omega (arith, byte))

-- a line waits behind others, and its command took no work
line_waits : Waits (codes "x") (codes "x") no_counts no_counts (codes "a") (codes "ab") (idle (codes "b") ∷ [])
line_waits = record { sink = refl; counts = refl; idle = refl; bytes = refl }

line_overtakes : Waits (codes "x") (codes "x") no_counts no_counts (codes "a") (codes "ba") (idle (codes "b") ∷ []) → ⊥
line_overtakes waits = let same : codes "ba" ≡ codes "ab" = waits.bytes in let byte : 98 ≡ 97 = ap (λ s. slice_index_or s 0 0) same in omega (arith, byte)

line_goes_out_too : Waits [] (codes "b") no_counts no_counts [] (codes "b") (idle (codes "b") ∷ []) → ⊥
line_goes_out_too waits = let same : codes "b" ≡ [] = waits.sink in (cc)

line_is_counted : Waits (codes "x") (codes "x") no_counts (counts_of 1 0 0) [] (codes "b") (idle (codes "b") ∷ []) → ⊥
line_is_counted waits = let points : 1 ≡ 0 = ap (λ (counts : Counts). counts.points) waits.counts in omega (arith, points)

work_waits : Waits (codes "x") (codes "x") no_counts no_counts [] (codes "b") (busy (codes "b") ∷ []) → ⊥
work_waits waits = let plain : 3 ≡ 0 = ap (λ (work : Work). work.plain) waits.idle in omega (arith, plain)

-- a frame is written where nothing waits
frame_goes_out : GoesOut told none [] (codes "@") no_counts no_counts [] [] (idle (codes "@") ∷ [])
unfolding CountsWork CountsWithin
frame_goes_out = record {
  unwaited = refl;
  emptied = refl;
  written = record {
    gained = refl;
    no_fault = refl;
    counted = record {
      by = no_counts;
      enough = record { points = omega arith; spans = omega arith; corners = omega arith };
      within = record { points = omega arith; spans = omega arith; corners = omega arith };
      rises = refl;
    };
    at_most = record { by = no_counts; within = record { points = omega arith; spans = omega arith; corners = omega arith }; rises = refl };
    plain = record { by = 0; few = omega arith; rises = refl };
  };
}

frame_overtakes : GoesOut told none [] (codes "@") no_counts no_counts (codes "a") [] (idle (codes "@") ∷ []) → ⊥
frame_overtakes goes = let same : codes "a" ≡ [] = goes.unwaited in (cc)

frame_waits_too : GoesOut told none [] (codes "@") no_counts no_counts [] (codes "@") (idle (codes "@") ∷ []) → ⊥
frame_waits_too goes = let same : codes "@" ≡ [] = goes.emptied in (cc)

frame_is_lost : GoesOut told none [] [] no_counts no_counts [] [] (idle (codes "@") ∷ []) → ⊥
frame_is_lost goes = let same : [] ≡ codes "@" = goes.written.gained in (cc)

-- a command is played in one of these ways
line_is_played : IsPlayed told none (codes "x") (codes "x") no_counts no_counts (codes "a") (codes "ab") (idle (codes "b") ∷ [])
line_is_played = inl line_waits

frame_is_played : IsPlayed told none [] (codes "@") no_counts no_counts [] [] (idle (codes "@") ∷ [])
frame_is_played = inr frame_goes_out

played_before_what_waits : IsPlayed told none [] (codes "b") no_counts no_counts (codes "a") (codes "a") (idle (codes "b") ∷ []) → ⊥
played_before_what_waits (inl waits) = let same : codes "b" ≡ [] = waits.sink in (cc)
played_before_what_waits (inr goes) = let same : codes "a" ≡ [] = goes.unwaited in (cc)

-- all of some bytes and a proper prefix of others
prefix_beyond : GainsBeyond told [] (codes "abc") (codes "ab") (codes "cd")
prefix_beyond = record { count = 1; within = omega arith; gained = refl }

none_beyond : GainsBeyond told (codes "x") (codes "xa") (codes "a") (codes "b")
none_beyond = record { count = 0; within = omega arith; gained = refl }

all_beyond : GainsBeyond told [] (codes "ab") (codes "a") (codes "b") → ⊥
all_beyond beyond = by beyond.count beyond.within beyond.gained
  where
    by : (count : ℕ) → count < 1 → codes "ab" ≡ codes "a" ++ take count (codes "b") → ⊥
    by zero few same = (cc)
    by (suc count) few same = absurd (omega (arith, few))

prefix_is_short : GainsBeyond told [] (codes "a") (codes "ab") (codes "c") → ⊥
prefix_is_short beyond = let same : codes "a" ≡ codes "ab" ++ take beyond.count (codes "c") = beyond.gained in (cc)

-- work is counted: no less, no more than its bound, and no more evaluations than plain ones
work_is_counted : Worked no_counts (counts_of 1 2 8) (exactly 1 2 3)
unfolding CountsWork CountsWithin
work_is_counted = record {
  counted = record {
    by = counts_of 1 2 8;
    enough = record { points = omega arith; spans = omega arith; corners = omega arith };
    within = record { points = omega arith; spans = omega arith; corners = omega arith };
    rises = refl;
  };
  at_most = record { by = counts_of 1 2 8; within = record { points = omega arith; spans = omega arith; corners = omega arith }; rises = refl };
  plain = record { by = 1; few = omega arith; rises = refl };
}

work_is_passed_over : Worked no_counts no_counts (exactly 1 2 3) → ⊥
unfolding CountsWork
work_is_passed_over worked =
    let counts : RisesWithin no_counts no_counts (counts_of 1 2 0) (counts_of 1 2 8) = worked.counted in
    let points : 0 ≡ risen 0 counts.by.points = ap (λ (counts : Counts). counts.points) counts.rises in
    omega (arith, counts.enough.points, points)

more_than_its_bound : Worked no_counts (counts_of 0 3 0) (exactly 1 2 3) → ⊥
unfolding CountsWithin
more_than_its_bound worked =
    let work : RisesAtMost no_counts (counts_of 0 3 0) (counts_of 1 2 8) = worked.at_most in
    let spans : 3 ≡ risen 0 work.by.spans = ap (λ (counts : Counts). counts.spans) work.rises in
    omega (arith, work.within.spans, spans)

more_than_plain : Worked no_counts (counts_of 4 0 0) (exactly 1 2 3) → ⊥
more_than_plain worked =
    let points : 4 ≡ risen 0 worked.plain.by = worked.plain.rises in
    omega (arith, worked.plain.few, points)

-- Under a fault in a text the sink has taken what stands before it and a proper prefix of it, and nothing was counted.
abbrev unevaluated : Worked no_counts no_counts no_work
unfolding CountsWork CountsWithin
unevaluated = record {
  counted = record {
    by = no_counts;
    enough = record { points = omega arith; spans = omega arith; corners = omega arith };
    within = record { points = omega arith; spans = omega arith; corners = omega arith };
    rises = refl;
  };
  at_most = record { by = no_counts; within = record { points = omega arith; spans = omega arith; corners = omega arith }; rises = refl };
  plain = record { by = 0; few = omega arith; rises = refl };
}

halts_in_a_text : HaltsIn told each [] (codes "@") no_counts no_counts [] shown commands.Text stop.WriteFault
unfolding digits
halts_in_a_text = record {
  gained = record { count = 1; within = omega arith; gained = refl };
  fault = refl;
  worked = unevaluated;
}

-- for lack of memory it has what stands before it, and no fault
halts_before_a_text : HaltsIn told none [] (codes "ab") no_counts no_counts (codes "ab") shown commands.Text stop.NoMemory
unfolding digits CountsWithin
halts_before_a_text = record {
  may = tt;
  gained = refl;
  no_fault = refl;
  at_most = record { by = no_counts; within = record { points = omega arith; spans = omega arith; corners = omega arith }; rises = refl };
  plain = record { by = 0; few = omega arith; rises = refl };
}

lines_before_are_lost : RunsOutIn told none [] [] no_counts no_counts (codes "ab") shown commands.Text → ⊥
lines_before_are_lost halts = let same : [] ≡ codes "ab" = halts.gained in (cc)

lines_before_are_cut : FailsIn told each [] (codes "a") no_counts no_counts (codes "ab") shown commands.Text → ⊥
lines_before_are_cut halts =
    let same : codes "a" ≡ codes "ab" ++ take halts.gained.count (bytes_of_parts (parts_at shown commands.Text)) = halts.gained.gained in
    (cc)

read_fault_halts_none : HaltsIn told none [] [] no_counts no_counts [] shown commands.Text stop.ReadFault → ⊥
read_fault_halts_none halts = halts

fault_is_not_counted : FailsIn told none [] [] no_counts no_counts [] shown commands.Text → ⊥
fault_is_not_counted halts = let rose : 0 ≡ 1 = halts.fault in omega (arith, rose)

memory_is_a_fault : RunsOutIn told each [] (codes "a") no_counts no_counts (codes "a") shown commands.Text → ⊥
memory_is_a_fault halts = let same : 1 ≡ 0 = halts.no_fault in omega (arith, same)

text_takes_steps : RunsOutIn told none [] [] no_counts (counts_of 0 1 0) [] shown commands.Text → ⊥
unfolding CountsWithin
text_takes_steps halts =
    let work : RisesAtMost no_counts (counts_of 0 1 0) no_counts = halts.at_most in
    let spans : 1 ≡ risen 0 work.by.spans = ap (λ (counts : Counts). counts.spans) work.rises in
    omega (arith, work.within.spans, spans)

text_takes_evaluations : RunsOutIn told none [] [] no_counts (counts_of 1 0 0) [] shown commands.Text → ⊥
text_takes_evaluations halts =
    let points : 1 ≡ risen 0 halts.plain.by = halts.plain.rises in
    omega (arith, halts.plain.few, points)

-- the first of two texts is halted, and the second one does not matter
halts_at_the_first : HaltsAt told each [] (codes "@") no_counts no_counts shown (commands.Text ∷ commands.Text ∷ []) stop.WriteFault
unfolding digits replayed standing CountsWork CountsWithin
halts_at_the_first = record {
  k = 0;
  command = commands.Text;
  kth = refl;
  counts = no_counts;
  worked = unevaluated;
  halts = halts_in_a_text;
}

-- what those before a halt took is counted, be it nothing
counted_before_a_text : HaltsAt told none [] [] no_counts (counts_of 0 1 0) shown (commands.Text ∷ []) stop.NoMemory → ⊥
unfolding digits replayed standing CountsWithin
counted_before_a_text at = by at.k at.command at.kth at.counts at.worked at.halts
  where
    by : (k : ℕ) (command : Command) → commands.Text ∷ [] ≡ take k (commands.Text ∷ []) ++ command ∷ drop (k + 1) (commands.Text ∷ []) → (counts : Counts)
        → Worked no_counts counts (work_of_parts (replayed shown (take k (commands.Text ∷ []))))
        → RunsOutIn told none [] [] counts (counts_of 0 1 0) (bytes_of_parts (replayed shown (take k (commands.Text ∷ [])))) (standing shown (take k (commands.Text ∷ []))) command → ⊥
    by zero command kth counts worked halts =
        let same : commands.Text ≡ command = cc in
        let first : RisesAtMost no_counts counts no_counts = worked.at_most in
        let text : CountsWithin counts (counts_of 0 1 0) (work_of_parts (parts_at shown commands.Text)) = subst (λ command. CountsWithin counts (counts_of 0 1 0) (work_of_parts (parts_at shown command))) (sym same) halts.at_most in
        let next : RisesAtMost counts (counts_of 0 1 0) no_counts = text in
        let before : counts.spans ≡ risen 0 first.by.spans = ap (λ (counts : Counts). counts.spans) first.rises in
        let after : 1 ≡ risen counts.spans next.by.spans = ap (λ (counts : Counts). counts.spans) next.rises in
        omega (arith, first.within.spans, next.within.spans, before, after)
    by (suc k) command kth counts worked halts =
        let long : 1 ≡ suc (length {A = Command} (take k [])) + length (command ∷ drop (suc k + 1) (commands.Text ∷ [])) =
        ap length kth ∙ length-append (take (suc k) (commands.Text ∷ [])) (command ∷ drop (suc k + 1) (commands.Text ∷ [])) in
        omega (arith, long)

-- a command is halted in what waits, of which nothing is counted, or behind it
halts_in_what_waits : HaltsPlay told each [] (codes "a") no_counts no_counts (codes "ab") shown commands.Text stop.WriteFault
halts_in_what_waits = inl (refl, refl, fails_behind_a_byte)

halts_behind_what_waits : HaltsPlay told none [] (codes "ab") no_counts no_counts (codes "ab") shown commands.Text stop.NoMemory
halts_behind_what_waits = inr halts_before_a_text

counts_in_what_waits : HaltsPlay told each [] (codes "a") no_counts (counts_of 1 0 0) (codes "ab") shown commands.Text stop.WriteFault → ⊥
counts_in_what_waits (inl fails) = let points : 1 ≡ 0 = ap (λ (counts : Counts). counts.points) fails.1 in omega (arith, points)
counts_in_what_waits (inr halts) = let points : 1 ≡ risen 0 halts.worked.plain.by = halts.worked.plain.rises in omega (arith, halts.worked.plain.few, points)

memory_in_what_waits : HaltsPlay told each [] (codes "a") no_counts no_counts (codes "ab") shown commands.Text stop.NoMemory → ⊥
memory_in_what_waits (inl fails) = (cc)
memory_in_what_waits (inr halts) = let same : codes "a" ≡ codes "ab" = halts.gained in (cc)
