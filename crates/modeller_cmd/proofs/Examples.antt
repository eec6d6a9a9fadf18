-- The definitions of a run, computed on words, texts and views that were worked out by hand.
use Rattle.std.proofs.Common.{◌≡◌, ℕ, zero, suc, true, false, pos, negsuc, ◌+◌, ◌*◌, ◌^◌, inl, inr, List, [], ◌∷◌, ◌++◌, length, length-append, map, take, drop, Some, None, Result, Ok, Err, refl, subst, sym, ap, ◌∙◌, arith}
use Rattle.std.specs.Prelude.{◌<◌, ◌≤◌, codes, slice_get, slice_index_or, ℤ}
use Rattle.std.specs.Fmt.{digits}
use Rattle.std.proofs.lemmas.Bool.{le-ltb, lt-ltb}
use Rattle.box_chains.specs.Chains.{chain_within}
use Rattle.box_chains.specs.Counts.{points_in, spans_in}
use Rattle.box_chains.specs.Redrawn.{points_after, spans_after}
use Rattle.clause_reader.specs.Reading.{on_result, text_read}
use Rattle.clause_reader.specs.declared.text_reason.TextReason.TheVariants as text
use Rattle.edit_script.specs.declared.script_fault.ScriptFault.{ScriptFault}
use Rattle.edit_script.specs.declared.script_reason.ScriptReason.TheVariants as script
use Rattle.fixed_ops.specs.NumberTexts.{size_text}
use Rattle.fixed_ops.specs.Numerals.{cut_magnitude, is_unsigned_numeral, nearest_raw, unsigned_raw}
use Rattle.fixed_ops.specs.Operations.{op_result}
use Rattle.fixed_ops.specs.Raw.{greatest, least}
use Rattle.fixed_ops.specs.declared.operation.Op.TheVariants as op
use Rattle.box_chains.specs.Tested.{points_where, spans_where}
use Rattle.modeller_io.specs.Count.{last_count}
use Rattle.view_settings.specs.Setting.{setting_of}
use Rattle.view_places.specs.Window.{Window, has_room}
use Rattle.view_settings.specs.declared.job.Job.{Job}
use Rattle.view_settings.specs.declared.forge.Forge.{Forge as Wanted}
use Rattle.view_settings.specs.declared.job.Job.TheVariants.{Count, Forge, Height, Mesh, Render}
use Rattle.view_settings.specs.declared.word_fault.WordReason.TheVariants as word
use Rattle.modeller_cmd.specs.Answers.{RefusesText, WritesText}
use Rattle.modeller_cmd.specs.Asking.{asks_nothing, input_told, reads_nothing}
use Rattle.modeller_cmd.specs.Endings.{CountsForSome, IsRefusal, ReadsWhole, TakesLine}
use Rattle.modeller_cmd.specs.Frames.{frame_header, frame_of, refused_line}
use Rattle.solid_model.specs.declared.edit.EditFault.TheVariants as fault
use Rattle.model_frames.specs.Heights.{heights_of}
use Rattle.modeller_cmd.specs.Notes.{line_of}
use Rattle.modeller_cmd.specs.Output.{Output, input_limit, made, of_solid, output_as, output_of}
use Rattle.model_frames.specs.Frames.{Part}
use Rattle.modeller_cmd.specs.Parts.{bytes_of_parts, work_of_parts}
use Rattle.modeller_cmd.specs.Writing.{FailsToSend, Halted, Written}
use Rattle.modeller_cmd.specs.Statuses.{number_of}
use Rattle.modeller_cmd.specs.SoundTexts.{HasSoundFrame, MeshFramesAreSound, MeshesAreSound}
use Rattle.modeller_cmd.specs.Halting.{FailsIn, HaltsAt, HaltsIn, HaltsScript, MayRunOut, RunsOutIn}
use Rattle.modeller_cmd.specs.Stops.{status_at}
use Rattle.modeller_cmd.specs.Forging.{forge_text, forged_clauses}
use Rattle.fixed_ops.specs.Counts.{Counts, RisesAtMost, RisesWithin, no_counts, risen}
use Rattle.solid_model.specs.declared.clause.Clause.{Clause}
use Rattle.solid_model.specs.declared.edit.Edit.TheVariants as edits
use Rattle.edit_script.specs.declared.command.Command.{Command}
use Rattle.edit_script.specs.declared.command.Command.TheVariants as commands
use Rattle.edit_session.specs.Sessions.{State, started}
use Rattle.modeller_cmd.specs.Replays.{parts_at, replayed, standing, state_after}
use Rattle.model_frames.specs.SoundTexts.{IsSoundText}
use Rattle.model_frames.specs.Work.{CountsWithin, CountsWork, exactly, frame_work, no_work}
use Rattle.modeller_cmd.specs.declared.bad_text.BadText.TheVariants as bad
use Rattle.modeller_cmd.specs.declared.refusal.Refusal.{Refusal}
use Rattle.modeller_cmd.specs.declared.refusal.Refusal.TheVariants as refusal
use Rattle.modeller_cmd.specs.declared.status.Status.{Status}
use Rattle.modeller_cmd.specs.declared.status.Status.TheVariants as status
use Rattle.modeller_cmd.specs.declared.stop.Stop.TheVariants as stop

-- the window from -1 to 1 with so many columns and rows, at this raw height
abbrev window : ℕ → ℕ → ℤ → Window
window columns rows height = record {
  x0 = negsuc 4294967295;
  x1 = pos 4294967296;
  y0 = negsuc 4294967295;
  y1 = pos 4294967296;
  z0 = negsuc 4294967295;
  z1 = pos 4294967296;
  z = height;
  w = columns;
  h = rows;
  d = 255;
  nx = 64;
  ny = 64;
  nz = 64;
}

-- what a drawing of a text gives
abbrev drawn : Window → List ℕ → Output
drawn view input = output_as (made (Render view) input)

-- what counting the work of one gives
abbrev counted : Window → List ℕ → Output
counted view input = output_as (made (Count view) input)

-- a run that is done, with one part of these bytes, and the work that it takes: the evaluations, the steps that are
-- traced, and what plain evaluation takes
abbrev done : List ℕ → ℕ → ℕ → ℕ → Output
done bytes points spans plain =
    record { status = status.Done; parts = record { bytes = bytes; work = exactly points spans plain } ∷ []; note = [] }

-- a run that writes nothing but this note
abbrev refused : Status → List ℕ → Output
refused why note = record { status = why; parts = []; note = note }

-- The square of x less the square of y is below 0 where x is 0 and y is not. It is 0 at the corners, which are outside.
saddle_image : drawn (window 3 3 (pos 0)) (codes "a var-x\nb var-y\nc mul a a\nd mul b b\ne sub c d")
    ≡ done (codes "P5\n3 3\n255\n" ++ 0 ∷ 255 ∷ 0 ∷ 0 ∷ 0 ∷ 0 ∷ 0 ∷ 255 ∷ 0 ∷ []) 45 5 45
unfolding digits points_in spans_in chain_within
saddle_image = refl

-- rows lie from the top on down: below 0 is the lower one of two
lower_row_is_last : drawn (window 1 2 (pos 0)) (codes "y var-y") ≡ done (codes "P5\n1 2\n255\n" ++ 0 ∷ 255 ∷ []) 2 1 2
unfolding digits points_in spans_in chain_within
lower_row_is_last = refl

-- columns lie from the left on
left_column_is_first : drawn (window 2 1 (pos 0)) (codes "x var-x") ≡ done (codes "P5\n2 1\n255\n" ++ 255 ∷ 0 ∷ []) 2 1 2
unfolding digits points_in spans_in chain_within
left_column_is_first = refl

-- the value zero is outside
zero_is_outside : drawn (window 1 1 (pos 0)) (codes "z var-z") ≡ done (codes "P5\n1 1\n255\n" ++ 0 ∷ []) 0 1 1
unfolding digits points_in spans_in chain_within
zero_is_outside = refl

-- and the number next below it is inside
next_below_is_inside : drawn (window 1 1 (negsuc 0)) (codes "z var-z") ≡ done (codes "P5\n1 1\n255\n" ++ 255 ∷ []) 0 1 1
unfolding digits points_in spans_in chain_within
next_below_is_inside = refl

-- what is counted is told: a line through a leaf, and two halves that are decided
leaf_is_counted : counted (window 8 1 (pos 0)) (codes "x var-x") ≡ done (codes "points 8\nspans 1\nplain 8\n") 8 1 8
unfolding digits points_in spans_in chain_within
leaf_is_counted = refl

halves_are_counted : counted (window 16 1 (pos 0)) (codes "x var-x") ≡ done (codes "points 0\nspans 3\nplain 16\n") 0 3 16
unfolding digits points_in spans_in chain_within
halves_are_counted = refl

-- a clause that is not live takes no work, but plain evaluation of it does
plain_counts_all : counted (window 8 1 (pos 0)) (codes "u var-y\nx var-x") ≡ done (codes "points 8\nspans 1\nplain 16\n") 8 1 16
unfolding digits points_in spans_in chain_within
plain_counts_all = refl

-- a height map of a text
abbrev mapped : Window → List ℕ → Output
mapped view input = output_as (made (Height view) input)

-- of three samples of a column the one below 0 is the far one, whose top is 1: the nearer ones are evaluated, and it
tops_are_written : mapped (record (window 1 1 (pos 0)) { d = 3 }) (codes "z var-z") ≡ done (codes "P5\n1 1\n3\n" ++ 1 ∷ []) 3 1 3
unfolding digits points_in spans_in points_where spans_where heights_of chain_within
tops_are_written = refl

-- where the greatest top is above 255 each has two bytes
two_bytes_are_written : bytes_of_parts (mapped (record (window 1 1 (pos 0)) { d = 256 }) (codes "x var-x")).parts ≡ codes "P5\n1 1\n256\n" ++ 1 ∷ 0 ∷ []
unfolding digits heights_of
two_bytes_are_written = refl

-- comments and blanks are dropped where a model is written back, and nothing is evaluated
text_is_written_back : output_of (codes "text" ∷ []) (codes "# x and -x\n a  var-x\r\nb neg\ta")
    ≡ record { status = status.Done; parts = record { bytes = codes "a var-x\nb neg a\n"; work = no_work } ∷ []; note = [] }
text_is_written_back = refl

-- lines are counted from 1 on, those that say nothing too
bad_line : output_of (codes "text" ∷ []) (codes "x var-x\n\n# c\ny neg z\n") ≡ refused status.BadModel (codes "modeller: line 4: UnknownName\n")
unfolding digits
bad_line = refl

empty_input : output_of (codes "text" ∷ []) [] ≡ refused status.BadModel (codes "modeller: line 0: Empty\n")
unfolding digits
empty_input = refl

-- a mark line parts a script alone: to other words it is a clause without an operation
mark_is_no_clause : output_of (codes "text" ∷ []) (codes "x var-x\n%%\n") ≡ refused status.BadModel (codes "modeller: line 2: NoOperation\n")
unfolding digits
mark_is_no_clause = refl

-- what a script writes: the frames of a replay and the lines of edits that are refused
abbrev replayed_of : List ℕ → Output
replayed_of input = output_of (codes "replay" ∷ []) input

-- a run that is done, with these parts, and the parts that take no work
abbrev written : List Part → Output
written parts = record { status = status.Done; parts = parts; note = [] }

abbrev idle : List ℕ → Part
idle bytes = record { bytes = bytes; work = no_work }

-- the frame of a picture of three pixels, of which two are inside, drawn by three clauses
abbrev picture : Part
picture = record {
  bytes = codes "@ render 14\nP5\n3 1\n255\n" ++ 255 ∷ 255 ∷ 0 ∷ [];
  work = exactly 9 3 9;
}

-- the same picture, drawn again where nothing has changed
abbrev again : Part
again = record { bytes = picture.bytes; work = exactly 0 0 9 }

-- Of three pixels the places -1 and 0 lie below 0.5. Each of three edits is refused for its own reason, so the picture is
-- the same afterwards.
refused_edits_change_nothing : replayed_of (codes "x var-x\nc const 0.5\nf sub x c\n%%\nrender w=3 h=1\ncut c\nadd x var-y\nset c sub x f\nrender w=3 h=1\n")
    ≡ written (picture ∷ idle (codes "@ refused 6 InUse\n") ∷ idle (codes "@ refused 7 DoubleName\n") ∷ idle (codes "@ refused 8 NotEarlier\n") ∷ again ∷ [])
unfolding digits points_after spans_after chain_within replayed is_unsigned_numeral unsigned_raw nearest_raw cut_magnitude setting_of
refused_edits_change_nothing = refl

-- the cost that is told is that of the last picture, and nothing before the first
costs_are_told : replayed_of (codes "x var-x\nc const 0.5\nf sub x c\n%%\ncost\nrender w=3 h=1\ntext\ncost\nrender w=3 h=1\ncost\n")
    ≡ written (idle (codes "@ cost 4\n0 0\n") ∷ picture ∷ idle (codes "@ text 39\nx var-x\nc const 0.5000000000\nf sub x c\n") ∷ idle (codes "@ cost 4\n9 3\n")
    ∷ again ∷ idle (codes "@ cost 4\n0 0\n") ∷ [])
unfolding digits points_after spans_after chain_within replayed is_unsigned_numeral unsigned_raw nearest_raw cut_magnitude size_text setting_of
costs_are_told = refl

-- a clause is put before another, the output is cut twice, and the last clause can not be
clauses_come_and_go : replayed_of (codes "x var-x\n%%\nput x c const 0.5\nadd f sub x c\ntext\ncut f\ncut x\ncut c\n")
    ≡ written (idle (codes "@ text 39\nc const 0.5000000000\nx var-x\nf sub x c\n") ∷ idle (codes "@ refused 8 LastClause\n") ∷ [])
unfolding digits replayed is_unsigned_numeral unsigned_raw nearest_raw cut_magnitude size_text
clauses_come_and_go = refl

-- a name that begins with `#` names no clause
comment_is_no_name : replayed_of (codes "x var-x\n%%\n\nset #x var-y\n# c\ntext\n")
    ≡ written (idle (codes "@ refused 4 UnknownName\n") ∷ idle (codes "@ text 8\nx var-x\n") ∷ [])
unfolding digits replayed
comment_is_no_name = refl

-- a mark with nothing behind it writes nothing
no_commands : replayed_of (codes "x var-x\n%%") ≡ written []
unfolding digits replayed
no_commands = refl

-- a model is refused before its script is, and a script before anything is drawn
bad_model_first : replayed_of (codes "x neg y\nrender\n") ≡ refused status.BadModel (codes "modeller: line 1: UnknownName\n")
unfolding digits
bad_model_first = refl

no_mark : replayed_of (codes "x var-x\n") ≡ refused status.BadScript (codes "modeller: script line 0: NoMark\n")
unfolding digits
no_mark = refl

bad_script_draws_nothing : replayed_of (codes "x var-x\n%%\ntext\nrender w=0\n") ≡ refused status.BadScript (codes "modeller: script line 4: BadSetting\n")
unfolding digits setting_of
bad_script_draws_nothing = refl

-- words are refused whatever the input is
unknown_verb : (input : List ℕ) → output_of (codes "draw" ∷ []) input ≡ refused status.Usage (codes "modeller: word 1: UnknownVerb\n")
unfolding digits
unknown_verb input = refl

no_words : (input : List ℕ) → output_of [] input ≡ refused status.Usage (codes "modeller: word 0: NoVerb\n")
unfolding digits
no_words input = refl

-- each kind of note line
word_line : line_of (stop.Refused (refusal.Words (record { at = 12; reason = word.Twice }))) ≡ codes "modeller: word 12: Twice\n"
unfolding digits
word_line = refl

model_line : line_of (stop.Refused (refusal.Text (bad.Model (record { line = 307; reason = text.WrongArity })))) ≡ codes "modeller: line 307: WrongArity\n"
unfolding digits
model_line = refl

script_line : line_of (stop.Refused (refusal.Script (record { line = 40; reason = script.UnknownCommand }))) ≡ codes "modeller: script line 40: UnknownCommand\n"
unfolding digits
script_line = refl

too_long_line : line_of (stop.Refused refusal.TooLong) ≡ codes "modeller: input too long\n"
too_long_line = refl

read_fault_line : line_of stop.ReadFault ≡ codes "modeller: read fault\n"
read_fault_line = refl

write_fault_line : line_of stop.WriteFault ≡ codes "modeller: write fault\n"
write_fault_line = refl

no_memory_line : line_of stop.NoMemory ≡ codes "modeller: no memory\n"
no_memory_line = refl

-- an input of the most bytes is read
limit_is_read : (input solid : List ℕ) (makes : List Clause → Result (List Part) Refusal) → length input ≡ input_limit
    → of_solid input solid makes ≡ on_result (text_read solid) makes (λ fault. Err (refusal.Text (bad.Model fault)))
limit_is_read input solid makes full = rw (le-ltb input_limit (length input) (omega (arith, full))) refl

-- and one byte more is too long, whatever the bytes are
above_limit_is_refused : (job : Job) (input : List ℕ) → reads_nothing job ≡ false → length input ≡ input_limit + 1 → made job input ≡ Err refusal.TooLong
above_limit_is_refused (Forge forge) input asks more = cc
above_limit_is_refused job input asks more = rw (lt-ltb input_limit (length input) (omega (arith, more))) refl

-- forging asks for nothing of the source, and other words ask for something
forging_asks_nothing : asks_nothing (codes "forge" ∷ codes "solids=7" ∷ []) ≡ true
unfolding digits setting_of
forging_asks_nothing = refl

drawing_asks : asks_nothing (codes "render" ∷ []) ≡ false
unfolding digits setting_of
drawing_asks = refl

refused_words_ask : asks_nothing (codes "forge" ∷ codes "solids=0" ∷ []) ≡ false
unfolding digits setting_of
refused_words_ask = refl

-- sums, differences and products are cut to the range of numbers
sum_above : op_result op.Add greatest (pos 1) ≡ greatest
sum_above = refl

sum_within : op_result op.Add least greatest ≡ pos 0
sum_within = refl

sum_below : op_result op.Add least (negsuc 0) ≡ least
sum_below = refl

difference_above : op_result op.Sub greatest least ≡ greatest
difference_above = refl

difference_below : op_result op.Sub least (pos 1) ≡ least
difference_below = refl

product_above : op_result op.Mul least least ≡ greatest
product_above = refl

product_below : op_result op.Mul least greatest ≡ least
product_below = refl

-- products are rounded down
product_rounds_down : op_result op.Mul (negsuc 0) (pos 1) ≡ negsuc 0
product_rounds_down = refl

-- the words of frames, and of an edit that finds no room
height_header : frame_header (codes "height") 12 ≡ codes "@ height 12\n"
unfolding digits
height_header = refl

mesh_header : frame_header (codes "mesh") 305 ≡ codes "@ mesh 305\n"
unfolding digits
mesh_header = refl

no_edit : refused_line 4294967295 fault.NothingToUndo ≡ codes "@ refused 4294967295 NothingToUndo\n"
unfolding digits
no_edit = refl

no_room : refused_line 65536 fault.Full ≡ codes "@ refused 65536 Full\n"
unfolding digits
no_room = refl

-- words, texts, scripts and long inputs are refused, and no other status is a refusal
refusals : IsRefusal status.Usage × IsRefusal status.BadModel × IsRefusal status.BadScript × IsRefusal status.TooLong
refusals = (tt, tt, tt, tt)

fault_is_no_refusal : IsRefusal status.ReadFault → ⊥
fault_is_no_refusal is = is

-- each status has its own number, with which the program ends
numbers_of_statuses : map number_of (status.Done ∷ status.Usage ∷ status.BadModel ∷ status.BadScript ∷ status.TooLong ∷ status.ReadFault ∷ status.WriteFault ∷ status.NoMemory ∷ [])
    ≡ 0 ∷ 2 ∷ 3 ∷ 4 ∷ 5 ∷ 6 ∷ 7 ∷ 8 ∷ []
numbers_of_statuses = refl

-- a source is not read to its end where a byte is left
byte_is_left : ReadsWhole (λ (s : List ℕ). Some s) (codes "ab") (codes "b") → ⊥
byte_is_left whole = let none : Some (codes "b") ≡ Some [] = whole.0 in (cc)

-- the input that is told, and what is asked of it
input_is_told : input_told (λ (s : List ℕ). Some s) (codes "ab") false ≡ Some (codes "ab")
input_is_told = refl

no_input_is_told : input_told (λ (s : List ℕ). Some s) (codes "ab") true ≡ Some []
no_input_is_told = refl

-- of some bytes the notes take a proper prefix and count a fault, or all of them and none
front_without_a_fault : TakesLine (λ (s : List ℕ). Some s) (λ s. 0) [] (codes "a") (codes "ab") → ⊥
front_without_a_fault (inl whole) = let same : codes "a" ≡ codes "ab" = whole.0 in (cc)
front_without_a_fault (inr failed) = let rose : 0 ≡ 1 = failed.fault in omega (arith, rose)

all_with_a_fault : TakesLine (λ (s : List ℕ). Some s) (λ s. length s) [] (codes "a") (codes "a") → ⊥
all_with_a_fault (inl whole) = let same : 1 ≡ 0 = whole.1 in omega (arith, same)
all_with_a_fault (inr failed) = by failed.gained.count failed.gained.within failed.gained.gained
  where
    by : (count : ℕ) → count < 1 → codes "a" ≡ take count (codes "a") → ⊥
    by zero few same = (cc)
    by (suc count) few same = absurd (omega (arith, few))

other_bytes_are_no_prefix : FailsToSend (λ (s : List ℕ). Some s) (λ s. last_count) [] (codes "b") (codes "ab") → ⊥
other_bytes_are_no_prefix failed = by failed.gained.count failed.gained.gained
  where
    by : (count : ℕ) → codes "b" ≡ take count (codes "ab") → ⊥
    by zero same = (cc)
    by (suc count) same = let byte : 98 ≡ 97 = ap (λ s. slice_index_or s 0 0) same in absurd (omega (arith, byte))

-- an output is a text, or the refusal of one
text_is_written : WritesText (output_of (codes "text" ∷ []) (codes " x  var-x")) (codes "x var-x\n")
text_is_written = record { done = refl; written = refl }

another_text_is_not : WritesText (output_of (codes "text" ∷ []) (codes "x var-x")) (codes "x var-y\n") → ⊥
another_text_is_not writes = let same : codes "x var-x\n" ≡ codes "x var-y\n" = writes.written in
    let byte : 120 ≡ 121 = ap (λ s. slice_index_or s 6 0) same in omega (arith, byte)

text_is_refused : RefusesText (output_of (codes "text" ∷ []) (codes "x neg y")) 1 (codes "UnknownName")
unfolding digits
text_is_refused = record { refused = refl; note = refl }

good_text_is_not : RefusesText (output_of (codes "text" ∷ []) (codes "x var-x")) 1 (codes "UnknownName") → ⊥
good_text_is_not refuses = let same : status.Done ≡ status.BadModel = refuses.refused in (cc)

-- a part of which no byte went out is not written
unwritten_part : Written (λ (s : List ℕ). Some s) (λ s. 0) [] [] no_counts no_counts (idle (codes "a") ∷ []) → ⊥
unwritten_part written = let same : [] ≡ codes "a" = written.gained in (cc)

-- where memory is refused nothing of the command is written
part_without_memory : HaltsIn (λ (s : List ℕ). Some s) (λ s. 0) [] (codes "@") no_counts no_counts [] (started []) commands.Text stop.NoMemory → ⊥
part_without_memory halts = let same : codes "@" ≡ [] = halts.gained in (cc)

-- memory is wanted for a frame, for an edit that is accepted and for an undo that brings a clause back, and for no edit that is refused
abbrev two : List Clause
two = record { name = codes "x"; op = op.X; a = 0; b = 0; value = pos 0 } ∷ record { name = codes "f"; op = op.Neg; a = 0; b = 0; value = pos 0 } ∷ []

abbrev shown : State
shown = started two

text_wants_memory : MayRunOut shown commands.Text
text_wants_memory = tt

clause_wants_memory : MayRunOut shown (commands.Edit 4 (edits.Add (codes "y") (record { op = op.Y; args = []; value = pos 0 })))
clause_wants_memory = refl

double_name_wants_none : MayRunOut shown (commands.Edit 4 (edits.Add (codes "f") (record { op = op.Y; args = []; value = pos 0 }))) → ⊥
double_name_wants_none wants = let is : false ≡ true = wants in (cc)

cut_wants_memory : MayRunOut shown (commands.Edit 4 (edits.Cut (codes "f")))
cut_wants_memory = refl

undo_wants_none : MayRunOut shown (commands.Undo 4) → ⊥
undo_wants_none wants = wants

undo_wants_memory : MayRunOut (state_after shown (commands.Edit 3 (edits.Cut (codes "f")))) (commands.Undo 4)
undo_wants_memory = tt

undo_of_a_set_wants_none : MayRunOut (state_after shown (commands.Edit 3 (edits.Set (codes "x") (record { op = op.Z; args = []; value = pos 0 })))) (commands.Undo 4) → ⊥
undo_of_a_set_wants_none wants = wants

stray_wants_none : MayRunOut shown (commands.Stray 4) → ⊥
stray_wants_none wants = wants

cost_wants_none : MayRunOut shown commands.Cost → ⊥
cost_wants_none wants = wants

-- what stands after an edit that is accepted
after_a_cut : (standing shown (commands.Edit 3 (edits.Cut (codes "f")) ∷ commands.Text ∷ [])).clauses ≡ record { name = codes "x"; op = op.X; a = 0; b = 0; value = pos 0 } ∷ []
unfolding standing
after_a_cut = refl

-- what stands after an edit that is taken back, and what an undo writes that finds none
after_an_undo : standing shown (commands.Edit 3 (edits.Cut (codes "f")) ∷ commands.Undo 4 ∷ []) ≡ shown
unfolding standing
after_an_undo = refl

one_undo_too_many : replayed shown (commands.Edit 3 (edits.Cut (codes "f")) ∷ commands.Undo 4 ∷ commands.Undo 5 ∷ [])
    ≡ record { bytes = codes "@ refused 5 NothingToUndo\n"; work = no_work } ∷ []
unfolding digits replayed
one_undo_too_many = refl

-- a frame halts for want of memory only behind what the stray line before it writes, and that line never does
abbrev stray_and_text : List Command
stray_and_text = commands.Stray 3 ∷ commands.Text ∷ []

stray_is_passed : HaltsAt (λ (s : List ℕ). Some s) (λ s. 0) [] [] no_counts no_counts shown stray_and_text stop.NoMemory → ⊥
unfolding digits replayed standing
stray_is_passed at = by at.k at.command at.kth at.counts at.halts
  where
    by : (k : ℕ) (command : Command) → stray_and_text ≡ take k stray_and_text ++ command ∷ drop (k + 1) stray_and_text → (counts : Counts)
        → RunsOutIn (λ (s : List ℕ). Some s) (λ s. 0) [] [] counts no_counts (bytes_of_parts (replayed shown (take k stray_and_text))) (standing shown (take k stray_and_text)) command → ⊥
    by zero command kth counts halts =
        let same : commands.Stray 3 ≡ command = cc in subst (MayRunOut shown) (sym same) halts.may
    by (suc k) command kth counts halts =
        let none : [] ≡ bytes_of_parts (replayed shown (commands.Stray 3 ∷ take k (commands.Text ∷ []))) = halts.gained in
        let byte : None ≡ Some 64 = ap (λ s. slice_get s 0) none in
        (cc)

-- parts are written in their order, and their work is the sum of theirs
parts_in_order : bytes_of_parts (idle (codes "a") ∷ idle (codes "bc") ∷ []) ≡ codes "abc"
parts_in_order = refl

work_adds_up : work_of_parts (picture ∷ record { bytes = []; work = exactly 1 20 300 } ∷ []) ≡ exactly 10 23 309
work_adds_up = refl

-- an image, a map and a mesh have each their own plain evaluation: pixels, samples and points
abbrev drawn_of_two : List Part
drawn_of_two =
    let view = record (window 2 3 (pos 0)) { d = 4; nx = 1; ny = 1; nz = 1 } in replayed shown (commands.Render view ∷ commands.Height view ∷ commands.Mesh view ∷ [])

plain_evaluations : map (λ part. part.work.plain) drawn_of_two ≡ 12 ∷ 48 ∷ 16 ∷ []
unfolding replayed
plain_evaluations = refl

-- the lines of a solid that is forged: of three pixels the places -1 and 0 lie below 0.5, as in the picture
forged_lines : forge_text (window 3 1 (pos 0)) (
    record { name = codes "x"; op = op.X; a = 0; b = 0; value = pos 0 }
    ∷ record { name = codes "c"; op = op.Const; a = 0; b = 0; value = pos 2147483648 }
    ∷ record { name = codes "f"; op = op.Sub; a = 0; b = 1; value = pos 0 } ∷ [])
    ≡ codes "clauses 3\ninside 2\npoints 9\nspans 3\nplain 9\n"
unfolding digits points_in spans_in chain_within
forged_lines = refl

-- an image and a height map take as many evaluations and traced steps at least as at most
exact_evaluations : (view : Window) → map (λ part. part.work.least.points) (replayed shown (commands.Render view ∷ commands.Height view ∷ []))
    ≡ map (λ part. part.work.most.points) (replayed shown (commands.Render view ∷ commands.Height view ∷ []))
unfolding replayed
exact_evaluations view = refl

exact_traces : (view : Window) → map (λ part. part.work.least.spans) (replayed shown (commands.Render view ∷ commands.Height view ∷ []))
    ≡ map (λ part. part.work.most.spans) (replayed shown (commands.Render view ∷ commands.Height view ∷ []))
unfolding replayed
exact_traces view = refl

-- and so does what is forged, which is one part
forging_is_exact : (wanted : Wanted) (input : List ℕ) → map (λ part. part.work.least.points) (output_as (made (Forge wanted) input)).parts
    ≡ (frame_work wanted.view (forged_clauses wanted)).most.points ∷ []
forging_is_exact wanted input = refl

-- each stop ends a run with its own status
statuses_of_stops : map status_at (stop.Refused refusal.TooLong ∷ stop.ReadFault ∷ stop.WriteFault ∷ stop.NoMemory ∷ [])
    ≡ status.TooLong ∷ status.ReadFault ∷ status.WriteFault ∷ status.NoMemory ∷ []
statuses_of_stops = refl

-- an input has at most 8 MiB: such a one is read whole, and one byte more is not
limit_is_8_mib : input_limit ≡ 8 * 2 ^ 20
limit_is_8_mib = refl

limit_is_read_whole : (input : List ℕ) → length input ≡ input_limit → ReadsWhole (λ (s : List ℕ). Some s) input []
limit_is_read_whole input full = (refl, omega (arith, full))

above_limit_is_not : (input : List ℕ) → length input ≡ input_limit + 1 → ReadsWhole (λ (s : List ℕ). Some s) input [] → ⊥
above_limit_is_not input more whole = let few : length input ≤ input_limit = whole.1 in omega (arith, more, few)

-- one disc that is out of sight, of the seed 0: all its clauses are looked at, once
disc_out_of_sight : output_as (made (Forge (record { seed = 0; solids = 1; view = record (window 1 1 (pos 0)) { x0 = pos 21474836480; x1 = pos 25769803776 } })) [])
    ≡ done (codes "clauses 12\ninside 0\npoints 0\nspans 12\nplain 12\n") 0 12 12
unfolding digits points_in spans_in chain_within forged_clauses
disc_out_of_sight = refl

-- the mesh of a text: eight points of a grid of one cell
mesh_of_a_text : map (λ part. part.work.plain) (output_as (made (Mesh (record (window 3 2 (pos 0)) { nx = 1; ny = 1; nz = 1 })) (codes "x var-x\ny var-y"))).parts ≡ 16 ∷ []
mesh_of_a_text = refl

-- a frame bears the name of what it shows
frames_have_names : map (λ part. take 5 part.bytes) drawn_of_two ≡ codes "@ ren" ∷ codes "@ hei" ∷ codes "@ mes" ∷ []
unfolding replayed
frames_have_names = refl

-- the notes are told that a script is refused, and why
script_is_told : (output_of (codes "replay" ∷ []) (codes "x var-x\n")).note ≡ codes "modeller: script line 0: NoMark\n"
unfolding digits
script_is_told = refl

-- a tally rises by the work of some input, and where the words are refused by none
abbrev risen_by : ℕ → ℕ → ℕ → Counts
risen_by points spans corners = record { points = points; spans = spans; corners = corners }

some_input_counts : CountsForSome (codes "count" ∷ codes "w=3" ∷ codes "h=1" ∷ []) no_counts (risen_by 3 1 4)
unfolding digits points_in spans_in chain_within setting_of CountsWithin
some_input_counts = record {
  input = codes "x var-x";
  few = omega arith;
  work = record { by = risen_by 3 1 4; within = record { points = omega arith; spans = omega arith; corners = omega arith }; rises = refl };
  plain = record { by = 3; few = omega arith; rises = refl };
}

refused_words_count_none : CountsForSome (codes "draw" ∷ []) no_counts (risen_by 1 0 0) → ⊥
unfolding CountsWithin
refused_words_count_none some =
    let work : RisesAtMost no_counts (risen_by 1 0 0) no_counts = some.work in
    let points : 1 ≡ risen 0 work.by.points = ap (λ (counts : Counts). counts.points) work.rises in
    omega (arith, work.within.points, points)

-- the work of a part that was written is counted
uncounted_part : Written (λ (s : List ℕ). Some s) (λ s. 0) [] picture.bytes no_counts no_counts (picture ∷ []) → ⊥
unfolding CountsWork
uncounted_part written =
    let counts : RisesWithin no_counts no_counts (risen_by 9 3 0) (risen_by 9 3 12) = written.counted in
    let points : 0 ≡ risen 0 counts.by.points = ap (λ (counts : Counts). counts.points) counts.rises in
    omega (arith, counts.enough.points, points)

-- beside a part whose work is only known within bounds at least the least of both is counted
abbrev bounded : Part
bounded = record {
  bytes = codes "m";
  work = record { least = risen_by 5 4 0; most = risen_by 50 40 160; bound = risen_by 50 40 160; plain = 70 };
}

uncounted_beside : Written (λ (s : List ℕ). Some s) (λ s. 0) [] (bounded.bytes ++ picture.bytes) no_counts (risen_by 13 7 0) (bounded ∷ picture ∷ []) → ⊥
unfolding CountsWork
uncounted_beside written =
    let counts : RisesWithin no_counts (risen_by 13 7 0) (risen_by 14 7 0) (risen_by 59 43 172) = written.counted in
    let points : 13 ≡ risen 0 counts.by.points = ap (λ (counts : Counts). counts.points) counts.rises in
    omega (arith, counts.enough.points, points)

fewer_hulls_beside : Written (λ (s : List ℕ). Some s) (λ s. 0) [] (bounded.bytes ++ picture.bytes) no_counts (risen_by 14 6 0) (bounded ∷ picture ∷ []) → ⊥
unfolding CountsWork
fewer_hulls_beside written =
    let counts : RisesWithin no_counts (risen_by 14 6 0) (risen_by 14 7 0) (risen_by 59 43 172) = written.counted in
    let spans : 6 ≡ risen 0 counts.by.spans = ap (λ (counts : Counts). counts.spans) counts.rises in
    omega (arith, counts.enough.spans, spans)

-- a part that was written, with exactly its work, and one that a fault of the sink halted behind its first byte
picture_is_written : Written (λ (s : List ℕ). Some s) (λ s. 0) [] picture.bytes no_counts (risen_by 9 3 12) (picture ∷ [])
unfolding CountsWork CountsWithin
picture_is_written = record {
  gained = refl;
  no_fault = refl;
  counted = record {
    by = risen_by 9 3 12;
    enough = record { points = omega arith; spans = omega arith; corners = omega arith };
    within = record { points = omega arith; spans = omega arith; corners = omega arith };
    rises = refl;
  };
  at_most = record { by = risen_by 9 3 12; within = record { points = omega arith; spans = omega arith; corners = omega arith }; rises = refl };
  plain = record { by = 9; few = omega arith; rises = refl };
}

abbrev busy : Part
busy = record { bytes = codes "ab"; work = exactly 1 2 3 }

front_is_left : Halted (λ (s : List ℕ). Some s) (λ s. length s) [] (codes "a") no_counts (risen_by 1 2 8) (busy ∷ []) stop.WriteFault
unfolding CountsWithin
front_is_left = record {
  failed = λ is. record { gained = record { count = 1; within = omega arith; gained = refl }; fault = refl };
  no_fault = λ other. absurd (other refl);
  at_most = record { by = risen_by 1 2 8; within = record { points = omega arith; spans = omega arith; corners = omega arith }; rises = refl };
  plain = record { by = 1; few = omega arith; rises = refl };
  grew = record { bytes = codes "a"; gained = refl };
}

-- no fault of the sink is passed over, and under one no other bytes are left
fault_is_not_written : Written (λ (s : List ℕ). Some s) (λ s. length s) [] (codes "a") no_counts no_counts (idle (codes "a") ∷ []) → ⊥
fault_is_not_written written = let same : 1 ≡ 0 = written.no_fault in omega (arith, same)

fault_is_not_memory : Halted (λ (s : List ℕ). Some s) (λ s. length s) [] (codes "a") no_counts no_counts (idle (codes "a") ∷ []) stop.NoMemory → ⊥
fault_is_not_memory halted = let same : 1 ≡ 0 = halted.no_fault (λ is. cc) in omega (arith, same)

other_bytes_are_left : Halted (λ (s : List ℕ). Some s) (λ s. last_count) [] (codes "b") no_counts no_counts (idle (codes "ab") ∷ []) stop.WriteFault → ⊥
other_bytes_are_left halted = other_bytes_are_no_prefix (halted.failed refl)

-- such a fault is counted once, nothing beyond the work is, and no byte is lost
fault_is_counted_once : Halted (λ (s : List ℕ). Some s) (λ s. 0) [] (codes "a") no_counts no_counts (idle (codes "a") ∷ []) stop.WriteFault → ⊥
fault_is_counted_once halted = let rose : 0 ≡ 1 = (halted.failed refl).fault in omega (arith, rose)

more_than_the_work : Halted (λ (s : List ℕ). Some s) (λ s. last_count) [] [] no_counts (risen_by 0 3 0) (busy ∷ []) stop.WriteFault → ⊥
unfolding CountsWithin
more_than_the_work halted =
    let work : RisesAtMost no_counts (risen_by 0 3 0) (risen_by 1 2 8) = halted.at_most in
    let spans : 3 ≡ risen 0 work.by.spans = ap (λ (counts : Counts). counts.spans) work.rises in
    omega (arith, work.within.spans, spans)

more_than_plain : Halted (λ (s : List ℕ). Some s) (λ s. last_count) [] [] no_counts (risen_by 4 0 0) (busy ∷ []) stop.WriteFault → ⊥
more_than_plain halted =
    let points : 4 ≡ risen 0 halted.plain.by = halted.plain.rises in
    omega (arith, halted.plain.few, points)

bytes_are_lost : Halted (λ (s : List ℕ). Some s) (λ s. 0) (codes "ab") (codes "a") no_counts no_counts [] stop.NoMemory → ⊥
bytes_are_lost halted = let same : codes "a" ≡ codes "ab" ++ halted.grew.bytes = halted.grew.gained in (cc)

-- a fault of the sink halts no edit that is accepted, since it writes nothing
edit_meets_no_fault : FailsIn (λ (s : List ℕ). Some s) (λ s. last_count) [] [] no_counts no_counts [] shown (commands.Edit 4 (edits.Cut (codes "f"))) → ⊥
edit_meets_no_fault fails = let few : fails.gained.count < 0 = fails.gained.within in omega (arith, few)

-- under such a fault the image of a frame was counted, and nothing is left but a prefix of the frame
abbrev drawing : Command
drawing = commands.Render (window 3 1 (pos 0))

uncounted_frame : FailsIn (λ (s : List ℕ). Some s) (λ s. last_count) [] [] no_counts no_counts [] shown drawing → ⊥
unfolding CountsWork points_after spans_after chain_within
uncounted_frame fails =
    let counts : RisesWithin no_counts no_counts (risen_by 6 2 0) (risen_by 6 2 8) = fails.worked.counted in
    let points : 0 ≡ risen 0 counts.by.points = ap (λ (counts : Counts). counts.points) counts.rises in
    omega (arith, counts.enough.points, points)

bytes_of_no_frame : FailsIn (λ (s : List ℕ). Some s) (λ s. last_count) [] (codes "b") no_counts no_counts [] shown commands.Text → ⊥
bytes_of_no_frame fails = by fails.gained.count fails.gained.gained
  where
    by : (count : ℕ) → codes "b" ≡ take count (bytes_of_parts (parts_at shown commands.Text)) → ⊥
    by zero same = (cc)
    by (suc count) same = let byte : 98 ≡ 64 = ap (λ s. slice_index_or s 0 0) same in absurd (omega (arith, byte))

-- nothing is counted before the first command of a script, whatever ends it there
abbrev unwritten : List ℕ
unwritten = []

counted_before_a_script : HaltsScript (λ (s : List ℕ). Some s) (λ s. 0) unwritten unwritten no_counts (record no_counts { points = 1 }) (codes "x var-x\n%%\n") stop.NoMemory → ⊥
unfolding digits
counted_before_a_script (inl none) = let same : 1 ≡ 0 = ap (λ (counts : Counts). counts.points) none.1 in omega (arith, same)
counted_before_a_script (inr replay) =
    let is : ◌≡◌ {A = Result (List Command) ScriptFault} (Ok []) (Ok replay.commands) = replay.script in
    let none : [] ≡ replay.commands = cc in
    let some = subst (λ (commands : List Command). commands ≡ take replay.halts.k commands ++ replay.halts.command ∷ drop (replay.halts.k + 1) commands) (sym none) replay.halts.kth in
    let long : 0 ≡ length {A = Command} (take replay.halts.k []) + length (replay.halts.command ∷ drop (replay.halts.k + 1) []) =
    ap length some ∙ length-append (take replay.halts.k []) (replay.halts.command ∷ drop (replay.halts.k + 1) []) in
    omega (arith, long)

-- half a frame is written of no script that runs out of memory
half_a_frame : HaltsScript (λ (s : List ℕ). Some s) (λ s. 0) [] (codes "@") no_counts no_counts (codes "x var-x\n%%\ntext\n") stop.NoMemory → ⊥
unfolding digits replayed standing
half_a_frame (inl none) = let same : codes "@" ≡ [] = none.0 in (cc)
half_a_frame (inr replay) =
    let is : ◌≡◌ {A = Result (List Command) ScriptFault} (Ok (commands.Text ∷ [])) (Ok replay.commands) = replay.script in
    let same : commands.Text ∷ [] ≡ replay.commands = cc in
    by (subst (λ commands. HaltsAt (λ (s : List ℕ). Some s) (λ s. 0) [] (codes "@") no_counts no_counts (started replay.clauses) commands stop.NoMemory) (sym same) replay.halts)
  where
    at : (state : State) (k : ℕ) (command : Command) → commands.Text ∷ [] ≡ take k (commands.Text ∷ []) ++ command ∷ drop (k + 1) (commands.Text ∷ []) → (counts : Counts)
        → RunsOutIn (λ (s : List ℕ). Some s) (λ s. 0) [] (codes "@") counts no_counts (bytes_of_parts (replayed state (take k (commands.Text ∷ [])))) (standing state (take k (commands.Text ∷ []))) command → ⊥
    at state zero command kth counts halts = let none : codes "@" ≡ [] = halts.gained in (cc)
    at state (suc k) command kth counts halts =
        let long : 1 ≡ suc (length {A = Command} (take k [])) + length (command ∷ drop (suc k + 1) (commands.Text ∷ [])) =
        ap length kth ∙ length-append (take (suc k) (commands.Text ∷ [])) (command ∷ drop (suc k + 1) (commands.Text ∷ [])) in
        omega (arith, long)

    by : {state : State} → HaltsAt (λ (s : List ℕ). Some s) (λ s. 0) [] (codes "@") no_counts no_counts state (commands.Text ∷ []) stop.NoMemory → ⊥
    by {state} halts = at state halts.k halts.command halts.kth halts.counts halts.halts

-- the text of a mesh that is written is told to be sound, and so is that of a frame: of what stands where it comes
abbrev cells : ℕ → Window
cells n = record (window 512 512 (pos 0)) { nx = n; ny = n; nz = n }

mesh_is_told_sound : MeshesAreSound (codes "mesh" ∷ codes "n=3" ∷ []) (codes "x var-x")
    → IsSoundText (cells 3) (take 1 two) (bytes_of_parts (output_of (codes "mesh" ∷ codes "n=3" ∷ []) (codes "x var-x")).parts)
unfolding digits setting_of has_room
mesh_is_told_sound sound = sound (cells 3) (take 1 two) refl refl refl

abbrev meshed : List ℕ
meshed = codes "x var-x\n%%\nadd f neg x\nmesh n=3\ntext\n"

abbrev added : Command
added = commands.Edit 3 (edits.Add (codes "f") (record { op = op.Neg; args = codes "x" ∷ []; value = pos 0 }))

frame_is_told_sound : MeshFramesAreSound (codes "replay" ∷ []) meshed
    → HasSoundFrame (cells 3) two (replayed (started (take 1 two)) (added ∷ [])) (replayed_of meshed).parts
unfolding digits setting_of has_room standing
frame_is_told_sound sound = sound (take 1 two) (added ∷ []) (commands.Text ∷ []) (cells 3) refl refl refl refl

-- the frame of a mesh stands behind what the commands before it write, and bears its name
text_is_no_mesh : (view : Window) (clauses : List Clause)
    → HasSoundFrame view clauses (idle (codes "a") ∷ []) (idle (codes "a") ∷ idle (codes "@ text 1\nb") ∷ []) → ⊥
unfolding digits
text_is_no_mesh view clauses has =
    let same : idle (codes "@ text 1\nb") ≡ has.frame = cc in
    let bytes : codes "@ text 1\nb" ≡ frame_of (codes "mesh") has.text = ap (λ (part : Part). part.bytes) same ∙ has.bytes in
    let byte : 116 ≡ 109 = ap (λ s. slice_index_or s 2 0) bytes in
    omega (arith, byte)

text_of_a_frame_is_sound : (view : Window) (clauses : List Clause) (before parts : List Part) (has : HasSoundFrame view clauses before parts) → IsSoundText view clauses has.text
text_of_a_frame_is_sound view clauses before parts has = has.sound
