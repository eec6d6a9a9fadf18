-- A small script, worked out by hand: which lines say commands, and on which of them memory may be wanted.
use Rattle.std.proofs.Common.{◌≡◌, ℕ, pos, negsuc, true, false, Some, Ok, Err, List, [], ◌∷◌, refl, arith}
use Rattle.std.specs.Prelude.{◌≢◌, ◌≤◌, All, codes, map, None, Option}
use Rattle.std.proofs.lemmas.Int.{ints}
use Rattle.fixed_ops.specs.Numerals.{cut_magnitude, is_unsigned_numeral, nearest_raw, unsigned_raw}
use Rattle.fixed_ops.specs.declared.operation.Op.TheVariants as ops
use Rattle.solid_model.specs.declared.edit.Edit.TheVariants as edits
use Rattle.view_settings.specs.Setting.{setting_of}
use Rattle.view_places.specs.Window.{Window, has_room}
use Rattle.clause_reader.specs.declared.read_error.ReadError.TheVariants.{Memory, Defect}
use Rattle.clause_reader.specs.Gives.{Gives}
use Rattle.clause_reader.specs.Lines.{tokens_of}
use Rattle.edit_script.specs.Commands.{IsCommand, command_read}
use Rattle.edit_script.specs.Keywords.{keyword_named}
use Rattle.edit_script.specs.Marks.{before_mark, mark_ends}
use Rattle.edit_script.specs.declared.command.Command.TheVariants.{Cost, Edit, Height, Mesh, Render, Stray, Text, Undo}
use Rattle.edit_script.specs.declared.keyword.Keyword.TheVariants as keywords
use Rattle.edit_script.specs.declared.script_fault.ScriptFault.{ScriptFault}
use Rattle.edit_script.specs.declared.script_reason.ScriptReason.{ScriptReason}
use Rattle.edit_script.specs.declared.script_reason.ScriptReason.TheVariants.{UnknownCommand, TooShort, BadName, UnknownOperation, WrongArity, BadNumeral, BadSetting, NoMemory}
use Rattle.edit_script.specs.Reasons.{holds, reason_in}
use Rattle.edit_script.specs.Scripts.{pushed, script_read, IsCommandLine, RefusesScript}
use Rattle.edit_script.proofs.CommandLaws.{read-scripts-are-commands}

-- the mark is line 2, line 3 is a comment, and lines 4 and 5 are commands
abbrev script : List ℕ
script = codes "x var-x\n%%\n# c\ntext\ncut #x"

commands_of_the_script : script_read script ≡ Ok (Text ∷ Stray 5 ∷ [])
commands_of_the_script = refl

line_after_the_mark : IsCommandLine script 4
line_after_the_mark = record { mark = 1; marked = refl; after = omega arith; says = refl }

last_line : IsCommandLine script 5
last_line = record { mark = 1; marked = refl; after = omega arith; says = refl }

mark_line_is_none : IsCommandLine script 2 → ⊥
mark_line_is_none line =
    let marked : Some 1 ≡ Some line.mark = line.marked in
    let one : 1 ≡ line.mark = cc in
    absurd (omega (arith, line.after))

comment_is_none : IsCommandLine script 3 → ⊥
comment_is_none line = let says : false ≡ true = line.says in (cc)

-- memory may be wanted before the line that is refused, and not on it
abbrev refused : List ℕ
refused = codes "%%\ntext\npaint\ntext"

refused_line : script_read refused ≡ Err (record { line = 3; reason = UnknownCommand })
refused_line = refl

memory_before_it : RefusesScript refused (record { line = 2; reason = NoMemory })
memory_before_it = record { refused = λ other. absurd (other refl); no_memory = λ is. omega arith }

no_memory_on_it : RefusesScript refused (record { line = 3; reason = NoMemory }) → ⊥
no_memory_on_it refuses = let less = refuses.no_memory refl in absurd (omega (arith, less))

-- the line right after the mark says a command
line_next_to_the_mark : IsCommandLine refused 2
line_next_to_the_mark = record { mark = 0; marked = refl; after = omega arith; says = refl }

-- the line and the reason that are told are those of the line that is refused
refused_so : RefusesScript refused (record { line = 3; reason = UnknownCommand })
refused_so = record { refused = λ other. refl; no_memory = λ is. (cc) }

told_so : (fault : ScriptFault) → fault.reason ≢ NoMemory → RefusesScript refused fault
    → script_read refused ≡ Err fault
told_so fault other refuses = refuses.refused other

-- the model is what stands before the mark line, and the commands what stands after it
ends_of_the_mark : mark_ends script ≡ Some (8, 11)
ends_of_the_mark = refl

model_before_the_mark : before_mark script ≡ codes "x var-x\n"
model_before_the_mark = refl

blank_line_is_no_mark : mark_ends (codes "x\n\n %%\n") ≡ Some (3, 7)
blank_line_is_no_mark = refl

all_before_no_mark : before_mark (codes "x\n%% %%\n") ≡ codes "x\n%% %%\n"
all_before_no_mark = refl

-- each edit has the number of its line, its names and its arguments in their order
edits_of_a_script : script_read (codes "%%\n\nset x sub a b\nadd s neg x\nput x t const 2\ncut s")
    ≡ Ok (
    Edit 3 (edits.Set (codes "x") (record { op = ops.Sub; args = codes "a" ∷ codes "b" ∷ []; value = pos 0 }))
    ∷ Edit 4 (edits.Add (codes "s") (record { op = ops.Neg; args = codes "x" ∷ []; value = pos 0 }))
    ∷ Edit 5 (edits.Put (codes "x") (codes "t") (record { op = ops.Const; args = []; value = pos 8589934592 }))
    ∷ Edit 6 (edits.Cut (codes "s")) ∷ [])
unfolding cut_magnitude is_unsigned_numeral nearest_raw unsigned_raw
edits_of_a_script = refl

-- where a token that begins with `#` should name a clause, the line names none
strays_of_a_script : script_read (codes "%%\nset #x neg a\nadd s neg #x\nput #x t var-y\ncut #") ≡ Ok (Stray 2 ∷ Stray 3 ∷ Stray 4 ∷ Stray 5 ∷ [])
strays_of_a_script = refl

-- the window of a draw without settings
abbrev window : Window
window = record {
  x0 = negsuc 4294967295;
  x1 = pos 4294967296;
  y0 = negsuc 4294967295;
  y1 = pos 4294967296;
  z0 = negsuc 4294967295;
  z1 = pos 4294967296;
  z = pos 0;
  w = 512;
  h = 512;
  d = 255;
  nx = 64;
  ny = 64;
  nz = 64;
}

-- what takes an edit back tells its line
undo_of_a_script : script_read (codes "%%\nundo\n#undo\n undo") ≡ Ok (Undo 2 ∷ Undo 4 ∷ [])
undo_of_a_script = refl

undo_is_written_small : command_read 2 (codes "Undo" ∷ []) ≡ Err UnknownCommand
undo_is_written_small = refl

-- each draw has its own settings
draws_of_a_script : script_read (codes "%%\nrender w=3\nheight h=4 d=5\nmesh nx=3 n=6\nrender")
    ≡ Ok (
    Render (record window { w = 3 })
    ∷ Height (record window { h = 4; d = 5 })
    ∷ Mesh (record window { nx = 3; ny = 6; nz = 6 })
    ∷ Render window ∷ [])
unfolding setting_of has_room
draws_of_a_script = refl

-- a stray line, the text, the cost and what takes an edit back keep nothing
kept_by_none : IsCommand (Stray 5) × IsCommand Text × IsCommand Cost × IsCommand (Undo 5)
kept_by_none = (tt, tt, tt, tt)

-- what an edit names is a name, and each draw keeps to its own limits
cut_of_no_name : IsCommand (Edit 3 (edits.Cut [])) → ⊥
cut_of_no_name is = (cc)

wide_map : IsCommand (Height (record window { w = 1025 })) → ⊥
wide_map is = absurd (omega (arith, is.1.w))

flat_map : IsCommand (Height (record window { d = 0 })) → ⊥
flat_map is = absurd (omega (arith, is.0.d.some))

no_columns : IsCommand (Render (record window { w = 0 })) → ⊥
no_columns is = absurd (omega (arith, is.w.some))

many_cells : IsCommand (Mesh (record window { ny = 513 })) → ⊥
many_cells is = absurd (omega (arith, is.0.ny.few))

many_in_all : IsCommand (Mesh (record window { nx = 512; ny = 512; nz = 65 })) → ⊥
many_in_all is = let all : 17039360 ≤ 16777216 = is.1.all in omega (arith, all)

small_cells : IsCommand (Mesh (record window { x1 = negsuc 4290772992 })) → ⊥
small_cells is = absurd (omega (arith, ints, is.1.x))

-- so do all commands of a script
commands_keep : All IsCommand (Edit 2 (edits.Cut (codes "x")) ∷ Height (record window { w = 3 }) ∷ [])
unfolding setting_of has_room
commands_keep = read-scripts-are-commands (codes "%%\ncut x\nheight w=3\n")

each_keyword_is_read : map keyword_named
    (codes "set" ∷ codes "add" ∷ codes "put" ∷ codes "cut" ∷ codes "undo" ∷ codes "render" ∷ codes "height"
    ∷ codes "mesh" ∷ codes "text" ∷ codes "cost" ∷ codes "count" ∷ [])
    ≡ Some keywords.Set ∷ Some keywords.Add ∷ Some keywords.Put ∷ Some keywords.Cut
    ∷ Some keywords.Undo ∷ Some keywords.Render ∷ Some keywords.Height ∷ Some keywords.Mesh ∷ Some keywords.Text
    ∷ Some keywords.Cost ∷ None ∷ []
each_keyword_is_read = refl

-- the reason against a line alone
abbrev reason_against : List ℕ → Option ScriptReason
reason_against line = reason_in (command_read 2 (tokens_of line))

short_lines : map reason_against (codes "set x" ∷ codes "add #x" ∷ codes "put x t" ∷ codes "cut" ∷ [])
    ≡ Some TooShort ∷ Some TooShort ∷ Some TooShort ∷ Some TooShort ∷ []
short_lines = refl

new_names_that_begin_comments : map reason_against
    (codes "add #x mod" ∷ codes "put x #t neg" ∷ codes "set #x mod" ∷ [])
    ≡ Some BadName ∷ Some BadName ∷ Some UnknownOperation ∷ []
new_names_that_begin_comments = refl

-- a token too many is told before a bad numeral
wrong_counts_of_tokens : map reason_against
    (codes "set x neg" ∷ codes "add x const y z" ∷ codes "cut x y" ∷ codes "text x"
    ∷ codes "cost x" ∷ codes "put x t sub y" ∷ codes "undo x" ∷ codes "undo #" ∷ [])
    ≡ Some WrongArity ∷ Some WrongArity ∷ Some WrongArity ∷ Some WrongArity ∷ Some WrongArity ∷ Some WrongArity ∷ Some WrongArity
    ∷ Some WrongArity ∷ []
wrong_counts_of_tokens = refl

bad_numeral : reason_against (codes "put x t const y") ≡ Some BadNumeral
unfolding is_unsigned_numeral
bad_numeral = refl

-- where the command or the operation is none, nothing after it is told
other_reasons : map (λ reason. holds (codes "paint" ∷ []) reason)
    (UnknownCommand ∷ TooShort ∷ BadSetting ∷ [])
    ≡ true ∷ false ∷ false ∷ []
other_reasons = refl

no_arity : map (λ reason. holds (codes "set" ∷ codes "x" ∷ codes "mod" ∷ []) reason)
    (UnknownOperation ∷ WrongArity ∷ BadNumeral ∷ [])
    ≡ true ∷ false ∷ false ∷ []
no_arity = refl

-- each draw has the settings of its verb alone, and a fault of all of them is one of the line
bad_settings : map reason_against
    (codes "render n=3" ∷ codes "height w=1025" ∷ codes "mesh w=3" ∷ codes "render h=4 h=4"
    ∷ codes "mesh n" ∷ [])
    ≡ Some BadSetting ∷ Some BadSetting ∷ Some BadSetting ∷ Some BadSetting ∷ Some BadSetting ∷ []
unfolding setting_of
bad_settings = refl

ends_exchanged : reason_against (codes "render x0=2") ≡ Some BadSetting
unfolding setting_of cut_magnitude is_unsigned_numeral nearest_raw unsigned_raw
ends_exchanged = refl

-- a reader gives the very value and the very reason, and wants memory for what is accepted alone
other_value : Gives {A = ℕ} {D = ScriptReason} (Ok 3) (Ok 4) → ⊥
other_value gives = cc

other_reason : Gives {A = ℕ} (Err BadNumeral) (Err (Defect WrongArity)) → ⊥
other_reason gives = cc

very_reason : Gives {A = ℕ} (Err BadNumeral) (Err (Defect BadNumeral))
very_reason = refl

memory_for_a_value : Gives {A = ℕ} {D = ScriptReason} (Ok 3) (Err Memory)
memory_for_a_value = refl

no_memory_for_a_refusal : Gives {A = ℕ} (Err BadNumeral) (Err Memory) → ⊥
no_memory_for_a_refusal gives = let accepted : false ≡ true = gives in (cc)

-- a line that is refused adds no command
more_commands : map (λ more. pushed (Text ∷ []) more) (Ok (Stray 5) ∷ Err BadName ∷ []) ≡ Ok (Text ∷ Stray 5 ∷ []) ∷ Err BadName ∷ []
more_commands = refl

-- lines that are no comments
lines_one_by_one : map (λ line. command_read 3 (tokens_of line)) (codes "cut #x" ∷ codes "paint x" ∷ []) ≡ Ok (Stray 3) ∷ Err UnknownCommand ∷ []
lines_one_by_one = refl
