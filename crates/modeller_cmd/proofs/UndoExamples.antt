-- What undos lead back to and what frames show, on a small script that was worked out by hand.
use Rattle.std.proofs.Common.{◌≡◌, ℕ, pos, List, [], ◌∷◌, ◌++◌, take, map, Ok, refl, ap, ◌∙◌, arith}
use Rattle.std.specs.Prelude.{Some, None, codes, slice_index_or}
use Rattle.std.specs.Fmt.{digits}
use Rattle.edit_script.specs.Scripts.{script_read}
use Rattle.edit_script.specs.declared.command.Command.{Command}
use Rattle.edit_script.specs.declared.command.Command.TheVariants as commands
use Rattle.edit_session.specs.Sessions.{State, started}
use Rattle.fixed_ops.specs.declared.operation.Op.TheVariants as op
use Rattle.model_frames.specs.Frames.{Part}
use Rattle.model_frames.specs.Work.{no_work}
use Rattle.model_frames.specs.declared.frame.Frame.TheVariants as frames
use Rattle.solid_model.specs.declared.clause.Clause.{Clause}
use Rattle.solid_model.specs.declared.edit.Edit.TheVariants as edits
use Rattle.view_places.specs.Window.{Window}
use Rattle.modeller_cmd.specs.Output.{Output, output_of}
use Rattle.modeller_cmd.specs.Parts.{bytes_of_parts}
use Rattle.modeller_cmd.specs.Replays.{replayed, standing}
use Rattle.modeller_cmd.specs.ShownModels.{FramesShowModels, UndosBringFramesBack}
use Rattle.modeller_cmd.specs.Undoing.{AreTakenBack, HasFrame, drawn_by, edits_among, undos_among}

-- a model of three clauses, and of the first two
abbrev three : List Clause
three = record { name = codes "x"; op = op.X; a = 0; b = 0; value = pos 0 }
    ∷ record { name = codes "f"; op = op.Neg; a = 0; b = 0; value = pos 0 }
    ∷ record { name = codes "g"; op = op.Neg; a = 1; b = 0; value = pos 0 } ∷ []

abbrev two : State
two = started (take 2 three)

abbrev cut : ℕ → List ℕ → Command
cut line name = commands.Edit line (edits.Cut name)

abbrev add_g : Command
add_g = commands.Edit 4 (edits.Add (codes "g") (record { op = op.Neg; args = codes "f" ∷ []; value = pos 0 }))

undos_are_counted : undos_among (commands.Undo 4 ∷ commands.Text ∷ commands.Undo 5 ∷ commands.Stray 6 ∷ cut 7 (codes "f") ∷ []) ≡ 2
undos_are_counted = refl

-- the last clause is not cut, and the one before it again once it is back
edits_are_counted_where_they_come : edits_among two (cut 4 (codes "f") ∷ cut 5 (codes "x") ∷ commands.Undo 6 ∷ commands.Text ∷ cut 7 (codes "f") ∷ []) ≡ 2
edits_are_counted_where_they_come = refl

each_frame_has_its_command : (view : Window) → map drawn_by (frames.Render view ∷ frames.Height view ∷ frames.Shade view ∷ frames.Mesh view ∷ frames.Contour view ∷ frames.Text ∷ [])
    ≡ Some (commands.Render view) ∷ Some (commands.Height view) ∷ None ∷ Some (commands.Mesh view) ∷ None ∷ Some commands.Text ∷ []
each_frame_has_its_command view = refl

-- an edit that is refused may stand on either way
taken_back : AreTakenBack two (cut 4 (codes "f") ∷ commands.Text ∷ cut 5 (codes "f") ∷ []) (cut 6 (codes "f") ∷ commands.Cost ∷ commands.Undo 7 ∷ [])
unfolding standing
taken_back = record { no_undo = refl; no_edit = refl; as_many = refl }

undo_on_the_way_there : AreTakenBack two (cut 4 (codes "f") ∷ commands.Undo 5 ∷ []) (commands.Undo 6 ∷ []) → ⊥
undo_on_the_way_there are = let none : 1 ≡ 0 = are.no_undo in omega (arith, none)

edit_on_the_way_back : AreTakenBack two (cut 4 (codes "f") ∷ []) (commands.Undo 5 ∷ cut 6 (codes "f") ∷ []) → ⊥
unfolding standing
edit_on_the_way_back are = let none : 1 ≡ 0 = are.no_edit in omega (arith, none)

undo_that_lacks : AreTakenBack two (add_g ∷ cut 6 (codes "g") ∷ []) (commands.Undo 7 ∷ []) → ⊥
undo_that_lacks are = let same : 1 ≡ 2 = are.as_many in omega (arith, same)

undo_too_many : AreTakenBack two (cut 4 (codes "q") ∷ []) (commands.Undo 5 ∷ []) → ⊥
undo_too_many are = let same : 1 ≡ 0 = are.as_many in omega (arith, same)

-- a frame stands right behind what comes before it, and is the one of the very clauses
abbrev idle : List ℕ → Part
idle bytes = record { bytes = bytes; work = no_work }

frame_of_a_text : HasFrame frames.Text (take 1 three) (idle (codes "a") ∷ []) (idle (codes "a") ∷ idle (codes "@ text 8\nx var-x\n") ∷ idle (codes "b") ∷ [])
unfolding digits
frame_of_a_text = record { part = idle (codes "@ text 8\nx var-x\n"); bytes = refl; after = idle (codes "b") ∷ []; stands = refl }

frame_of_other_clauses : HasFrame frames.Text (take 1 three) (idle (codes "a") ∷ []) (idle (codes "a") ∷ idle (codes "@ text 8\ny var-x\n") ∷ []) → ⊥
unfolding digits
frame_of_other_clauses has =
    let same : idle (codes "@ text 8\ny var-x\n") ≡ has.part = let stands = has.stands in cc in
    let bytes : codes "@ text 8\ny var-x\n" ≡ codes "@ text 8\nx var-x\n" = ap (λ (part : Part). part.bytes) same ∙ has.bytes in
    let byte : 121 ≡ 120 = ap (λ s. slice_index_or s 9 0) bytes in
    omega (arith, byte)

frame_further_behind : HasFrame frames.Text (take 1 three) [] (idle (codes "a") ∷ idle (codes "@ text 8\nx var-x\n") ∷ []) → ⊥
unfolding digits
frame_further_behind has =
    let same : idle (codes "a") ≡ has.part = let stands = has.stands in cc in
    let bytes : codes "a" ≡ codes "@ text 8\nx var-x\n" = ap (λ (part : Part). part.bytes) same ∙ has.bytes in
    let byte : 97 ≡ 64 = ap (λ s. slice_index_or s 0 0) bytes in
    omega (arith, byte)

-- a script that adds a clause and draws, cuts it and draws again, takes the cut back, and draws once more
abbrev script : List ℕ
script = codes "x var-x\nf neg x\n%%\nadd g neg f\ntext\ncut g\ncut q\ntext\nundo\ntext\n"

abbrev ran : Output
ran = output_of (codes "replay" ∷ []) script

-- what comes before the cut, and what is taken back
abbrev begun : List Command
begun = add_g ∷ commands.Text ∷ []

abbrev cuts : List Command
cuts = cut 6 (codes "g") ∷ cut 7 (codes "q") ∷ commands.Text ∷ []

commands_of_it : script_read script ≡ Ok (begun ++ cuts ++ commands.Undo 9 ∷ commands.Text ∷ [])
commands_of_it = refl

bytes_of_it : bytes_of_parts ran.parts
    ≡ codes "@ text 24\nx var-x\nf neg x\ng neg f\n@ refused 7 UnknownName\n@ text 16\nx var-x\nf neg x\n@ text 24\nx var-x\nf neg x\ng neg f\n"
unfolding digits replayed
bytes_of_it = refl

-- the first frame is told to show the new clause, and the third to be what the first was
first_frame : FramesShowModels (codes "replay" ∷ []) script → HasFrame frames.Text three (replayed two (add_g ∷ [])) ran.parts
unfolding digits standing
first_frame shown = shown (take 2 three) (add_g ∷ []) (cuts ++ commands.Undo 9 ∷ commands.Text ∷ []) frames.Text commands.Text refl refl refl refl refl

third_frame : UndosBringFramesBack (codes "replay" ∷ []) script → HasFrame frames.Text three (replayed two (begun ++ cuts ++ commands.Undo 9 ∷ [])) ran.parts
unfolding digits standing
third_frame back =
    back (take 2 three) begun cuts (commands.Undo 9 ∷ []) [] frames.Text commands.Text refl refl refl refl (record { no_undo = refl; no_edit = refl; as_many = refl }) refl
