-- Why reading stops a run, and the lines that tell it, worked by hand.
use Rattle.std.proofs.Common.{◌≡◌, [], ◌∷◌, map, refl}
use Rattle.std.specs.Prelude.{codes}
use Rattle.std.specs.Fmt.{digits}
use Rattle.clause_reader.specs.declared.text_reason.TextReason.TheVariants as text
use Rattle.edit_script.specs.declared.script_reason.ScriptReason.TheVariants as script
use Rattle.modeller_io.specs.declared.read_end.ReadEnd.TheVariants as end
use Rattle.ply_check.specs.declared.ply_reason.PlyReason.TheVariants as mesh
use Rattle.solid_lang.specs.declared.solid_reason.SolidReason.TheVariants as forms
use Rattle.modeller_cmd.specs.Notes.{bad_text_line}
use Rattle.modeller_cmd.specs.Stops.{stop_of_end, stop_of_forms, stop_of_mesh, stop_of_script, stop_of_text}
use Rattle.modeller_cmd.specs.declared.bad_text.BadText.TheVariants as bad
use Rattle.modeller_cmd.specs.declared.refusal.Refusal.TheVariants as refusal
use Rattle.modeller_cmd.specs.declared.stop.Stop.TheVariants.{NoMemory, ReadFault, Refused}

-- want of memory is no refusal, whoever tells it
ends_of_reading : map stop_of_end (end.Failed ∷ end.TooLong ∷ end.NoMemory ∷ []) ≡ ReadFault
    ∷ Refused refusal.TooLong ∷ NoMemory ∷ []
ends_of_reading = refl

faults_of_models : map stop_of_text (record { line = 3; reason = text.NoMemory }
    ∷ record { line = 4; reason = text.TooMany } ∷ [])
    ≡ NoMemory ∷ Refused (refusal.Text (bad.Model (record { line = 4; reason = text.TooMany }))) ∷ []
faults_of_models = refl

faults_of_solids : map stop_of_forms (record { line = 3; reason = forms.NoMemory }
    ∷ record { line = 0; reason = forms.TooMany } ∷ [])
    ≡ NoMemory ∷ Refused (refusal.Text (bad.Solid (record { line = 0; reason = forms.TooMany }))) ∷ []
faults_of_solids = refl

faults_of_meshes : map stop_of_mesh (record { line = 3; reason = mesh.NoMemory }
    ∷ record { line = 0; reason = mesh.TooShort } ∷ [])
    ≡ NoMemory ∷ Refused (refusal.Text (bad.Mesh (record { line = 0; reason = mesh.TooShort }))) ∷ []
faults_of_meshes = refl

faults_of_scripts : map stop_of_script (record { line = 3; reason = script.NoMemory }
    ∷ record { line = 4; reason = script.BadName } ∷ [])
    ≡ NoMemory ∷ Refused (refusal.Script (record { line = 4; reason = script.BadName })) ∷ []
faults_of_scripts = refl

-- each text that is refused is told by its line and its own reason
lines_of_bad_texts : map bad_text_line (bad.Model (record { line = 12; reason = text.TooMany })
    ∷ bad.Solid (record { line = 3; reason = forms.Trailing })
    ∷ bad.Mesh (record { line = 7; reason = mesh.TooShort }) ∷ [])
    ≡ codes "modeller: line 12: TooMany\n" ∷ codes "modeller: line 3: Trailing\n"
    ∷ codes "modeller: line 7: TooShort\n" ∷ []
unfolding digits
lines_of_bad_texts = refl
