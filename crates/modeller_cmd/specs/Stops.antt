-- What ends a run before its work is written whole, with the status that it ends with.
use Rattle.clause_reader.specs.declared.text_fault.TextFault.{TextFault}
use Rattle.clause_reader.specs.declared.text_reason.TextReason.{TextReason}
use Rattle.clause_reader.specs.declared.text_reason.TextReason.TheVariants as reason
use Rattle.edit_script.specs.declared.script_fault.ScriptFault.{ScriptFault}
use Rattle.edit_script.specs.declared.script_reason.ScriptReason.{ScriptReason}
use Rattle.edit_script.specs.declared.script_reason.ScriptReason.TheVariants as script
use Rattle.modeller_io.specs.declared.read_end.ReadEnd.{ReadEnd}
use Rattle.modeller_io.specs.declared.read_end.ReadEnd.TheVariants as end
use Rattle.ply_check.specs.declared.ply_fault.PlyFault.{PlyFault}
use Rattle.ply_check.specs.declared.ply_reason.PlyReason.{PlyReason}
use Rattle.ply_check.specs.declared.ply_reason.PlyReason.TheVariants as mesh
use Rattle.solid_lang.specs.declared.solid_fault.SolidFault.{SolidFault}
use Rattle.solid_lang.specs.declared.solid_reason.SolidReason.{SolidReason}
use Rattle.solid_lang.specs.declared.solid_reason.SolidReason.TheVariants as forms
use Rattle.modeller_cmd.specs.Statuses.{status_of}
use Rattle.modeller_cmd.specs.declared.bad_text.BadText.TheVariants as bad
use Rattle.modeller_cmd.specs.declared.refusal.Refusal.TheVariants as refusal
use Rattle.modeller_cmd.specs.declared.status.Status.{Status}
use Rattle.modeller_cmd.specs.declared.status.Status.TheVariants as status
use Rattle.modeller_cmd.specs.declared.stop.Stop.{Stop}
use Rattle.modeller_cmd.specs.declared.stop.Stop.TheVariants.{Refused, ReadFault, WriteFault, NoMemory}

-- the status that a stop ends a run with
abbrev pub status_at : Stop → Status
status_at (Refused refusal) = status_of refusal
status_at ReadFault = status.ReadFault
status_at WriteFault = status.WriteFault
status_at NoMemory = status.NoMemory

-- why reading a source stops a run
abbrev pub stop_of_end : ReadEnd → Stop
stop_of_end end.Failed = ReadFault
stop_of_end end.TooLong = Refused refusal.TooLong
stop_of_end end.NoMemory = NoMemory

-- why a text stops a run
abbrev pub stop_of_text : TextFault → Stop
stop_of_text fault = by fault.reason
  where
    by : TextReason → Stop
    by reason.NoMemory = NoMemory
    by reason = Refused (refusal.Text (bad.Model fault))

-- why the text of a solid, written as forms, stops a run
abbrev pub stop_of_forms : SolidFault → Stop
stop_of_forms fault = by fault.reason
  where
    by : SolidReason → Stop
    by forms.NoMemory = NoMemory
    by reason = Refused (refusal.Text (bad.Solid fault))

-- why a mesh stops a run
abbrev pub stop_of_mesh : PlyFault → Stop
stop_of_mesh fault = by fault.reason
  where
    by : PlyReason → Stop
    by mesh.NoMemory = NoMemory
    by reason = Refused (refusal.Text (bad.Mesh fault))

-- why a script stops a run
abbrev pub stop_of_script : ScriptFault → Stop
stop_of_script fault = by fault.reason
  where
    by : ScriptReason → Stop
    by script.NoMemory = NoMemory
    by reason = Refused (refusal.Script fault)
