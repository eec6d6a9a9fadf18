-- Where a script halts.
use Rattle.std.proofs.Common.{◌≡◌, ℕ, List, inl, inr, Option, Result, Ok, Err, refl}
use Rattle.std.specs.Prelude.{IfErr}
use Rattle.clause_reader.specs.Reading.{text_read}
use Rattle.clause_reader.specs.declared.text_reason.TextReason.{TextReason}
use Rattle.clause_reader.specs.declared.text_reason.TextReason.TheVariants as reasons
use Rattle.edit_script.specs.Marks.{before_mark}
use Rattle.edit_script.specs.Scripts.{script_read}
use Rattle.edit_script.specs.declared.command.Command.{Command}
use Rattle.edit_script.specs.declared.script_reason.ScriptReason.{ScriptReason}
use Rattle.edit_script.specs.declared.script_reason.ScriptReason.TheVariants as scripts
use Rattle.edit_session.specs.Sessions.{started}
use Rattle.fixed_ops.specs.Counts.{Counts}
use Rattle.solid_model.specs.declared.clause.Clause.{Clause}
use Rattle.modeller_cmd.specs.Halting.{HaltsAt, HaltsScript}
use Rattle.modeller_cmd.specs.Stops.{stop_of_script, stop_of_text}
use Rattle.modeller_cmd.specs.declared.stop.Stop.{Stop}
use Rattle.modeller_cmd.specs.declared.stop.Stop.TheVariants as stop

module _ {K : Type 0} (held : K → Option (List ℕ)) (faults : K → ℕ) (input : List ℕ) where
  -- the solid and the script that were read are those of the input
  pub halts-script : {T : Type 0} (before after : K) (s t : Counts) (r : Result T Stop) (clauses : List Clause) (script : List Command) → text_read (before_mark input) ≡ Ok clauses → script_read input ≡ Ok script
      → IfErr r (HaltsAt held faults before after s t (started clauses) script) → IfErr r (HaltsScript held faults before after s t input)
  halts-script before after s t (Ok x) clauses script read found at = tt
  halts-script before after s t (Err stop.WriteFault) clauses script read found at =
      record { clauses = clauses; solid = read; commands = script; script = found; halts = at }
  halts-script before after s t (Err stop.NoMemory) clauses script read found at =
      inr (record { clauses = clauses; solid = read; commands = script; script = found; halts = at })
  halts-script before after s t (Err stop.ReadFault) clauses script read found at = tt
  halts-script before after s t (Err (stop.Refused why)) clauses script read found at = tt

  -- before there is a solid, and a script, nothing is done
  pub without-solid : (out : K) (s : Counts) (line : ℕ) (reason : TextReason) → HaltsScript held faults out out s s input (stop_of_text (record { line = line; reason = reason }))
  without-solid out s line reasons.NoMemory = inl (refl, refl)
  without-solid out s line other = tt

  pub without-script : (out : K) (s : Counts) (line : ℕ) (reason : ScriptReason) → HaltsScript held faults out out s s input (stop_of_script (record { line = line; reason = reason }))
  without-script out s line scripts.NoMemory = inl (refl, refl)
  without-script out s line other = tt
