-- An edit whose names are lent, as what it says.
use Rattle.solid_model.specs.declared.edit.Edit.{Edit}
use Rattle.solid_model.specs.declared.edit.Edit.TheVariants as edits
use Rattle.solid_model.specs.declared.edit_ref.LentEdit.{LentEdit}
use Rattle.solid_model.specs.declared.edit_ref.LentEdit.TheVariants.{Set, Add, Put, Cut}

-- an edit by its names
abbrev pub edit_seen : LentEdit → Edit
edit_seen (Set name form) = edits.Set name.now form
edit_seen (Add name form) = edits.Add name.now form
edit_seen (Put next name form) = edits.Put next.now name.now form
edit_seen (Cut name) = edits.Cut name.now
