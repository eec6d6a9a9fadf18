-- How the bytes of a name are kept.
use Rattle.std.specs.Prelude.{List, ℕ}
use Rattle.std.specs.Rc.{rc_slice_items}
use Rattle.solid_model.specs.declared.label.LabelBytes.{LabelBytes}
use Rattle.solid_model.specs.declared.label.LabelBytes.TheVariants.{Short, Long}

-- the bytes that are kept
abbrev pub label_bytes : LabelBytes → List ℕ
label_bytes (Short bytes) = bytes.items
label_bytes (Long bytes) = rc_slice_items bytes
