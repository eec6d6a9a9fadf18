use Rattle.std.proofs.Common.{◌≡◌, take}
use Rattle.std.specs.List.{flat_map}
use Rattle.clause_reader.specs.ModelText.{clause_line}
use Rattle.clause_reader.proofs.writer.write_model.Given as goal

abbrev pub invariant-loop-at : goal.invariant-loop-at
invariant-loop-at l = l.text.items ≡ flat_map (clause_line l.model) (take l.at l.model)
