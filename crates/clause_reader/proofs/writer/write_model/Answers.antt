-- One line more.
use Rattle.std.proofs.Common.{arith}
use Rattle.clause_reader.specs.ModelText.{clause_line}
use Rattle.clause_reader.proofs.WriterLemmas.{flat_map_next}
use Rattle.clause_reader.proofs.writer.write_model.Goals as goal

pub loop-at-preserved : goal.loop-at-preserved
loop-at-preserved c =
    flat_map_next (clause_line c.args.model.now) c.args.model.now c.loop-at.at c.loop-at.text.items c.push_clause.new.text.items (omega arith) c.loop-at.invariant c.in_ok-push_clause.ensures
