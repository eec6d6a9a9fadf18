use Rattle.std.proofs.Common.{◌∙◌}
use Rattle.modeller_cmd.specs.Notes.{line_of}
use Rattle.modeller_cmd.proofs.Execution.{takes-line}
use Rattle.modeller_cmd.proofs.command.tell.Goals as goal

pub returns : goal.returns
returns g c =
    takes-line g.N.Sink.held g.N.Sink.faults c.args.notes.now c.write_all.new.sink c.bytes.result.now (line_of c.args.stop) c.write_all.result (c.bytes.ensures ∙ c.note_of.ensures)
    c.write_all.ensures.ok c.write_all.ensures.no_fault c.write_all.ensures.err c.write_all.ensures.cause
