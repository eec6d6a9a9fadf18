-- The lines are those of the file, and what is answered of them is what it says.
use Rattle.ply_check.proofs.Giving.{gives, few_lines}
use Rattle.ply_check.proofs.reader.read_ply.Goals as goal

pub read_lines-requires : goal.read_lines-requires
read_lines-requires c = few_lines c.args.bytes.now c.new-lines.result c.requires c.new-lines.ensures

pub returns : goal.returns
returns c =
    gives c.args.bytes.now c.new-lines.result c.read_lines.result c.new-lines.ensures c.read_lines.ensures.file c.read_lines.ensures.fault c.read_lines.ensures.memory
