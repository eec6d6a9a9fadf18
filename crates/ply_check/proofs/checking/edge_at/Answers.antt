-- The edge at a place of a face.
use Rattle.std.proofs.Common.{arith, sym}
use Rattle.ply_check.proofs.Places.{edge_there}
use Rattle.ply_check.proofs.checking.edge_at.Goals as goal

pub returns-then-corner-eq0 : goal.returns-then-corner-eq0
returns-then-corner-eq0 c = sym (edge_there c.args.faces.now c.args.place 0 (omega arith) c.requires)

pub returns-then-corner-eq1 : goal.returns-then-corner-eq1
returns-then-corner-eq1 c = sym (edge_there c.args.faces.now c.args.place 1 (omega arith) c.requires)

pub returns-else-corner-eq1 : goal.returns-else-corner-eq1
returns-else-corner-eq1 c = sym (edge_there c.args.faces.now c.args.place 2 (omega arith) c.requires)
