use Rattle.oct_descent.proofs.WayProofs.{long_spans_add_up_is, spans_add_up_is}
use Rattle.box_chains.proofs.Theorems.{laws}
use Rattle.oct_descent.proofs.laws.mesh_spans_add_up.Goals as goal

pub returns-clause-spans : goal.returns-clause-spans
returns-clause-spans c = spans_add_up_is laws

pub returns-clause-long : goal.returns-clause-long
returns-clause-long c = long_spans_add_up_is laws
