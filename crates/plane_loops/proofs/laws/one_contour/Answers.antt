-- The laws are lemmas.
use Rattle.plane_loops.proofs.JoinLaws.{one_contour, worked_out}
use Rattle.plane_loops.proofs.laws.one_contour.Goals as goal

pub returns-clause-one : goal.returns-clause-one
returns-clause-one c = one_contour

pub returns-clause-worked_out : goal.returns-clause-worked_out
returns-clause-worked_out c = worked_out
