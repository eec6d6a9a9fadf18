use Rattle.std.proofs.Common.{sym}
use Rattle.box_chains.specs.Chains.{visit}
use Rattle.box_chains.specs.Desks.{list_of}
use Rattle.contour_lines.proofs.Looks.{sides-open}
use Rattle.contour_lines.proofs.Corners.{low-is}
use Rattle.box_chains.proofs.Theorems.{laws}
use Rattle.contour_lines.proofs.Theorems.{planes}
use Rattle.contour_lines.proofs.cell.is_working.Goals as goal

pub returns-then-seen-2-clause-open : goal.returns-then-seen-2-clause-open
returns-then-seen-2-clause-open c =
    let may = c.requires.may.1 in
    let seen = c.requires.may.2 in
    let low = low-is c.args.desk.now.view c.args.b may.visit_is.box may.visit_is.within c.requires.flat c.requires.one in
    sym (sides-open planes c.args.desk.now.view (visit c.args.b (list_of c.args.desk.now c.args.received)) c.requires.may.0 may.visit_is c.requires.one low may.right (seen.inside c.if-seen.true) (seen.outside c.if-seen-2.true))

pub returns-then-seen-2-clause-counted : goal.returns-then-seen-2-clause-counted
returns-then-seen-2-clause-counted c = laws.bounds.none c.args.tally.now 0 _
