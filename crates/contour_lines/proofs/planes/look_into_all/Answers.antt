use Rattle.std.proofs.Common.{◌∙◌}
use Rattle.box_chains.proofs.Theorems.{laws}
use Rattle.contour_lines.proofs.FillerLaws.{fillings_are_lawful}
use Rattle.contour_lines.proofs.RootFilled.{whole-filled, whole-stops}
use Rattle.contour_lines.proofs.Theorems.{planes}
use Rattle.contour_lines.proofs.Work.{whole-counted, whole-paid, whole-told}
use Rattle.contour_lines.proofs.planes.look_into_all.Goals as goal

pub returns-in_err-desk-clause-at_most : goal.returns-in_err-desk-clause-at_most
returns-in_err-desk-clause-at_most c = laws.bounds.none c.args.tally.now _ _

pub returns-in_err-new-clause-at_most : goal.returns-in_err-new-clause-at_most
returns-in_err-new-clause-at_most c = laws.bounds.none c.args.tally.now _ _

pub descend-requires-clause-laws : goal.descend-requires-clause-laws
descend-requires-clause-laws c = fillings_are_lawful

pub returns-in_err-descend-clause-at_most : goal.returns-in_err-descend-clause-at_most
returns-in_err-descend-clause-at_most c =
    whole-counted planes c.args.view.now c.args.list.now c.in_ok-new.field-0 c.descend.new.visitor.values c.args.tally.now c.descend.new.tally (c.in_ok-new.ensures.n ∙ c.grid-n.ensures.size) c.in_ok-new.ensures.none
    (whole-stops c.args.view.now c.args.list.now c.in_ok-desk.desk c.root-root.result (record { values = c.in_ok-new.field-0 }) c.descend.new.visitor c.args.tally.now c.descend.new.tally c.in_ok-desk.ensures c.root-root.ensures c.grid-n.ensures.window c.len-len.ensures.tape c.in_err-descend.ensures.halted)

pub returns-clause-told : goal.returns-clause-told
returns-clause-told c =
    let done = whole-filled c.args.view.now c.args.list.now c.in_ok-desk.desk c.root-root.result (record { values = c.in_ok-new.field-0 }) c.descend.new.visitor c.args.tally.now c.descend.new.tally c.in_ok-desk.ensures c.root-root.ensures c.grid-n.ensures.window c.len-len.ensures.tape c.in_ok-descend.ensures.drawn in
    whole-told planes c.args.view.now c.args.list.now c.in_ok-new.field-0 c.descend.new.visitor.values (c.in_ok-new.ensures.n ∙ c.grid-n.ensures.size) c.in_ok-new.ensures.none done.grows done.settled

pub returns-clause-at_most : goal.returns-clause-at_most
returns-clause-at_most c =
    let done = whole-filled c.args.view.now c.args.list.now c.in_ok-desk.desk c.root-root.result (record { values = c.in_ok-new.field-0 }) c.descend.new.visitor c.args.tally.now c.descend.new.tally c.in_ok-desk.ensures c.root-root.ensures c.grid-n.ensures.window c.len-len.ensures.tape c.in_ok-descend.ensures.drawn in
    whole-counted planes c.args.view.now c.args.list.now c.in_ok-new.field-0 c.descend.new.visitor.values c.args.tally.now c.descend.new.tally (c.in_ok-new.ensures.n ∙ c.grid-n.ensures.size) c.in_ok-new.ensures.none done.charged

pub returns-clause-at_least : goal.returns-clause-at_least
returns-clause-at_least c =
    let done = whole-filled c.args.view.now c.args.list.now c.in_ok-desk.desk c.root-root.result (record { values = c.in_ok-new.field-0 }) c.descend.new.visitor c.args.tally.now c.descend.new.tally c.in_ok-desk.ensures c.root-root.ensures c.grid-n.ensures.window c.len-len.ensures.tape c.in_ok-descend.ensures.drawn in
    whole-paid planes c.args.view.now c.args.list.now c.in_ok-new.field-0 c.descend.new.visitor.values c.args.tally.now c.descend.new.tally (c.in_ok-new.ensures.n ∙ c.grid-n.ensures.size) c.in_ok-new.ensures.none done.worked done.paid

pub returns-clause-traced : goal.returns-clause-traced
returns-clause-traced c =
    let done = whole-filled c.args.view.now c.args.list.now c.in_ok-desk.desk c.root-root.result (record { values = c.in_ok-new.field-0 }) c.descend.new.visitor c.args.tally.now c.descend.new.tally c.in_ok-desk.ensures c.root-root.ensures c.grid-n.ensures.window c.len-len.ensures.tape c.in_ok-descend.ensures.drawn in
    done.traced
