use Rattle.std.proofs.Common.{◌∙◌, ◌*◌, List, ap, length, subst, sym}
use Rattle.std.specs.List.{All}
use Rattle.kuhn_cells.specs.Triangles.{point}
use Rattle.box_chains.specs.Desks.{Tracing, list_of}
use Rattle.fixed_ops.specs.Counts.{RisesBy, points_of}
use Rattle.live_clauses.specs.declared.step.Step.{Step}
use Rattle.contour_lines.specs.Gaps.{Fills, StandsIn}
use Rattle.contour_lines.specs.Tables.{known_of}
use Rattle.contour_lines.specs.Ways.{flat_value}
use Rattle.contour_lines.proofs.Corners.{low-is}
use Rattle.contour_lines.proofs.GapLaws.{are-filled, gaps-charged, gaps-grow, gaps-known_then, gaps-paid}
use Rattle.box_chains.proofs.Theorems.{laws}
use Rattle.contour_lines.proofs.Theorems.{planes}
use Rattle.contour_lines.proofs.filling.fill_cell.Goals as goal

pub returns-in_err-make_rows-clause-grows : goal.returns-in_err-make_rows-clause-grows
returns-in_err-make_rows-clause-grows c = planes.growth.none (flat_value c.args.desk.now.view (list_of c.args.desk.now c.args.received)) c.args.b (known_of c.args.values.now)

pub returns-in_err-make_rows-clause-counted : goal.returns-in_err-make_rows-clause-counted
returns-in_err-make_rows-clause-counted c = λ f enough. planes.work.free f 0 (known_of c.args.values.now) c.args.tally.now

pub returns-in_err-make_rows-clause-paid : goal.returns-in_err-make_rows-clause-paid
returns-in_err-make_rows-clause-paid c = λ f due. planes.work.unpaid f (known_of c.args.values.now) c.args.tally.now

pub fill_gaps-requires-clause-stand : goal.fill_gaps-requires-clause-stand
fill_gaps-requires-clause-stand c = subst (All (StandsIn (known_of c.args.values.now))) (sym c.as_slice.ensures.value) c.find_gaps-gaps.ensures.stand

pub returns-clause-known : goal.returns-clause-known
returns-clause-known c =
    let view = c.args.desk.now.view in
    let list = list_of c.args.desk.now c.args.received in
    let may = c.requires.may in
    let gaps = c.as_slice.result.now in
    gaps-known_then (flat_value view list) c.args.b gaps c.args.values.now c.fill_gaps.new.values (are-filled view c.desk.inside.places.view list c.args.b (point c.b.inside.x0 c.b.inside.y0 0) gaps c.find_gaps-gaps.result.items c.args.values.now c.fill_gaps.new.values
    (low-is view c.args.b may.visit_is.box may.visit_is.within c.requires.flat c.requires.one) (ap (λ d. d.view) c.desk.view_is) (ap (λ a. point a.x0 a.y0 0) c.b.view_is) c.as_slice.ensures.value c.find_gaps-gaps.ensures (subst (λ (l : List Step). Fills (flat_value c.desk.inside.places.view l) gaps (known_of c.args.values.now) (known_of c.fill_gaps.new.values)) (c.list-list.ensures.list ∙ ap (λ (d : Tracing). list_of d c.args.received) c.desk.view_is) c.fill_gaps.ensures.fills))

pub returns-clause-grows : goal.returns-clause-grows
returns-clause-grows c =
    let view = c.args.desk.now.view in
    let list = list_of c.args.desk.now c.args.received in
    let may = c.requires.may in
    let gaps = c.as_slice.result.now in
    gaps-grow planes (flat_value view list) c.args.b gaps c.args.values.now c.fill_gaps.new.values (are-filled view c.desk.inside.places.view list c.args.b (point c.b.inside.x0 c.b.inside.y0 0) gaps c.find_gaps-gaps.result.items c.args.values.now c.fill_gaps.new.values
    (low-is view c.args.b may.visit_is.box may.visit_is.within c.requires.flat c.requires.one) (ap (λ d. d.view) c.desk.view_is) (ap (λ a. point a.x0 a.y0 0) c.b.view_is) c.as_slice.ensures.value c.find_gaps-gaps.ensures (subst (λ (l : List Step). Fills (flat_value c.desk.inside.places.view l) gaps (known_of c.args.values.now) (known_of c.fill_gaps.new.values)) (c.list-list.ensures.list ∙ ap (λ (d : Tracing). list_of d c.args.received) c.desk.view_is) c.fill_gaps.ensures.fills))

pub returns-clause-counted : goal.returns-clause-counted
returns-clause-counted c =
    let view = c.args.desk.now.view in
    let list = list_of c.args.desk.now c.args.received in
    let may = c.requires.may in
    let gaps = c.as_slice.result.now in
    λ f enough.
    gaps-charged laws planes f (flat_value view list) c.args.b (length list) gaps c.args.values.now c.fill_gaps.new.values c.args.tally.now c.fill_gaps.new.tally
    (are-filled view c.desk.inside.places.view list c.args.b (point c.b.inside.x0 c.b.inside.y0 0) gaps c.find_gaps-gaps.result.items c.args.values.now c.fill_gaps.new.values
    (low-is view c.args.b may.visit_is.box may.visit_is.within c.requires.flat c.requires.one) (ap (λ d. d.view) c.desk.view_is) (ap (λ a. point a.x0 a.y0 0) c.b.view_is) c.as_slice.ensures.value c.find_gaps-gaps.ensures (subst (λ (l : List Step). Fills (flat_value c.desk.inside.places.view l) gaps (known_of c.args.values.now) (known_of c.fill_gaps.new.values)) (c.list-list.ensures.list ∙ ap (λ (d : Tracing). list_of d c.args.received) c.desk.view_is) c.fill_gaps.ensures.fills)) enough (subst (λ (l : List Step). RisesBy c.args.tally.now c.fill_gaps.new.tally (points_of (length gaps * length l))) (c.list-list.ensures.list ∙ ap (λ (d : Tracing). list_of d c.args.received) c.desk.view_is) c.fill_gaps.ensures.counted)

pub returns-clause-paid : goal.returns-clause-paid
returns-clause-paid c =
    let view = c.args.desk.now.view in
    let list = list_of c.args.desk.now c.args.received in
    let may = c.requires.may in
    let gaps = c.as_slice.result.now in
    λ f due.
    gaps-paid laws planes f (flat_value view list) c.args.b (length list) gaps c.args.values.now c.fill_gaps.new.values c.args.tally.now c.fill_gaps.new.tally
    (are-filled view c.desk.inside.places.view list c.args.b (point c.b.inside.x0 c.b.inside.y0 0) gaps c.find_gaps-gaps.result.items c.args.values.now c.fill_gaps.new.values
    (low-is view c.args.b may.visit_is.box may.visit_is.within c.requires.flat c.requires.one) (ap (λ d. d.view) c.desk.view_is) (ap (λ a. point a.x0 a.y0 0) c.b.view_is) c.as_slice.ensures.value c.find_gaps-gaps.ensures (subst (λ (l : List Step). Fills (flat_value c.desk.inside.places.view l) gaps (known_of c.args.values.now) (known_of c.fill_gaps.new.values)) (c.list-list.ensures.list ∙ ap (λ (d : Tracing). list_of d c.args.received) c.desk.view_is) c.fill_gaps.ensures.fills)) due (subst (λ (l : List Step). RisesBy c.args.tally.now c.fill_gaps.new.tally (points_of (length gaps * length l))) (c.list-list.ensures.list ∙ ap (λ (d : Tracing). list_of d c.args.received) c.desk.view_is) c.fill_gaps.ensures.counted)
