use Rattle.std.proofs.Common.{◌∙◌, ◌*◌, List, ap, length, subst, sym}
use Rattle.std.specs.List.{All}
use Rattle.kuhn_cells.specs.Triangles.{point}
use Rattle.box_chains.specs.Desks.{Tracing, list_of}
use Rattle.fixed_ops.specs.Counts.{RisesBy, points_of}
use Rattle.live_clauses.specs.declared.step.Step.{Step}
use Rattle.oct_descent.specs.Gaps.{Fills, StandsIn}
use Rattle.oct_descent.specs.GridValues.{list_grid_value}
use Rattle.oct_descent.proofs.Corners.{short-one}
use Rattle.oct_descent.proofs.GapLaws.{are-filled, gaps-charged, gaps-grow, gaps-known_then, gaps-paid, same-charges, same-grows, same-pays}
use Rattle.oct_descent.proofs.TableLaws.{charges-none, pays-none}
use Rattle.oct_descent.specs.Kinds.{known_of}
use Rattle.box_chains.proofs.Theorems.{laws}
use Rattle.oct_descent.proofs.filling.fill_cell.Goals as goal

pub returns-in_err-make_rows-clause-counted : goal.returns-in_err-make_rows-clause-counted
returns-in_err-make_rows-clause-counted c = λ f enough. charges-none laws f 0 (known_of c.args.values.now) c.args.tally.now

pub returns-in_err-make_rows-clause-paid : goal.returns-in_err-make_rows-clause-paid
returns-in_err-make_rows-clause-paid c = λ f due. pays-none laws f (known_of c.args.values.now) c.args.tally.now

pub returns-in_err-find_gaps-clause-counted : goal.returns-in_err-find_gaps-clause-counted
returns-in_err-find_gaps-clause-counted c = λ f enough. same-charges laws f c.args.values.now c.find_gaps.new.values c.args.tally.now c.in_err-find_gaps.ensures.same

pub returns-in_err-find_gaps-clause-paid : goal.returns-in_err-find_gaps-clause-paid
returns-in_err-find_gaps-clause-paid c = λ f due. same-pays laws f c.args.values.now c.find_gaps.new.values c.args.tally.now c.in_err-find_gaps.ensures.same

pub returns-in_err-find_gaps-clause-grows : goal.returns-in_err-find_gaps-clause-grows
returns-in_err-find_gaps-clause-grows c = same-grows (list_grid_value c.args.desk.now.view (list_of c.args.desk.now c.args.received)) c.args.b c.args.values.now c.find_gaps.new.values c.in_err-find_gaps.ensures.same

pub fill_gaps-requires-clause-stand : goal.fill_gaps-requires-clause-stand
fill_gaps-requires-clause-stand c = subst (All (StandsIn c.find_gaps.new.values)) (sym c.as_slice.ensures.value) c.in_ok-find_gaps.ensures.gaps.stand

pub returns-clause-known : goal.returns-clause-known
returns-clause-known c =
    gaps-known_then (list_grid_value c.args.desk.now.view (list_of c.args.desk.now c.args.received)) c.args.b c.as_slice.result.now c.args.values.now c.find_gaps.new.values c.fill_gaps.new.values (are-filled c.args.desk.now.view c.desk.inside.places.view (list_of c.args.desk.now c.args.received) c.args.b (point c.b.inside.x0 c.b.inside.y0 c.b.inside.z0) c.as_slice.result.now c.find_gaps.new.gaps.items c.args.values.now c.find_gaps.new.values c.fill_gaps.new.values
    (short-one c.args.b c.requires.may.visit_is.box c.requires.one) (ap (λ d. d.view) c.desk.view_is) (ap (λ a. point a.x0 a.y0 a.z0) c.b.view_is) c.as_slice.ensures.value c.in_ok-find_gaps.ensures.same c.in_ok-find_gaps.ensures.gaps (subst (λ (l : List Step). Fills (list_grid_value c.desk.inside.places.view l) c.as_slice.result.now c.find_gaps.new.values c.fill_gaps.new.values) (c.list-list.ensures.list ∙ ap (λ (d : Tracing). list_of d c.args.received) c.desk.view_is) c.fill_gaps.ensures.fills))

pub returns-clause-grows : goal.returns-clause-grows
returns-clause-grows c =
    gaps-grow (list_grid_value c.args.desk.now.view (list_of c.args.desk.now c.args.received)) c.args.b c.as_slice.result.now c.args.values.now c.find_gaps.new.values c.fill_gaps.new.values (are-filled c.args.desk.now.view c.desk.inside.places.view (list_of c.args.desk.now c.args.received) c.args.b (point c.b.inside.x0 c.b.inside.y0 c.b.inside.z0) c.as_slice.result.now c.find_gaps.new.gaps.items c.args.values.now c.find_gaps.new.values c.fill_gaps.new.values
    (short-one c.args.b c.requires.may.visit_is.box c.requires.one) (ap (λ d. d.view) c.desk.view_is) (ap (λ a. point a.x0 a.y0 a.z0) c.b.view_is) c.as_slice.ensures.value c.in_ok-find_gaps.ensures.same c.in_ok-find_gaps.ensures.gaps (subst (λ (l : List Step). Fills (list_grid_value c.desk.inside.places.view l) c.as_slice.result.now c.find_gaps.new.values c.fill_gaps.new.values) (c.list-list.ensures.list ∙ ap (λ (d : Tracing). list_of d c.args.received) c.desk.view_is) c.fill_gaps.ensures.fills))

pub returns-clause-counted : goal.returns-clause-counted
returns-clause-counted c =
    λ f enough.
    gaps-charged laws f (list_grid_value c.args.desk.now.view (list_of c.args.desk.now c.args.received)) c.args.b (length (list_of c.args.desk.now c.args.received)) c.as_slice.result.now c.args.values.now c.find_gaps.new.values c.fill_gaps.new.values c.args.tally.now c.fill_gaps.new.tally
    (are-filled c.args.desk.now.view c.desk.inside.places.view (list_of c.args.desk.now c.args.received) c.args.b (point c.b.inside.x0 c.b.inside.y0 c.b.inside.z0) c.as_slice.result.now c.find_gaps.new.gaps.items c.args.values.now c.find_gaps.new.values c.fill_gaps.new.values
    (short-one c.args.b c.requires.may.visit_is.box c.requires.one) (ap (λ d. d.view) c.desk.view_is) (ap (λ a. point a.x0 a.y0 a.z0) c.b.view_is) c.as_slice.ensures.value c.in_ok-find_gaps.ensures.same c.in_ok-find_gaps.ensures.gaps (subst (λ (l : List Step). Fills (list_grid_value c.desk.inside.places.view l) c.as_slice.result.now c.find_gaps.new.values c.fill_gaps.new.values) (c.list-list.ensures.list ∙ ap (λ (d : Tracing). list_of d c.args.received) c.desk.view_is) c.fill_gaps.ensures.fills)) enough (subst (λ (l : List Step). RisesBy c.args.tally.now c.fill_gaps.new.tally (points_of (length c.as_slice.result.now * length l))) (c.list-list.ensures.list ∙ ap (λ (d : Tracing). list_of d c.args.received) c.desk.view_is) c.fill_gaps.ensures.counted)

pub returns-clause-paid : goal.returns-clause-paid
returns-clause-paid c =
    λ f due.
    gaps-paid laws f (list_grid_value c.args.desk.now.view (list_of c.args.desk.now c.args.received)) c.args.b (length (list_of c.args.desk.now c.args.received)) c.as_slice.result.now c.args.values.now c.find_gaps.new.values c.fill_gaps.new.values c.args.tally.now c.fill_gaps.new.tally
    (are-filled c.args.desk.now.view c.desk.inside.places.view (list_of c.args.desk.now c.args.received) c.args.b (point c.b.inside.x0 c.b.inside.y0 c.b.inside.z0) c.as_slice.result.now c.find_gaps.new.gaps.items c.args.values.now c.find_gaps.new.values c.fill_gaps.new.values
    (short-one c.args.b c.requires.may.visit_is.box c.requires.one) (ap (λ d. d.view) c.desk.view_is) (ap (λ a. point a.x0 a.y0 a.z0) c.b.view_is) c.as_slice.ensures.value c.in_ok-find_gaps.ensures.same c.in_ok-find_gaps.ensures.gaps (subst (λ (l : List Step). Fills (list_grid_value c.desk.inside.places.view l) c.as_slice.result.now c.find_gaps.new.values c.fill_gaps.new.values) (c.list-list.ensures.list ∙ ap (λ (d : Tracing). list_of d c.args.received) c.desk.view_is) c.fill_gaps.ensures.fills)) due (subst (λ (l : List Step). RisesBy c.args.tally.now c.fill_gaps.new.tally (points_of (length c.as_slice.result.now * length l))) (c.list-list.ensures.list ∙ ap (λ (d : Tracing). list_of d c.args.received) c.desk.view_is) c.fill_gaps.ensures.counted)
