-- The node behind the first half is found by what its first node counts, and so is that behind the second.
use Rattle.std.proofs.Common.{◌+◌, ◌++◌, ◌-◌, ◌∷◌, [], arith, refl, ap, sym, ◌∙◌}
use Rattle.std.specs.Prelude.{nat_lt}
use Rattle.box_chains.proofs.Theorems.{laws}
use Rattle.quad_descent.specs.Nodes.{nodes_of}
use Rattle.quad_descent.specs.Raster.{raster, raster_root}
use Rattle.quad_descent.proofs.RowParts.{behind-first, first-column, first-there, left-in, left_of, middle-none, middle-some, one-column, right-in, right_of, two-columns}
use Rattle.quad_descent.proofs.picture.Picture.behind.Goals as goal

pub index-requires : goal.index-requires
index-requires c =
    let all = c.self.invariant.0 ∙ ap (λ s. nodes_of (raster s.view) (raster_root s.view s.list)) c.self.view_is in
    let first = first-column c.args.rows c.requires.visit_is.box in
    omega (arith, c.self.inside.nodes.ok, (first-there laws c.args.self.now.view c.args.self.now.list c.self.inside.nodes.items c.args.first c.args.rows first.half first.others _ first.is first.box all c.requires).0)

pub count-requires : goal.count-requires
count-requires c =
    let all = c.self.invariant.0 ∙ ap (λ s. nodes_of (raster s.view) (raster_root s.view s.list)) c.self.view_is in
    let first = first-column c.args.rows c.requires.visit_is.box in
    let there = (first-there laws c.args.self.now.view c.args.self.now.list c.self.inside.nodes.items c.args.first c.args.rows first.half first.others _ first.is first.box all c.requires).1 c.index.result.now c.index.ensures in
    omega (arith, c.self.inside.nodes.ok, c.self.inside.nodes.small, there)

pub overflow_add-next : goal.overflow_add-next
overflow_add-next c =
    let all = c.self.invariant.0 ∙ ap (λ s. nodes_of (raster s.view) (raster_root s.view s.list)) c.self.view_is in
    let first = first-column c.args.rows c.requires.visit_is.box in
    let there = (first-there laws c.args.self.now.view c.args.self.now.list c.self.inside.nodes.items c.args.first c.args.rows first.half first.others _ first.is first.box all c.requires).1 c.index.result.now c.index.ensures in
    omega (arith, c.self.inside.nodes.ok, c.self.inside.nodes.small, c.count.ensures, there)

pub index-requires-in-Some : goal.index-requires-in-Some
index-requires-in-Some c =
    let view = c.args.self.now.view in
    let list = c.args.self.now.list in
    let rows = c.args.rows in
    let is = c.requires.visit_is.box in
    let all = c.self.invariant.0 ∙ ap (λ s. nodes_of (raster s.view) (raster_root s.view s.list)) c.self.view_is in
    let long = ap (λ a. nat_lt 8 (a.x1 - a.x0)) (sym c.rows.view_is) ∙ (middle-some c.rows.inside.x0 c.rows.inside.x1 c.in-Some.field-0 c.middle.result c.middle.ensures c.in-Some.is).0 in
    let second = behind-first laws view list c.self.inside.nodes.items c.args.first (c.args.first + c.count.result) rows (left_of rows) (right_of rows ∷ []) _ c.index.result.now (two-columns rows long) (left-in rows is long).box all c.index.ensures (ap (λ n. c.args.first + n) c.count.ensures) c.requires in
    omega (arith, c.self.inside.nodes.ok, (first-there laws view list c.self.inside.nodes.items (c.args.first + c.count.result) rows (right_of rows) [] _ refl (right-in rows is long).box all second).0)

pub count-requires-in-Some : goal.count-requires-in-Some
count-requires-in-Some c =
    let view = c.args.self.now.view in
    let list = c.args.self.now.list in
    let rows = c.args.rows in
    let is = c.requires.visit_is.box in
    let all = c.self.invariant.0 ∙ ap (λ s. nodes_of (raster s.view) (raster_root s.view s.list)) c.self.view_is in
    let long = ap (λ a. nat_lt 8 (a.x1 - a.x0)) (sym c.rows.view_is) ∙ (middle-some c.rows.inside.x0 c.rows.inside.x1 c.in-Some.field-0 c.middle.result c.middle.ensures c.in-Some.is).0 in
    let second = behind-first laws view list c.self.inside.nodes.items c.args.first (c.args.first + c.count.result) rows (left_of rows) (right_of rows ∷ []) _ c.index.result.now (two-columns rows long) (left-in rows is long).box all c.index.ensures (ap (λ n. c.args.first + n) c.count.ensures) c.requires in
    let there = (first-there laws view list c.self.inside.nodes.items (c.args.first + c.count.result) rows (right_of rows) [] _ refl (right-in rows is long).box all second).1 c.index-in-Some.result.now c.index-in-Some.ensures in
    omega (arith, c.self.inside.nodes.ok, c.self.inside.nodes.small, there)

pub overflow_add-result : goal.overflow_add-result
overflow_add-result c =
    let view = c.args.self.now.view in
    let list = c.args.self.now.list in
    let rows = c.args.rows in
    let is = c.requires.visit_is.box in
    let all = c.self.invariant.0 ∙ ap (λ s. nodes_of (raster s.view) (raster_root s.view s.list)) c.self.view_is in
    let long = ap (λ a. nat_lt 8 (a.x1 - a.x0)) (sym c.rows.view_is) ∙ (middle-some c.rows.inside.x0 c.rows.inside.x1 c.in-Some.field-0 c.middle.result c.middle.ensures c.in-Some.is).0 in
    let second = behind-first laws view list c.self.inside.nodes.items c.args.first (c.args.first + c.count.result) rows (left_of rows) (right_of rows ∷ []) _ c.index.result.now (two-columns rows long) (left-in rows is long).box all c.index.ensures (ap (λ n. c.args.first + n) c.count.ensures) c.requires in
    let there = (first-there laws view list c.self.inside.nodes.items (c.args.first + c.count.result) rows (right_of rows) [] _ refl (right-in rows is long).box all second).1 c.index-in-Some.result.now c.index-in-Some.ensures in
    omega (arith, c.self.inside.nodes.ok, c.self.inside.nodes.small, c.count-in-Some.ensures, there)

pub returns-in-Some : goal.returns-in-Some
returns-in-Some c b others drawn =
    let view = c.args.self.now.view in
    let list = c.args.self.now.list in
    let rows = c.args.rows in
    let is = c.requires.visit_is.box in
    let all = c.self.invariant.0 ∙ ap (λ s. nodes_of (raster s.view) (raster_root s.view s.list)) c.self.view_is in
    let long = ap (λ a. nat_lt 8 (a.x1 - a.x0)) (sym c.rows.view_is) ∙ (middle-some c.rows.inside.x0 c.rows.inside.x1 c.in-Some.field-0 c.middle.result c.middle.ensures c.in-Some.is).0 in
    let second = behind-first laws view list c.self.inside.nodes.items c.args.first (c.args.first + c.count.result) b (left_of rows) (right_of rows ∷ others) _ c.index.result.now (ap (λ l. l ++ others) (two-columns rows long)) (left-in rows is long).box all c.index.ensures (ap (λ n. c.args.first + n) c.count.ensures) drawn in
    behind-first laws view list c.self.inside.nodes.items (c.args.first + c.count.result) _ b (right_of rows) others _ c.index-in-Some.result.now refl (right-in rows is long).box all c.index-in-Some.ensures (ap (λ n. c.args.first + c.count.result + n) c.count-in-Some.ensures) second

pub returns-in-None : goal.returns-in-None
returns-in-None c b others drawn =
    let view = c.args.self.now.view in
    let list = c.args.self.now.list in
    let rows = c.args.rows in
    let all = c.self.invariant.0 ∙ ap (λ s. nodes_of (raster s.view) (raster_root s.view s.list)) c.self.view_is in
    let short = ap (λ a. nat_lt 8 (a.x1 - a.x0)) (sym c.rows.view_is) ∙ middle-none c.rows.inside.x0 c.rows.inside.x1 c.middle.result c.middle.ensures c.in-None.is in
    behind-first laws view list c.self.inside.nodes.items c.args.first _ b rows others _ c.index.result.now (ap (λ l. l ++ others) (one-column rows short)) c.requires.visit_is.box all c.index.ensures (ap (λ n. c.args.first + n) c.count.ensures) drawn
