use Rattle.std.proofs.Common.{◌++◌, ap, arith, subst, sym, append-nil, ◌∙◌}
use Rattle.kuhn_cells.specs.Triangles.{point}
use Rattle.oct_descent.specs.Trees.{Gridding, IsTold}
use Rattle.oct_descent.proofs.Listed.{listed-mixed, listed-none, listed-not}
use Rattle.oct_descent.proofs.grids.CellGrid.push_cell.Goals as goal

pub overflow_cast-x : goal.overflow_cast-x
overflow_cast-x c = let told = subst (λ (d : Gridding). IsTold d.view d.list c.self.inside.values) c.self.view_is c.self.invariant in omega (arith, c.requires.x, told.n.0, told.few.x)

pub overflow_cast-y : goal.overflow_cast-y
overflow_cast-y c = let told = subst (λ (d : Gridding). IsTold d.view d.list c.self.inside.values) c.self.view_is c.self.invariant in omega (arith, c.requires.y, told.n.1.0, told.few.y)

pub overflow_cast-z : goal.overflow_cast-z
overflow_cast-z c = let told = subst (λ (d : Gridding). IsTold d.view d.list c.self.inside.values) c.self.view_is c.self.invariant in omega (arith, c.requires.z, told.n.1.1, told.few.z)

pub returns-in_ok-push : goal.returns-in_ok-push
returns-in_ok-push c =
    let d = c.args.self.now in
    let p = point c.args.x c.args.y c.args.z in
    let told = subst (λ (d : Gridding). IsTold d.view d.list c.self.inside.values) c.self.view_is c.self.invariant in
    c.in_ok-push.ensures.items
    ∙ ap (λ l. c.args.cells.now.items ++ l) (listed-mixed d.view d.list c.self.inside.values p c.in-Some.values told c.requires.x c.requires.y c.requires.z c.in-Some.ensures.all (sym c.is_mixed.ensures ∙ c.if-is_mixed.true))

pub returns-else-is_mixed : goal.returns-else-is_mixed
returns-else-is_mixed c =
    let d = c.args.self.now in
    let p = point c.args.x c.args.y c.args.z in
    let told = subst (λ (d : Gridding). IsTold d.view d.list c.self.inside.values) c.self.view_is c.self.invariant in
    sym (append-nil c.args.cells.now.items)
    ∙ ap (λ l. c.args.cells.now.items ++ l) (listed-not d.view d.list c.self.inside.values p c.in-Some.values told c.requires.x c.requires.y c.requires.z c.in-Some.ensures.all (sym c.is_mixed.ensures ∙ c.if-is_mixed.false))

pub returns-in_default : goal.returns-in_default
returns-in_default c =
    let d = c.args.self.now in
    let p = point c.args.x c.args.y c.args.z in
    let told = subst (λ (d : Gridding). IsTold d.view d.list c.self.inside.values) c.self.view_is c.self.invariant in
    sym (append-nil c.args.cells.now.items)
    ∙ ap (λ l. c.args.cells.now.items ++ l) (listed-none d.view d.list c.self.inside.values p told c.requires.x c.requires.y c.requires.z (c.corners.ensures.lacks c.in_default.is))
