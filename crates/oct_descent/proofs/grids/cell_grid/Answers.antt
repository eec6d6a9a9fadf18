use Rattle.std.proofs.Common.{subst}
use Rattle.std.specs.Prelude.{None}
use Rattle.box_chains.specs.Tallied.{CountsAtMost}
use Rattle.oct_descent.specs.After.{mesh_points_after}
use Rattle.oct_descent.specs.Bound.{CountsAtLeast, CountsHullsAtLeast, mesh_spans}
use Rattle.oct_descent.proofs.AfterBounds.{meshes_after_add_up_is}
use Rattle.oct_descent.proofs.Looks.{on_ok}
use Rattle.box_chains.proofs.Theorems.{laws}
use Rattle.oct_descent.proofs.grids.cell_grid.Goals as goal

pub returns-in_err-values-clause-at_most : goal.returns-in_err-values-clause-at_most
returns-in_err-values-clause-at_most c =
    let sums = meshes_after_add_up_is laws in
    let view = c.args.view.now in
    let list = c.args.list.now in
    subst (λ n. CountsAtMost n (mesh_spans view list) c.args.tally.now c.look_into_all.new.tally) (sums.fresh_points view list)
    (subst (λ n. CountsAtMost (mesh_points_after view None list) n c.args.tally.now c.look_into_all.new.tally) (sums.fresh_spans view list) c.in_err-values.ensures.at_most)

pub returns-clause-at_most : goal.returns-clause-at_most
returns-clause-at_most c =
    let sums = meshes_after_add_up_is laws in
    let view = c.args.view.now in
    let list = c.args.list.now in
    subst (λ n. CountsAtMost n (mesh_spans view list) c.args.tally.now c.look_into_all.new.tally) (sums.fresh_points view list)
    (subst (λ n. CountsAtMost (mesh_points_after view None list) n c.args.tally.now c.look_into_all.new.tally) (sums.fresh_spans view list) c.in_ok-values.ensures.at_most)

pub returns-clause-traced : goal.returns-clause-traced
returns-clause-traced c =
    let sums = meshes_after_add_up_is laws in
    on_ok c.grid_of.result _
    (subst (λ n. CountsHullsAtLeast n c.args.tally.now c.look_into_all.new.tally) (sums.fresh_long c.args.view.now c.args.list.now) c.in_ok-values.ensures.traced)

pub returns-clause-at_least : goal.returns-clause-at_least
returns-clause-at_least c =
    let sums = meshes_after_add_up_is laws in
    on_ok c.grid_of.result _
    (subst (λ n. CountsAtLeast n c.args.tally.now c.look_into_all.new.tally) (sums.fresh_least c.args.view.now c.args.list.now) c.in_ok-values.ensures.at_least)

pub returns-in_err-desk-clause-at_most : goal.returns-in_err-desk-clause-at_most
returns-in_err-desk-clause-at_most c = laws.bounds.none c.args.tally.now _ _
