-- Where the lists are equal each box is the one before, and takes nothing.
use Rattle.std.proofs.Common.{◌≡◌, ap, arith, sym, ◌∙◌}
use Rattle.std.specs.Prelude.{Some}
use Rattle.oct_descent.specs.After.{mesh_least_after, mesh_long_spans_after}
use Rattle.oct_descent.specs.Ways.{grid_root, gridded}
use Rattle.oct_descent.proofs.AfterPaid.{least-same}
use Rattle.oct_descent.proofs.AfterWork.{long-old}
use Rattle.oct_descent.proofs.Looks.{traced-none}
use Rattle.box_chains.proofs.Theorems.{laws}
use Rattle.oct_descent.proofs.oct_tree.recells.Goals as goal

pub returns-then-same-clause-at_most : goal.returns-then-same-clause-at_most
returns-then-same-clause-at_most c = laws.bounds.none c.args.tally.now _ _

pub returns-then-same-clause-traced : goal.returns-then-same-clause-traced
returns-then-same-clause-traced c =
    let view = c.args.old.view in
    let list = c.args.list.now in
    let same : c.args.old.list ≡ list = sym c.list.ensures ∙ c.same.ensures.0 c.if-same.true in
    let none : mesh_long_spans_after view (Some c.args.old.list) list ≡ 0 = ap (λ l. mesh_long_spans_after view (Some l) list) same ∙ long-old laws (gridded view) (grid_root view list) in
    let least = traced-none laws c.args.tally.now in
    record { by = least.by; many = omega (arith, none); rises = least.rises }

pub returns-then-same-clause-at_least : goal.returns-then-same-clause-at_least
returns-then-same-clause-at_least c =
    let view = c.args.old.view in
    let list = c.args.list.now in
    let same : c.args.old.list ≡ list = sym c.list.ensures ∙ c.same.ensures.0 c.if-same.true in
    let none : mesh_least_after view (Some c.args.old.list) list ≡ 0 = ap (λ l. mesh_least_after view (Some l) list) same ∙ least-same laws view list in
    let least = traced-none laws c.args.tally.now in
    record { by = least.by; many = omega (arith, none); rises = least.rises }
