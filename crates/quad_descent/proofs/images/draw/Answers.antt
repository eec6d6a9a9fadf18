use Rattle.std.proofs.Common.{arith}
use Rattle.box_chains.proofs.Theorems.{laws}
use Rattle.box_chains.specs.Tallied.{CountsAtMost, CountsExactly}
use Rattle.quad_descent.proofs.DrawerLaws.{fresh-work, on_err, on_ok}
use Rattle.quad_descent.proofs.images.draw.Goals as goal

pub returns-in_err-boxes-clause-at_most : goal.returns-in_err-boxes-clause-at_most
returns-in_err-boxes-clause-at_most c = on_err _ _ (fresh-work (λ p s. CountsAtMost p s c.args.tally.now c.draw_fresh.new.tally) c.args.view.now c.args.list.now c.in_err-boxes.ensures.at_most)

pub returns-clause-counted : goal.returns-clause-counted
returns-clause-counted c = on_ok _ _ (fresh-work (λ p s. CountsExactly p s c.args.tally.now c.draw_fresh.new.tally) c.args.view.now c.args.list.now c.in_ok-boxes.ensures.counted)

pub returns-clause-at_most : goal.returns-clause-at_most
returns-clause-at_most c =
    on_err _ _ (laws.bounds.exact c.args.tally.now c.draw_fresh.new.tally _ _ _ _ (omega arith) (omega arith)
    (fresh-work (λ p s. CountsExactly p s c.args.tally.now c.draw_fresh.new.tally) c.args.view.now c.args.list.now c.in_ok-boxes.ensures.counted))
