use Rattle.std.proofs.Common.{length, sym, take}
use Rattle.live_clauses.proofs.Theorems.{whole_lists_stand}
use Rattle.live_clauses.specs.Blocks.{list_at}
use Rattle.live_clauses.specs.Choices.{lane}
use Rattle.box_chains.proofs.rows.hand_on_whole.Goals as goal

pub returns-clause-list : goal.returns-clause-list
returns-clause-list c =
    let list = list_at c.args.lists.now c.args.at in
    sym (whole_lists_stand list (take (length list) (lane c.args.l c.args.rows.now)) c.requires.tape c.requires.whole (λ place within. c.requires.chosen place))
