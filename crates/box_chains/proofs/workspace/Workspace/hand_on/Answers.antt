use Rattle.std.proofs.Common.{length, take, ap, sym, subst, ◌∙◌}
use Rattle.live_clauses.specs.Blocks.{list_at}
use Rattle.live_clauses.specs.Choices.{AreChoices}
use Rattle.live_clauses.specs.Live.{live_of}
use Rattle.live_clauses.specs.Steps.{IsTape}
use Rattle.live_clauses.proofs.Theorems.{live_lists_are_tapes, live_lists_are_whole}
use Rattle.box_chains.specs.Outcomes.{IsHandedOn}
use Rattle.box_chains.proofs.Seen.{handed-last}
use Rattle.box_chains.proofs.workspace.Workspace.hand_on.Goals as goal

pub returns-clause-handed : goal.returns-clause-handed
returns-clause-handed c =
    let list = list_at c.args.lists.now c.args.at in
    let after = c.push_live.new.self in
    let chosen = take c.len-len.result c.deref.result.now in
    let tape = subst IsTape c.list.ensures.list c.list.ensures.tape in
    let only = subst (AreChoices list)
    (ap (λ n. take n c.args.self.now) (sym (c.len-len.ensures.len ∙ ap length c.list.ensures.list)) ∙ ap (take c.len-len.result) (sym (c.deref.ensures.value ∙ c.self.view_is)))
    c.requires.choices in
    subst (IsHandedOn (length list) after) (sym c.len-live.ensures)
    (handed-last (length list) c.args.lists.now after (live_of list chosen) c.in_ok-push_live.ensures.pushed
    (live_lists_are_tapes list chosen tape only).1 (live_lists_are_whole list chosen tape only))
