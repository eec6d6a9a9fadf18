use Rattle.std.proofs.Common.{length, take, ap, sym, subst, ◌∙◌}
use Rattle.std.proofs.lemmas.List.{take-map}
use Rattle.live_clauses.specs.Blocks.{list_at}
use Rattle.live_clauses.specs.Choices.{AreChoices, choice_in, lane}
use Rattle.live_clauses.specs.Live.{live_of}
use Rattle.live_clauses.specs.Marks.{AreMarks}
use Rattle.live_clauses.specs.Steps.{IsTape}
use Rattle.live_clauses.proofs.Theorems.{live_lists_are_tapes, live_lists_are_whole}
use Rattle.box_chains.specs.Outcomes.{IsHandedOn}
use Rattle.box_chains.proofs.Seen.{handed-last, last-list}
use Rattle.box_chains.proofs.rows.hand_on_lane.Goals as goal

pub push_marked-requires-clause-choices : goal.push_marked-requires-clause-choices
push_marked-requires-clause-choices c =
    let l = c.args.l in
    let same = sym (take-map (λ row. choice_in row l) c.len-len.result c.args.rows.now)
    ∙ ap (λ n. take n (lane l c.args.rows.now)) (c.len-len.ensures.len ∙ ap length c.list.ensures.list) in
    subst (AreChoices (list_at c.args.lists.now c.args.at)) (sym same) c.requires.only

pub returns-clause-list : goal.returns-clause-list
returns-clause-list c =
    let l = c.args.l in
    let list = list_at c.args.lists.now c.args.at in
    let after = c.push_marked.new.self in
    let same = sym (take-map (λ row. choice_in row l) c.len-len.result c.args.rows.now)
    ∙ ap (λ n. take n (lane l c.args.rows.now)) (c.len-len.ensures.len ∙ ap length c.list.ensures.list) in
    ap (list_at after) c.len-live.ensures
    ∙ last-list c.args.lists.now after (live_of list (lane l (take c.len-len.result c.args.rows.now))) c.in_ok-push_marked.ensures.pushed
    ∙ ap (live_of list) same

pub returns-clause-handed : goal.returns-clause-handed
returns-clause-handed c =
    let list = list_at c.args.lists.now c.args.at in
    let after = c.push_marked.new.self in
    let chosen = lane c.args.l (take c.len-len.result c.args.rows.now) in
    let tape = subst IsTape c.list.ensures.list c.list.ensures.tape in
    let l = c.args.l in
    let same = sym (take-map (λ row. choice_in row l) c.len-len.result c.args.rows.now)
    ∙ ap (λ n. take n (lane l c.args.rows.now)) (c.len-len.ensures.len ∙ ap length c.list.ensures.list) in
    let only = subst (AreChoices list) (sym same) c.requires.only in
    subst (IsHandedOn (length list) after) (sym c.len-live.ensures)
    (handed-last (length list) c.args.lists.now after (live_of list chosen) c.in_ok-push_marked.ensures.pushed
    (live_lists_are_tapes list chosen tape only).1 (live_lists_are_whole list chosen tape only))

pub push_marked-requires-clause-marks : goal.push_marked-requires-clause-marks
push_marked-requires-clause-marks c =
    let l = c.args.l in
    let same = sym (take-map (λ row. choice_in row l) c.len-len.result c.args.rows.now)
    ∙ ap (λ n. take n (lane l c.args.rows.now)) (c.len-len.ensures.len ∙ ap length c.list.ensures.list) in
    subst (λ choices. AreMarks l (list_at c.args.lists.now c.args.at) choices c.args.marks.now) (sym same) c.requires.marks
