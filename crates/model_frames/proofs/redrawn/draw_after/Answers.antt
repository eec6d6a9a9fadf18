-- After an image of another view, and after none.
use Rattle.std.proofs.Common.{◌≡◌, false, ap, subst, sym, ◌∙◌}
use Rattle.std.specs.Prelude.{OnErr, OnOk, Some, None, if◌then◌else◌}
use Rattle.box_chains.specs.Tallied.{CountsAtMost, CountsExactly}
use Rattle.view_places.specs.Window.{same_view}
use Rattle.model_frames.specs.Images.{list_before}
use Rattle.model_frames.proofs.DescentLaws.{work_after_none}
use Rattle.model_frames.proofs.redrawn.draw_after.Goals as goal

pub returns-else-is_same-clause-counted : goal.returns-else-is_same-clause-counted
returns-else-is_same-clause-counted c =
    let view = c.args.view.now in
    let tree = c.in-Some.tree in
    let test = subst (λ v. same_view v view ≡ false) c.view.ensures (sym c.is_same.ensures.test ∙ c.if-is_same.false) in
    let none : list_before c.args.before view ≡ None = ap (λ b. list_before b view) c.in-Some.is ∙ ap (λ b. if b then Some tree.list else None) test in
    work_after_none (λ points spans. OnOk c.draw.result (CountsExactly points spans c.args.tally.now c.draw.new.tally)) view (list_before c.args.before view) c.args.list.now none
    c.draw.ensures.counted

pub returns-else-is_same-clause-at_most : goal.returns-else-is_same-clause-at_most
returns-else-is_same-clause-at_most c =
    let view = c.args.view.now in
    let tree = c.in-Some.tree in
    let test = subst (λ v. same_view v view ≡ false) c.view.ensures (sym c.is_same.ensures.test ∙ c.if-is_same.false) in
    let none : list_before c.args.before view ≡ None = ap (λ b. list_before b view) c.in-Some.is ∙ ap (λ b. if b then Some tree.list else None) test in
    work_after_none (λ points spans. OnErr c.draw.result (CountsAtMost points spans c.args.tally.now c.draw.new.tally)) view (list_before c.args.before view) c.args.list.now none
    c.draw.ensures.at_most

pub returns-in-None-clause-counted : goal.returns-in-None-clause-counted
returns-in-None-clause-counted c =
    let view = c.args.view.now in
    work_after_none (λ points spans. OnOk c.draw-in-None.result (CountsExactly points spans c.args.tally.now c.draw-in-None.new.tally)) view (list_before c.args.before view) c.args.list.now
    (ap (λ b. list_before b view) c.in-None.is) c.draw-in-None.ensures.counted

pub returns-in-None-clause-at_most : goal.returns-in-None-clause-at_most
returns-in-None-clause-at_most c =
    let view = c.args.view.now in
    work_after_none (λ points spans. OnErr c.draw-in-None.result (CountsAtMost points spans c.args.tally.now c.draw-in-None.new.tally)) view (list_before c.args.before view) c.args.list.now
    (ap (λ b. list_before b view) c.in-None.is) c.draw-in-None.ensures.at_most
