-- The first line feed is found, or there is none.
use Rattle.std.proofs.Common.{◌+◌, ◌-◌, ◌≤◌, length, drop, ◌∙◌, arith}
use Rattle.std.proofs.lemmas.List.{take_all, length-drop}
use Rattle.edit_script.proofs.MarkLemmas.{after_all, after_feed}
use Rattle.edit_script.proofs.mark.after_line.Goals as goal

pub returns-in-None : goal.returns-in-None
returns-in-None c = after_all c.args.text.now c.in-None.ensures

pub returns-in-Some : goal.returns-in-Some
returns-in-Some c =
    let text = c.args.text.now in
    let next = c.in-Some.end + 1 in
    let whole : length (drop next text) ≤ length text - next = omega (arith, length-drop next text) in
    take_all (length text - next) (drop next text) whole ∙ after_feed text c.in-Some.end c.in-Some.ensures
