-- Each line after the mark is read after those before it.
use Rattle.std.proofs.Common.{ℕ, List, ◌∷◌, subst}
use Rattle.std.proofs.lemmas.List.{take_rest}
use Rattle.edit_script.proofs.ScriptLemmas.{Reads, reads-none, reads-more, reads-refused, line-refused, keeps-none}
use Rattle.edit_script.proofs.script.read_script.Goals as goal

pub loop-line-init : goal.loop-line-init
loop-line-init c =
    let mark = c.in-Some.ensures in
    rw (c.new-commands.ensures.items, c.after-lines.ensures, take_rest) (record {
      reads = reads-none c.args.input.now c.in-Some.mark.place c.in-Some.mark.end mark.place mark.end;
      keeps = keeps-none;
    })

pub returns-in-Err-clause-script : goal.returns-in-Err-clause-script
returns-in-Err-clause-script c =
    let line = c.in-Some-next.line in
    let reads = subst (λ (left : List (ℕ × List (List ℕ))). Reads c.args.input.now c.loop-line.commands.items left) c.in-Some-next.ensures.next c.loop-line.invariant.reads in
    rw (c.fault-in-Err.ensures, c.defect_or.ensures)
    (reads-refused c.args.input.now c.loop-line.commands.items line.number (line.first.now ∷ line.others) c.next.new.self c.in-Err.error reads
    c.in-Err.ensures.gives)

pub returns-in-Err-clause-line : goal.returns-in-Err-clause-line
returns-in-Err-clause-line c =
    let line = c.in-Some-next.line in
    let reads = subst (λ (left : List (ℕ × List (List ℕ))). Reads c.args.input.now c.loop-line.commands.items left) c.in-Some-next.ensures.next c.loop-line.invariant.reads in
    rw c.fault-in-Err.ensures
    (λ h. line-refused c.args.input.now c.loop-line.commands.items line.number (line.first.now ∷ line.others) c.next.new.self reads)

pub loop-line-preserved : goal.loop-line-preserved
loop-line-preserved c =
    let line = c.in-Some-next.line in
    let reads = subst (λ (left : List (ℕ × List (List ℕ))). Reads c.args.input.now c.loop-line.commands.items left) c.in-Some-next.ensures.next c.loop-line.invariant.reads in
    record {
      reads = reads-more c.args.input.now c.loop-line.commands.items c.push_command.new.commands.items line.number (line.first.now ∷ line.others) c.next.new.self reads
          c.in_default-push_command.ensures.gives;
      keeps = c.in_default-push_command.ensures.keeps c.loop-line.invariant.keeps;
    }
