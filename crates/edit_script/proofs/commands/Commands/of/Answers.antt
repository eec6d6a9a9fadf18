-- Each line after the mark is read after those before it.
use Rattle.std.proofs.Common.{ℕ, List, [], ◌∷◌, Err, ap, subst, sym, ◌∙◌}
use Rattle.std.proofs.lemmas.List.{take_rest}
use Rattle.edit_script.proofs.ReasonLemmas.{never-memory}
use Rattle.edit_script.proofs.ScriptLemmas.{Checks, checks-more, line-refused, opens-read, opens-said, reads-none, reads-stopped}
use Rattle.edit_script.proofs.commands.Commands.of.Goals as goal

pub loop-line-init : goal.loop-line-init
loop-line-init c =
    let mark = c.in-Some.ensures in
    rw (c.after-lines.ensures, take_rest) (record {
      commands = [];
      reads = reads-none c.args.input.now c.in-Some.mark.place c.in-Some.mark.end mark.place mark.end;
    })

pub returns-in-Err-clause-script : goal.returns-in-Err-clause-script
returns-in-Err-clause-script c =
    let line = c.in-Some-next.line in
    let checks = subst (λ (left : List (ℕ × List (List ℕ))). Checks c.args.input.now left) c.in-Some-next.ensures.next c.loop-line.invariant in
    rw c.fault-in-Err.ensures
    (reads-stopped c.args.input.now checks.commands line.number (line.first.now ∷ line.others) c.next.new.self c.in-Err.reason checks.reads
    (sym c.in-Err.ensures.value))

pub returns-in-Err-clause-line : goal.returns-in-Err-clause-line
returns-in-Err-clause-line c =
    let line = c.in-Some-next.line in
    let checks = subst (λ (left : List (ℕ × List (List ℕ))). Checks c.args.input.now left) c.in-Some-next.ensures.next c.loop-line.invariant in
    rw c.fault-in-Err.ensures
    (λ h. line-refused c.args.input.now checks.commands line.number (line.first.now ∷ line.others) c.next.new.self checks.reads)

pub loop-line-preserved : goal.loop-line-preserved
loop-line-preserved c =
    let line = c.in-Some-next.line in
    let checks = subst (λ (left : List (ℕ × List (List ℕ))). Checks c.args.input.now left) c.in-Some-next.ensures.next c.loop-line.invariant in
    checks-more c.args.input.now line.number (line.first.now ∷ line.others) c.next.new.self c.in-Ok.field-0 checks (sym c.in-Ok.ensures.value)

pub invariant_of-result : goal.invariant_of-result
invariant_of-result c =
    let mark = c.in-Some.ensures in
    rw (c.after-whole.ensures, take_rest)
    (opens-read c.args.input.now _
    (reads-none c.args.input.now c.in-Some.mark.place c.in-Some.mark.end mark.place mark.end)
    (subst (λ (left : List (ℕ × List (List ℕ))). Checks c.args.input.now left) c.in_default-next.ensures.next.0 c.loop-line.invariant))

pub returns-clause-script : goal.returns-clause-script
returns-clause-script c =
    let mark = c.in-Some.ensures in
    rw (c.after-whole.ensures, take_rest)
    (opens-said c.args.input.now _
    (reads-none c.args.input.now c.in-Some.mark.place c.in-Some.mark.end mark.place mark.end)
    (subst (λ (left : List (ℕ × List (List ℕ))). Checks c.args.input.now left) c.in_default-next.ensures.next.0 c.loop-line.invariant))

pub returns-in-Err-clause-memory : goal.returns-in-Err-clause-memory
returns-in-Err-clause-memory c =
    let line = c.in-Some-next.line in
    rw c.fault-in-Err.ensures
    (λ memory. never-memory line.number (line.first.now ∷ line.others) (sym c.in-Err.ensures.value ∙ ap (λ reason. Err reason) memory))
