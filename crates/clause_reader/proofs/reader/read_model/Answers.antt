-- Each clause line is read after those before it.
use Rattle.std.proofs.Common.{ℕ, List, ◌∷◌, subst}
use Rattle.clause_reader.proofs.LineSteps.{Reads, reads-more, says-clause, named, stop, finish}
use Rattle.clause_reader.proofs.reader.read_model.Goals as goal

pub read_clause-requires : goal.read_clause-requires
read_clause-requires c =
    let line = c.in-Some.line in
    let reads = subst (λ (left : List (ℕ × List (List ℕ))). Reads c.args.text.now c.loop-line.builder left) c.in-Some.ensures.next c.loop-line.invariant in
    named line.first.now line.others (says-clause c.args.text.now c.loop-line.builder line.number (line.first.now ∷ line.others) c.next.new.self reads)
    c.in-Some.ensures.bytes c.in-Some.ensures.some

pub returns-in-Err : goal.returns-in-Err
returns-in-Err c =
    let line = c.in-Some.line in
    let reads = subst (λ (left : List (ℕ × List (List ℕ))). Reads c.args.text.now c.loop-line.builder left) c.in-Some.ensures.next c.loop-line.invariant in
    rw c.defect_or.ensures
    (stop c.args.text.now c.loop-line.builder line.number (line.first.now ∷ line.others) c.next.new.self c.in-Err.error reads c.in-Err.ensures)

pub loop-line-preserved : goal.loop-line-preserved
loop-line-preserved c =
    let line = c.in-Some.line in
    let reads = subst (λ (left : List (ℕ × List (List ℕ))). Reads c.args.text.now c.loop-line.builder left) c.in-Some.ensures.next c.loop-line.invariant in
    reads-more c.args.text.now c.loop-line.builder c.read_clause.new.builder line.number (line.first.now ∷ line.others) c.next.new.self reads
    c.in_default-read_clause.ensures

pub returns : goal.returns
returns c =
    let reads = subst (λ (left : List (ℕ × List (List ℕ))). Reads c.args.text.now c.loop-line.builder left) c.in_default.ensures.next.0 c.loop-line.invariant in
    rw c.ok_or.ensures.value (finish c.args.text.now c.loop-line.builder c.finish.result reads c.finish.ensures)
