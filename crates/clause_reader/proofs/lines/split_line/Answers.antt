-- A line is passed, or is the first that is given.
use Rattle.std.proofs.Common.{◌+◌, ◌<◌, not, length, ap, sym, ◌∙◌, arith}
use Rattle.std.proofs.lemmas.Bool.{eqb-false}
use Rattle.clause_reader.proofs.LineSplits.{after_line-shorter}
use Rattle.clause_reader.specs.Scan.{line_tokens}
use Rattle.clause_reader.proofs.LineWalk.{skip-blank, skip-line, give-line}
use Rattle.clause_reader.proofs.lines.split_line.Goals as goal

pub loop-rest-preserved-in-None : goal.loop-rest-preserved-in-None
loop-rest-preserved-in-None c =
    let rest = c.loop-rest.rest.now in
    let some : 0 < length rest = omega (arith, eqb-false (length rest) 0 (sym c.is_empty.ensures ∙ c.loop-rest-test.true)) in
    rw c.after_line-rest.ensures (record {
      same = c.loop-rest.invariant.same ∙ skip-blank c.args.comments (c.loop-rest.number + 1) rest some c.in-None.ensures.tokens;
      few = omega (arith, c.loop-rest.invariant.few, after_line-shorter rest some);
    })

pub loop-rest-preserved : goal.loop-rest-preserved
loop-rest-preserved c =
    let rest = c.loop-rest.rest.now in
    let some : 0 < length rest = omega (arith, eqb-false (length rest) 0 (sym c.is_empty.ensures ∙ c.loop-rest-test.true)) in
    rw (c.after_line-rest-in-Some.ensures, c.in-Some.ensures.line) (record {
      same = c.loop-rest.invariant.same
          ∙ skip-line c.args.comments (c.loop-rest.number + 1) rest c.in-Some.first.now (line_tokens c.in-Some.others.now) some c.in-Some.ensures.tokens
          (c.skip.ensures (line_tokens c.in-Some.others.now) ∙ ap not c.if-skip.true);
      few = omega (arith, c.loop-rest.invariant.few, after_line-shorter rest some);
    })

pub returns-in-Some-2-clause-next : goal.returns-in-Some-2-clause-next
returns-in-Some-2-clause-next c =
    let rest = c.loop-rest.rest.now in
    let some : 0 < length rest = omega (arith, eqb-false (length rest) 0 (sym c.is_empty.ensures ∙ c.loop-rest-test.true)) in
    rw (c.after_line.ensures, c.in-Some.ensures.line, c.new.ensures)
    (c.loop-rest.invariant.same
    ∙ give-line c.args.comments (c.loop-rest.number + 1) rest c.in-Some.first.now (line_tokens c.in-Some.others.now) some c.in-Some.ensures.tokens
    (c.skip.ensures (line_tokens c.in-Some.others.now) ∙ ap not c.if-skip.false))
