-- The mark line is the first, and stands at the front of the rest.
use Rattle.std.proofs.Common.{◌+◌, ◌<◌, length, ap, sym, ◌∙◌, arith}
use Rattle.std.proofs.lemmas.Bool.{eqb-false}
use Rattle.clause_reader.specs.Scan.{after_line}
use Rattle.edit_script.proofs.LineStarts.{from_line-next, from_line-start}
use Rattle.edit_script.proofs.MarkLemmas.{passed-more, passed-mark}
use Rattle.edit_script.proofs.mark.find_mark.Goals as goal

pub returns-then-is_mark-clause-place : goal.returns-then-is_mark-clause-place
returns-then-is_mark-clause-place c =
    let some : 0 < length c.loop-rest.rest.now = omega (arith, eqb-false (length c.loop-rest.rest.now) 0 (sym c.is_empty.ensures ∙ c.loop-rest-test.true)) in
    passed-mark c.args.input.now c.loop-rest.place c.loop-rest.rest.now c.loop-rest.invariant some (sym c.is_mark.ensures ∙ c.if-is_mark.true)

pub returns-then-is_mark-clause-start : goal.returns-then-is_mark-clause-start
returns-then-is_mark-clause-start c = from_line-start c.args.input.now c.loop-rest.rest.now c.loop-rest.place c.loop-rest.invariant.from

pub returns-then-is_mark-clause-end : goal.returns-then-is_mark-clause-end
returns-then-is_mark-clause-end c =
    from_line-start c.args.input.now c.after_line-after.result.now (c.loop-rest.place + 1)
    (c.after_line-after.ensures ∙ ap after_line c.loop-rest.invariant.from ∙ sym (from_line-next c.args.input.now c.loop-rest.place))

pub loop-rest-preserved : goal.loop-rest-preserved
loop-rest-preserved c =
    let some : 0 < length c.loop-rest.rest.now = omega (arith, eqb-false (length c.loop-rest.rest.now) 0 (sym c.is_empty.ensures ∙ c.loop-rest-test.true)) in
    rw c.after_line-after.ensures (passed-more c.args.input.now c.loop-rest.place c.loop-rest.rest.now c.loop-rest.invariant some (sym c.is_mark.ensures ∙ c.if-is_mark.false))
