-- Each turn marks what a step needs, in the lanes in which it is needed itself.
use Rattle.std.proofs.Common.{◌≡◌, ◌-◌, ◌<◌, suc, length, slice_index, ap, sym, subst, refl, ◌∙◌, arith}
use Rattle.live_clauses.specs.Choices.{choice_at, choice_in, step_at}
use Rattle.live_clauses.specs.Live.{hands_on}
use Rattle.live_clauses.specs.Packed.{unpacked}
use Rattle.live_clauses.specs.Steps.{IsTape}
use Rattle.live_clauses.proofs.MarkTurns.{AreMarksAfter, marks-all, marks-begun, marks-idle, marks-visited}
use Rattle.live_clauses.proofs.Stored.{kept_at, kept_at-is, step_at-unpacked}
use Rattle.live_clauses.proofs.Walks.{reads-first, reads-none, reads-second}
use Rattle.live_clauses.proofs.marking.mark_rows.Goals as goal

pub loop-at-init : goal.loop-at-init
loop-at-init g c = record {
  within = omega (arith, c.packed.ensures.len);
  marked = λ lane within asked. marks-begun lane c.args.list.now (g.R.ChoiceRows.lanes c.args.rows lane) c.mark_last.new.marks c.args.lanes (length c.packed.result.0.now) c.packed.ensures.len asked (c.mark_last.ensures lane);
}

pub visit-requires-clause-a : goal.visit-requires-clause-a
visit-requires-clause-a g c =
    let at = c.loop-at.at - 1 in
    let within : at < length c.packed.result.0.now = omega (arith, c.loop-at-test.true, c.loop-at.invariant.within, c.packed.ensures.len) in
    reads-first c.packed.result.1.now c.packed.result.0.now (subst IsTape (sym c.packed.ensures.steps) c.packed.ensures.tape) at (length c.loop-at.marks) (kept_at c.packed.result.0.now at) within
    (omega (arith, within, c.packed.ensures.len, c.requires.room, c.loop-at.auto.marks)) (kept_at-is c.packed.result.0.now at within)

pub visit-requires-clause-b : goal.visit-requires-clause-b
visit-requires-clause-b g c =
    let at = c.loop-at.at - 1 in
    let within : at < length c.packed.result.0.now = omega (arith, c.loop-at-test.true, c.loop-at.invariant.within, c.packed.ensures.len) in
    reads-second c.packed.result.1.now c.packed.result.0.now (subst IsTape (sym c.packed.ensures.steps) c.packed.ensures.tape) at (length c.loop-at.marks) (kept_at c.packed.result.0.now at) within
    (omega (arith, within, c.packed.ensures.len, c.requires.room, c.loop-at.auto.marks)) (kept_at-is c.packed.result.0.now at within)

pub visit-requires-clause-none : goal.visit-requires-clause-none
visit-requires-clause-none g c =
    let at = c.loop-at.at - 1 in
    let within : at < length c.packed.result.0.now = omega (arith, c.loop-at-test.true, c.loop-at.invariant.within, c.packed.ensures.len) in
    reads-none c.packed.result.1.now c.packed.result.0.now (subst IsTape (sym c.packed.ensures.steps) c.packed.ensures.tape) at (kept_at c.packed.result.0.now at) within (kept_at-is c.packed.result.0.now at within)

pub loop-at-preserved-then-asked-ne0 : goal.loop-at-preserved-then-asked-ne0
loop-at-preserved-then-asked-ne0 g c =
    let at = c.loop-at.at - 1 in
    let within : at < length c.packed.result.0.now = omega (arith, c.loop-at-test.true, c.loop-at.invariant.within, c.packed.ensures.len) in
    let next : c.loop-at.at ≡ suc at = omega (arith, c.loop-at-test.true) in
    let read = kept_at c.packed.result.0.now at in
    record {
      within = omega (arith, c.loop-at.invariant.within);
      marked = λ lane few asked.
          let choices = g.R.ChoiceRows.lanes c.args.rows lane in
          marks-visited lane c.args.list.now choices at c.loop-at.marks c.visit.new.marks (slice_index c.loop-at.marks at) (unpacked c.packed.result.1.now read) (choice_in c.row.result lane)
          (omega (arith, within, c.packed.ensures.len)) refl
          (step_at-unpacked c.packed.result.1.now c.packed.result.0.now at read within (kept_at-is c.packed.result.0.now at within) ∙ ap (λ s. step_at s at) c.packed.ensures.steps)
          (c.row.ensures lane few)
          (subst (λ n. AreMarksAfter lane (length c.args.list.now - n) c.args.list.now choices c.loop-at.marks) next (c.loop-at.invariant.marked lane few asked))
          (c.visit.ensures c.packed.result.1.now lane few);
    }

pub loop-at-preserved : goal.loop-at-preserved
loop-at-preserved g c =
    let at = c.loop-at.at - 1 in
    let within : at < length c.args.list.now = omega (arith, c.loop-at-test.true, c.loop-at.invariant.within) in
    let next : c.loop-at.at ≡ suc at = omega (arith, c.loop-at-test.true) in
    record {
      within = omega (arith, c.loop-at.invariant.within);
      marked = λ lane few asked.
          let choices = g.R.ChoiceRows.lanes c.args.rows lane in
          marks-visited lane c.args.list.now choices at c.loop-at.marks c.loop-at.marks (slice_index c.loop-at.marks at) (step_at c.args.list.now at) (choice_at choices at)
          within refl refl refl
          (subst (λ n. AreMarksAfter lane (length c.args.list.now - n) c.args.list.now choices c.loop-at.marks) next (c.loop-at.invariant.marked lane few asked))
          (marks-idle lane c.args.list.now choices c.loop-at.marks (slice_index c.loop-at.marks at) (hands_on (step_at c.args.list.now at) (choice_at choices at)) c.if-asked-ne0.false);
    }

pub returns : goal.returns
returns g c = λ lane few asked. marks-all lane c.args.list.now (g.R.ChoiceRows.lanes c.args.rows lane) c.loop-at.marks c.loop-at.at c.loop-at-test.false (c.loop-at.invariant.marked lane few asked)
