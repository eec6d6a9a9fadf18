-- Each turn copies a step that is needed, or passes one that is not.
use Rattle.std.proofs.Common.{◌≡◌, ◌+◌, ◌-◌, suc, false, inl, inr, length, map, set, sym, subst, ◌∙◌, arith}
use Rattle.std.proofs.lemmas.Bool.{cases_lt}
use Rattle.std.proofs.lemmas.List.{length-map}
use Rattle.live_clauses.specs.Live.{is_needed}
use Rattle.live_clauses.specs.Packed.{unpacked}
use Rattle.live_clauses.proofs.Kept.{kept_below-le}
use Rattle.live_clauses.proofs.Numbering.{IsCopied, copied-idle, visited}
use Rattle.live_clauses.proofs.Stored.{kept_at, kept_at-is}
use Rattle.live_clauses.proofs.Walks.{reads-kept, reads-none, reads-second}
use Rattle.live_clauses.proofs.copying.copy_live.Goals as goal

pub copy_step-number-requires-clause-a : goal.copy_step-number-requires-clause-a
copy_step-number-requires-clause-a g c =
    reads-kept c.args.constants.now c.args.steps.now c.requires.tape c.loop-at.at (length c.loop-at.numbers) (kept_at c.args.steps.now c.loop-at.at) c.loop-at-test.true
    (omega (arith, c.loop-at-test.true, c.requires.numbers, c.loop-at.auto.numbers)) (omega (arith, c.requires.table, c.loop-at.auto.numbers)) (kept_at-is c.args.steps.now c.loop-at.at c.loop-at-test.true)

pub copy_step-number-requires-clause-b : goal.copy_step-number-requires-clause-b
copy_step-number-requires-clause-b g c =
    reads-second c.args.constants.now c.args.steps.now c.requires.tape c.loop-at.at (length c.loop-at.numbers) (kept_at c.args.steps.now c.loop-at.at) c.loop-at-test.true
    (omega (arith, c.loop-at-test.true, c.requires.numbers, c.loop-at.auto.numbers)) (kept_at-is c.args.steps.now c.loop-at.at c.loop-at-test.true)

pub copy_step-number-requires-clause-none : goal.copy_step-number-requires-clause-none
copy_step-number-requires-clause-none g c =
    reads-none c.args.constants.now c.args.steps.now c.requires.tape c.loop-at.at (kept_at c.args.steps.now c.loop-at.at) c.loop-at-test.true (kept_at-is c.args.steps.now c.loop-at.at c.loop-at-test.true)

pub copy_step-number-requires-clause-few : goal.copy_step-number-requires-clause-few
copy_step-number-requires-clause-few g c =
    omega (arith, c.loop-at.invariant.copied.counted, kept_below-le (map (unpacked c.args.constants.now) c.args.steps.now) (g.C.Choices.list c.args.choices) c.loop-at.at, c.loop-at-test.true, c.requires.tape.few, length-map c.args.steps.now (unpacked c.args.constants.now))

pub copy_step-number-requires-clause-room : goal.copy_step-number-requires-clause-room
copy_step-number-requires-clause-room g c = λ both.
    omega (arith, c.loop-at.invariant.copied.counted, kept_below-le (map (unpacked c.args.constants.now) c.args.steps.now) (g.C.Choices.list c.args.choices) c.loop-at.at, c.loop-at-test.true, c.requires.room, c.loop-at.auto.new)

pub loop-at-preserved-then-is_set : goal.loop-at-preserved-then-is_set
loop-at-preserved-then-is_set g c =
    let steps = map (unpacked c.args.constants.now) c.args.steps.now in
    let choices = g.C.Choices.list c.args.choices in
    let next : suc c.loop-at.at ≡ c.loop-at.at + 1 = omega arith in
    let needed = sym (c.requires.marks c.loop-at.at (omega (arith, c.loop-at-test.true, length-map c.args.steps.now (unpacked c.args.constants.now)))) ∙ sym c.is_set.ensures ∙ c.if-is_set.true in
    record {
      within = omega (arith, c.loop-at-test.true);
      copied = subst (λ p. IsCopied c.args.constants.now p steps choices (set c.loop-at.numbers c.loop-at.at c.copy_step-number.result.0) c.copy_step-number.new.new c.copy_step-number.result.1) next
          (visited c.args.constants.now c.args.steps.now choices c.requires.tape c.requires.choices c.loop-at.at c.copy_step-number.result.0 c.loop-at.count c.copy_step-number.result.1 c.loop-at.numbers c.loop-at.new c.copy_step-number.new.new
          (kept_at c.args.steps.now c.loop-at.at) c.at.result c.loop-at-test.true (kept_at-is c.args.steps.now c.loop-at.at c.loop-at-test.true) c.at.ensures needed
          (omega (arith, c.loop-at-test.true, c.requires.numbers, c.loop-at.auto.numbers)) c.loop-at.invariant.copied c.copy_step-number.ensures.number c.copy_step-number.ensures.count (c.copy_step-number.ensures.copied c.args.constants.now));
    }

pub loop-at-preserved : goal.loop-at-preserved
loop-at-preserved g c =
    let at = c.loop-at.at in
    let steps = map (unpacked c.args.constants.now) c.args.steps.now in
    let choices = g.C.Choices.list c.args.choices in
    let long = length-map c.args.steps.now (unpacked c.args.constants.now) in
    let here : is_needed steps choices at ≡ false = sym (c.requires.marks at (omega (arith, c.loop-at-test.true, long))) ∙ sym c.is_set.ensures ∙ c.if-is_set.false in
    let next : at + (c.next_marked-at.result - at) ≡ c.next_marked-at.result = omega (arith, c.next_marked-at.ensures.onward) in
    record {
      within = c.next_marked-at.ensures.within;
      copied = subst (λ p. IsCopied c.args.constants.now p steps choices c.loop-at.numbers c.loop-at.new c.loop-at.count) next
          (copied-idle steps choices c.requires.tape c.requires.choices c.args.constants.now at (c.next_marked-at.result - at) c.loop-at.numbers c.loop-at.new c.loop-at.count
          (λ place from to. elim (cases_lt at place) [
            | inl after ↦
                sym (c.requires.marks place (omega (arith, to, c.next_marked-at.ensures.onward, c.next_marked-at.ensures.within, long)))
                ∙ c.next_marked-at.ensures.idle place (omega (arith, after)) (omega (arith, to, c.next_marked-at.ensures.onward))
            | inr before ↦ let same : place ≡ at = omega (arith, from, before) in rw same here
          ])
          c.loop-at.invariant.copied);
    }

pub returns-clause-few : goal.returns-clause-few
returns-clause-few g c =
    omega (arith, c.loop-at.invariant.copied.counted, kept_below-le (map (unpacked c.args.constants.now) c.args.steps.now) (g.C.Choices.list c.args.choices) c.loop-at.at, c.loop-at.invariant.within)
