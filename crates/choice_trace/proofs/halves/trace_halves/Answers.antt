use Rattle.std.proofs.Common.{◌≡◌, ◌∙◌, ◌+◌, ◌*◌, ◌<◌, ◌++◌, ℕ, List, [], add-one, ap, arith, drop, length, set, subst, sym}
use Rattle.std.proofs.Math.Nat.{mul-suc}
use Rattle.std.proofs.lemmas.List.{drop-set-lt}
use Rattle.fixed_ops.specs.Counts.{no_counts}
use Rattle.interval_ops.specs.HullCounts.{CountsHulls}
use Rattle.interval_ops.specs.Spans.{Interval}
use Rattle.live_clauses.specs.Choices.{choice_at, choice_in, lane}
use Rattle.choice_trace.specs.Halves.{flag_in, region_in, row_in}
use Rattle.choice_trace.specs.Hulls.{choices_over, hull_at, hull_in, step_hull}
use Rattle.choice_trace.proofs.Elements.{each_more}
use Rattle.choice_trace.proofs.HalfRows.{choice_made, flag_more, hull_made, lane_traced, lane_written, row_written}
use Rattle.choice_trace.proofs.Traces.{are_choices, are_right, length-choices}
use Rattle.interval_ops.proofs.HullCountLaws.{CountsHulls-then}
use Rattle.choice_trace.proofs.halves.trace_halves.Goals as goal

pub loop-at-preserved : goal.loop-at-preserved
loop-at-preserved g c =
    let region = λ (l : ℕ). region_in c.args.regions.now l in
    let steps = c.again-steps.result in
    let at = c.loop-at.at in
    let step = c.step-step.result in
    let regs = c.loop-at.regs in
    let choices = c.loop-at.choices in
    let earlier = c.split_at_mut-earlier.result.0.now in
    let later = c.split_at_mut-earlier.result.1.now in
    let row = c.trace_step.new.hulls in
    let chosen = c.trace_step.new.choices in
    let same_length = ap length c.again-steps.ensures.steps in
    let stand = c.len-len.ensures.tape.each in
    let written : earlier ++ set later 0 row ≡ set regs at row =
    row_written regs earlier later at row c.split_at_mut-earlier.ensures.value c.split_at_mut-earlier.ensures.front_len in
    let choice : (l : ℕ) → l < g.row.L → choice_in chosen l ≡ choice_at (choices_over (region l) steps) at =
    λ l h. choice_made (region l) steps at l step regs earlier (choice_in chosen l) stand c.step-step.ensures.step c.split_at_mut-earlier.ensures.front
    (λ place below. c.loop-at.invariant.hulls place below l h) (c.trace_step.ensures.choices l h) in
    record {
      hulls = subst (λ (rows : List (List Interval)). (place : ℕ) → place < at + 1 → (l : ℕ) → l < g.row.L → hull_in (row_in rows place) l ≡ hull_at (region l) steps place) (sym written)
          (each_more (λ place (new : List Interval). (l : ℕ) → l < g.row.L → hull_in new l ≡ hull_at (region l) steps place) regs at row [] (omega (arith, same_length))
          c.loop-at.invariant.hulls
          (λ l h. hull_made (region l) steps at l step regs earlier (hull_in row l) stand c.step-step.ensures.step c.split_at_mut-earlier.ensures.front
          (λ place below. c.loop-at.invariant.hulls place below l h)
          (c.trace_step.ensures.hulls l h
          ∙ ap (λ of. step_hull step.op of step.value (hull_in (row_in earlier step.a) l) (hull_in (row_in earlier step.b) l)) (c.ranges-inputs.ensures l h))));
      choices = λ place below l h. lane_written choices (choices_over (region l) steps) at l chosen (omega (arith, same_length)) (λ k earlier. c.loop-at.invariant.choices k earlier l h) (choice l h) place below;
      chosen = λ l h. flag_more (flag_in c.loop-at.chosen l) (flag_in c.trace_step.new.chosen l) (choices_over (region l) steps) at (choice_in chosen l)
          (c.trace_step.ensures.chosen l h) (choice l h) (c.loop-at.invariant.chosen l h);
      regs_rest = ap (drop (length steps)) written ∙ drop-set-lt (length steps) regs at row (omega arith) ∙ c.loop-at.invariant.regs_rest;
      choices_rest = drop-set-lt (length steps) choices at chosen (omega arith) ∙ c.loop-at.invariant.choices_rest;
      counted = subst (λ n. CountsHulls n no_counts c.trace_step.new.work) (sym (ap (λ n. g.row.L * n) (add-one at) ∙ mul-suc g.row.L at))
          (CountsHulls-then no_counts c.loop-at.work c.trace_step.new.work (g.row.L * at) g.row.L c.loop-at.invariant.counted c.trace_step.ensures.counted);
    }

pub returns-clause-choices : goal.returns-clause-choices
returns-clause-choices g c = λ l h.
    let same = c.again-steps.ensures.steps in
    let region = region_in c.args.regions.now l in
    let tape = c.args.list.now in
    lane_traced c.loop-at.choices (choices_over region tape) (length tape) l (omega arith) (length-choices region tape)
    (λ place below.
    subst (λ steps. choice_at (lane l c.loop-at.choices) place ≡ choice_at (choices_over region steps) place) same
    (c.loop-at.invariant.choices place (omega (arith, below, ap length same)) l h))

pub returns-clause-only : goal.returns-clause-only
returns-clause-only g c = λ l h. are_choices (region_in c.args.regions.now l) c.args.list.now (lane l c.loop-at.choices) (returns-clause-choices g c l h)

pub returns-clause-right : goal.returns-clause-right
returns-clause-right g c = λ l p h inside.
    are_right (region_in c.args.regions.now l) c.args.list.now (lane l c.loop-at.choices) p (c.in_order.ensures l h)
    c.again-steps.ensures.tape.each (returns-clause-choices g c l h) inside
