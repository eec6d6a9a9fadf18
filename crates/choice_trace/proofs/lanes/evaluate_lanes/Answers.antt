use Rattle.std.proofs.Common.{◌∙◌, ◌-◌, [], ap, arith, drop, length, refl}
use Rattle.std.proofs.lemmas.List.{get_or_read}
use Rattle.live_clauses.specs.Steps.{tape_value, value_at}
use Rattle.choice_trace.specs.Lanes.{in_lane, point_in}
use Rattle.choice_trace.proofs.Rows.{rows_behind, rows_more}
use Rattle.choice_trace.proofs.lanes.evaluate_lanes.Goals as goal

pub loop-at-init : goal.loop-at-init
loop-at-init g c = record {
  read = λ lane h place k. absurd (omega (arith, k));
  rest = refl {a = drop (length c.again-steps.result) c.args.regs.now};
}

pub loop-at-preserved : goal.loop-at-preserved
loop-at-preserved g c =
    let steps = c.again-steps.result in
    let at = c.loop-at.at in
    let earlier = c.split_at_mut-earlier.result.0.now in
    let later = c.split_at_mut-earlier.result.1.now in
    let split = c.split_at_mut-earlier.ensures.value in
    let len = c.split_at_mut-earlier.ensures.front_len in
    record {
      read = λ lane h. rows_more lane c.args.inputs.now c.loop-at.regs earlier later steps at c.step.result c.write_row.new.row c.len-len.ensures.tape.each c.step.ensures.step
          (omega (arith, ap length c.again-steps.ensures.steps)) split len (c.loop-at.invariant.read lane h) (c.write_row.ensures lane h);
      rest = rows_behind c.loop-at.regs earlier later at (length steps) c.write_row.new.row (omega arith) split len ∙ c.loop-at.invariant.rest;
    }

pub returns-clause-values : goal.returns-clause-values
returns-clause-values g c = λ lane h.
    let steps = c.again-steps.result in
    let p = point_in lane c.args.inputs.now in
    let some = c.len-len.ensures.tape.some in
    let len = c.len-len.ensures.len in
    ap (in_lane lane) (get_or_read c.loop-at.regs _ _ (omega (arith, ap length c.again-steps.ensures.steps)) c.index-regs-len.is [])
    ∙ c.loop-at.invariant.read lane h (c.len-len.result - 1) (omega arith)
    ∙ ap (λ n. value_at p steps (n - 1)) len ∙ ap (tape_value p) c.again-steps.ensures.steps

pub returns-clause-rows : goal.returns-clause-rows
returns-clause-rows g c = λ lane place h k.
    c.loop-at.invariant.read lane h place (omega (arith, k, c.len-len.ensures.len, ap length c.again-steps.ensures.steps))
    ∙ ap (λ s. value_at (point_in lane c.args.inputs.now) s place) c.again-steps.ensures.steps
