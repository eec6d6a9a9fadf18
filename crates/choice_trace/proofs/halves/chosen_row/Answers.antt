use Rattle.std.proofs.Common.{◌≡◌, ◌≢◌, ◌||◌, Bool, arith, ap, below_more, false, get_or-set_other, length-set, ◌∙◌}
use Rattle.interval_ops.specs.Choices.{choice_of}
use Rattle.interval_ops.specs.Hulls.{hull_of}
use Rattle.interval_ops.specs.Spans.{Interval, all_numbers}
use Rattle.live_clauses.specs.Choices.{choice_in}
use Rattle.choice_trace.specs.Halves.{flag_in, is_made}
use Rattle.choice_trace.specs.Hulls.{hull_in}
use Rattle.choice_trace.proofs.Elements.{each_more}
use Rattle.choice_trace.proofs.HalfRows.{lane_read}
use Rattle.interval_ops.proofs.HullCountLaws.{CountsHulls-then}
use Rattle.choice_trace.proofs.halves.chosen_row.Goals as goal

pub loop-l-preserved : goal.loop-l-preserved
loop-l-preserved g c =
    let op = c.args.op in
    let a = c.args.a.now in
    let b = c.args.b.now in
    let l = c.loop-l.l in
    let flags = c.loop-l.chosen in
    let flag = flag_in flags l || c.made.result in
    let kept = c.loop-l.invariant in
    let chosen = c.choose-choice.ensures ∙ lane_read (choice_of op) a b l c.index-a-l.result c.index-b-l.result (omega arith) (omega arith) in
    record {
      hulls_len = length-set c.loop-l.hulls l c.span_apply.result ∙ kept.hulls_len;
      chosen_len = length-set flags l flag ∙ kept.chosen_len;
      hulls = each_more (λ k (h : Interval). h ≡ hull_of op (hull_in a k) (hull_in b k)) c.loop-l.hulls l c.span_apply.result all_numbers (omega arith) kept.hulls
          (c.span_apply.ensures.value ∙ lane_read (hull_of op) a b l c.index-a-l.result c.index-b-l.result (omega arith) (omega arith));
      choices = below_more (λ k. choice_in c.with-row.result k ≡ choice_of op (hull_in a k) (hull_in b k)) l
          (λ k h. let other : k ≢ l = omega (arith, h) in c.with-row.ensures.others k other ∙ kept.choices k h) (c.with-row.ensures.here ∙ chosen);
      none = λ k h. let other : k ≢ l = omega (arith, h) in c.with-row.ensures.others k other ∙ kept.none k (omega (arith, h));
      chosen = each_more (λ k (h : Bool). h ≡ (flag_in c.args.chosen.now k || is_made (choice_of op (hull_in a k) (hull_in b k)))) flags l flag false (omega arith) kept.chosen
          (ap (λ (h : Bool). h || c.made.result) (kept.rest l (omega arith)) ∙ ap (λ (h : Bool). flag_in c.args.chosen.now l || h) (c.made.ensures ∙ ap is_made chosen));
      rest = λ k h. get_or-set_other flags l k flag false (λ e. omega (arith, e, h)) ∙ kept.rest k (omega (arith, h));
      counted = CountsHulls-then c.args.work.now c.loop-l.work c.span_apply.new.tally l 1 kept.counted c.span_apply.ensures.counted;
    }
