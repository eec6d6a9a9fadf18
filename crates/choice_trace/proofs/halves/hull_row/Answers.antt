use Rattle.std.proofs.Common.{◌≡◌, arith, length-set, ◌∙◌}
use Rattle.interval_ops.specs.Hulls.{hull_of}
use Rattle.interval_ops.specs.Spans.{Interval, all_numbers}
use Rattle.choice_trace.specs.Hulls.{hull_in}
use Rattle.choice_trace.proofs.Elements.{each_more}
use Rattle.choice_trace.proofs.HalfRows.{lane_read}
use Rattle.interval_ops.proofs.HullCountLaws.{CountsHulls-then}
use Rattle.choice_trace.proofs.halves.hull_row.Goals as goal

pub loop-l-preserved : goal.loop-l-preserved
loop-l-preserved g c =
    let a = c.args.a.now in
    let b = c.args.b.now in
    let l = c.loop-l.l in
    let room = c.loop-l.invariant.len in
    record {
      len = length-set c.loop-l.hulls l c.span_apply.result ∙ room;
      hulls = each_more (λ k (h : Interval). h ≡ hull_of c.args.op (hull_in a k) (hull_in b k)) c.loop-l.hulls l c.span_apply.result all_numbers (omega arith)
          c.loop-l.invariant.hulls
          (c.span_apply.ensures.value ∙ lane_read (hull_of c.args.op) a b l c.index-a-l.result c.index-b-l.result (omega arith) (omega arith));
      counted = CountsHulls-then c.args.work.now c.loop-l.work c.span_apply.new.tally l 1 c.loop-l.invariant.counted c.span_apply.ensures.counted;
    }
