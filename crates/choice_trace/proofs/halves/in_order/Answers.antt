use Rattle.std.proofs.Common.{◌≡◌, arith, below_more, get_or, subst}
use Rattle.std.proofs.lemmas.List.{get_or_default}
use Rattle.interval_ops.specs.Spans.{all_numbers}
use Rattle.interval_ops.specs.declared.region.Region.{Region}
use Rattle.choice_trace.specs.Halves.{region_in}
use Rattle.choice_trace.specs.Laws.{AreRanges}
use Rattle.choice_trace.proofs.halves.in_order.Goals as goal

pub loop-l-preserved : goal.loop-l-preserved
loop-l-preserved g c =
    let regions = c.args.regions.now in
    let l = c.loop-l.l in
    let all : Region = record { x = all_numbers; y = all_numbers; z = all_numbers } in
    let read : get_or regions l c.index-regions-l.result ≡ region_in regions l = get_or_default regions l c.index-regions-l.result all (omega arith) in
    below_more (λ k. AreRanges (region_in regions k)) l c.loop-l.invariant
    (subst AreRanges read (record { x = c.lo.ensures.span; y = c.lo-in-loop-l.ensures.span; z = c.lo-in-loop-l-2.ensures.span }))
