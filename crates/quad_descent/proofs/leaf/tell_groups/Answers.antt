use Rattle.std.proofs.Common.{ap, arith, length, ◌∙◌}
use Rattle.fixed_ops.proofs.CountLaws.{tallies_add_up_is}
use Rattle.quad_descent.specs.Scans.{sample_count}
use Rattle.quad_descent.proofs.Scans.{more-counted}
use Rattle.quad_descent.proofs.leaf.tell_groups.Goals as goal

pub loop-scan-preserved : goal.loop-scan-preserved
loop-scan-preserved g c =
    let was = c.loop-scan.invariant in
    let size = ap sample_count c.b.view_is in
    record {
      told = c.tell.ensures.told;
      whole = omega (arith, size, c.loop-scan-test.true, c.tell.ensures.more);
      onward = omega (arith, was.onward, c.tell.ensures.more);
      room = c.tell.auto.values ∙ was.room;
      counted = more-counted tallies_add_up_is c.args.tally.now c.loop-scan.tally c.tell.new.tally c.args.scan.now.told c.loop-scan.scan.told g.row.L c.tell.new.scan.told (length c.args.list.now)
          was.onward c.tell.ensures.more was.counted c.tell.ensures.counted;
    }
