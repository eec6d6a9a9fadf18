use Rattle.std.proofs.Common.{◌≤◌, ap, arith, refl}
use Rattle.height_map.proofs.Leaves.{column-more}
use Rattle.height_map.proofs.leaf.push_row.Goals as goal

pub loop-i-preserved : goal.loop-i-preserved
loop-i-preserved c =
    let x0 = ap (λ b. b.x0) c.b.view_is in
    let above : c.args.b.x0 ≤ c.loop-i.i = omega (arith, x0, c.loop-i.auto.i) in
    record {
      len = omega (arith, c.push.ensures.len, c.loop-i.invariant.len, above);
      items = column-more c.args.w c.loop-i.i c.args.j c.args.b.x0 c.args.b c.args.columns.now.items c.loop-i.columns.items c.push.new.self.items refl above c.loop-i.invariant.items c.push.ensures.items;
    }
