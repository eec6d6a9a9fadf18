use Rattle.std.proofs.Common.{◌≤◌, ap, arith}
use Rattle.height_map.proofs.Leaves.{row-more}
use Rattle.height_map.proofs.leaf.columns_of.Goals as goal

pub loop-j-preserved : goal.loop-j-preserved
loop-j-preserved c =
    let y0 = ap (λ b. b.y0) c.b.view_is in
    let above : c.args.b.y0 ≤ c.loop-j.j = omega (arith, y0, c.loop-j.auto.j) in
    record {
      few = omega (arith, c.push_row.ensures.len, c.loop-j.invariant.few, above);
      items = row-more c.args.w c.loop-j.j c.args.b c.loop-j.columns.items c.push_row.new.columns.items above c.loop-j.invariant.items c.push_row.ensures.items;
    }
