use Rattle.std.proofs.Common.{◌<◌, ap, arith, ◌∙◌}
use Rattle.std.proofs.lemmas.List.{length-set}
use Rattle.view_places.specs.Places.{sample_place}
use Rattle.view_places.specs.declared.lattice.Axis.TheVariants.{X, Y, Z}
use Rattle.view_places.specs.declared.lattice.Lattice.TheVariants.{Grid}
use Rattle.contour_lines.specs.Gaps.{nth}
use Rattle.oct_descent.proofs.GapLaws.{row-set}
use Rattle.contour_lines.proofs.gaps.gather.Goals as goal

pub loop-lane-preserved : goal.loop-lane-preserved
loop-lane-preserved g c =
    let view = c.args.places.now.view in
    let gaps = c.args.gaps.now in
    let lane = c.loop-lane.lane in
    let was = c.loop-lane.invariant in
    let few : lane < 8 = omega (arith, c.loop-lane-test.true, c.requires.lanes) in
    record {
      wide = length-set c.loop-lane.x lane c.x.result ∙ was.wide;
      high = length-set c.loop-lane.y lane c.y.result ∙ was.high;
      deep = length-set c.loop-lane.z lane c.z.result ∙ was.deep;
      xs = row-set c.loop-lane.x (λ n. sample_place view Grid X (nth gaps n).x) lane c.x.result (omega (arith, few, was.wide)) was.xs (c.x.ensures ∙ ap (λ l. sample_place view l X (nth gaps lane).x) c.requires.lattice);
      ys = row-set c.loop-lane.y (λ n. sample_place view Grid Y (nth gaps n).y) lane c.y.result (omega (arith, few, was.high)) was.ys (c.y.ensures ∙ ap (λ l. sample_place view l Y (nth gaps lane).y) c.requires.lattice);
      zs = row-set c.loop-lane.z (λ n. sample_place view Grid Z 0) lane c.z.result (omega (arith, few, was.deep)) was.zs (c.z.ensures ∙ ap (λ l. sample_place view l Z 0) c.requires.lattice);
    }
