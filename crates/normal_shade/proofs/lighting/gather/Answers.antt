use Rattle.std.proofs.Common.{◌<◌, ap, arith, ◌∙◌}
use Rattle.std.proofs.lemmas.List.{length-set}
use Rattle.view_places.specs.Places.{sample_place}
use Rattle.view_places.specs.declared.lattice.Axis.TheVariants.{X, Y, Z}
use Rattle.view_places.specs.declared.lattice.Lattice.TheVariants.{Height}
use Rattle.normal_shade.specs.TopSamples.{nth}
use Rattle.normal_shade.proofs.TopSamples.{lane-set}
use Rattle.normal_shade.proofs.lighting.gather.Goals as goal

pub loop-lane-preserved : goal.loop-lane-preserved
loop-lane-preserved g c =
    let view = c.args.places.now.view in
    let samples = c.args.samples.now in
    let lane = c.loop-lane.lane in
    let was = c.loop-lane.invariant in
    let within : lane < 8 = omega (arith, c.loop-lane-test.true, c.requires.lanes) in
    record {
      wide = length-set c.loop-lane.x lane c.x.result ∙ was.wide;
      high = length-set c.loop-lane.y lane c.y.result ∙ was.high;
      deep = length-set c.loop-lane.z lane c.z.result ∙ was.deep;
      columns = lane-set c.loop-lane.x lane c.x.result (λ n. sample_place view Height X (nth samples n).i) (omega (arith, within, was.wide)) (c.x.ensures ∙ ap (λ l. sample_place view l X (nth samples lane).i) c.requires.lattice) was.columns;
      rows = lane-set c.loop-lane.y lane c.y.result (λ n. sample_place view Height Y (nth samples n).j) (omega (arith, within, was.high)) (c.y.ensures ∙ ap (λ l. sample_place view l Y (nth samples lane).j) c.requires.lattice) was.rows;
      layers = lane-set c.loop-lane.z lane c.z.result (λ n. sample_place view Height Z (nth samples n).k) (omega (arith, within, was.deep)) (c.z.ensures ∙ ap (λ l. sample_place view l Z (nth samples lane).k) c.requires.lattice) was.layers;
    }
