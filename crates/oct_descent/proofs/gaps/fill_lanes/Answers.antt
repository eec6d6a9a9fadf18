use Rattle.std.proofs.Common.{◌≡◌, ◌<◌, length, pos, ap, arith, rules, sym, ◌∙◌}
use Rattle.std.proofs.lemmas.List.{get_or_read}
use Rattle.kuhn_cells.specs.Grids.{bordered}
use Rattle.live_clauses.specs.Steps.{tape_value}
use Rattle.oct_descent.specs.Gaps.{StandsIn, lies_at, nth, spot}
use Rattle.oct_descent.specs.GridValues.{list_grid_value}
use Rattle.view_places.specs.Window.{size_of}
use Rattle.oct_descent.proofs.Bricks.{keeps-then, within-from}
use Rattle.oct_descent.proofs.GapLaws.{fills-one, nth-stands, stands-kept}
use Rattle.oct_descent.proofs.Sizes.{size-is}
use Rattle.oct_descent.proofs.gaps.fill_lanes.Goals as goal

pub loop-lane-preserved : goal.loop-lane-preserved
loop-lane-preserved g c =
    let view = c.args.places.now.view in
    let list = c.args.list.now in
    let gaps = c.args.gaps.now in
    let old = c.args.values.now in
    let mid = c.loop-lane.values in
    let lane = c.loop-lane.lane in
    let gap = nth gaps lane in
    let was = c.loop-lane.invariant in
    let within : lane < length gaps = omega (arith, c.loop-lane-test.true, c.requires.many) in
    let is : StandsIn mid gap = stands-kept old mid gap was.keeps (nth-stands old gaps lane within c.requires.stand) in
    let n : c.n-n.result ≡ size_of view = c.n-n.ensures.size ∙ size-is old.n (size_of view) c.requires.n in
    let value : c.index-row-lane.result ≡ tape_value (lies_at view gap) list =
    get_or_read c.evaluate_lanes-row.result lane c.index-row-lane.result (search rules) c.index-row-lane.is (pos 0)
    ∙ c.evaluate_lanes-row.ensures.values lane c.loop-lane-test.true
    ∙ ap (λ p. tape_value p list) (c.gather-inputs.ensures lane c.loop-lane-test.true) in
    let closed : c.closed.result ≡ list_grid_value view list (spot gap) =
    c.closed.ensures ∙ ap (bordered c.n-n.result (spot gap)) (sym c.index-row-lane.is) ∙ ap (λ m. bordered m (spot gap) c.index-row-lane.result) n ∙ ap (bordered (size_of view) (spot gap)) value in
    record {
      fills = fills-one (list_grid_value view list) lane c.closed.result gaps old mid c.set.new.self within closed was.fills
          (c.set.ensures.sets (spot gap) (within-from mid.n (spot gap) is.x is.y is.z) is.stands);
      keeps = keeps-then old mid c.set.new.self was.keeps c.set.ensures.keeps;
    }
