use Rattle.std.proofs.Common.{◌≡◌, ◌<◌, length, pos, ap, arith, rules, sym, ◌∙◌}
use Rattle.std.proofs.lemmas.List.{get_or_read}
use Rattle.live_clauses.specs.Steps.{tape_value}
use Rattle.view_places.specs.Window.{size_of}
use Rattle.contour_lines.specs.Gaps.{StandsIn, lies_at, nth, spot}
use Rattle.contour_lines.specs.Planes.{within_border}
use Rattle.contour_lines.specs.Tables.{known_of}
use Rattle.contour_lines.specs.Ways.{flat_value}
use Rattle.contour_lines.proofs.GapLaws.{fills-one, nth-stands, stands-kept}
use Rattle.contour_lines.proofs.Theorems.{planes}
use Rattle.contour_lines.proofs.gaps.fill_lanes.Goals as goal

pub set-requires : goal.set-requires
set-requires g c =
    let gap = nth c.args.gaps.now c.loop-lane.lane in
    let within : c.loop-lane.lane < length c.args.gaps.now = omega (arith, c.loop-lane-test.true, c.requires.many) in
    let is : StandsIn (known_of c.loop-lane.values) gap = stands-kept (known_of c.args.values.now) (known_of c.loop-lane.values) gap c.loop-lane.invariant.n (nth-stands (known_of c.args.values.now) c.args.gaps.now c.loop-lane.lane within c.requires.stand) in
    record { x = is.x; y = is.y }

pub loop-lane-preserved : goal.loop-lane-preserved
loop-lane-preserved g c =
    let view = c.args.places.now.view in
    let list = c.args.list.now in
    let gaps = c.args.gaps.now in
    let old = known_of c.args.values.now in
    let mid = known_of c.loop-lane.values in
    let lane = c.loop-lane.lane in
    let gap = nth gaps lane in
    let was = c.loop-lane.invariant in
    let within : lane < length gaps = omega (arith, c.loop-lane-test.true, c.requires.many) in
    let n : c.n-n.result ≡ size_of view = c.n-n.ensures ∙ planes.sizes.is old.n (size_of view) c.requires.n in
    let value : c.index-row-lane.result ≡ tape_value (lies_at view gap) list =
    get_or_read c.evaluate_lanes-row.result lane c.index-row-lane.result (search rules) c.index-row-lane.is (pos 0)
    ∙ c.evaluate_lanes-row.ensures.values lane c.loop-lane-test.true
    ∙ ap (λ p. tape_value p list) (c.gather-inputs.ensures lane c.loop-lane-test.true) in
    let closed : c.closed.result ≡ flat_value view list (spot gap) =
    c.closed.ensures ∙ ap (within_border c.n-n.result gap.x gap.y) (sym c.index-row-lane.is) ∙ ap (λ m. within_border m gap.x gap.y c.index-row-lane.result) n ∙ ap (within_border (size_of view) gap.x gap.y) value in
    fills-one planes (flat_value view list) lane c.closed.result gaps old mid (known_of c.set.new.self) within closed was c.set.ensures
