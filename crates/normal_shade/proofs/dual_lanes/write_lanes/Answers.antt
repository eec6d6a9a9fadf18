-- One lane more has its dual number.
use Rattle.std.proofs.Common.{◌≡◌, ◌∙◌, ℕ, pos, ap, arith, get_or, rules, sym}
use Rattle.std.proofs.lemmas.List.{get_or_read, length-set}
use Rattle.choice_trace.specs.Lanes.{in_lane}
use Rattle.fixed_ops.specs.Slopes.{Sloped, flat}
use Rattle.normal_shade.specs.Duals.{dual_in, dual_of}
use Rattle.normal_shade.proofs.DualRows.{dual-set}
use Rattle.normal_shade.proofs.dual_lanes.write_lanes.Goals as goal

pub loop-lane-preserved : goal.loop-lane-preserved
loop-lane-preserved g c =
    let l = c.loop-lane.lane in
    let op = c.args.op in
    let row = c.loop-lane.row in
    let value = c.args.value.now in
    let a = c.args.a.now in
    let b = c.args.b.now in
    let da = c.args.da.now in
    let db = c.args.db.now in
    let f : ℕ → Sloped = λ k. dual_of op (in_lane k value) (in_lane k a) (in_lane k b) (dual_in k da) (dual_in k db) in
    let for_value : get_or value l c.index-value-lane.result ≡ in_lane l value = sym c.index-value-lane.is ∙ get_or_read value l c.index-value-lane.result (search rules) c.index-value-lane.is (pos 0) in
    let for_a : get_or a l c.index-a-lane.result ≡ in_lane l a = sym c.index-a-lane.is ∙ get_or_read a l c.index-a-lane.result (search rules) c.index-a-lane.is (pos 0) in
    let for_b : get_or b l c.index-b-lane.result ≡ in_lane l b = sym c.index-b-lane.is ∙ get_or_read b l c.index-b-lane.result (search rules) c.index-b-lane.is (pos 0) in
    let for_da : get_or da l c.index-da-lane.result ≡ dual_in l da = sym c.index-da-lane.is ∙ get_or_read da l c.index-da-lane.result (search rules) c.index-da-lane.is flat in
    let for_db : get_or db l c.index-db-lane.result ≡ dual_in l db = sym c.index-db-lane.is ∙ get_or_read db l c.index-db-lane.result (search rules) c.index-db-lane.is flat in
    record {
      len = length-set row l c.step_dual.result ∙ c.loop-lane.invariant.len;
      below = dual-set row l c.step_dual.result f (omega (arith, c.loop-lane.invariant.len, c.loop-lane-test.true, c.requires.lanes))
          (c.step_dual.ensures
          ∙ ap (λ v. dual_of op v (get_or a l c.index-a-lane.result) (get_or b l c.index-b-lane.result) (get_or da l c.index-da-lane.result) (get_or db l c.index-db-lane.result)) for_value
          ∙ ap (λ v. dual_of op (in_lane l value) v (get_or b l c.index-b-lane.result) (get_or da l c.index-da-lane.result) (get_or db l c.index-db-lane.result)) for_a
          ∙ ap (λ v. dual_of op (in_lane l value) (in_lane l a) v (get_or da l c.index-da-lane.result) (get_or db l c.index-db-lane.result)) for_b
          ∙ ap (λ d. dual_of op (in_lane l value) (in_lane l a) (in_lane l b) d (get_or db l c.index-db-lane.result)) for_da
          ∙ ap (λ d. dual_of op (in_lane l value) (in_lane l a) (in_lane l b) (dual_in l da) d) for_db)
          c.loop-lane.invariant.below;
    }
