use Rattle.std.proofs.Common.{◌≡◌, ◌∙◌, ◌+◌, ℕ, Bool, ap, arith, cond, get_or, pos, rules, sym}
use Rattle.std.proofs.lemmas.List.{get_or_read}
use Rattle.fixed_ops.specs.Raw.{is_inside}
use Rattle.live_clauses.specs.Steps.{tape_value}
use Rattle.quad_descent.specs.Nodes.{bits_of}
use Rattle.quad_descent.specs.Scans.{insides_upto, nth_point}
use Rattle.quad_descent.proofs.Scans.{more-fits, more-told}
use Rattle.quad_descent.proofs.leaf.tell.Goals as goal

pub overflow_mul-scan : goal.overflow_mul-scan
overflow_mul-scan g c =
    let places = c.args.places.now in
    let f : ℕ → Bool = λ n. is_inside (tape_value (nth_point places.view places.lattice c.args.b n) c.args.list.now) in
    let fits = more-fits f (c.args.scan.now.told + c.loop-lane.lane) c.loop-lane.scan.bits 0 (omega (arith, c.requires.left, c.requires.small, c.loop-lane-test.true)) c.loop-lane.invariant.bits (omega arith) in
    omega (arith, fits)

pub overflow_add-scan : goal.overflow_add-scan
overflow_add-scan g c =
    let places = c.args.places.now in
    let f : ℕ → Bool = λ n. is_inside (tape_value (nth_point places.view places.lattice c.args.b n) c.args.list.now) in
    let fits = more-fits f (c.args.scan.now.told + c.loop-lane.lane) c.loop-lane.scan.bits c.digit.result (omega (arith, c.requires.left, c.requires.small, c.loop-lane-test.true)) c.loop-lane.invariant.bits c.digit.ensures.few in
    omega (arith, fits)

pub loop-lane-preserved : goal.loop-lane-preserved
loop-lane-preserved g c =
    let places = c.args.places.now in
    let list = c.args.list.now in
    let n = c.args.scan.now.told + c.loop-lane.lane in
    let f : ℕ → Bool = λ n. is_inside (tape_value (nth_point places.view places.lattice c.args.b n) list) in
    let lane = c.loop-lane.lane in
    let value : get_or c.evaluate_lanes-row.result lane c.index-row-lane.result ≡ tape_value (nth_point places.view places.lattice c.args.b n) list =
    sym c.index-row-lane.is ∙ get_or_read c.evaluate_lanes-row.result lane c.index-row-lane.result (search rules) c.index-row-lane.is (pos 0)
    ∙ c.evaluate_lanes-row.ensures.values lane c.loop-lane-test.true
    ∙ ap (λ p. tape_value p list) (c.gather-inputs.ensures.points lane c.loop-lane-test.true) in
    let next : n + 1 ≡ c.args.scan.now.told + (lane + 1) = omega arith in
    record {
      next = record { column = c.loop-lane.invariant.next.column; row = c.loop-lane.invariant.next.row };
      told = c.loop-lane.invariant.told;
      bits = more-told f n c.loop-lane.scan.bits c.digit.result c.loop-lane.invariant.bits
          (c.digit.ensures.digit ∙ ap (λ (t : Bool). cond {A = ℕ} t 1 0) (c.is_inside.ensures.value ∙ ap is_inside value))
          ∙ ap (λ k. bits_of (insides_upto places.view places.lattice list c.args.b k)) next;
    }
