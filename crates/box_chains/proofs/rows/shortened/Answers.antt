-- One lane more has its bit where its box hands on a shorter list.
use Rattle.std.proofs.Common.{◌≡◌, ◌≢◌, ◌||◌, ◌&&◌, Bool, true, false, not, Option, Some, None, ltb, below_more, ap, sym, ◌∙◌, arith}
use Rattle.std.specs.Option.{is_some}
use Rattle.std.specs.Prelude.{is_none}
use Rattle.std.proofs.lemmas.Bool.{false≢true}
use Rattle.std.proofs.lemmas.Nat.Bits.{bit_at-zero}
use Rattle.interval_ops.specs.Decided.{decided_of}
use Rattle.choice_trace.specs.Halves.{flag_in}
use Rattle.live_clauses.specs.Choices.{has_bit}
use Rattle.box_chains.specs.Outcomes.{held_decision, is_shortened, lane_decision}
use Rattle.box_chains.proofs.Lanes.{decision-read}
use Rattle.box_chains.proofs.rows.shortened.Goals.{then-is_none, else-is_none}
use Rattle.box_chains.proofs.rows.shortened.Goals as goal

-- a lane whose box is open, or decided
none_is : (told decision : Option Bool) → told ≡ decision → is_some told ≡ false → is_none decision ≡ true
none_is None decision same undecided = ap is_none (sym same)
none_is (Some b) decision same undecided = absurd (false≢true (sym undecided))

some_is : (told decision : Option Bool) → told ≡ decision → is_some told ≡ true → is_none decision ≡ false
some_is None decision same known = absurd (false≢true known)
some_is (Some b) decision same known = ap is_none (sym same)

pub loop-l-init : goal.loop-l-init
loop-l-init g c = record { done = λ k h. absurd (omega (arith, h)); rest = λ k h. ap (ltb 0) (bit_at-zero k) }

pub loop-l-preserved : goal.loop-l-preserved
loop-l-preserved g c =
    let l = c.loop-l.l in
    let flags = c.args.halves.now.chosen in
    let told : c.held_open-told.result ≡ lane_decision c.args.asked.now c.args.halves.now.hulls l =
    c.held_open-told.ensures ∙ ap (λ a. held_decision a.held c.decided.result) (sym c.index-asked-l.is) ∙ ap (held_decision c.index-asked-l.result.held) (c.decided.ensures.value ∙ ap decided_of (sym c.index-halves-l.is))
    ∙ decision-read c.args.asked.now c.args.halves.now.hulls l c.index-halves-l.result c.index-asked-l.result (omega (arith, c.loop-l-test.true)) c.index-halves-l.is (omega (arith, c.loop-l-test.true, c.requires.boxes)) c.index-asked-l.is in
    let asked : c.if-is_none.with_bit ≡ is_shortened c.args.asked.now c.args.halves.now.hulls flags l = elim c.if-is_none.branch [
      | then-is_none w ↦ w.with_bit-is ∙ ap (λ b. b && flag_in flags l) (sym (none_is c.held_open-told.result (lane_decision c.args.asked.now c.args.halves.now.hulls l) told (c.is_none.ensures ∙ ap not w.if-is_none.true)))
      | else-is_none w ↦ w.with_bit-is ∙ w.if-is_none.false ∙ ap (λ b. b && flag_in flags l) (sym (some_is c.held_open-told.result (lane_decision c.args.asked.now c.args.halves.now.hulls l) told (c.is_none.ensures ∙ ap not w.if-is_none.false)))
    ] in
    record {
      done = below_more (λ k. has_bit c.with_bit-lanes.result k ≡ is_shortened c.args.asked.now c.args.halves.now.hulls c.args.halves.now.chosen k) l
          (λ k h. let other : k ≢ l = omega (arith, h) in c.with_bit-lanes.ensures.others k other ∙ c.loop-l.invariant.done k h)
          (c.with_bit-lanes.ensures.here ∙ ap (λ b. b || c.if-is_none.with_bit) (c.loop-l.invariant.rest l (omega arith)) ∙ asked);
      rest = λ k h. let other : k ≢ l = omega (arith, h) in c.with_bit-lanes.ensures.others k other ∙ c.loop-l.invariant.rest k (omega (arith, h));
    }
