use Rattle.std.proofs.Common.{◌≡◌, ◌∷◌, ◌++◌, [], append_assoc, length, map, take, ap, sym, subst, ◌∙◌, arith}
use Rattle.std.specs.List.{range_with_len}
use Rattle.std.proofs.lemmas.List.FromFn.{map-range_with_len_more}
use Rattle.interval_ops.specs.Decided.{decided_of}
use Rattle.live_clauses.specs.Blocks.{list_at}
use Rattle.live_clauses.specs.Live.{live_of}
use Rattle.live_clauses.specs.Choices.{lane}
use Rattle.box_chains.specs.Outcomes.{AreSeen, HandsOn, decision_in, held_decision, lane_outcome, outcome_by, seen}
use Rattle.box_chains.proofs.Lanes.{hull-decides, outcome-read}
use Rattle.box_chains.proofs.Seen.{are-pushed, first-list, first-then}
use Rattle.box_chains.proofs.rows.push_outcomes.Goals as goal

pub loop-l-preserved : goal.loop-l-preserved
loop-l-preserved r c =
    let lists = c.args.lists.now in
    let list = list_at lists c.args.at in
    let here = c.loop-l.lists in
    let after = c.outcome_in_lane.new.lists in
    let f = lane_outcome list c.args.asked.now c.args.halves.now.hulls c.args.rows.now in
    let l = c.loop-l.l in
    let g = decision_in c.args.halves.now.hulls in
    let new = c.in_ok-outcome.outcome in
    let decided : c.decided-decision.result ≡ g l =
    c.decided-decision.ensures.value ∙ ap decided_of (sym c.index-halves-l.is)
    ∙ hull-decides c.args.halves.now.hulls l c.index-halves-l.result (omega (arith, c.loop-l-test.true)) c.index-halves-l.is in
    let same : list_at here c.args.at ≡ list = first-list lists here c.args.at c.loop-l.invariant.first c.requires.among in
    let told : seen after new ≡ f l = outcome-read list c.args.asked.now c.args.halves.now.hulls c.args.rows.now l c.index-halves-l.result c.index-asked-l.result (seen after new) (omega (arith, c.loop-l-test.true)) c.index-halves-l.is (omega (arith, c.loop-l-test.true, c.requires.boxes)) c.index-asked-l.is
    (c.in_ok-outcome.ensures.outcome ∙ ap (λ x. outcome_by c.held_open-told.result (live_of x (take (length x) (lane l c.args.rows.now)))) same
    ∙ ap (λ o. outcome_by o (live_of list (take (length list) (lane l c.args.rows.now))))
    (c.held_open-told.ensures ∙ ap (λ a. held_decision a.held c.decided-decision.result) (sym c.index-asked-l.is)
    ∙ ap (held_decision c.index-asked-l.result.held) (c.decided-decision.ensures.value ∙ ap decided_of (sym c.index-halves-l.is)))) in
    let hand = subst (λ x. HandsOn (length x) after new) same c.in_ok-outcome.ensures.shorter in
    record {
      first = first-then lists here after c.loop-l.invariant.first c.in_ok-outcome.ensures.first;
      room = omega (arith, c.push.ensures.len, c.loop-l.invariant.room);
      outcomes = λ before are.
          subst (AreSeen (length list) after c.push.new.self.items)
          (append_assoc before (map f (range_with_len 0 l)) (f l ∷ []) ∙ ap (λ xs. before ++ xs) (sym (map-range_with_len_more f 0 l l (omega arith))))
          (are-pushed (length list) here after c.loop-l.outcomes.items c.push.new.self.items (before ++ map f (range_with_len 0 l)) new (f l) c.in_ok-outcome.ensures.first
          (c.loop-l.invariant.outcomes before are) c.push.ensures.items told hand);
      decisions = c.push-in-loop-l.ensures.items
          ∙ ap (λ d. c.loop-l.decisions.items ++ d ∷ []) decided
          ∙ ap (λ ds. ds ++ g l ∷ []) c.loop-l.invariant.decisions
          ∙ append_assoc c.args.decisions.now.items (map g (range_with_len 0 l)) (g l ∷ [])
          ∙ ap (λ ds. c.args.decisions.now.items ++ ds) (sym (map-range_with_len_more g 0 l l (omega arith)));
    }
