use Rattle.std.proofs.Common.{◌≡◌, ◌-◌, ◌*◌, ◌++◌, ◌∙◌, length, take, drop, ap, subst, sym, arith}
use Rattle.std.proofs.lemmas.List.{length-drop}
use Rattle.interval_ops.specs.HullCounts.{CountsHulls}
use Rattle.live_clauses.specs.Blocks.{list_at}
use Rattle.live_clauses.specs.Live.{IsWhole}
use Rattle.fixed_ops.proofs.CountLaws.{tallies_add_up_is}
use Rattle.interval_ops.proofs.HullCountLaws.{CountsHulls-then}
use Rattle.box_chains.specs.Outcomes.{AreSeen, asked_decisions, asked_outcome, asked_outcomes, decision_of}
use Rattle.box_chains.specs.Tallied.{CountsAtMost}
use Rattle.box_chains.proofs.Lanes.{map-join, rest-is}
use Rattle.box_chains.proofs.Seen.{first-list, first-then}
use Rattle.box_chains.proofs.Traced.{hulls-begun, hulls-more, on_err}
use Rattle.box_chains.proofs.workspace.Workspace.trace_all.Goals as goal

pub trace_some-requires-clause-whole : goal.trace_some-requires-clause-whole
trace_some-requires-clause-whole c = λ many.
    subst IsWhole (sym (first-list c.args.lists.now c.loop-done.lists c.args.at c.loop-done.invariant.first c.requires.among))
    (c.requires.whole (omega (arith, many, ap length (rest-is c.args.asked.now c.loop-done.done), length-drop c.loop-done.done c.args.asked.now)))

pub returns-in_err-done-clause-at_most : goal.returns-in_err-done-clause-at_most
returns-in_err-done-clause-at_most c =
    let list = list_at c.args.lists.now c.args.at in
    let same = first-list c.args.lists.now c.loop-done.lists c.args.at c.loop-done.invariant.first c.requires.among in
    on_err _ _ (hulls-begun tallies_add_up_is c.args.tally.now c.loop-done.tally c.trace_some.new.tally c.loop-done.done (length c.args.asked.now - c.loop-done.done) (length c.args.asked.now) (length list)
    (omega (arith, c.loop-done.invariant.within)) c.loop-done.invariant.counted
    (subst (λ n. CountsAtMost 0 (n * length list) c.loop-done.tally c.trace_some.new.tally) (ap length (rest-is c.args.asked.now c.loop-done.done) ∙ length-drop c.loop-done.done c.args.asked.now)
    (subst (λ x. CountsAtMost 0 (length (take (length c.args.asked.now - c.loop-done.done) (drop c.loop-done.done c.args.asked.now)) * length x) c.loop-done.tally c.trace_some.new.tally) same c.in_err-done.ensures.at_most)))

pub loop-done-preserved : goal.loop-done-preserved
loop-done-preserved c =
    let rest = length-drop c.loop-done.done c.args.asked.now in
    let lists = c.args.lists.now in
    let here = c.loop-done.lists in
    let list = list_at lists c.args.at in
    let count = c.in_ok-done.field-0 in
    let same = first-list lists here c.args.at c.loop-done.invariant.first c.requires.among in
    let places = c.args.places.now in
    let told = asked_outcomes places list (take c.loop-done.done c.args.asked.now) in
    let after = c.trace_some.new.lists in
    let items = c.trace_some.new.outcomes.items in
    let added = subst (λ x. AreSeen (length x) after items (told ++ asked_outcomes places x (take count (take (length c.args.asked.now - c.loop-done.done) (drop c.loop-done.done c.args.asked.now))))) same
    (c.in_ok-done.ensures.outcomes told (subst (λ x. AreSeen (length x) here c.loop-done.outcomes.items told) (sym same) c.loop-done.invariant.outcomes)) in
    let outcomes = subst (AreSeen (length list) after items)
    (ap (λ rest. told ++ asked_outcomes places list (take count rest)) (rest-is c.args.asked.now c.loop-done.done) ∙ map-join (asked_outcome places list) c.args.asked.now c.loop-done.done count) added in
    record {
      within = omega (arith, c.loop-done.invariant.within, c.in_ok-done.ensures.few, ap length (rest-is c.args.asked.now c.loop-done.done), rest);
      as_many = omega (arith, c.in_ok-done.ensures.len, c.loop-done.invariant.as_many);
      room = c.in_ok-done.ensures.room ∙ c.loop-done.invariant.room;
      first = first-then lists here c.trace_some.new.lists c.loop-done.invariant.first c.in_ok-done.ensures.first;
      outcomes = outcomes;
      decisions = subst (λ x. c.trace_some.new.decisions.items ≡ c.loop-done.decisions.items ++ asked_decisions places x (take count (take (length c.args.asked.now - c.loop-done.done) (drop c.loop-done.done c.args.asked.now)))) same c.in_ok-done.ensures.decisions
          ∙ ap (λ rest. c.loop-done.decisions.items ++ asked_decisions places list (take count rest)) (rest-is c.args.asked.now c.loop-done.done)
          ∙ ap (λ ds. ds ++ asked_decisions places list (take count (drop c.loop-done.done c.args.asked.now))) c.loop-done.invariant.decisions
          ∙ map-join (λ a. decision_of places list a.range) c.args.asked.now c.loop-done.done count;
      counted = hulls-more CountsHulls-then c.args.tally.now c.loop-done.tally c.trace_some.new.tally c.loop-done.done count (length list) c.loop-done.invariant.counted
          (subst (λ x. CountsHulls (count * length x) c.loop-done.tally c.trace_some.new.tally) same c.in_ok-done.ensures.counted);
    }
