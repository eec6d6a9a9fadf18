use Rattle.std.proofs.Common.{◌≡◌, ◌+◌, ◌*◌, ℕ, Bool, [], ◌∷◌, cond, ap, arith, drop, length, refl, subst, sym, take, ◌∙◌}
use Rattle.std.specs.Prelude.{IfNone, IfSome, IsTrue, None, Some}
use Rattle.std.specs.List.{All}
use Rattle.std.proofs.lemmas.List.{take_all}
use Rattle.std.proofs.lemmas.List.Elements.{All-nil}
use Rattle.box_chains.specs.Desks.{HasMore, Tracing, list_of, samples}
use Rattle.box_chains.specs.Chains.{visit}
use Rattle.box_chains.specs.Outcomes.{HandsOn, all_seen, asked_outcomes}
use Rattle.box_chains.specs.Redrawn.{IsNew}
use Rattle.box_chains.specs.Visits.{IsVisit}
use Rattle.box_chains.specs.declared.outcome.Outcome.TheVariants.{Inside}
use Rattle.interval_ops.specs.HullCounts.{CountsHulls}
use Rattle.kuhn_cells.specs.Sizes.{SameSize}
use Rattle.kuhn_cells.specs.declared.grid_size.GridSize.{GridSize}
use Rattle.view_places.specs.Boxes.{halves_of}
use Rattle.oct_descent.proofs.Sizes.{size-from, size-is, size-then}
use Rattle.oct_descent.specs.Adding.{Adds}
use Rattle.oct_descent.specs.After.{received_half}
use Rattle.oct_descent.specs.AfterDesks.{ChargesBelowAfter, ChargesHalvesAfter, halves_long_spans_after, long_spans_below_after, AreWorkedAfter, PaysBoxAfter, PaysHalvesAfter}
use Rattle.oct_descent.specs.Bound.{CountsHullsAtLeast, points_of_grid}
use Rattle.oct_descent.specs.GridValues.{list_grid_value}
use Rattle.oct_descent.specs.KeptBoxes.{halves_places, places_of, split_places}
use Rattle.oct_descent.specs.OldBoxes.{AreOldHalves, IsOldBox, behind, behind_halves, first_count, first_list, handed_by, received_by, visit_before}
use Rattle.view_places.specs.Window.{size_of}
use Rattle.oct_descent.specs.Ways.{gridded}
use Rattle.oct_descent.proofs.Added.{adds-more, adds-none, adds-same, adds-split, begun-within}
use Rattle.oct_descent.proofs.AfterLooks.{all-traced_after, begun-charged_after, cell-below_after, cell-traced_after, cell-traced_below_after, closed-traced_after, first-charged_after, first-traced_after, half-is_new, halves-charged_after, halves-traced_after, halves-untraced, next-charged_after, next-traced_after, some-charged_after, taken-charged}
use Rattle.oct_descent.proofs.Before.{cell-after, first-halves, found-old, half-old, half-was, handed-looked, handed-some, handed-was, left-all, left-anew, left-cell, left-more, left-shut, next-halves, none-handed, old-count, old-many, old-places, old-there, other-list}
use Rattle.oct_descent.proofs.Kept.{places-cell, places-shut, places-split}
use Rattle.oct_descent.proofs.Looks.{closed-settled, closed-worked, handed-grows, handed-right, handed-settled, handed-tape, on_ok, on_ok-then}
use Rattle.oct_descent.proofs.TableLaws.{charges-none, grows-none, grows-then, pays-none, right-grows}
use Rattle.oct_descent.proofs.Takes.{taken-known, takes-grows, takes-settled}
use Rattle.oct_descent.proofs.Together.{among-stays, byte-is, byte-most, closed-told, list-stays, more-samples, opened-told, step-told}
use Rattle.oct_descent.specs.Known.{AreRight, AreSettled, Grows}
use Rattle.oct_descent.specs.Asked.{IsToldAt, longer}
use Rattle.oct_descent.specs.Halves.{AreTurned}
use Rattle.oct_descent.proofs.Halves.{half-grows, half-shorter, half-visit, next-settled, part-covers, turned-boxes, turned-in_root, turned-part, turned-settled, halves-boxes}
use Rattle.oct_descent.specs.Kinds.{known_of, mesh}
use Rattle.oct_descent.proofs.Covered.{mesh_holds}
use Rattle.std.proofs.lemmas.List.Sorted.{All-permutation, IsPermutation-sym}
use Rattle.oct_descent.proofs.Turns.{turned-behind, turned-charged_after, turned-old, turned-places, turned-traced_after}
use Rattle.oct_descent.proofs.AfterPaid.{begun-paid_after, cell-paid_after, halves-paid_after, halves-worked_after, next-paid_after, next-worked_after, taken-paid, taken-worked, turned-paid_after, worked-after}
use Rattle.box_chains.proofs.Theorems.{laws}
use Rattle.oct_descent.proofs.descent.+looking.Goals as goal

pub look_into_told-returns-then-not-is_long-clause-counted : goal.look_into_told-returns-then-not-is_long-clause-counted
look_into_told-returns-then-not-is_long-clause-counted t c =
    let view = c.args.desk.now.view in
    let v = visit c.args.b (list_of c.args.desk.now c.args.received) in
    let was = visit_before c.args.before c.args.b in
    let short = sym c.is_long.ensures ∙ c.if-not-is_long.true in
    cell-below_after laws (gridded view) was v (known_of c.args.values.now) (known_of c.look_into_cell.new.values) c.args.tally.now c.look_into_cell.new.tally short
    (cell-after laws view was v (known_of c.args.values.now) (known_of c.look_into_cell.new.values) c.args.tally.now c.look_into_cell.new.tally c.requires.may.visit_is.box short c.requires.new c.look_into_cell.ensures.counted)

pub look_into_told-returns-then-not-is_long-clause-traced : goal.look_into_told-returns-then-not-is_long-clause-traced
look_into_told-returns-then-not-is_long-clause-traced t c =
    let view = c.args.desk.now.view in
    let v = visit c.args.b (list_of c.args.desk.now c.args.received) in
    let was = visit_before c.args.before c.args.b in
    on_ok c.look_into_cell.result _
    (cell-traced_below_after (gridded view) was v c.args.tally.now c.look_into_cell.new.tally
    (cell-traced_after laws (gridded view) was v (known_of c.args.values.now) (known_of c.look_into_cell.new.values) c.args.tally.now c.look_into_cell.new.tally (omega arith) c.requires.may.visit_is.box c.requires.new (sym c.is_long.ensures ∙ c.if-not-is_long.true) c.look_into_cell.ensures.paid))

pub look_into_told-look_into_split-requires : goal.look_into_told-look_into_split-requires
look_into_told-look_into_split-requires t c =
    let view = c.args.desk.now.view in
    let v = visit c.args.b (list_of c.args.desk.now c.args.received) in
    let at = c.in-Open.live in
    let live = list_of c.args.desk.now at in
    let long = sym c.is_long.ensures ∙ c.if-not-is_long.false in
    let opened = opened-told mesh (samples c.args.desk.now) (list_of c.args.desk.now c.args.received) c.args.b c.args.desk.now.lists c.args.outcomes.now c.args.at at Inside c.requires.may.lattice (c.requires.told long) c.in-Open.is in (
      omega (arith, c.decreases),
      (
        record {
          lattice = c.requires.may.lattice;
          visit_is = record { window = c.requires.may.visit_is.window; box = c.requires.may.visit_is.box; within = c.requires.may.visit_is.within; tape = handed-tape laws view v live c.requires.may.visit_is opened.same };
          n = c.requires.may.n;
          among = opened.hands.among;
          room = omega (arith, opened.hands.few, c.requires.may.room);
          right = handed-right laws mesh view v live (known_of c.args.values.now) c.requires.may.visit_is opened.same c.requires.may.right;
        },
        (opened.hands.whole, (long, c.requires.old)),
      ),
    )

pub look_into_told-returns-in-Open-clause-settled : goal.look_into_told-returns-in-Open-clause-settled
look_into_told-returns-in-Open-clause-settled t c =
    let view = c.args.desk.now.view in
    let v = visit c.args.b (list_of c.args.desk.now c.args.received) in
    let at = c.in-Open.live in
    let live = list_of c.args.desk.now at in
    let long = sym c.is_long.ensures ∙ c.if-not-is_long.false in
    let opened = opened-told mesh (samples c.args.desk.now) (list_of c.args.desk.now c.args.received) c.args.b c.args.desk.now.lists c.args.outcomes.now c.args.at at Inside c.requires.may.lattice (c.requires.told long) c.in-Open.is in
    on_ok-then c.look_into_split.result _ _ (handed-settled laws mesh mesh_holds view v live (known_of c.look_into_split.new.values) c.requires.may.visit_is opened.same) c.look_into_split.ensures.settled

pub look_into_told-returns-in-Open-clause-worked : goal.look_into_told-returns-in-Open-clause-worked
look_into_told-returns-in-Open-clause-worked t c =
    let view = c.args.desk.now.view in
    let v = visit c.args.b (list_of c.args.desk.now c.args.received) in
    let was = visit_before c.args.before c.args.b in
    let left = c.args.boxes.now.before in
    let at = c.in-Open.live in
    let live = list_of c.args.desk.now at in
    let long = sym c.is_long.ensures ∙ c.if-not-is_long.false in
    let opened = opened-told mesh (samples c.args.desk.now) (list_of c.args.desk.now c.args.received) c.args.b c.args.desk.now.lists c.args.outcomes.now c.args.at at Inside c.requires.may.lattice (c.requires.told long) c.in-Open.is in
    on_ok-then c.look_into_split.result _ _
    (halves-worked_after laws view was (handed_by c.args.before left) v live (known_of c.look_into_split.new.values) c.requires.may.visit_is c.requires.new opened.open' long
    (handed-was laws view c.args.b left c.args.before c.requires.may.visit_is.box long c.requires.old) opened.same)
    c.look_into_split.ensures.worked

pub look_into_told-returns-in-Open-clause-grows : goal.look_into_told-returns-in-Open-clause-grows
look_into_told-returns-in-Open-clause-grows t c =
    let view = c.args.desk.now.view in
    let v = visit c.args.b (list_of c.args.desk.now c.args.received) in
    let at = c.in-Open.live in
    let live = list_of c.args.desk.now at in
    let long = sym c.is_long.ensures ∙ c.if-not-is_long.false in
    let opened = opened-told mesh (samples c.args.desk.now) (list_of c.args.desk.now c.args.received) c.args.b c.args.desk.now.lists c.args.outcomes.now c.args.at at Inside c.requires.may.lattice (c.requires.told long) c.in-Open.is in
    handed-grows laws mesh view v live (known_of c.args.values.now) (known_of c.look_into_split.new.values) c.requires.may.visit_is opened.same c.look_into_split.ensures.grows

pub look_into_told-returns-in-Open-clause-counted : goal.look_into_told-returns-in-Open-clause-counted
look_into_told-returns-in-Open-clause-counted t c =
    let view = c.args.desk.now.view in
    let v = visit c.args.b (list_of c.args.desk.now c.args.received) in
    let was = visit_before c.args.before c.args.b in
    let left = c.args.boxes.now.before in
    let at = c.in-Open.live in
    let live = list_of c.args.desk.now at in
    let long = sym c.is_long.ensures ∙ c.if-not-is_long.false in
    let opened = opened-told mesh (samples c.args.desk.now) (list_of c.args.desk.now c.args.received) c.args.b c.args.desk.now.lists c.args.outcomes.now c.args.at at Inside c.requires.may.lattice (c.requires.told long) c.in-Open.is in
    halves-charged_after laws view was (handed_by c.args.before left) v live (known_of c.args.values.now) (known_of c.look_into_split.new.values) c.args.tally.now c.look_into_split.new.tally c.requires.may.visit_is c.requires.new opened.open' long
    (handed-was laws view c.args.b left c.args.before c.requires.may.visit_is.box long c.requires.old) opened.same c.look_into_split.ensures.counted

pub look_into_told-returns-in-Open-clause-paid : goal.look_into_told-returns-in-Open-clause-paid
look_into_told-returns-in-Open-clause-paid t c =
    let view = c.args.desk.now.view in
    let v = visit c.args.b (list_of c.args.desk.now c.args.received) in
    let was = visit_before c.args.before c.args.b in
    let left = c.args.boxes.now.before in
    let at = c.in-Open.live in
    let live = list_of c.args.desk.now at in
    let long = sym c.is_long.ensures ∙ c.if-not-is_long.false in
    let opened = opened-told mesh (samples c.args.desk.now) (list_of c.args.desk.now c.args.received) c.args.b c.args.desk.now.lists c.args.outcomes.now c.args.at at Inside c.requires.may.lattice (c.requires.told long) c.in-Open.is in
    halves-paid_after laws view was (handed_by c.args.before left) v live (known_of c.args.values.now) (known_of c.look_into_split.new.values) c.args.tally.now c.look_into_split.new.tally c.requires.may.visit_is c.requires.new opened.open' long
    (handed-was laws view c.args.b left c.args.before c.requires.may.visit_is.box long c.requires.old) opened.same
    c.look_into_split.ensures.paid

pub look_into_told-returns-in-Open-clause-traced : goal.look_into_told-returns-in-Open-clause-traced
look_into_told-returns-in-Open-clause-traced t c =
    let view = c.args.desk.now.view in
    let v = visit c.args.b (list_of c.args.desk.now c.args.received) in
    let was = visit_before c.args.before c.args.b in
    let left = c.args.boxes.now.before in
    let at = c.in-Open.live in
    let live = list_of c.args.desk.now at in
    let long = sym c.is_long.ensures ∙ c.if-not-is_long.false in
    let opened = opened-told mesh (samples c.args.desk.now) (list_of c.args.desk.now c.args.received) c.args.b c.args.desk.now.lists c.args.outcomes.now c.args.at at Inside c.requires.may.lattice (c.requires.told long) c.in-Open.is in
    on_ok-then c.look_into_split.result _ _
    (halves-traced_after laws view was (handed_by c.args.before left) v live c.args.tally.now c.look_into_split.new.tally c.requires.may.visit_is c.requires.new opened.open' long
    (handed-was laws view c.args.b left c.args.before c.requires.may.visit_is.box long c.requires.old) opened.same)
    c.look_into_split.ensures.traced

pub look_into_told-returns-in-Inside-clause-settled : goal.look_into_told-returns-in-Inside-clause-settled
look_into_told-returns-in-Inside-clause-settled t c =
    let view = c.args.desk.now.view in
    let v = visit c.args.b (list_of c.args.desk.now c.args.received) in
    let was = visit_before c.args.before c.args.b in
    let left = c.args.boxes.now.before in
    let long = sym c.is_long.ensures ∙ c.if-not-is_long.false in
    let closed = closed-told mesh (samples c.args.desk.now) (list_of c.args.desk.now c.args.received) c.args.b c.args.desk.now.lists c.args.outcomes.now c.args.at Inside c.requires.may.lattice (c.requires.told long) c.in-Inside.is in
    on_ok c.push_shut.result _ (closed-settled laws mesh mesh_holds view v (known_of c.args.values.now) c.requires.may.visit_is closed)

pub look_into_told-returns-in-Inside-clause-worked : goal.look_into_told-returns-in-Inside-clause-worked
look_into_told-returns-in-Inside-clause-worked t c =
    let view = c.args.desk.now.view in
    let v = visit c.args.b (list_of c.args.desk.now c.args.received) in
    let was = visit_before c.args.before c.args.b in
    let long = sym c.is_long.ensures ∙ c.if-not-is_long.false in
    let closed = closed-told mesh (samples c.args.desk.now) (list_of c.args.desk.now c.args.received) c.args.b c.args.desk.now.lists c.args.outcomes.now c.args.at Inside c.requires.may.lattice (c.requires.told long) c.in-Inside.is in
    on_ok c.push_shut.result _ (worked-after (gridded view) was v (known_of c.args.values.now) (closed-worked mesh view v (known_of c.args.values.now) c.requires.may.visit_is closed))

pub look_into_told-returns-in-Inside-clause-counted : goal.look_into_told-returns-in-Inside-clause-counted
look_into_told-returns-in-Inside-clause-counted t c =
    λ f enough. charges-none laws f _ (known_of c.args.values.now) c.args.tally.now

pub look_into_told-returns-in-Inside-clause-paid : goal.look_into_told-returns-in-Inside-clause-paid
look_into_told-returns-in-Inside-clause-paid t c =
    λ f due. pays-none laws f (known_of c.args.values.now) c.args.tally.now

pub look_into_told-returns-in-Inside-clause-traced : goal.look_into_told-returns-in-Inside-clause-traced
look_into_told-returns-in-Inside-clause-traced t c =
    let view = c.args.desk.now.view in
    let v = visit c.args.b (list_of c.args.desk.now c.args.received) in
    let was = visit_before c.args.before c.args.b in
    let left = c.args.boxes.now.before in
    let long = sym c.is_long.ensures ∙ c.if-not-is_long.false in
    let closed = closed-told mesh (samples c.args.desk.now) (list_of c.args.desk.now c.args.received) c.args.b c.args.desk.now.lists c.args.outcomes.now c.args.at Inside c.requires.may.lattice (c.requires.told long) c.in-Inside.is in
    on_ok c.push_shut.result _ (closed-traced_after laws view was v c.args.tally.now c.requires.may.visit_is.box c.requires.new closed)

pub look_into_each_half-trace_longer-requires-clause-within : goal.look_into_each_half-trace_longer-requires-clause-within
look_into_each_half-trace_longer-requires-clause-within t c =
    turned-in_root laws c.args.desk.now.view c.args.desk.now.lattice (list_of c.args.desk.now c.args.live) c.args.b c.as_slice.result.now c.requires.may.lattice c.requires.may.visit_is
    (subst (AreTurned c.args.b) (sym c.as_slice.ensures.value) (c.in_turn-halves.ensures c.requires.may.visit_is.box)).among

pub look_into_each_half-returns-in_err-outcomes-clause-counted : goal.look_into_each_half-returns-in_err-outcomes-clause-counted
look_into_each_half-returns-in_err-outcomes-clause-counted t c =
    let view = c.args.desk.now.view in
    let live = list_of c.args.desk.now c.args.live in
    let was = received_by c.args.before in
    let other = other-list was live c.requires.new in
    let halves = c.as_slice.result.now in
    let turned = subst (AreTurned c.args.b) (sym c.as_slice.ensures.value) (c.in_turn-halves.ensures c.requires.may.visit_is.box) in
    turned-charged_after (gridded view) was live (halves_of 1 c.args.b) halves (known_of c.args.values.now) (known_of c.args.values.now) c.args.tally.now c.trace_longer.new.tally turned.among
    (begun-charged_after laws view was live halves c.n.result (known_of c.args.values.now) c.args.tally.now c.trace_longer.new.tally other (turned-boxes laws c.args.b halves c.requires.may.visit_is.box turned.among)
    c.in_err-outcomes.ensures.at_most)

pub look_into_each_half-returns-in_err-outcomes-clause-paid : goal.look_into_each_half-returns-in_err-outcomes-clause-paid
look_into_each_half-returns-in_err-outcomes-clause-paid t c =
    begun-paid_after (gridded c.args.desk.now.view) (received_by c.args.before) (list_of c.args.desk.now c.args.live) (halves_of 1 c.args.b) _ (known_of c.args.values.now) c.args.tally.now c.trace_longer.new.tally c.in_err-outcomes.ensures.at_most

pub look_into_each_half-loop-half-init : goal.look_into_each_half-loop-half-init
look_into_each_half-loop-half-init t c =
    let view = c.args.desk.now.view in
    let live = (list_of c.args.desk.now c.args.live) in
    let halves = c.as_slice-half-items.result.now in
    let was = received_by c.args.before in
    let turned = subst (AreTurned c.args.b) (sym c.as_slice-half-items.ensures.value) (c.in_turn-halves.ensures c.requires.may.visit_is.box) in
    let same = c.as_slice.ensures.value ∙ sym c.as_slice-half-items.ensures.value in
    let hulls = subst (λ hs. CountsHulls (length (longer mesh c.n.result hs) * length live) c.args.tally.now c.trace_longer.new.tally) same c.in_ok-outcomes.ensures.counted in
    record {
      more = c.in_ok-outcomes.ensures.more;
      few = omega arith;
      told = ap (all_seen c.trace_longer.new.desk.lists) c.as_slice-outcomes.ensures.value ∙ c.in_ok-outcomes.ensures.outcomes ∙ ap (λ hs. asked_outcomes (samples c.args.desk.now) live (longer mesh c.n.result hs)) same
          ∙ ap (λ n. asked_outcomes (samples c.args.desk.now) live (longer mesh n halves)) (c.n.ensures.size ∙ size-is c.args.values.now.n (size_of view) c.requires.may.n);
      hand = subst (All (HandsOn (length live) c.trace_longer.new.desk.lists)) (sym c.as_slice-outcomes.ensures.value) c.in_ok-outcomes.ensures.hand;
      stands = turned-old laws view c.args.b halves c.args.boxes.now.before c.args.before c.requires.may.visit_is.box turned c.requires.old;
      left = refl;
      adds = adds-none c.args.boxes.now;
      settled = All-nil (λ h. AreSettled (gridded view) (list_grid_value view live) h (known_of c.args.values.now));
      grows = grows-none (list_grid_value view live) c.args.b (known_of c.args.values.now);
      counted = first-charged_after laws (gridded view) was live halves c.n.result (known_of c.args.values.now) c.args.tally.now c.trace_longer.new.tally hulls;
      worked = All-nil (λ h. AreWorkedAfter (gridded view) (received_half was h) (visit h live) (known_of c.args.values.now));
      paid = begun-paid_after (gridded view) was live halves _ (known_of c.args.values.now) c.args.tally.now c.trace_longer.new.tally (laws.bounds.hulls c.args.tally.now c.trace_longer.new.tally _ hulls);
      traced = first-traced_after (gridded view) was live halves c.n.result c.args.tally.now c.trace_longer.new.tally hulls;
    }

pub look_into_each_half-look_into_told-requires : goal.look_into_each_half-look_into_told-requires
look_into_each_half-look_into_told-requires t c =
    let turned = subst (AreTurned c.args.b) (sym c.as_slice-half-items.ensures.value) (c.in_turn-halves.ensures c.requires.may.visit_is.box) in
    let halves = c.as_slice-half-items.result.now in
    let half = c.half-item.result in
    let part = turned-part laws c.args.b half halves c.loop-half.half-index c.requires.may.visit_is.box turned.among c.loop-half-test.true c.half-item.is in
    let places = samples c.args.desk.now in
    let live = (list_of c.args.desk.now c.args.live) in
    let here = c.loop-half.desk.lists in
    let hands = c.loop-half.invariant.hand in
    let step = step-told mesh places live halves half c.loop-half.half-index here c.as_slice-outcomes.result.now c.loop-half.at _ c.loop-half-test.true c.half-item.is hands c.loop-half.invariant.told refl in
    let less = half-shorter laws c.args.b half c.requires.long part in
    let more = c.loop-half.invariant.more in
    let same = list-stays c.args.desk.now c.loop-half.desk c.args.live more c.requires.may.among in (
      omega (arith, less, c.decreases),
      (
        record {
          lattice = more.lattice ∙ c.requires.may.lattice;
          visit_is = subst (λ l. IsVisit (gridded c.loop-half.desk.view).boxes (visit half l)) (sym same)
              (subst (λ w. IsVisit (gridded w).boxes (visit half live)) (sym more.view) (half-visit laws places.view live c.args.b half part c.requires.may.visit_is));
          n = subst (λ w. SameSize c.loop-half.values.n (size_of w)) (sym more.view) (size-then c.loop-half.values.n c.args.values.now.n (size_of places.view) c.loop-half.invariant.grows.n c.requires.may.n);
          among = among-stays c.args.desk.now c.loop-half.desk c.args.live more c.requires.may.among;
          room = omega (arith, more.room, c.requires.may.room, ap length same);
          right = subst (λ l. AreRight (list_grid_value c.loop-half.desk.view l) half (known_of c.loop-half.values)) (sym same)
              (subst (λ w. AreRight (list_grid_value w live) half (known_of c.loop-half.values)) (sym more.view)
              (right-grows (list_grid_value places.view live) half c.args.b (known_of c.args.values.now) (known_of c.loop-half.values) (λ p covers. part-covers c.args.b half p part covers) c.loop-half.invariant.grows c.requires.may.right));
        },
        (
          subst (λ l. IsToldAt mesh (samples c.loop-half.desk) l half here c.as_slice-outcomes.result.now c.loop-half.at) (sym same)
              (subst (λ w. IsToldAt mesh w live half here c.as_slice-outcomes.result.now c.loop-half.at) (sym (more-samples c.args.desk.now c.loop-half.desk more)) step.told),
          (
            subst (λ w. IfSome c.args.before (IsOldBox w half c.loop-half.boxes.before)) (sym more.view) (half-old laws places.view c.args.b half c.loop-half.half-index halves c.loop-half.boxes.before c.args.before turned.among c.loop-half-test.true c.half-item.is c.loop-half.invariant.stands),
            subst (λ r. IsNew r (visit half (list_of c.loop-half.desk c.args.live))) (sym (half-was half c.args.before)) (subst (λ l. IsNew (received_half (received_by c.args.before) half) (visit half l)) (sym same) (half-is_new (received_by c.args.before) live half (other-list (received_by c.args.before) live c.requires.new))),
          ),
        ),
      ),
    )

pub look_into_each_half-overflow_add-at : goal.look_into_each_half-overflow_add-at
look_into_each_half-overflow_add-at t c =
    omega (arith, c.loop-half.invariant.few, c.loop-half-test.true, c.from-at.ensures, byte-most c.is_long.result, c.as_slice-half-items.ensures.fits)

pub look_into_each_half-returns-in_err-look_into_told-clause-grows : goal.look_into_each_half-returns-in_err-look_into_told-clause-grows
look_into_each_half-returns-in_err-look_into_told-clause-grows t c =
    let view = c.args.desk.now.view in
    let turned = subst (AreTurned c.args.b) (sym c.as_slice-half-items.ensures.value) (c.in_turn-halves.ensures c.requires.may.visit_is.box) in
    let half = c.half-item.result in
    let part = turned-part laws c.args.b half c.as_slice-half-items.result.now c.loop-half.half-index c.requires.may.visit_is.box turned.among c.loop-half-test.true c.half-item.is in
    let same = c.loop-half.invariant.more.view in
    grows-then (list_grid_value view (list_of c.args.desk.now c.args.live)) c.args.b (known_of c.args.values.now) (known_of c.loop-half.values) (known_of c.look_into_told.new.values) c.loop-half.invariant.grows
    (half-grows mesh view c.loop-half.desk.view (list_of c.args.desk.now c.args.live) c.args.b half (known_of c.loop-half.values) (known_of c.look_into_told.new.values) same part (subst (λ l. Grows (list_grid_value c.loop-half.desk.view l) c.half-item.result (known_of c.loop-half.values) (known_of c.look_into_told.new.values)) (list-stays c.args.desk.now c.loop-half.desk c.args.live c.loop-half.invariant.more c.requires.may.among) c.in_err-look_into_told.ensures.grows))

pub look_into_each_half-returns-in_err-look_into_told-clause-counted : goal.look_into_each_half-returns-in_err-look_into_told-clause-counted
look_into_each_half-returns-in_err-look_into_told-clause-counted t c =
    let view = c.args.desk.now.view in
    let live = list_of c.args.desk.now c.args.live in
    let was = received_by c.args.before in
    let other = other-list was live c.requires.new in
    let turned = subst (AreTurned c.args.b) (sym c.as_slice-half-items.ensures.value) (c.in_turn-halves.ensures c.requires.may.visit_is.box) in
    let halves = c.as_slice-half-items.result.now in
    let half = c.half-item.result in
    turned-charged_after (gridded view) was live (halves_of 1 c.args.b) halves (known_of c.args.values.now) (known_of c.look_into_told.new.values) c.args.tally.now c.look_into_told.new.tally turned.among
    (some-charged_after laws view was live halves (c.loop-half.half-index + 1) (known_of c.args.values.now) (known_of c.look_into_told.new.values) c.args.tally.now c.look_into_told.new.tally other (turned-boxes laws c.args.b halves c.requires.may.visit_is.box turned.among)
    (next-charged_after laws view c.loop-half.desk.view was live half halves c.loop-half.half-index _ (known_of c.args.values.now) (known_of c.loop-half.values) (known_of c.look_into_told.new.values) c.args.tally.now c.loop-half.tally c.look_into_told.new.tally
    c.loop-half.invariant.more.view c.loop-half-test.true c.half-item.is c.loop-half.invariant.counted
    (subst (λ r. ChargesBelowAfter (gridded c.loop-half.desk.view) r (visit half live) (known_of c.loop-half.values) (known_of c.look_into_told.new.values) c.loop-half.tally c.look_into_told.new.tally) (half-was half c.args.before)
    (subst (λ l. ChargesBelowAfter (gridded c.loop-half.desk.view) (visit_before c.args.before half) (visit half l) (known_of c.loop-half.values) (known_of c.look_into_told.new.values) c.loop-half.tally c.look_into_told.new.tally) (list-stays c.args.desk.now c.loop-half.desk c.args.live c.loop-half.invariant.more c.requires.may.among) c.in_err-look_into_told.ensures.counted))))

pub look_into_each_half-returns-in_err-look_into_told-clause-paid : goal.look_into_each_half-returns-in_err-look_into_told-clause-paid
look_into_each_half-returns-in_err-look_into_told-clause-paid t c =
    let view = c.args.desk.now.view in
    let live = list_of c.args.desk.now c.args.live in
    let was = received_by c.args.before in
    let turned = subst (AreTurned c.args.b) (sym c.as_slice-half-items.ensures.value) (c.in_turn-halves.ensures c.requires.may.visit_is.box) in
    let halves = c.as_slice-half-items.result.now in
    let half = c.half-item.result in
    turned-paid_after (gridded view) was live (halves_of 1 c.args.b) halves (known_of c.args.values.now) (known_of c.look_into_told.new.values) c.args.tally.now c.look_into_told.new.tally turned.among
    (next-paid_after laws view c.loop-half.desk.view was live half halves c.loop-half.half-index (known_of c.args.values.now) (known_of c.loop-half.values) (known_of c.look_into_told.new.values) c.args.tally.now c.loop-half.tally c.look_into_told.new.tally
    c.loop-half.invariant.more.view c.loop-half-test.true c.half-item.is c.loop-half.invariant.paid
    (subst (λ r. PaysBoxAfter (gridded c.loop-half.desk.view) r (visit half live) (known_of c.loop-half.values) (known_of c.look_into_told.new.values) c.loop-half.tally c.look_into_told.new.tally) (half-was half c.args.before)
    (subst (λ l. PaysBoxAfter (gridded c.loop-half.desk.view) (visit_before c.args.before half) (visit half l) (known_of c.loop-half.values) (known_of c.look_into_told.new.values) c.loop-half.tally c.look_into_told.new.tally) (list-stays c.args.desk.now c.loop-half.desk c.args.live c.loop-half.invariant.more c.requires.may.among) c.in_err-look_into_told.ensures.paid)))

pub look_into_each_half-loop-half-preserved : goal.look_into_each_half-loop-half-preserved
look_into_each_half-loop-half-preserved t c =
    let turned = subst (AreTurned c.args.b) (sym c.as_slice-half-items.ensures.value) (c.in_turn-halves.ensures c.requires.may.visit_is.box) in
    let halves = c.as_slice-half-items.result.now in
    let half = c.half-item.result in
    let part = turned-part laws c.args.b half halves c.loop-half.half-index c.requires.may.visit_is.box turned.among c.loop-half-test.true c.half-item.is in
    let view = c.args.desk.now.view in
    let places = samples c.args.desk.now in
    let live = (list_of c.args.desk.now c.args.live) in
    let here = c.loop-half.desk.lists in
    let hands = c.loop-half.invariant.hand in
    let step = step-told mesh places live halves half c.loop-half.half-index here c.as_slice-outcomes.result.now c.loop-half.at _ c.loop-half-test.true c.half-item.is hands c.loop-half.invariant.told (ap (λ k. c.loop-half.at + k) (c.from-at.ensures ∙ byte-is c.is_long.result ∙ ap (λ (t : Bool). cond {A = ℕ} t 1 0) c.is_long.ensures)) in
    let was = received_by c.args.before in
    let g = list_grid_value view live in
    let before = c.loop-half.invariant in
    let after = c.in_ok-look_into_told.ensures in
    let same = before.more.view in
    let grown = half-grows mesh view c.loop-half.desk.view live c.args.b half (known_of c.loop-half.values) (known_of c.look_into_told.new.values) same part (subst (λ l. Grows (list_grid_value c.loop-half.desk.view l) c.half-item.result (known_of c.loop-half.values) (known_of c.look_into_told.new.values)) (list-stays c.args.desk.now c.loop-half.desk c.args.live c.loop-half.invariant.more c.requires.may.among) c.in_ok-look_into_told.ensures.grows) in
    let passed = after.left ∙ ap (λ w. behind (gridded w) (visit_before c.args.before half) c.loop-half.boxes.before) same in
    record {
      more = subst (HasMore c.args.desk.now) (sym after.kept) before.more;
      hand = subst (λ (d : Tracing). All (HandsOn (length live) d.lists) c.as_slice-outcomes.result.now) (sym after.kept) before.hand;
      few = omega (arith, c.loop-half.invariant.few, c.from-at.ensures, byte-most c.is_long.result);
      told = ap (λ (d : Tracing). drop (c.loop-half.at + c.from-at.result) (all_seen d.lists c.as_slice-outcomes.result.now)) after.kept ∙ step.rest;
      stands = subst (λ ls. IfSome c.args.before (AreOldHalves view c.args.b (drop (c.loop-half.half-index + 1) halves) ls)) (sym passed)
          (next-halves laws view c.args.b half c.loop-half.half-index halves c.loop-half.boxes.before c.args.before c.loop-half-test.true c.half-item.is before.stands);
      left = ap (behind_halves (gridded view) was (drop (c.loop-half.half-index + 1) halves)) passed ∙ left-more view half c.loop-half.half-index halves c.loop-half.boxes.before c.args.before c.loop-half-test.true c.half-item.is ∙ before.left;
      adds = adds-more (gridded view) live halves c.loop-half.half-index half c.args.boxes.now c.loop-half.boxes c.look_into_told.new.boxes c.loop-half-test.true c.half-item.is before.adds
          (subst (λ w. Adds c.loop-half.boxes c.look_into_told.new.boxes (places_of (gridded w) (visit half live))) same
          (subst (λ l. Adds c.loop-half.boxes c.look_into_told.new.boxes (places_of (gridded c.loop-half.desk.view) (visit half l))) (list-stays c.args.desk.now c.loop-half.desk c.args.live c.loop-half.invariant.more c.requires.may.among) after.adds));
      settled = next-settled mesh view c.loop-half.desk.view live c.args.b half halves c.loop-half.half-index (known_of c.loop-half.values) (known_of c.look_into_told.new.values) same c.loop-half-test.true c.half-item.is grown (subst (λ l. AreSettled (gridded c.loop-half.desk.view) (list_grid_value c.loop-half.desk.view l) c.half-item.result (known_of c.look_into_told.new.values)) (list-stays c.args.desk.now c.loop-half.desk c.args.live c.loop-half.invariant.more c.requires.may.among) c.in_ok-look_into_told.ensures.settled) before.settled;
      grows = grows-then g c.args.b (known_of c.args.values.now) (known_of c.loop-half.values) (known_of c.look_into_told.new.values) before.grows grown;
      counted = next-charged_after laws view c.loop-half.desk.view was live half halves c.loop-half.half-index _ (known_of c.args.values.now) (known_of c.loop-half.values) (known_of c.look_into_told.new.values) c.args.tally.now c.loop-half.tally c.look_into_told.new.tally
          same c.loop-half-test.true c.half-item.is before.counted
          (subst (λ r. ChargesBelowAfter (gridded c.loop-half.desk.view) r (visit half live) (known_of c.loop-half.values) (known_of c.look_into_told.new.values) c.loop-half.tally c.look_into_told.new.tally) (half-was half c.args.before)
          (subst (λ l. ChargesBelowAfter (gridded c.loop-half.desk.view) (visit_before c.args.before half) (visit half l) (known_of c.loop-half.values) (known_of c.look_into_told.new.values) c.loop-half.tally c.look_into_told.new.tally) (list-stays c.args.desk.now c.loop-half.desk c.args.live c.loop-half.invariant.more c.requires.may.among) c.in_ok-look_into_told.ensures.counted));
      worked = next-worked_after view c.loop-half.desk.view was live c.args.b half halves c.loop-half.half-index (known_of c.loop-half.values) (known_of c.look_into_told.new.values) same c.loop-half-test.true c.half-item.is grown
          (subst (λ r. AreWorkedAfter (gridded c.loop-half.desk.view) r (visit half live) (known_of c.look_into_told.new.values)) (half-was half c.args.before)
          (subst (λ l. AreWorkedAfter (gridded c.loop-half.desk.view) (visit_before c.args.before half) (visit half l) (known_of c.look_into_told.new.values)) (list-stays c.args.desk.now c.loop-half.desk c.args.live c.loop-half.invariant.more c.requires.may.among) after.worked)) before.worked;
      paid = next-paid_after laws view c.loop-half.desk.view was live half halves c.loop-half.half-index (known_of c.args.values.now) (known_of c.loop-half.values) (known_of c.look_into_told.new.values) c.args.tally.now c.loop-half.tally c.look_into_told.new.tally
          same c.loop-half-test.true c.half-item.is before.paid
          (subst (λ r. PaysBoxAfter (gridded c.loop-half.desk.view) r (visit half live) (known_of c.loop-half.values) (known_of c.look_into_told.new.values) c.loop-half.tally c.look_into_told.new.tally) (half-was half c.args.before)
          (subst (λ l. PaysBoxAfter (gridded c.loop-half.desk.view) (visit_before c.args.before half) (visit half l) (known_of c.loop-half.values) (known_of c.look_into_told.new.values) c.loop-half.tally c.look_into_told.new.tally) (list-stays c.args.desk.now c.loop-half.desk c.args.live c.loop-half.invariant.more c.requires.may.among) after.paid));
      traced = next-traced_after laws view c.loop-half.desk.view was live half halves c.loop-half.half-index _ c.args.tally.now c.loop-half.tally c.look_into_told.new.tally same c.loop-half-test.true c.half-item.is before.traced
          (subst (λ r. CountsHullsAtLeast (long_spans_below_after (gridded c.loop-half.desk.view) r (visit half live)) c.loop-half.tally c.look_into_told.new.tally) (half-was half c.args.before)
          (subst (λ l. CountsHullsAtLeast (long_spans_below_after (gridded c.loop-half.desk.view) (visit_before c.args.before half) (visit half l)) c.loop-half.tally c.look_into_told.new.tally) (list-stays c.args.desk.now c.loop-half.desk c.args.live c.loop-half.invariant.more c.requires.may.among) after.traced));
    }

pub look_into_each_half-returns-clause-settled : goal.look_into_each_half-returns-clause-settled
look_into_each_half-returns-clause-settled t c =
    let view = c.args.desk.now.view in
    let g = list_grid_value view (list_of c.args.desk.now c.args.live) in
    let turned = subst (AreTurned c.args.b) (sym c.as_slice-half-items.ensures.value) (c.in_turn-halves.ensures c.requires.may.visit_is.box) in
    let halves = c.as_slice-half-items.result.now in
    turned-settled laws (gridded view) g c.args.b halves (known_of c.loop-half.values) turned.among
    (subst (λ hs. All (λ h. AreSettled (gridded view) g h (known_of c.loop-half.values)) hs) (take_all c.loop-half.half-index halves (omega (arith, c.loop-half-test.false))) c.loop-half.invariant.settled)

pub look_into_each_half-returns-clause-worked : goal.look_into_each_half-returns-clause-worked
look_into_each_half-returns-clause-worked t c =
    let live = list_of c.args.desk.now c.args.live in
    let was = received_by c.args.before in
    let turned = subst (AreTurned c.args.b) (sym c.as_slice-half-items.ensures.value) (c.in_turn-halves.ensures c.requires.may.visit_is.box) in
    let halves = c.as_slice-half-items.result.now in
    All-permutation (λ h. AreWorkedAfter (gridded c.args.desk.now.view) (received_half was h) (visit h live) (known_of c.loop-half.values)) halves (halves_of 1 c.args.b) (IsPermutation-sym (halves_of 1 c.args.b) halves turned.among)
    (subst (λ hs. All (λ h. AreWorkedAfter (gridded c.args.desk.now.view) (received_half was h) (visit h live) (known_of c.loop-half.values)) hs) (take_all c.loop-half.half-index halves (omega (arith, c.loop-half-test.false))) c.loop-half.invariant.worked)

pub look_into_each_half-returns-clause-counted : goal.look_into_each_half-returns-clause-counted
look_into_each_half-returns-clause-counted t c =
    let view = c.args.desk.now.view in
    let live = list_of c.args.desk.now c.args.live in
    let was = received_by c.args.before in
    let other = other-list was live c.requires.new in
    let turned = subst (AreTurned c.args.b) (sym c.as_slice-half-items.ensures.value) (c.in_turn-halves.ensures c.requires.may.visit_is.box) in
    let halves = c.as_slice-half-items.result.now in
    turned-charged_after (gridded view) was live (halves_of 1 c.args.b) halves (known_of c.args.values.now) (known_of c.loop-half.values) c.args.tally.now c.loop-half.tally turned.among
    (some-charged_after laws view was live halves c.loop-half.half-index (known_of c.args.values.now) (known_of c.loop-half.values) c.args.tally.now c.loop-half.tally other (turned-boxes laws c.args.b halves c.requires.may.visit_is.box turned.among) c.loop-half.invariant.counted)

pub look_into_each_half-returns-clause-paid : goal.look_into_each_half-returns-clause-paid
look_into_each_half-returns-clause-paid t c =
    let turned = subst (AreTurned c.args.b) (sym c.as_slice-half-items.ensures.value) (c.in_turn-halves.ensures c.requires.may.visit_is.box) in
    turned-paid_after (gridded c.args.desk.now.view) (received_by c.args.before) (list_of c.args.desk.now c.args.live) (halves_of 1 c.args.b) c.as_slice-half-items.result.now (known_of c.args.values.now) (known_of c.loop-half.values) c.args.tally.now c.loop-half.tally turned.among
    c.loop-half.invariant.paid

pub look_into_each_half-returns-clause-traced : goal.look_into_each_half-returns-clause-traced
look_into_each_half-returns-clause-traced t c =
    let view = c.args.desk.now.view in
    let live = list_of c.args.desk.now c.args.live in
    let was = received_by c.args.before in
    let turned = subst (AreTurned c.args.b) (sym c.as_slice-half-items.ensures.value) (c.in_turn-halves.ensures c.requires.may.visit_is.box) in
    let halves = c.as_slice-half-items.result.now in
    turned-traced_after (gridded view) was live (halves_of 1 c.args.b) halves c.args.tally.now c.loop-half.tally turned.among
    (all-traced_after (gridded view) was live halves c.loop-half.half-index c.args.tally.now c.loop-half.tally (omega (arith, c.loop-half-test.false)) c.loop-half.invariant.traced)

pub look_into_halves-returns-clause-kept : goal.look_into_halves-returns-clause-kept
look_into_halves-returns-clause-kept t c = c.cut.ensures.back c.args.desk.now c.look_into_each_half-looked.ensures.more (c.len-count.ensures ∙ ap (λ (d : Tracing). length d.lists) c.desk.view_is)

pub look_into_told-returns-then-not-is_long-clause-adds : goal.look_into_told-returns-then-not-is_long-clause-adds
look_into_told-returns-then-not-is_long-clause-adds t c =
    let view = c.args.desk.now.view in
    let v = visit c.args.b (list_of c.args.desk.now c.args.received) in
    let was = visit_before c.args.before c.args.b in
    on_ok c.look_into_cell.result _
    (adds-same c.args.boxes.now c.args.boxes.now [] (places_of (gridded view) v) (sym (places-cell laws (gridded view) v (omega arith) c.requires.may.visit_is.box (sym c.is_long.ensures ∙ c.if-not-is_long.true))) (adds-none c.args.boxes.now))

pub look_into_told-returns-then-not-is_long-clause-left : goal.look_into_told-returns-then-not-is_long-clause-left
look_into_told-returns-then-not-is_long-clause-left t c =
    on_ok c.look_into_cell.result _ (left-cell laws c.args.desk.now.view c.args.b c.args.boxes.now.before c.args.before c.requires.may.visit_is.box (sym c.is_long.ensures ∙ c.if-not-is_long.true))

pub look_into_told-returns-then-not-is_long-clause-worked : goal.look_into_told-returns-then-not-is_long-clause-worked
look_into_told-returns-then-not-is_long-clause-worked t c =
    let view = c.args.desk.now.view in
    let v = visit c.args.b (list_of c.args.desk.now c.args.received) in
    let was = visit_before c.args.before c.args.b in
    on_ok-then c.look_into_cell.result _ _ (worked-after (gridded view) was v (known_of c.look_into_cell.new.values)) c.look_into_cell.ensures.worked

pub look_into_told-returns-then-not-is_long-clause-paid : goal.look_into_told-returns-then-not-is_long-clause-paid
look_into_told-returns-then-not-is_long-clause-paid t c =
    let view = c.args.desk.now.view in
    let v = visit c.args.b (list_of c.args.desk.now c.args.received) in
    let was = visit_before c.args.before c.args.b in
    cell-paid_after laws (gridded view) was v (known_of c.args.values.now) (known_of c.look_into_cell.new.values) c.args.tally.now c.look_into_cell.new.tally (omega arith) c.requires.may.visit_is.box c.requires.new
    (sym c.is_long.ensures ∙ c.if-not-is_long.true) c.look_into_cell.ensures.paid

pub look_into_told-returns-in-Open-clause-adds : goal.look_into_told-returns-in-Open-clause-adds
look_into_told-returns-in-Open-clause-adds t c =
    let view = c.args.desk.now.view in
    let v = visit c.args.b (list_of c.args.desk.now c.args.received) in
    let was = visit_before c.args.before c.args.b in
    let left = c.args.boxes.now.before in
    let at = c.in-Open.live in
    let live = list_of c.args.desk.now at in
    let long = sym c.is_long.ensures ∙ c.if-not-is_long.false in
    let opened = opened-told mesh (samples c.args.desk.now) (list_of c.args.desk.now c.args.received) c.args.b c.args.desk.now.lists c.args.outcomes.now c.args.at at Inside c.requires.may.lattice (c.requires.told long) c.in-Open.is in
    on_ok-then c.look_into_split.result _ _
    (adds-same c.args.boxes.now c.look_into_split.new.boxes (split_places (gridded view) c.args.b live) (places_of (gridded view) v)
    (sym (places-split laws (gridded view) v live (omega arith) c.requires.may.visit_is.box long opened.open' opened.same)))
    c.look_into_split.ensures.adds

pub look_into_told-returns-in-Inside-clause-adds : goal.look_into_told-returns-in-Inside-clause-adds
look_into_told-returns-in-Inside-clause-adds t c =
    let view = c.args.desk.now.view in
    let v = visit c.args.b (list_of c.args.desk.now c.args.received) in
    let was = visit_before c.args.before c.args.b in
    let left = c.args.boxes.now.before in
    let long = sym c.is_long.ensures ∙ c.if-not-is_long.false in
    let closed = closed-told mesh (samples c.args.desk.now) (list_of c.args.desk.now c.args.received) c.args.b c.args.desk.now.lists c.args.outcomes.now c.args.at Inside c.requires.may.lattice (c.requires.told long) c.in-Inside.is in
    on_ok-then c.push_shut.result _ _
    (adds-same c.args.boxes.now c.push_shut.new.self (None ∷ []) (places_of (gridded view) v) (sym (places-shut laws (gridded view) v (omega arith) c.requires.may.visit_is.box long closed)))
    c.push_shut.ensures.adds

pub look_into_told-returns-in-Inside-clause-left : goal.look_into_told-returns-in-Inside-clause-left
look_into_told-returns-in-Inside-clause-left t c =
    let view = c.args.desk.now.view in
    let v = visit c.args.b (list_of c.args.desk.now c.args.received) in
    let was = visit_before c.args.before c.args.b in
    let left = c.args.boxes.now.before in
    let long = sym c.is_long.ensures ∙ c.if-not-is_long.false in
    let closed = closed-told mesh (samples c.args.desk.now) (list_of c.args.desk.now c.args.received) c.args.b c.args.desk.now.lists c.args.outcomes.now c.args.at Inside c.requires.may.lattice (c.requires.told long) c.in-Inside.is in
    on_ok-then c.push_shut.result _ _
    (λ passed. passed ∙ ap (λ (t : Bool). cond t (drop (first_count left) left) left) c.is_some.ensures ∙ left-shut laws view c.args.b left c.args.before long c.requires.old)
    c.push_shut.ensures.left

pub look_into_told-push_shut-requires : goal.look_into_told-push_shut-requires
look_into_told-push_shut-requires t c =
    let long = sym c.is_long.ensures ∙ c.if-not-is_long.false in
    λ some. old-there laws c.args.desk.now.view c.args.b c.args.boxes.now.before c.args.before long c.requires.old (subst IsTrue c.is_some.ensures some)

pub look_into_split-take_old-requires : goal.look_into_split-take_old-requires
look_into_split-take_old-requires t c =
    let view = c.args.desk.now.view in
    let b = c.args.b in
    let left = c.args.boxes.now.before in
    let old = c.in-Some.old in
    let is = found-old view b left c.args.before old c.in-Some.ensures.one c.requires.old in
    let n = size-is c.args.values.now.n (size_of view) c.requires.may.n in
    let within = c.requires.may.visit_is.within in
    record {
      count = old-many laws view b left old c.requires.long is;
      n = size-then old.values.now.n (size_of view) c.args.values.now.n is.looked.n (size-from (size_of view) c.args.values.now.n (sym n));
      x = omega (arith, within.x, ap (λ (s : GridSize). s.x) n);
      y = omega (arith, within.y, ap (λ (s : GridSize). s.y) n);
      z = omega (arith, within.z, ap (λ (s : GridSize). s.z) n);
    }

pub look_into_split-returns-in-Some-clause-adds : goal.look_into_split-returns-in-Some-clause-adds
look_into_split-returns-in-Some-clause-adds t c =
    let view = c.args.desk.now.view in
    let b = c.args.b in
    let left = c.args.boxes.now.before in
    let old = c.in-Some.old in
    let live = list_of c.args.desk.now c.args.live in
    let is = found-old view b left c.args.before old c.in-Some.ensures.one c.requires.old in
    let handed : first_list left ≡ Some live = c.in-Some.ensures.same ∙ ap Some (c.list.ensures.list ∙ ap (λ (d : Tracing). list_of d c.args.live) c.desk.view_is) in
    let told = handed-some laws view b left old live c.requires.long is handed in
    on_ok-then c.take_old.result _ _
    (adds-same c.args.boxes.now c.take_old.new.boxes (take (first_count left) left) (split_places (gridded view) b live)
    (old-places laws view b left old c.requires.long is ∙ places-split laws (gridded view) (visit b old.list.now) live (omega arith) c.requires.may.visit_is.box c.requires.long told.0 told.1))
    c.take_old.ensures.adds

pub look_into_split-returns-in-Some-clause-left : goal.look_into_split-returns-in-Some-clause-left
look_into_split-returns-in-Some-clause-left t c =
    let view = c.args.desk.now.view in
    let b = c.args.b in
    let left = c.args.boxes.now.before in
    let old = c.in-Some.old in
    let live = list_of c.args.desk.now c.args.live in
    let is = found-old view b left c.args.before old c.in-Some.ensures.one c.requires.old in
    let handed : first_list left ≡ Some live = c.in-Some.ensures.same ∙ ap Some (c.list.ensures.list ∙ ap (λ (d : Tracing). list_of d c.args.live) c.desk.view_is) in
    let told = handed-some laws view b left old live c.requires.long is handed in
    on_ok-then c.take_old.result _ _
    (λ passed. passed ∙ ap (λ n. drop n left) (old-count laws view b left old c.requires.long is) ∙ ap (λ o. behind (gridded view) (visit_before o b) left) (sym c.in-Some.ensures.one))
    c.take_old.ensures.left

pub look_into_split-returns-in-Some-clause-settled : goal.look_into_split-returns-in-Some-clause-settled
look_into_split-returns-in-Some-clause-settled t c =
    let view = c.args.desk.now.view in
    let b = c.args.b in
    let left = c.args.boxes.now.before in
    let old = c.in-Some.old in
    let live = list_of c.args.desk.now c.args.live in
    let is = found-old view b left c.args.before old c.in-Some.ensures.one c.requires.old in
    let handed : first_list left ≡ Some live = c.in-Some.ensures.same ∙ ap Some (c.list.ensures.list ∙ ap (λ (d : Tracing). list_of d c.args.live) c.desk.view_is) in
    let told = handed-some laws view b left old live c.requires.long is handed in
    let known = handed-looked laws view b old live is.looked told.1 in
    on_ok-then c.take_old.result _ _ (takes-settled view (list_grid_value view live) b old.values.now c.args.values.now c.take_old.new.values known.1) c.take_old.ensures.all

pub look_into_split-returns-in-Some-clause-grows : goal.look_into_split-returns-in-Some-clause-grows
look_into_split-returns-in-Some-clause-grows t c =
    let view = c.args.desk.now.view in
    let b = c.args.b in
    let left = c.args.boxes.now.before in
    let old = c.in-Some.old in
    let live = list_of c.args.desk.now c.args.live in
    let is = found-old view b left c.args.before old c.in-Some.ensures.one c.requires.old in
    let handed : first_list left ≡ Some live = c.in-Some.ensures.same ∙ ap Some (c.list.ensures.list ∙ ap (λ (d : Tracing). list_of d c.args.live) c.desk.view_is) in
    let told = handed-some laws view b left old live c.requires.long is handed in
    let known = handed-looked laws view b old live is.looked told.1 in
    takes-grows (list_grid_value view live) b old.values.now c.args.values.now c.take_old.new.values known.0 c.take_old.ensures.part

pub look_into_split-returns-in-Some-clause-worked : goal.look_into_split-returns-in-Some-clause-worked
look_into_split-returns-in-Some-clause-worked t c =
    let view = c.args.desk.now.view in
    let b = c.args.b in
    let left = c.args.boxes.now.before in
    let old = c.in-Some.old in
    let live = list_of c.args.desk.now c.args.live in
    let handed : first_list left ≡ Some live = c.in-Some.ensures.same ∙ ap Some (c.list.ensures.list ∙ ap (λ (d : Tracing). list_of d c.args.live) c.desk.view_is) in
    let boxes = halves-boxes laws b (halves_of 1 b) c.requires.may.visit_is.box refl in
    on_ok c.take_old.result _
    (subst (λ h. All (λ half. AreWorkedAfter (gridded view) (received_half h half) (visit half live) (known_of c.take_old.new.values)) (halves_of 1 b)) (sym (ap (λ o. handed_by o left) c.in-Some.ensures.one ∙ handed))
    (taken-worked laws (gridded view) live (halves_of 1 b) (known_of c.take_old.new.values) boxes))

pub look_into_split-returns-in-Some-clause-paid : goal.look_into_split-returns-in-Some-clause-paid
look_into_split-returns-in-Some-clause-paid t c =
    let view = c.args.desk.now.view in
    let b = c.args.b in
    let left = c.args.boxes.now.before in
    let old = c.in-Some.old in
    let live = list_of c.args.desk.now c.args.live in
    let handed : first_list left ≡ Some live = c.in-Some.ensures.same ∙ ap Some (c.list.ensures.list ∙ ap (λ (d : Tracing). list_of d c.args.live) c.desk.view_is) in
    let boxes = halves-boxes laws b (halves_of 1 b) c.requires.may.visit_is.box refl in
    let values = c.take_old.new.values in
    subst (λ h. PaysHalvesAfter (gridded view) h live (halves_of 1 b) (known_of c.args.values.now) (known_of values) c.args.tally.now c.args.tally.now) (sym (ap (λ o. handed_by o left) c.in-Some.ensures.one ∙ handed))
    (taken-paid laws view live b old.values.now c.args.values.now values c.args.tally.now c.requires.may.visit_is.box boxes
    (ap points_of_grid (size-is values.n c.args.values.now.n c.take_old.ensures.part.n)) c.take_old.ensures.part)

pub look_into_split-returns-in-Some-clause-counted : goal.look_into_split-returns-in-Some-clause-counted
look_into_split-returns-in-Some-clause-counted t c =
    let view = c.args.desk.now.view in
    let b = c.args.b in
    let left = c.args.boxes.now.before in
    let old = c.in-Some.old in
    let live = list_of c.args.desk.now c.args.live in
    let is = found-old view b left c.args.before old c.in-Some.ensures.one c.requires.old in
    let handed : first_list left ≡ Some live = c.in-Some.ensures.same ∙ ap Some (c.list.ensures.list ∙ ap (λ (d : Tracing). list_of d c.args.live) c.desk.view_is) in
    let told = handed-some laws view b left old live c.requires.long is handed in
    let values = c.take_old.new.values in
    λ f enough. taken-charged laws f _ (known_of c.args.values.now) (known_of values) c.args.tally.now (ap points_of_grid (size-is values.n c.args.values.now.n c.take_old.ensures.part.n))
    (λ p. taken-known _ old.values.now c.args.values.now values p c.take_old.ensures.part)

pub look_into_split-returns-in-Some-clause-traced : goal.look_into_split-returns-in-Some-clause-traced
look_into_split-returns-in-Some-clause-traced t c =
    let view = c.args.desk.now.view in
    let b = c.args.b in
    let left = c.args.boxes.now.before in
    let old = c.in-Some.old in
    let live = list_of c.args.desk.now c.args.live in
    let is = found-old view b left c.args.before old c.in-Some.ensures.one c.requires.old in
    let handed : first_list left ≡ Some live = c.in-Some.ensures.same ∙ ap Some (c.list.ensures.list ∙ ap (λ (d : Tracing). list_of d c.args.live) c.desk.view_is) in
    let told = handed-some laws view b left old live c.requires.long is handed in
    on_ok c.take_old.result _
    (subst (λ h. CountsHullsAtLeast (halves_long_spans_after (gridded view) h live (halves_of 1 b)) c.args.tally.now c.args.tally.now) (sym (ap (λ o. handed_by o left) c.in-Some.ensures.one ∙ handed))
    (halves-untraced laws (gridded view) live (halves_of 1 b) c.args.tally.now))

pub look_into_anew-half_before-half-requires : goal.look_into_anew-half_before-half-requires
look_into_anew-half_before-half-requires t c =
    subst (λ o. IfNone c.args.before (o ≡ None)) (sym c.take_handed-handed.ensures.list) (none-handed c.args.before c.args.boxes.now.before)

pub look_into_anew-look_into_halves-requires : goal.look_into_anew-look_into_halves-requires
look_into_anew-look_into_halves-requires t c =
    let view = c.args.desk.now.view in
    let b = c.args.b in
    let left = c.args.boxes.now.before in
    let live = list_of c.args.desk.now c.args.live in
    let gave = c.half_before-half.ensures.received ∙ c.take_handed-handed.ensures.list in (
      omega (arith, c.decreases),
      (
        c.requires.may,
        (
          c.requires.whole,
          (
            c.requires.long,
            (
              subst (λ ls. IfSome c.half_before-half.result (AreOldHalves view b (halves_of 1 b) ls)) (sym (c.in_ok-begun.ensures.left ∙ c.take_handed-handed.ensures.left))
                  (first-halves laws view b left c.args.before c.half_before-half.result c.requires.long c.requires.old gave c.half_before-half.ensures.values),
              λ same. c.requires.new (sym gave ∙ same),
            ),
          ),
        ),
      ),
    )

pub look_into_anew-returns-in_err-begun-clause-counted : goal.look_into_anew-returns-in_err-begun-clause-counted
look_into_anew-returns-in_err-begun-clause-counted t c =
    λ f enough. charges-none laws f _ (known_of c.args.values.now) c.args.tally.now

pub look_into_anew-returns-in_err-begun-clause-paid : goal.look_into_anew-returns-in_err-begun-clause-paid
look_into_anew-returns-in_err-begun-clause-paid t c =
    λ f due. pays-none laws f (known_of c.args.values.now) c.args.tally.now

pub look_into_anew-returns-in_err-look_into_halves-clause-counted : goal.look_into_anew-returns-in_err-look_into_halves-clause-counted
look_into_anew-returns-in_err-look_into_halves-clause-counted t c =
    let view = c.args.desk.now.view in
    let b = c.args.b in
    let left = c.args.boxes.now.before in
    let live = list_of c.args.desk.now c.args.live in
    let gave = c.half_before-half.ensures.received ∙ c.take_handed-handed.ensures.list in
    subst (λ h. ChargesHalvesAfter (gridded view) h live (halves_of 1 b) (known_of c.args.values.now) (known_of c.look_into_halves.new.values) c.args.tally.now c.look_into_halves.new.tally) gave c.in_err-look_into_halves.ensures.counted

pub look_into_anew-returns-in_err-look_into_halves-clause-paid : goal.look_into_anew-returns-in_err-look_into_halves-clause-paid
look_into_anew-returns-in_err-look_into_halves-clause-paid t c =
    let view = c.args.desk.now.view in
    let b = c.args.b in
    let left = c.args.boxes.now.before in
    let live = list_of c.args.desk.now c.args.live in
    let gave = c.half_before-half.ensures.received ∙ c.take_handed-handed.ensures.list in
    subst (λ h. PaysHalvesAfter (gridded view) h live (halves_of 1 b) (known_of c.args.values.now) (known_of c.look_into_halves.new.values) c.args.tally.now c.look_into_halves.new.tally) gave c.in_err-look_into_halves.ensures.paid

pub look_into_anew-returns-clause-counted : goal.look_into_anew-returns-clause-counted
look_into_anew-returns-clause-counted t c =
    let view = c.args.desk.now.view in
    let b = c.args.b in
    let left = c.args.boxes.now.before in
    let live = list_of c.args.desk.now c.args.live in
    let gave = c.half_before-half.ensures.received ∙ c.take_handed-handed.ensures.list in
    subst (λ h. ChargesHalvesAfter (gridded view) h live (halves_of 1 b) (known_of c.args.values.now) (known_of c.look_into_halves.new.values) c.args.tally.now c.look_into_halves.new.tally) gave c.in_ok-look_into_halves.ensures.counted

pub look_into_anew-returns-clause-paid : goal.look_into_anew-returns-clause-paid
look_into_anew-returns-clause-paid t c =
    let view = c.args.desk.now.view in
    let b = c.args.b in
    let left = c.args.boxes.now.before in
    let live = list_of c.args.desk.now c.args.live in
    let gave = c.half_before-half.ensures.received ∙ c.take_handed-handed.ensures.list in
    subst (λ h. PaysHalvesAfter (gridded view) h live (halves_of 1 b) (known_of c.args.values.now) (known_of c.look_into_halves.new.values) c.args.tally.now c.look_into_halves.new.tally) gave c.in_ok-look_into_halves.ensures.paid

pub look_into_anew-returns-clause-worked : goal.look_into_anew-returns-clause-worked
look_into_anew-returns-clause-worked t c =
    let view = c.args.desk.now.view in
    let b = c.args.b in
    let left = c.args.boxes.now.before in
    let live = list_of c.args.desk.now c.args.live in
    let gave = c.half_before-half.ensures.received ∙ c.take_handed-handed.ensures.list in
    subst (λ h. All (λ half. AreWorkedAfter (gridded view) (received_half h half) (visit half live) (known_of c.look_into_halves.new.values)) (halves_of 1 b)) gave c.in_ok-look_into_halves.ensures.worked

pub look_into_anew-returns-clause-traced : goal.look_into_anew-returns-clause-traced
look_into_anew-returns-clause-traced t c =
    let view = c.args.desk.now.view in
    let b = c.args.b in
    let left = c.args.boxes.now.before in
    let live = list_of c.args.desk.now c.args.live in
    let gave = c.half_before-half.ensures.received ∙ c.take_handed-handed.ensures.list in
    subst (λ h. CountsHullsAtLeast (halves_long_spans_after (gridded view) h live (halves_of 1 b)) c.args.tally.now c.look_into_halves.new.tally) gave c.in_ok-look_into_halves.ensures.traced

pub look_into_anew-returns-clause-left : goal.look_into_anew-returns-clause-left
look_into_anew-returns-clause-left t c =
    let view = c.args.desk.now.view in
    let b = c.args.b in
    let left = c.args.boxes.now.before in
    let live = list_of c.args.desk.now c.args.live in
    let gave = c.half_before-half.ensures.received ∙ c.take_handed-handed.ensures.list in
    c.end_split.ensures.left ∙ c.in_ok-look_into_halves.ensures.left ∙ ap (λ r. behind_halves (gridded view) r (halves_of 1 b) c.begin_split.new.self.before) gave
    ∙ ap (behind_halves (gridded view) (handed_by c.args.before left) (halves_of 1 b)) (c.in_ok-begun.ensures.left ∙ c.take_handed-handed.ensures.left)
    ∙ left-anew laws view b left c.args.before c.requires.long c.requires.old

pub look_into_anew-end_split-requires : goal.look_into_anew-end_split-requires
look_into_anew-end_split-requires t c =
    let view = c.args.desk.now.view in
    let b = c.args.b in
    let left = c.args.boxes.now.before in
    let live = list_of c.args.desk.now c.args.live in
    let gave = c.half_before-half.ensures.received ∙ c.take_handed-handed.ensures.list in
    let begun = c.in_ok-begun.ensures in
    begun-within c.args.boxes.now c.begin_split.new.self c.look_into_halves.new.boxes (halves_places (gridded view) live (halves_of 1 b)) c.in_ok-begun.begun.at live c.in_ok-begun.begun.list
    (begun.list ∙ ap (λ (d : Tracing). cond c.args.boxes.now.keeps (Some (list_of d c.args.live)) None) c.desk.view_is) begun.at
    (record { places = begun.adds.places; keeps = begun.adds.keeps }) c.in_ok-look_into_halves.ensures.adds

pub look_into_anew-returns-clause-adds : goal.look_into_anew-returns-clause-adds
look_into_anew-returns-clause-adds t c =
    let view = c.args.desk.now.view in
    let b = c.args.b in
    let left = c.args.boxes.now.before in
    let live = list_of c.args.desk.now c.args.live in
    let gave = c.half_before-half.ensures.received ∙ c.take_handed-handed.ensures.list in
    let begun = c.in_ok-begun.ensures in
    adds-split (gridded view) b live c.args.boxes.now c.begin_split.new.self c.look_into_halves.new.boxes c.end_split.new.self c.in_ok-begun.begun.at c.in_ok-begun.begun.list
    (begun.list ∙ ap (λ (d : Tracing). cond c.args.boxes.now.keeps (Some (list_of d c.args.live)) None) c.desk.view_is) begun.at
    (record { places = begun.adds.places; keeps = begun.adds.keeps }) c.in_ok-look_into_halves.ensures.adds c.end_split.ensures.keeps c.end_split.ensures.filled

pub look_into_each_half-returns-clause-left : goal.look_into_each_half-returns-clause-left
look_into_each_half-returns-clause-left t c =
    let view = c.args.desk.now.view in
    let live = list_of c.args.desk.now c.args.live in
    let was = received_by c.args.before in
    let turned = subst (AreTurned c.args.b) (sym c.as_slice-half-items.ensures.value) (c.in_turn-halves.ensures c.requires.may.visit_is.box) in
    let halves = c.as_slice-half-items.result.now in
    sym (left-all (gridded view) was halves c.loop-half.half-index c.loop-half.boxes.before (omega (arith, c.loop-half-test.false))) ∙ c.loop-half.invariant.left
    ∙ turned-behind laws view c.args.b halves c.args.boxes.now.before was c.requires.may.visit_is.box turned

pub look_into_each_half-returns-clause-adds : goal.look_into_each_half-returns-clause-adds
look_into_each_half-returns-clause-adds t c =
    let view = c.args.desk.now.view in
    let live = list_of c.args.desk.now c.args.live in
    let was = received_by c.args.before in
    let turned = subst (AreTurned c.args.b) (sym c.as_slice-half-items.ensures.value) (c.in_turn-halves.ensures c.requires.may.visit_is.box) in
    let halves = c.as_slice-half-items.result.now in
    subst (Adds c.args.boxes.now c.loop-half.boxes) (ap (halves_places (gridded view) live) (take_all c.loop-half.half-index halves (omega (arith, c.loop-half-test.false))) ∙ turned-places laws view live c.args.b halves c.requires.may.visit_is.box turned) c.loop-half.invariant.adds
