use Rattle.std.proofs.Common.{◌≡◌, ◌+◌, ◌-◌, ◌<◌, ◌≤◌, ◌∷◌, ap, arith, drop, inr, length, refl, Some, subst, sym, take, true, false, Bool, ◌∙◌}
use Rattle.std.specs.List.{All, filter}
use mir.Val.{bool_byte}
use Rattle.std.specs.Prelude.{IfSome}
use Rattle.std.proofs.lemmas.List.{length-map}
use Rattle.std.proofs.lemmas.List.Elements.{All-drop, All-filter, All-get_or, All-take}
use Rattle.std.proofs.lemmas.Option.{slice_get-get_or}
use Rattle.box_chains.specs.Chains.{handed_on, visit}
use Rattle.box_chains.specs.Desks.{HasMore, Tracing, list_of, samples}
use Rattle.box_chains.specs.Outcomes.{AreInRoot}
use Rattle.box_descent.specs.Founds.{child_tape}
use Rattle.box_descent.specs.Looked.{CanTrace, IsPlaced, looked}
use Rattle.box_descent.specs.Plans.{asked, children, first_group, group_size, is_traced, second_group}
use Rattle.box_descent.specs.Runs.{Group, Stops}
use Rattle.box_descent.specs.declared.plan.Plan.{Plan}
use Rattle.live_clauses.specs.Live.{IsWhole}
use Rattle.box_descent.proofs.Descents.{back, children-placed, children-shorter, first-is, fits-same, group-same, moved, next-is, on_err, second-is, split-is, stops-same}
use Rattle.box_descent.proofs.Longest.{few-dropped, few-kept, few-taken, longest, longest-at, longest-drop, longest-kept, longest-take, may-more, placed-may}
use Rattle.box_descent.proofs.RunLemmas.{group-more}
use Rattle.box_descent.proofs.Traced.{AreTold, asked-in_root, byte-most, children-given, found-next, told-among, traced-more}
use Rattle.box_descent.proofs.descent.+descent.Goals as goal

pub descend-visit_boxes-done-requires : goal.descend-visit_boxes-done-requires
descend-visit_boxes-done-requires g t c κs within =
    let m = g.V.Visitor.meaning in
    let desk = c.args.desk.now in
    let boxes = c.args.boxes.now in
    let test = m.wanted (looked m.plan desk) c.args.visitor.now in
    let kept = c.as_slice.ensures.value ∙ c.wanted_among-wanted.ensures in
    let few : length c.as_slice.result.now ≤ length boxes = omega (arith, few-kept test boxes, ap length kept) in (
      omega (arith, c.decreases, longest-kept test boxes, ap longest kept),
      (
        within.0,
        (
          within.1,
          (
            c.requires.laws,
            (
              subst (All (IsPlaced desk)) (sym kept) (All-filter test (IsPlaced desk) boxes c.requires.placed),
              (
                record { tape = c.requires.traces.tape; among = c.requires.traces.among; room = c.requires.traces.room; whole = λ many. c.requires.traces.whole (omega (arith, many, few)) },
                (
                  omega (arith, few, c.requires.few),
                  subst (m.fits (looked m.plan desk) c.args.visitor.now (list_of desk c.args.tape)) (sym kept) c.requires.fit,
                ),
              ),
            ),
          ),
        ),
      ),
    )

pub visit_box-visit_children-requires : goal.visit_box-visit_children-requires
visit_box-visit_children-requires g t c κs within =
    let m = g.V.Visitor.meaning in
    let desk = c.args.desk.now in
    let on = children-given m.plan desk c.args.b c.args.given c.in-Some.pruned c.args.found c.requires.found
    (sym c.in-Some.is ∙ c.child_tape.ensures ∙ ap (λ (p : Plan). child_tape p desk c.args.b c.args.found) c.plan.ensures) in
    (omega (arith, c.decreases), (within.0, (within.1, (c.requires.laws, (c.requires.may, (on.gives, (on.whole, (on.long, c.requires.next))))))))

pub visit_boxes-trace-requires-clause-whole : goal.visit_boxes-trace-requires-clause-whole
visit_boxes-trace-requires-clause-whole g t c = λ many.
    let m = g.V.Visitor.meaning in
    let desk = c.args.desk.now in
    let boxes = c.args.boxes.now in
    let plan = c.plan-plan.result in
    let some = filter (is_traced plan) boxes in
    c.requires.traces.whole (omega (arith, many, ap length (c.as_slice.ensures.value ∙ c.asked_among-asked.ensures), length-map some (asked plan (looked plan desk)), few-kept (is_traced plan) boxes))

pub visit_boxes-trace-requires-clause-within : goal.visit_boxes-trace-requires-clause-within
visit_boxes-trace-requires-clause-within g t c =
    subst (AreInRoot (samples c.args.desk.now)) (sym (c.as_slice.ensures.value ∙ c.asked_among-asked.ensures)) (asked-in_root c.plan-plan.result c.args.desk.now c.args.boxes.now c.requires.placed)

pub visit_boxes-found_at-found-requires : goal.visit_boxes-found_at-found-requires
visit_boxes-found_at-found-requires g t c = λ is-traced.
    let m = g.V.Visitor.meaning in
    let b = c.index-boxes-n.result in
    told-among m.plan c.args.desk.now c.loop-n.desk.lists c.args.tape c.loop-n.n c.loop-n.at c.args.boxes.now b c.as_slice-traced.result.now c.loop-n.invariant.told
    (omega (arith, c.loop-n-test.true)) c.index-boxes-n.is c.loop-n.invariant.at (ap (λ (p : Plan). is_traced p b) (sym c.plan-plan.ensures) ∙ is-traced)

pub visit_boxes-visit_box-requires : goal.visit_boxes-visit_box-requires
visit_boxes-visit_box-requires g t c κs within =
    let m = g.V.Visitor.meaning in
    let desk = c.args.desk.now in
    let here = c.loop-n.desk in
    let boxes = c.args.boxes.now in
    let n = c.loop-n.n in
    let b = c.index-boxes-n.result in
    let was = c.loop-n.invariant in
    let small : n < length boxes = omega (arith, c.loop-n-test.true) in
    let placed : IsPlaced desk b = subst (IsPlaced desk) (sym c.index-boxes-n.is) (All-get_or (IsPlaced desk) boxes n b small c.requires.placed) in
    let may = placed-may m.plan desk b c.args.tape placed c.requires.traces.tape c.requires.traces.among c.requires.traces.room in
    let plan-is : (x : Bool) → is_traced m.plan b ≡ x → is_traced c.plan-plan.result b ≡ x = λ x e. ap (λ (p : Plan). is_traced p b) c.plan-plan.ensures ∙ e in (
      omega (arith, longest-at boxes n b small c.index-boxes-n.is, c.decreases),
      (
        within.0,
        (
          within.1,
          (
            c.requires.laws,
            (
              may-more m.plan desk here b c.args.tape was.more may,
              (
                found-next m.plan desk here c.args.tape n c.loop-n.at boxes b c.as_slice-traced.result.now c.found_at-found.result was.more may was.told small c.index-boxes-n.is was.at
                    (λ e. c.found_at-found.ensures.untraced (plan-is false e)) (λ t e there. c.found_at-found.ensures.traced t (plan-is true e) there),
                (
                  drop (n + 1) boxes,
                  back m.plan (λ d l. m.fits d c.loop-n.visitor l (b ∷ drop (n + 1) boxes)) desk here c.args.tape was.more c.requires.traces.among
                      (next-is m (looked m.plan desk) c.loop-n.visitor (list_of desk c.args.tape) boxes n b small c.index-boxes-n.is was.fit),
                ),
              ),
            ),
          ),
        ),
      ),
    )

pub visit_boxes-returns-in_err-visit_box-clause-halted :
    goal.visit_boxes-returns-in_err-visit_box-clause-halted
visit_boxes-returns-in_err-visit_box-clause-halted g t c =
    let m = g.V.Visitor.meaning in
    let desk = c.args.desk.now in
    let boxes = c.args.boxes.now in
    let n = c.loop-n.n in
    let b = c.index-boxes-n.result in
    let was = c.loop-n.invariant in
    let small : n < length boxes = omega (arith, c.loop-n-test.true) in
    on_err c.from_residual-in_err-visit_box.result _ (inr (record {
      place = n;
      box = b;
      there = slice_get-get_or boxes n b small ∙ ap (λ x. Some x) (sym c.index-boxes-n.is);
      mid = c.loop-n.visitor;
      tally = c.loop-n.tally;
      before = was.drawn;
      left = moved m.plan (λ d l. m.halts d c.loop-n.visitor c.visit_box.new.visitor (visit b l) c.loop-n.tally c.visit_box.new.tally) desk c.loop-n.desk c.args.tape was.more c.requires.traces.among c.in_err-visit_box.ensures.halted;
    }))

pub visit_boxes-overflow_add-at : goal.visit_boxes-overflow_add-at
visit_boxes-overflow_add-at g t c =
    let m = g.V.Visitor.meaning in
    let first = take c.loop-n.n c.args.boxes.now in
    omega (arith, c.loop-n.invariant.at, few-kept (is_traced m.plan) first, few-taken c.loop-n.n c.args.boxes.now, c.requires.few, c.from-at.ensures, byte-most c.is_traced.result)

pub visit_boxes-loop-n-preserved : goal.visit_boxes-loop-n-preserved
visit_boxes-loop-n-preserved g t c =
    let m = g.V.Visitor.meaning in
    let desk = c.args.desk.now in
    let d = looked m.plan desk in
    let tape = list_of desk c.args.tape in
    let boxes = c.args.boxes.now in
    let n = c.loop-n.n in
    let b = c.index-boxes-n.result in
    let was = c.loop-n.invariant in
    let small : n < length boxes = omega (arith, c.loop-n-test.true) in
    let after = c.in_ok-visit_box.ensures in
    let drawn = moved m.plan (λ d l. m.draws d c.loop-n.visitor c.visit_box.new.visitor (visit b l) c.loop-n.tally c.visit_box.new.tally) desk c.loop-n.desk c.args.tape was.more c.requires.traces.among after.drawn in
    record {
      more = subst (HasMore desk) (sym after.kept) was.more;
      told = subst (λ (x : Tracing). AreTold m.plan desk x.lists c.args.tape boxes c.as_slice-traced.result.now) (sym after.kept) was.told;
      at = traced-more m.plan boxes n c.loop-n.at c.from-at.result b small c.index-boxes-n.is was.at
          (c.from-at.ensures ∙ ap bool_byte (c.is_traced.ensures ∙ ap (λ (p : Plan). is_traced p b) c.plan-plan.ensures));
      fit = c.requires.laws.next d c.loop-n.visitor c.visit_box.new.visitor tape b (drop (n + 1) boxes) c.loop-n.tally c.visit_box.new.tally
          (next-is m d c.loop-n.visitor tape boxes n b small c.index-boxes-n.is was.fit) drawn;
      drawn = group-more m d tape boxes c.args.visitor.now c.loop-n.visitor c.visit_box.new.visitor n b c.args.tally.now c.loop-n.tally c.visit_box.new.tally small c.index-boxes-n.is was.drawn drawn;
    }

pub visit_children-descend-requires : goal.visit_children-descend-requires
visit_children-descend-requires g t c κs within =
    let m = g.V.Visitor.meaning in
    let desk = c.args.desk.now in
    let d = looked m.plan desk in
    let b = c.args.b in
    let v = visit b (list_of desk c.args.given) in
    let a = c.args.visitor.now in
    let mid = c.open.new.self in
    let laws = c.requires.laws in
    let may = c.requires.may in
    let gives = c.requires.pruned in
    let kids = c.as_slice-children.result.now in
    let first = first-is m.plan c.plan-plan.result b kids c.group_size-first.result c.plan-plan.ensures (c.as_slice-children.ensures.value ∙ c.children-children.ensures) c.group_size-first.ensures.size in
    let split = split-is m desk b c.args.given a c.requires.next.0 may c.requires.long c.requires.next.1 in
    let opened = subst (λ o. IfSome o (m.opens d a mid v)) c.in-Some.is c.in_ok-mark.ensures.opened in
    let boxes = take c.group_size-first.result kids in
    let whole : 2 ≤ length boxes → IsWhole (list_of desk c.args.pruned) = λ many. c.requires.whole in (
      omega (arith, c.decreases, ap longest first, longest-take (group_size m.plan b) (children m.plan b), children-shorter m.plan d v laws.some may.visit_is.box c.requires.long refl),
      (
        within.0,
        (
          within.1,
          (
            laws,
            (
              subst (All (IsPlaced desk)) (sym first) (All-take (IsPlaced desk) (group_size m.plan b) (children m.plan b) (children-placed m.plan desk b c.args.given laws.some may)),
              (
                record { tape = gives.may.visit_is.tape; among = gives.may.among; room = gives.may.room; whole = whole },
                (
                  omega (arith, few-taken c.group_size-first.result kids, c.as_slice-children.ensures.fits),
                  fits-same m d mid (list_of desk c.args.pruned) (handed_on d v) boxes (first_group m.plan b) gives.is first (laws.begins d a mid v c.in-Some.mark split opened),
                ),
              ),
            ),
          ),
        ),
      ),
    )

pub visit_children-descend-requires-2 : goal.visit_children-descend-requires-2
visit_children-descend-requires-2 g t c κs within =
    let m = g.V.Visitor.meaning in
    let desk = c.args.desk.now in
    let d = looked m.plan desk in
    let b = c.args.b in
    let v = visit b (list_of desk c.args.given) in
    let a = c.args.visitor.now in
    let mid = c.open.new.self in
    let between = c.descend.new.visitor in
    let laws = c.requires.laws in
    let may = c.requires.may in
    let gives = c.requires.pruned in
    let kids = c.as_slice-children.result.now in
    let size = c.group_size-first.result in
    let are = c.as_slice-children.ensures.value ∙ c.children-children.ensures in
    let first = first-is m.plan c.plan-plan.result b kids size c.plan-plan.ensures are c.group_size-first.ensures.size in
    let second = second-is m.plan c.plan-plan.result b kids size c.plan-plan.ensures are c.group_size-first.ensures.size in
    let split = split-is m desk b c.args.given a c.requires.next.0 may c.requires.long c.requires.next.1 in
    let opened = subst (λ o. IfSome o (m.opens d a mid v)) c.in-Some.is c.in_ok-mark.ensures.opened in
    let boxes = take (length kids - size) (drop size kids) in
    let whole : 2 ≤ length boxes → IsWhole (list_of desk c.args.pruned) = λ many. c.requires.whole in
    let kept = sym c.in_ok-descend.ensures.kept in
    let done = group-same m d (list_of desk c.args.pruned) (handed_on d v) (take size kids) (first_group m.plan b) mid between c.args.tally.now c.descend.new.tally gives.is first c.in_ok-descend.ensures.drawn in (
      omega (arith, c.decreases, ap longest second, longest-drop (group_size m.plan b) (children m.plan b), children-shorter m.plan d v laws.some may.visit_is.box c.requires.long refl),
      (
        within.0,
        (
          within.1,
          (
            laws,
            (
              subst (λ (x : Tracing). All (IsPlaced x) boxes) kept (subst (All (IsPlaced desk)) (sym second) (All-drop (IsPlaced desk) (group_size m.plan b) (children m.plan b) (children-placed m.plan desk b c.args.given laws.some may))),
              (
                subst (λ (x : Tracing). CanTrace x c.args.pruned (length boxes)) kept (record { tape = gives.may.visit_is.tape; among = gives.may.among; room = gives.may.room; whole = whole }),
                (
                  omega (arith, few-taken (length kids - size) (drop size kids), few-dropped size kids, c.as_slice-children.ensures.fits),
                  subst (λ (x : Tracing). m.fits (looked m.plan x) between (list_of x c.args.pruned) (filter (m.wanted (looked m.plan x) between) boxes)) kept
                      (fits-same m d between (list_of desk c.args.pruned) (handed_on d v) boxes (second_group m.plan b) gives.is second
                      (laws.resumes d a mid between v c.in-Some.mark c.args.tally.now c.descend.new.tally split opened done)),
                ),
              ),
            ),
          ),
        ),
      ),
    )

pub visit_children-returns-in_err-descend-2-clause-halted :
    goal.visit_children-returns-in_err-descend-2-clause-halted
visit_children-returns-in_err-descend-2-clause-halted g t c =
    let m = g.V.Visitor.meaning in
    let desk = c.args.desk.now in
    let d = looked m.plan desk in
    let b = c.args.b in
    let v = visit b (list_of desk c.args.given) in
    let a = c.args.visitor.now in
    let mid = c.open.new.self in
    let between = c.descend.new.visitor in
    let last = c.descend-2.new.visitor in
    let gives = c.requires.pruned in
    let kids = c.as_slice-children.result.now in
    let size = c.group_size-first.result in
    let are = c.as_slice-children.ensures.value ∙ c.children-children.ensures in
    let first = first-is m.plan c.plan-plan.result b kids size c.plan-plan.ensures are c.group_size-first.ensures.size in
    let second = second-is m.plan c.plan-plan.result b kids size c.plan-plan.ensures are c.group_size-first.ensures.size in
    let split = split-is m desk b c.args.given a c.requires.next.0 c.requires.may c.requires.long c.requires.next.1 in
    let opened = subst (λ o. IfSome o (m.opens d a mid v)) c.in-Some.is c.in_ok-mark.ensures.opened in
    let boxes = take (length kids - size) (drop size kids) in
    let done = group-same m d (list_of desk c.args.pruned) (handed_on d v) (take size kids) (first_group m.plan b) mid between c.args.tally.now c.descend.new.tally gives.is first c.in_ok-descend.ensures.drawn in
    on_err c.from_residual-in_err-descend-2.result _
    (c.requires.laws.stops d a mid last v c.in-Some.mark c.args.tally.now c.descend-2.new.tally split opened (inr (record {
      mid = between;
      tally = c.descend.new.tally;
      first = done;
      second = stops-same m d (list_of desk c.args.pruned) (handed_on d v) boxes (second_group m.plan b) between last c.descend.new.tally c.descend-2.new.tally gives.is second
          (subst (λ (x : Tracing). Stops m (looked m.plan x) (list_of x c.args.pruned) (filter (m.wanted (looked m.plan x) between) boxes) between last c.descend.new.tally c.descend-2.new.tally) c.in_ok-descend.ensures.kept c.in_err-descend-2.ensures.halted);
    })))

pub visit_children-returns-clause-drawn : goal.visit_children-returns-clause-drawn
visit_children-returns-clause-drawn g t c =
    let m = g.V.Visitor.meaning in
    let desk = c.args.desk.now in
    let d = looked m.plan desk in
    let b = c.args.b in
    let v = visit b (list_of desk c.args.given) in
    let a = c.args.visitor.now in
    let mid = c.open.new.self in
    let between = c.descend.new.visitor in
    let last = c.descend-2.new.visitor in
    let gives = c.requires.pruned in
    let kids = c.as_slice-children.result.now in
    let size = c.group_size-first.result in
    let are = c.as_slice-children.ensures.value ∙ c.children-children.ensures in
    let first = first-is m.plan c.plan-plan.result b kids size c.plan-plan.ensures are c.group_size-first.ensures.size in
    let second = second-is m.plan c.plan-plan.result b kids size c.plan-plan.ensures are c.group_size-first.ensures.size in
    let split = split-is m desk b c.args.given a c.requires.next.0 c.requires.may c.requires.long c.requires.next.1 in
    let opened = subst (λ o. IfSome o (m.opens d a mid v)) c.in-Some.is c.in_ok-mark.ensures.opened in
    let boxes = take (length kids - size) (drop size kids) in
    let done = group-same m d (list_of desk c.args.pruned) (handed_on d v) (take size kids) (first_group m.plan b) mid between c.args.tally.now c.descend.new.tally gives.is first c.in_ok-descend.ensures.drawn in
    c.requires.laws.closes d a mid last c.close.new.self v c.in-Some.mark c.args.tally.now c.descend-2.new.tally split opened (record {
      mid = between;
      tally = c.descend.new.tally;
      first = done;
      second = group-same m d (list_of desk c.args.pruned) (handed_on d v) boxes (second_group m.plan b) between last c.descend.new.tally c.descend-2.new.tally gives.is second
          (subst (λ (x : Tracing). Group m (looked m.plan x) (list_of x c.args.pruned) (filter (m.wanted (looked m.plan x) between) boxes) between last (filter (m.wanted (looked m.plan x) between) boxes) c.descend.new.tally c.descend-2.new.tally) c.in_ok-descend.ensures.kept c.in_ok-descend-2.ensures.drawn);
    }) c.close.ensures
