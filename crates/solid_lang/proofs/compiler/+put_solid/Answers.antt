-- The steps of a solid are those of its parts, one behind the other.
use Rattle.std.proofs.Common.{◌≡◌, ℕ, ◌-◌, ap, sym, subst, refl, ◌∙◌}
use Rattle.std.proofs.lemmas.Result.{on_ok_weaker}
use Rattle.solid_lang.specs.Placing.{Each, Fits}
use Rattle.solid_lang.specs.Solids.{tree, Move, Scale, Union, Intersect, Difference}
use Rattle.solid_lang.specs.Steps.{difference_steps, intersect_steps, move_steps, moved_axes, scale_steps, scaled_axes, solid_steps, union_steps}
use Rattle.solid_lang.proofs.FitLemmas.{box_fits, cylinder_fits}
use Rattle.solid_lang.proofs.Joining.{before_solid, both_solids}
use Rattle.solid_lang.proofs.compiler.+put_solid.Goals as goal

pub put-requires-in-Block-clause-fit : goal.put-requires-in-Block-clause-fit
put-requires-in-Block-clause-fit g t c =
    subst (Each Fits c.args.n) (sym c.block.ensures) (box_fits c.args.n c.args.at _ _ _ c.requires.axes)

pub put-requires-in-Cylinder-clause-fit : goal.put-requires-in-Cylinder-clause-fit
put-requires-in-Cylinder-clause-fit g t c =
    subst (Each Fits c.args.n) (sym c.cylinder.ensures) (cylinder_fits c.args.n c.args.at _ _ c.requires.axes)

pub returns-in_ok-next-in-Move-clause-grows : goal.returns-in_ok-next-in-Move-clause-grows
returns-in_ok-next-in-Move-clause-grows g t c =
    let n = c.args.n in
    let at = c.args.at in
    let grows = g.S.StepSink.grows c.args.sink.now c.put_solid.new.sink n in
    on_ok_weaker c.put_solid.result
    (λ e.
    subst (λ s. grows (solid_steps (tree s) n at)) (sym c.in-Move.is)
    (subst (λ v. grows (solid_steps (Move c.in-Move.x c.in-Move.y c.in-Move.z (tree v)) n at)) c.deref.ensures
    (before_solid g.S.StepSink.grows g.met.S.StepSink.adds_up (tree c.deref.result.now) n _ c.in_ok-next-in-Move.next c.moved_axes.result (moved_axes n) c.moved.result (move_steps n at c.in-Move.x c.in-Move.y c.in-Move.z) _ _ _ refl c.moved.ensures c.moved_axes.ensures c.in_ok-next-in-Move.ensures.grows c.in_ok-next-in-Move.ensures.end e)))
    c.put_solid.ensures.grows

pub returns-in_ok-next-in-Scale-clause-grows : goal.returns-in_ok-next-in-Scale-clause-grows
returns-in_ok-next-in-Scale-clause-grows g t c =
    let n = c.args.n in
    let at = c.args.at in
    let grows = g.S.StepSink.grows c.args.sink.now c.put_solid-in-Scale.new.sink n in
    on_ok_weaker c.put_solid-in-Scale.result
    (λ e.
    subst (λ s. grows (solid_steps (tree s) n at)) (sym c.in-Scale.is)
    (subst (λ v. grows (solid_steps (Scale c.in-Scale.k (tree v)) n at)) c.deref-in-Scale.ensures
    (before_solid g.S.StepSink.grows g.met.S.StepSink.adds_up (tree c.deref-in-Scale.result.now) n _ c.in_ok-next-in-Scale.next c.scaled_axes.result (scaled_axes n) c.scaled.result (scale_steps n at c.in-Scale.k) _ _ _ refl c.scaled.ensures c.scaled_axes.ensures c.in_ok-next-in-Scale.ensures.grows c.in_ok-next-in-Scale.ensures.end e)))
    c.put_solid-in-Scale.ensures.grows

pub returns-in_ok-second-in-Union-clause-grows : goal.returns-in_ok-second-in-Union-clause-grows
returns-in_ok-second-in-Union-clause-grows g t c =
    let n = c.args.n in
    let at = c.args.at in
    let grows = g.S.StepSink.grows c.args.sink.now c.put-in-Union.new.self n in
    on_ok_weaker c.put-in-Union.result
    (λ e.
    subst (λ s. grows (solid_steps (tree s) n at)) (sym c.in-Union.is)
    (subst (λ v. grows (solid_steps (Union (tree c.in-Union.a.value) (tree v)) n at)) c.deref-in-Union-2.ensures
    (subst (λ v. grows (solid_steps (Union (tree v) (tree c.deref-in-Union-2.result.now)) n at)) c.deref-in-Union.ensures
    (both_solids g.S.StepSink.grows g.met.S.StepSink.adds_up (tree c.deref-in-Union.result.now) (tree c.deref-in-Union-2.result.now) n _ _ at (λ first second. union_steps (first - 1) (second - 1)) c.union.result _ _ _ _
    c.in_ok-first-in-Union.ensures.grows c.in_ok-first-in-Union.ensures.end c.in_ok-second-in-Union.ensures.grows c.in_ok-second-in-Union.ensures.end c.union.ensures e))))
    c.put-in-Union.ensures.grows

pub returns-in_ok-second-in-Intersect-clause-grows : goal.returns-in_ok-second-in-Intersect-clause-grows
returns-in_ok-second-in-Intersect-clause-grows g t c =
    let n = c.args.n in
    let at = c.args.at in
    let grows = g.S.StepSink.grows c.args.sink.now c.put-in-Intersect.new.self n in
    on_ok_weaker c.put-in-Intersect.result
    (λ e.
    subst (λ s. grows (solid_steps (tree s) n at)) (sym c.in-Intersect.is)
    (subst (λ v. grows (solid_steps (Intersect (tree c.in-Intersect.a.value) (tree v)) n at)) c.deref-in-Intersect-2.ensures
    (subst (λ v. grows (solid_steps (Intersect (tree v) (tree c.deref-in-Intersect-2.result.now)) n at)) c.deref-in-Intersect.ensures
    (both_solids g.S.StepSink.grows g.met.S.StepSink.adds_up (tree c.deref-in-Intersect.result.now) (tree c.deref-in-Intersect-2.result.now) n _ _ at (λ first second. intersect_steps (first - 1) (second - 1)) c.intersection.result _ _ _ _
    c.in_ok-first-in-Intersect.ensures.grows c.in_ok-first-in-Intersect.ensures.end c.in_ok-second-in-Intersect.ensures.grows c.in_ok-second-in-Intersect.ensures.end c.intersection.ensures e))))
    c.put-in-Intersect.ensures.grows

pub returns-in_ok-second-in-Difference-clause-grows : goal.returns-in_ok-second-in-Difference-clause-grows
returns-in_ok-second-in-Difference-clause-grows g t c =
    let n = c.args.n in
    let at = c.args.at in
    let grows = g.S.StepSink.grows c.args.sink.now c.put-in-Difference.new.self n in
    on_ok_weaker c.put-in-Difference.result
    (λ e.
    subst (λ s. grows (solid_steps (tree s) n at)) (sym c.in-Difference.is)
    (subst (λ v. grows (solid_steps (Difference (tree c.in-Difference.a.value) (tree v)) n at)) c.deref-in-Difference-2.ensures
    (subst (λ v. grows (solid_steps (Difference (tree v) (tree c.deref-in-Difference-2.result.now)) n at)) c.deref-in-Difference.ensures
    (both_solids g.S.StepSink.grows g.met.S.StepSink.adds_up (tree c.deref-in-Difference.result.now) (tree c.deref-in-Difference-2.result.now) n _ _ at (λ first second. difference_steps second (first - 1) (second - 1)) c.difference.result _ _ _ _
    c.in_ok-first-in-Difference.ensures.grows c.in_ok-first-in-Difference.ensures.end c.in_ok-second-in-Difference.ensures.grows c.in_ok-second-in-Difference.ensures.end c.difference.ensures e))))
    c.put-in-Difference.ensures.grows
