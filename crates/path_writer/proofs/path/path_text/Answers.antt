-- The next loop.
use Rattle.std.proofs.Common.{◌≡◌, ℕ, ◌+◌, ◌-◌, ◌<◌, ◌≤◌, All, ap, drop, get_or, length, map, rules, subst, sym, ◌∙◌}
use Rattle.std.proofs.lemmas.List.Elements.{All-drop, All-take}
use Rattle.plane_loops.specs.Contours.{Contour}
use Rattle.path_writer.specs.Paths.{path_line, path_of, vertex_at}
use Rattle.path_writer.specs.Written.{ArePiecesTo, IsInPlane}
use Rattle.path_writer.proofs.PathLaws.{lines_all, next_line, next_piece, paths_are_closed}
use Rattle.path_writer.proofs.path.path_text.Goals as goal

pub slice_bounds-numbers-end : goal.slice_bounds-numbers-end
slice_bounds-numbers-end c =
    let next = next_piece c.loop-end.start (length c.args.contour.now.order) c.args.contour.now.ends c.loop-end.end-index (search rules) c.loop-end.invariant.pieces in
    search (rules, next.0, next.1)

pub push_loop-requires-clause-placed : goal.push_loop-requires-clause-placed
push_loop-requires-clause-placed c =
    let vertices : c.deref-in-loop-end.result.now ≡ c.args.contour.now.vertices = c.deref-in-loop-end.ensures.value ∙ ap (λ (x : Contour). x.vertices) c.contour.view_is in
    subst (λ w. All (IsInPlane w) c.deref-in-loop-end.result.now) (sym c.loop-end.invariant.places) (subst (All (IsInPlane c.args.view.now)) (sym vertices) c.requires.placed)

pub push_loop-requires-clause-known : goal.push_loop-requires-clause-known
push_loop-requires-clause-known c =
    let order : c.deref.result.now ≡ c.args.contour.now.order = c.deref.ensures.value ∙ ap (λ (x : Contour). x.order) c.contour.view_is in
    let vertices : c.deref-in-loop-end.result.now ≡ c.args.contour.now.vertices = c.deref-in-loop-end.ensures.value ∙ ap (λ (x : Contour). x.vertices) c.contour.view_is in
    let known : All (λ k. k < length c.args.contour.now.vertices) c.deref.result.now = subst (All (λ k. k < length c.args.contour.now.vertices)) (sym order) c.requires.known in
    let below : ℕ → Type 0 = λ k. k < length c.deref-in-loop-end.result.now in
    All-take below (get_or c.deref-end-items.result.now c.loop-end.end-index 0 - c.loop-end.start) (drop c.loop-end.start c.deref.result.now)
    (All-drop below c.loop-end.start c.deref.result.now (subst (λ l. All (λ k. k < length l) c.deref.result.now) (sym vertices) known))

pub loop-end-preserved : goal.loop-end-preserved
loop-end-preserved c =
    let contour = c.args.contour.now in
    let i = c.loop-end.end-index in
    let before = c.loop-end.invariant in
    let ends : c.deref-end-items.result.now ≡ contour.ends = c.deref-end-items.ensures.value ∙ ap (λ (x : Contour). x.ends) c.contour.view_is in
    let order : c.deref.result.now ≡ contour.order = c.deref.ensures.value ∙ ap (λ (x : Contour). x.order) c.contour.view_is in
    let vertices : c.deref-in-loop-end.result.now ≡ contour.vertices = c.deref-in-loop-end.ensures.value ∙ ap (λ (x : Contour). x.vertices) c.contour.view_is in
    let within : i < length contour.ends = subst (λ l. i < length l) ends c.loop-end-test.true in
    let next = next_piece c.loop-end.start (length contour.order) contour.ends i within before.pieces in
    record {
      places = before.places;
      pieces = subst (λ k. ArePiecesTo k (length contour.order) (drop (i + 1) contour.ends)) (ap (λ l. get_or l i 0) (sym ends)) next.2;
      lines = next_line c.args.view.now c.new-places.result contour c.deref-in-loop-end.result.now c.deref.result.now c.deref-end-items.result.now c.loop-end.start i c.loop-end.text.items c.push_loop.new.text.items before.places vertices order ends c.loop-end-test.true c.in_ok-push_loop.ensures before.lines;
    }

pub returns-clause-closed : goal.returns-clause-closed
returns-clause-closed c =
    let contour = c.args.contour.now in
    let view = c.args.view.now in
    let ends : c.deref-end-items.result.now ≡ contour.ends = c.deref-end-items.ensures.value ∙ ap (λ (x : Contour). x.ends) c.contour.view_is in
    let none : length contour.ends ≤ c.loop-end.end-index = subst (λ l. length l ≤ c.loop-end.end-index) ends c.loop-end-test.false in
    let written = lines_all c.loop-end.text.items (path_of view contour) (λ loop. path_line view (map (vertex_at contour.vertices) loop)) c.loop-end.start contour.order contour.ends c.loop-end.end-index none c.loop-end.invariant.lines in
    paths_are_closed view contour c.loop-end.text.items written
