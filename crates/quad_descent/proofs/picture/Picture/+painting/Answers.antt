use Rattle.std.proofs.Common.{◌≡◌, ◌<◌, ◌+◌, ◌-◌, ◌*◌, ◌∷◌, ◌++◌, [], append-nil, arith, ap, sym, subst, ◌∙◌, refl, length}
use Rattle.std.specs.Prelude.{nat_lt, true, false}
use Rattle.box_chains.specs.Chains.{handed_on, sides, visit}
use Rattle.view_places.specs.Boxes.{halves_x}
use Rattle.box_chains.proofs.Theorems.{laws}
use Rattle.quad_descent.specs.Drawn.{AreDrawnAt, IsDrawnAt}
use Rattle.quad_descent.specs.Nodes.{nodes_of}
use Rattle.quad_descent.specs.Painting.{IsBand, Paints, byte_at, covers, meets}
use Rattle.quad_descent.specs.Raster.{raster, raster_root}
use Rattle.quad_descent.proofs.PaintLaws.{Paints-then, unmet}
use Rattle.quad_descent.proofs.Painted.{Says, box-says, box-within, byte-decided, halves-drawn, handed-values, head-drawn, rows-same, short-side}
use Rattle.quad_descent.proofs.RowParts.{behind-first, box-shorter, column_turns, covers-columns, covers-rows, first-drawn, first-there, itself-in, left-in, left-is, left-shorter, left_of, lower-in, lower-is, lower-shorter, lower_of, middle-none, middle-some, one-column, one-row, part-drawn, right-in, right-is, right-shorter, right_of, thin, two-columns, two-rows, upper-in, upper-is, upper-shorter, upper_of, whole-shorter}
use Rattle.quad_descent.proofs.picture.Picture.+painting.Goals as goal

pub paint_box-index-requires : goal.paint_box-index-requires
paint_box-index-requires t c =
    let all = c.self.invariant.0 ∙ ap (λ s. nodes_of (raster s.view) (raster_root s.view s.list)) c.self.view_is in
    omega (arith, c.self.inside.nodes.ok, (box-within laws c.args.self.now.view c.args.self.now.list c.self.inside.nodes.items c.args.at c.args.b c.requires.drawn all).0)

pub paint_box-fill_box-requires-clause-byte : goal.paint_box-fill_box-requires-clause-byte
paint_box-fill_box-requires-clause-byte t c = λ p h e.
    let view = c.args.self.now.view in
    let list = c.args.self.now.list in
    let all = c.self.invariant.0 ∙ ap (λ s. nodes_of (raster s.view) (raster_root s.view s.list)) c.self.view_is in
    let says = box-says laws view list c.self.inside.nodes.items c.args.at c.args.b c.requires.drawn c.index.result.now all c.index.ensures in
    byte-decided laws view list c.args.band.row c.args.at p c.args.b c.requires.drawn false
    (subst (λ n. Says (raster view) (visit c.args.b c.requires.drawn.received) n (head-drawn laws view list c.args.at c.args.b c.requires.drawn).below) c.in-Outside.is says) e

pub paint_box-fill_box-requires-in-Inside-clause-byte : goal.paint_box-fill_box-requires-in-Inside-clause-byte
paint_box-fill_box-requires-in-Inside-clause-byte t c = λ p h e.
    let view = c.args.self.now.view in
    let list = c.args.self.now.list in
    let all = c.self.invariant.0 ∙ ap (λ s. nodes_of (raster s.view) (raster_root s.view s.list)) c.self.view_is in
    let says = box-says laws view list c.self.inside.nodes.items c.args.at c.args.b c.requires.drawn c.index.result.now all c.index.ensures in
    byte-decided laws view list c.args.band.row c.args.at p c.args.b c.requires.drawn true
    (subst (λ n. Says (raster view) (visit c.args.b c.requires.drawn.received) n (head-drawn laws view list c.args.at c.args.b c.requires.drawn).below) c.in-Inside.is says) e

pub paint_box-paint_leaf-requires-clause-low : goal.paint_box-paint_leaf-requires-clause-low
paint_box-paint_leaf-requires-clause-low t c =
    let view = c.args.self.now.view in
    let list = c.args.self.now.list in
    let all = c.self.invariant.0 ∙ ap (λ s. nodes_of (raster s.view) (raster_root s.view s.list)) c.self.view_is in
    let says = box-says laws view list c.self.inside.nodes.items c.args.at c.args.b c.requires.drawn c.index.result.now all c.index.ensures in
    let leaf = subst (λ n. Says (raster view) (visit c.args.b c.requires.drawn.received) n (head-drawn laws view list c.args.at c.args.b c.requires.drawn).below) c.in-Leaf.is says in
    short-side c.args.b leaf.short

pub paint_box-paint_leaf-requires-clause-rows : goal.paint_box-paint_leaf-requires-clause-rows
paint_box-paint_leaf-requires-clause-rows t c =
    let view = c.args.self.now.view in
    let list = c.args.self.now.list in
    let all = c.self.invariant.0 ∙ ap (λ s. nodes_of (raster s.view) (raster_root s.view s.list)) c.self.view_is in
    let says = box-says laws view list c.self.inside.nodes.items c.args.at c.args.b c.requires.drawn c.index.result.now all c.index.ensures in
    let leaf = subst (λ n. Says (raster view) (visit c.args.b c.requires.drawn.received) n (head-drawn laws view list c.args.at c.args.b c.requires.drawn).below) c.in-Leaf.is says in
    leaf.is ∙ rows-same view c.args.b (handed_on (raster view) (visit c.args.b c.requires.drawn.received)) list c.requires.drawn.visit_is.box (handed-values laws view list c.args.at c.args.b c.requires.drawn)

pub paint_box-paint_halves-requires : goal.paint_box-paint_halves-requires
paint_box-paint_halves-requires t c =
    let view = c.args.self.now.view in
    let list = c.args.self.now.list in
    let all = c.self.invariant.0 ∙ ap (λ s. nodes_of (raster s.view) (raster_root s.view s.list)) c.self.view_is in
    let head = head-drawn laws view list c.args.at c.args.b c.requires.drawn in
    let says = box-says laws view list c.self.inside.nodes.items c.args.at c.args.b c.requires.drawn c.index.result.now all c.index.ensures in
    let split = subst (λ n. Says (raster view) (visit c.args.b c.requires.drawn.received) n head.below) c.in-Split.is says in
    (omega (arith, c.decreases), (halves-drawn laws view list c.args.at c.args.b c.requires.drawn head.node head.below head.is split.is, (split.long, c.requires.band)))

pub paint_columns-returns-then-not-meets : goal.paint_columns-returns-then-not-meets
paint_columns-returns-then-not-meets t c =
    unmet c.args.self.now.view c.args.band (length c.args.pixels.now) c.args.rows (byte_at c.args.self.now.view c.args.self.now.list c.args.band.row) c.args.pixels.now c.requires.band refl
    (sym c.meets.ensures ∙ c.if-not-meets.true)

pub paint_columns-paint_box-requires : goal.paint_columns-paint_box-requires
paint_columns-paint_box-requires t c =
    let view = c.args.self.now.view in
    let list = c.args.self.now.list in
    let rows = c.args.rows in
    let is = c.requires.drawn.visit_is.box in
    let cut = middle-some c.rows.inside.x0 c.rows.inside.x1 c.in-Some.x c.middle.result c.middle.ensures c.in-Some.is in
    let long = ap (λ a. nat_lt 8 (a.x1 - a.x0)) (sym c.rows.view_is) ∙ cut.0 in
    subst (λ a. (3 * sides a + 1 < t) × (IsDrawnAt view list c.args.first a × (IsBand view c.args.band (length c.args.pixels.now) × (meets c.args.band a ≡ true))))
    (sym (left-is rows _ c.in-Some.x c.rows.view_is cut.1)) (
      omega (arith, left-shorter rows is long, c.decreases),
      (
        first-drawn view list c.args.first rows (left_of rows) (right_of rows ∷ []) _ (two-columns rows long) (left-in rows is long) c.requires.drawn,
        (c.requires.band, sym c.meets.ensures ∙ c.if-not-meets.false),
      ),
    )

pub paint_columns-index-requires : goal.paint_columns-index-requires
paint_columns-index-requires t c =
    let view = c.args.self.now.view in
    let rows = c.args.rows in
    let is = c.requires.drawn.visit_is.box in
    let all = c.self.invariant.0 ∙ ap (λ s. nodes_of (raster s.view) (raster_root s.view s.list)) c.self.view_is in
    let long = ap (λ a. nat_lt 8 (a.x1 - a.x0)) (sym c.rows.view_is) ∙ (middle-some c.rows.inside.x0 c.rows.inside.x1 c.in-Some.x c.middle.result c.middle.ensures c.in-Some.is).0 in
    omega (arith, c.self.inside.nodes.ok, (first-there laws view c.args.self.now.list c.self.inside.nodes.items c.args.first rows (left_of rows) (right_of rows ∷ []) _ (two-columns rows long) (left-in rows is long).box all c.requires.drawn).0)

pub paint_columns-count-requires : goal.paint_columns-count-requires
paint_columns-count-requires t c =
    let view = c.args.self.now.view in
    let rows = c.args.rows in
    let is = c.requires.drawn.visit_is.box in
    let all = c.self.invariant.0 ∙ ap (λ s. nodes_of (raster s.view) (raster_root s.view s.list)) c.self.view_is in
    let long = ap (λ a. nat_lt 8 (a.x1 - a.x0)) (sym c.rows.view_is) ∙ (middle-some c.rows.inside.x0 c.rows.inside.x1 c.in-Some.x c.middle.result c.middle.ensures c.in-Some.is).0 in
    let there = (first-there laws view c.args.self.now.list c.self.inside.nodes.items c.args.first rows (left_of rows) (right_of rows ∷ []) _ (two-columns rows long) (left-in rows is long).box all c.requires.drawn).1 c.index.result.now c.index.ensures in
    omega (arith, c.self.inside.nodes.ok, c.self.inside.nodes.small, there)

pub paint_columns-overflow_add-next : goal.paint_columns-overflow_add-next
paint_columns-overflow_add-next t c =
    let view = c.args.self.now.view in
    let rows = c.args.rows in
    let is = c.requires.drawn.visit_is.box in
    let all = c.self.invariant.0 ∙ ap (λ s. nodes_of (raster s.view) (raster_root s.view s.list)) c.self.view_is in
    let long = ap (λ a. nat_lt 8 (a.x1 - a.x0)) (sym c.rows.view_is) ∙ (middle-some c.rows.inside.x0 c.rows.inside.x1 c.in-Some.x c.middle.result c.middle.ensures c.in-Some.is).0 in
    let there = (first-there laws view c.args.self.now.list c.self.inside.nodes.items c.args.first rows (left_of rows) (right_of rows ∷ []) _ (two-columns rows long) (left-in rows is long).box all c.requires.drawn).1 c.index.result.now c.index.ensures in
    omega (arith, c.self.inside.nodes.ok, c.self.inside.nodes.small, c.count.ensures, there)

pub paint_columns-paint_box-requires-in-Some : goal.paint_columns-paint_box-requires-in-Some
paint_columns-paint_box-requires-in-Some t c =
    let view = c.args.self.now.view in
    let list = c.args.self.now.list in
    let rows = c.args.rows in
    let is = c.requires.drawn.visit_is.box in
    let all = c.self.invariant.0 ∙ ap (λ s. nodes_of (raster s.view) (raster_root s.view s.list)) c.self.view_is in
    let cut = middle-some c.rows.inside.x0 c.rows.inside.x1 c.in-Some.x c.middle.result c.middle.ensures c.in-Some.is in
    let long = ap (λ a. nat_lt 8 (a.x1 - a.x0)) (sym c.rows.view_is) ∙ cut.0 in
    let second = behind-first laws view list c.self.inside.nodes.items c.args.first (c.args.first + c.count.result) rows (left_of rows) (right_of rows ∷ []) _ c.index.result.now (two-columns rows long) (left-in rows is long).box all c.index.ensures (ap (λ n. c.args.first + n) c.count.ensures) c.requires.drawn in
    subst (λ a. (3 * sides a + 1 < t) × (IsDrawnAt view list (c.args.first + c.count.result) a × (IsBand view c.args.band (length c.paint_box.new.pixels) × (meets c.args.band a ≡ true))))
    (sym (right-is rows _ c.in-Some.x c.rows.view_is cut.1)) (
      omega (arith, right-shorter rows is long, c.decreases),
      (
        first-drawn view list (c.args.first + c.count.result) rows (right_of rows) [] _ refl (right-in rows is long) second,
        (subst (λ n. IsBand view c.args.band n) (sym c.paint_box.ensures.same) c.requires.band, sym c.meets.ensures ∙ c.if-not-meets.false),
      ),
    )

pub paint_columns-returns-in-Some : goal.paint_columns-returns-in-Some
paint_columns-returns-in-Some t c =
    let view = c.args.self.now.view in
    let rows = c.args.rows in
    let is = c.requires.drawn.visit_is.box in
    let f = byte_at view c.args.self.now.list c.args.band.row in
    let cut = middle-some c.rows.inside.x0 c.rows.inside.x1 c.in-Some.x c.middle.result c.middle.ensures c.in-Some.is in
    let long = ap (λ a. nat_lt 8 (a.x1 - a.x0)) (sym c.rows.view_is) ∙ cut.0 in
    Paints-then (covers view.w c.args.band.row (left_of rows)) (covers view.w c.args.band.row (right_of rows)) (covers view.w c.args.band.row rows) f c.args.pixels.now c.paint_box.new.pixels c.paint_box-in-Some.new.pixels
    (λ p h. covers-columns view.w c.args.band.row p rows is long)
    (subst (λ a. Paints (covers view.w c.args.band.row a) f c.args.pixels.now c.paint_box.new.pixels) (left-is rows _ c.in-Some.x c.rows.view_is cut.1) c.paint_box.ensures)
    (subst (λ a. Paints (covers view.w c.args.band.row a) f c.paint_box.new.pixels c.paint_box-in-Some.new.pixels) (right-is rows _ c.in-Some.x c.rows.view_is cut.1) c.paint_box-in-Some.ensures)

pub paint_columns-paint_box-requires-in-None : goal.paint_columns-paint_box-requires-in-None
paint_columns-paint_box-requires-in-None t c =
    let view = c.args.self.now.view in
    let list = c.args.self.now.list in
    let rows = c.args.rows in
    let is = c.requires.drawn.visit_is.box in
    let short = ap (λ a. nat_lt 8 (a.x1 - a.x0)) (sym c.rows.view_is) ∙ middle-none c.rows.inside.x0 c.rows.inside.x1 c.middle.result c.middle.ensures c.in-None.is in (
      omega (arith, box-shorter rows short, c.decreases),
      (
        first-drawn view list c.args.first rows rows [] _ (one-column rows short) (itself-in rows is) c.requires.drawn,
        (c.requires.band, sym c.meets.ensures ∙ c.if-not-meets.false),
      ),
    )

pub paint_halves-paint_columns-requires : goal.paint_halves-paint_columns-requires
paint_halves-paint_columns-requires t c =
    let view = c.args.self.now.view in
    let list = c.args.self.now.list in
    let b = c.args.b in
    let is = c.requires.drawn.visit_is.box in
    let flat = thin view b c.requires.drawn.visit_is.within in
    let cut = middle-some c.b.inside.y0 c.b.inside.y1 c.in-Some.y c.middle.result c.middle.ensures c.in-Some.is in
    let long = ap (λ a. nat_lt 8 (a.y1 - a.y0)) (sym c.b.view_is) ∙ cut.0 in
    subst (λ a. (column_turns a < t) × (AreDrawnAt view list c.args.first a (halves_x 8 a) × IsBand view c.args.band (length c.args.pixels.now)))
    (sym (upper-is b _ c.in-Some.y c.b.view_is cut.1)) (
      omega (arith, upper-shorter b is long, c.decreases),
      (
        part-drawn view list c.args.first b (upper_of b) (halves_x 8 (upper_of b)) (halves_x 8 (lower_of b)) _ (two-rows b flat long) (upper-in b is long) c.requires.drawn,
        c.requires.band,
      ),
    )

pub paint_halves-behind-requires : goal.paint_halves-behind-requires
paint_halves-behind-requires t c =
    let view = c.args.self.now.view in
    let list = c.args.self.now.list in
    let b = c.args.b in
    let is = c.requires.drawn.visit_is.box in
    let flat = thin view b c.requires.drawn.visit_is.within in
    let cut = middle-some c.b.inside.y0 c.b.inside.y1 c.in-Some.y c.middle.result c.middle.ensures c.in-Some.is in
    let long = ap (λ a. nat_lt 8 (a.y1 - a.y0)) (sym c.b.view_is) ∙ cut.0 in
    subst (λ a. AreDrawnAt view list c.args.first a (halves_x 8 a)) (sym (upper-is b _ c.in-Some.y c.b.view_is cut.1))
    (part-drawn view list c.args.first b (upper_of b) (halves_x 8 (upper_of b)) (halves_x 8 (lower_of b)) _ (two-rows b flat long) (upper-in b is long) c.requires.drawn)

pub paint_halves-paint_columns-requires-in-Some : goal.paint_halves-paint_columns-requires-in-Some
paint_halves-paint_columns-requires-in-Some t c =
    let view = c.args.self.now.view in
    let list = c.args.self.now.list in
    let b = c.args.b in
    let is = c.requires.drawn.visit_is.box in
    let flat = thin view b c.requires.drawn.visit_is.within in
    let cut = middle-some c.b.inside.y0 c.b.inside.y1 c.in-Some.y c.middle.result c.middle.ensures c.in-Some.is in
    let long = ap (λ a. nat_lt 8 (a.y1 - a.y0)) (sym c.b.view_is) ∙ cut.0 in
    let lower = subst (λ a. AreDrawnAt view list c.args.first b (halves_x 8 a ++ halves_x 8 (lower_of b)) → AreDrawnAt view list c.behind.result b (halves_x 8 (lower_of b)))
    (upper-is b _ c.in-Some.y c.b.view_is cut.1) (c.behind.ensures b (halves_x 8 (lower_of b)))
    (subst (λ l. AreDrawnAt view list c.args.first b l) (two-rows b flat long) c.requires.drawn) in
    subst (λ a. (column_turns a < t) × (AreDrawnAt view list c.behind.result a (halves_x 8 a) × IsBand view c.args.band (length c.paint_columns.new.pixels)))
    (sym (lower-is b _ c.in-Some.y c.b.view_is cut.1)) (
      omega (arith, lower-shorter b is long, c.decreases),
      (
        part-drawn view list c.behind.result b (lower_of b) (halves_x 8 (lower_of b)) [] _ (sym (append-nil (halves_x 8 (lower_of b)))) (lower-in b is long) lower,
        subst (λ n. IsBand view c.args.band n) (sym c.paint_columns.ensures.same) c.requires.band,
      ),
    )

pub paint_halves-returns-in-Some : goal.paint_halves-returns-in-Some
paint_halves-returns-in-Some t c =
    let view = c.args.self.now.view in
    let b = c.args.b in
    let is = c.requires.drawn.visit_is.box in
    let f = byte_at view c.args.self.now.list c.args.band.row in
    let cut = middle-some c.b.inside.y0 c.b.inside.y1 c.in-Some.y c.middle.result c.middle.ensures c.in-Some.is in
    let long = ap (λ a. nat_lt 8 (a.y1 - a.y0)) (sym c.b.view_is) ∙ cut.0 in
    Paints-then (covers view.w c.args.band.row (upper_of b)) (covers view.w c.args.band.row (lower_of b)) (covers view.w c.args.band.row b) f c.args.pixels.now c.paint_columns.new.pixels c.paint_columns-in-Some.new.pixels
    (λ p h. covers-rows view.w c.args.band.row p b is long)
    (subst (λ a. Paints (covers view.w c.args.band.row a) f c.args.pixels.now c.paint_columns.new.pixels) (upper-is b _ c.in-Some.y c.b.view_is cut.1) c.paint_columns.ensures)
    (subst (λ a. Paints (covers view.w c.args.band.row a) f c.paint_columns.new.pixels c.paint_columns-in-Some.new.pixels) (lower-is b _ c.in-Some.y c.b.view_is cut.1) c.paint_columns-in-Some.ensures)

pub paint_halves-paint_columns-requires-in-None : goal.paint_halves-paint_columns-requires-in-None
paint_halves-paint_columns-requires-in-None t c =
    let view = c.args.self.now.view in
    let list = c.args.self.now.list in
    let b = c.args.b in
    let is = c.requires.drawn.visit_is.box in
    let flat = thin view b c.requires.drawn.visit_is.within in
    let short = ap (λ a. nat_lt 8 (a.y1 - a.y0)) (sym c.b.view_is) ∙ middle-none c.b.inside.y0 c.b.inside.y1 c.middle.result c.middle.ensures c.in-None.is in (
      omega (arith, whole-shorter b is c.requires.long flat short, c.decreases),
      (
        subst (λ l. AreDrawnAt view list c.args.first b l) (one-row b flat short) c.requires.drawn,
        c.requires.band,
      ),
    )
