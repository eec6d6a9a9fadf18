use Rattle.std.proofs.Common.{◌≡◌, ◌*◌, ◌<◌, ap, sym, ◌∙◌, arith, length}
use Rattle.std.proofs.lemmas.List.{with_items_is}
use Rattle.quad_descent.specs.Pixels.{pixels_of}
use Rattle.quad_descent.proofs.Painted.{all-rows, same-image}
use Rattle.quad_descent.proofs.pixels.image.Goals as goal

pub returns-clause-image : goal.returns-clause-image
returns-clause-image c =
    let view = c.args.picture.now.view in
    let list = c.args.picture.now.list in
    let w = ap (λ s. s.view.w) c.picture-inside.view_is ∙ ap (λ s. s.view.w) c.picture.view_is in
    let h = ap (λ s. s.view.h) c.picture-inside.view_is ∙ ap (λ s. s.view.h) c.picture.view_is in
    let area = ap (λ s. s.view.w * s.view.h) c.picture-inside.view_is ∙ ap (λ s. s.view.w * s.view.h) c.picture.view_is in
    let some : 0 < view.w = omega (arith, w, c.picture-inside.invariant.w.some) in
    let count : length c.deref_mut.result.now ≡ view.w * view.h = omega (arith, area, c.in_ok-resize.ensures.len, c.deref_mut.ensures.len) in
    let pixels : c.rows.new.pixels ≡ pixels_of view list = all-rows view list (length c.deref_mut.result.now) c.rows.new.pixels some count c.rows.ensures in
    let put = with_items_is c.resize.new.self c.rows.new.pixels (c.rows.auto.pixels ∙ ap length c.deref_mut.ensures.value ∙ sym (c.resize.new.self.ok.0)) in
    same-image c.picture-inside.inside.0.0.w c.picture-inside.inside.0.0.h view.w view.h _ (pixels_of view list) w h (put ∙ pixels)

pub returns-clause-whole : goal.returns-clause-whole
returns-clause-whole c =
    let put = with_items_is c.resize.new.self c.rows.new.pixels (c.rows.auto.pixels ∙ ap length c.deref_mut.ensures.value ∙ sym (c.resize.new.self.ok.0)) in
    ap length put ∙ omega (arith, c.rows.auto.pixels, c.deref_mut.ensures.len, c.in_ok-resize.ensures.len)
