use Rattle.std.proofs.Common.{◌*◌, ◌≤◌, length, sym, ap, subst, ◌∙◌}
use Rattle.std.specs.Prelude.{All}
use Rattle.model_frames.specs.Heights.{tops_of}
use Rattle.model_frames.proofs.Frames.{on_ok}
use Rattle.model_frames.proofs.Depths.{bytes-same, tops-below, tops-count}
use Rattle.model_frames.proofs.height.height_text.Goals as goal

pub samples_text-requires-clause-count : goal.samples_text-requires-clause-count
samples_text-requires-clause-count c =
    let is = c.map.view_is ∙ c.in_ok-map.ensures.map in
    ap length (c.deref.ensures.value ∙ ap (λ m. m.tops) is) ∙ tops-count c.args.view.now c.args.model.now ∙ sym (ap (λ m. m.w * m.h) is)

pub samples_text-requires-clause-within : goal.samples_text-requires-clause-within
samples_text-requires-clause-within c =
    let is = c.map.view_is ∙ c.in_ok-map.ensures.map in
    subst (All (λ top. top ≤ c.map.inside.d)) (sym (c.deref.ensures.value ∙ ap (λ m. m.tops) is))
    (subst (λ d. All (λ top. top ≤ d) (tops_of c.args.view.now c.args.model.now)) (sym (ap (λ m. m.d) is)) (tops-below c.args.view.now c.args.model.now))

pub returns-clause-ok : goal.returns-clause-ok
returns-clause-ok c =
    bytes-same c.samples_text.result (λ text. text.items) c.args.view.now c.args.model.now
    (record { w = c.map.inside.w; h = c.map.inside.h; d = c.map.inside.d; tops = c.map.inside.tops.items }) c.deref.result.now
    (c.map.view_is ∙ c.in_ok-map.ensures.map) c.deref.ensures.value c.samples_text.ensures.text

pub returns-clause-counted : goal.returns-clause-counted
returns-clause-counted c = on_ok _ _ c.in_ok-map.ensures.counted
