use Rattle.std.proofs.Common.{◌≡◌, ◌-◌, ◌+◌, ◌<◌, ◌++◌, ◌∷◌, [], ap, arith, drop, get_or, length, reverse, sym, ◌∙◌}
use Rattle.std.proofs.lemmas.List.{drop_more}
use Rattle.std.proofs.lemmas.Grind.{reverse_onto}
use Rattle.oct_descent.proofs.descent.last_first.Goals as goal

pub loop-at-preserved : goal.loop-at-preserved
loop-at-preserved c =
    let boxes = c.args.boxes.now in
    let at = c.loop-at.at - 1 in
    let b = c.index-boxes-at.result in
    let within : at < length boxes = omega (arith, c.loop-at-test.true, c.loop-at.auto.at) in
    let above : at + 1 ≡ c.loop-at.at = omega (arith, c.loop-at-test.true) in
    record {
      room = omega (arith, c.push.ensures.len, c.loop-at-test.true, c.loop-at.invariant.room);
      items = c.push.ensures.items ∙ ap (λ bs. bs ++ b ∷ []) c.loop-at.invariant.items
          ∙ sym (ap reverse (drop_more boxes at b within) ∙ reverse_onto (drop (at + 1) boxes) (get_or boxes at b) []
          ∙ ap (λ i. reverse (drop i boxes) ++ get_or boxes at b ∷ []) above ∙ ap (λ last. reverse (drop c.loop-at.at boxes) ++ last ∷ []) (sym c.index-boxes-at.is));
    }
