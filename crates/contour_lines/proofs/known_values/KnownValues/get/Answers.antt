use Rattle.std.proofs.Common.{◌≡◌, ◌+◌, ◌*◌, ◌<◌, ap, arith, false, get_or, length, pos, rules, sym, true, ◌∙◌}
use Rattle.std.specs.Prelude.{Some}
use Rattle.std.proofs.lemmas.List.{get_or_read}
use Rattle.oct_descent.specs.Tables.{Marks, read}
use Rattle.contour_lines.proofs.KnownLaws.{known-is}
use Rattle.oct_descent.proofs.Bricks.{read-marked, read-unmarked}
use Rattle.contour_lines.proofs.known_values.KnownValues.get.Goals as goal

pub returns-then-index : goal.returns-then-index
returns-then-index c =
    let i = c.self.inside in
    let at = c.place_of-at.result in
    let x = c.args.x in
    let y = c.args.y in
    let marks : Marks = record { known = i.known.items; values = i.values.items } in
    let within : at < length i.known.items = omega (arith, c.place_of-at.ensures.within, c.self.invariant.2) in
    let also : at < length i.values.items = omega (arith, c.place_of-at.ensures.within, c.self.invariant.3) in
    let known : get_or i.known.items at false ≡ true = sym (get_or_read i.known.items at c.index.result.now within c.index.ensures false) ∙ c.if-index.true in
    let value : get_or i.values.items at (pos 0) ≡ c.index-then-index.result.now = sym (get_or_read i.values.items at c.index-then-index.result.now also c.index-then-index.ensures (pos 0)) in
    sym (known-is c.args.self.now x y c.requires.x c.requires.y ∙ ap (λ u. read u.kept (y * (u.n.x + 1) + x)) (sym c.self.view_is) ∙ ap (read marks) (sym c.place_of-at.ensures.place) ∙ read-marked marks at known ∙ ap Some value)

pub returns-else-index : goal.returns-else-index
returns-else-index c =
    let i = c.self.inside in
    let at = c.place_of-at.result in
    let x = c.args.x in
    let y = c.args.y in
    let marks : Marks = record { known = i.known.items; values = i.values.items } in
    let known : get_or i.known.items at false ≡ false = search rules in
    sym (known-is c.args.self.now x y c.requires.x c.requires.y ∙ ap (λ u. read u.kept (y * (u.n.x + 1) + x)) (sym c.self.view_is) ∙ ap (read marks) (sym c.place_of-at.ensures.place) ∙ read-unmarked marks at known)
