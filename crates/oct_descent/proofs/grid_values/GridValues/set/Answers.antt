use Rattle.std.proofs.Common.{ap, arith, length, set, subst, true, ◌∙◌}
use Rattle.std.proofs.lemmas.List.{length-set}
use Rattle.oct_descent.specs.Kinds.{known_of}
use Rattle.oct_descent.specs.Known.{Sets}
use Rattle.oct_descent.specs.Tables.{KeepsPlaces, Marks, PointValues, is_within, stand}
use Rattle.oct_descent.proofs.Bricks.{brick-sets, kept-keeps}
use Rattle.oct_descent.proofs.grid_values.GridValues.set.Goals as goal

pub returns-clause-sets : goal.returns-clause-sets
returns-clause-sets c p within is =
    let i = c.self.inside in
    let t : PointValues = record { n = i.n; places = i.places.items; kept = record { known = i.known.items; values = i.values.items } } in
    let len = ap (λ u. length u.kept.known) c.self.view_is in
    let after : PointValues = record { n = t.n; places = t.places; kept = record { known = set t.kept.known c.args.at true; values = set t.kept.values c.args.at c.args.value } } in
    subst (λ (u : PointValues). Sets p c.args.value (known_of u) (known_of after)) c.self.view_is
    (brick-sets t p c.args.value c.args.at c.self.invariant.2 (ap (λ u. is_within u.n p) c.self.view_is ∙ within) (ap (λ u. stand u p) c.self.view_is ∙ is) (omega (arith, len, c.requires)))

pub returns-clause-keeps : goal.returns-clause-keeps
returns-clause-keeps c =
    let i = c.self.inside in
    let t : PointValues = record { n = i.n; places = i.places.items; kept = record { known = i.known.items; values = i.values.items } } in
    let now : Marks = record { known = set t.kept.known c.args.at true; values = set t.kept.values c.args.at c.args.value } in
    subst (λ (u : PointValues). KeepsPlaces u (record { n = t.n; places = t.places; kept = now })) c.self.view_is (kept-keeps t now (omega (arith, length-set t.kept.known c.args.at true)))
