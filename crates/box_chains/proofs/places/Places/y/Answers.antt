use Rattle.std.proofs.Common.{◌≤◌, arith, ap, subst, sym, ◌∙◌}
use Rattle.view_places.specs.Places.{sample_place, steps_of}
use Rattle.view_places.specs.declared.lattice.Axis.TheVariants.{Y}
use Rattle.box_chains.proofs.Placed.{place-read, within}
use Rattle.box_chains.proofs.places.Places.y.Goals as goal

pub index-requires : goal.index-requires
index-requires c =
    omega (
      arith,
      c.self.inside.y.ok,
      within c.self.inside.view c.self.inside.lattice Y c.self.inside.y.items c.args.j c.self.invariant.1
          (subst (λ p. c.args.j ≤ steps_of p.view p.lattice Y) (sym c.self.view_is) c.requires),
    )

pub returns : goal.returns
returns c =
    place-read c.self.inside.view c.self.inside.lattice Y c.self.inside.y.items c.args.j c.index.result.now c.self.invariant.1
    (subst (λ p. c.args.j ≤ steps_of p.view p.lattice Y) (sym c.self.view_is) c.requires) c.index.ensures
    ∙ ap (λ p. sample_place p.view p.lattice Y c.args.j) c.self.view_is
