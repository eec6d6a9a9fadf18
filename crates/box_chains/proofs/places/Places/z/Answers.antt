use Rattle.std.proofs.Common.{◌≤◌, arith, ap, subst, sym, ◌∙◌}
use Rattle.view_places.specs.Places.{sample_place, steps_of}
use Rattle.view_places.specs.declared.lattice.Axis.TheVariants.{Z}
use Rattle.box_chains.proofs.Placed.{place-read, within}
use Rattle.box_chains.proofs.places.Places.z.Goals as goal

pub index-requires : goal.index-requires
index-requires c =
    omega (
      arith,
      c.self.inside.z.ok,
      within c.self.inside.view c.self.inside.lattice Z c.self.inside.z.items c.args.k c.self.invariant.2
          (subst (λ p. c.args.k ≤ steps_of p.view p.lattice Z) (sym c.self.view_is) c.requires),
    )

pub returns : goal.returns
returns c =
    place-read c.self.inside.view c.self.inside.lattice Z c.self.inside.z.items c.args.k c.index.result.now c.self.invariant.2
    (subst (λ p. c.args.k ≤ steps_of p.view p.lattice Z) (sym c.self.view_is) c.requires) c.index.ensures
    ∙ ap (λ p. sample_place p.view p.lattice Z c.args.k) c.self.view_is
