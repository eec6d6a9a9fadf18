use Rattle.std.proofs.Common.{◌≤◌, arith, ap, subst, sym, ◌∙◌}
use Rattle.view_places.specs.Places.{sample_place, steps_of}
use Rattle.view_places.specs.declared.lattice.Axis.TheVariants.{X}
use Rattle.box_chains.proofs.Placed.{place-read, within}
use Rattle.box_chains.proofs.places.Places.x.Goals as goal

pub index-requires : goal.index-requires
index-requires c =
    omega (
      arith,
      c.self.inside.x.ok,
      within c.self.inside.view c.self.inside.lattice X c.self.inside.x.items c.args.i c.self.invariant.0
          (subst (λ p. c.args.i ≤ steps_of p.view p.lattice X) (sym c.self.view_is) c.requires),
    )

pub returns : goal.returns
returns c =
    place-read c.self.inside.view c.self.inside.lattice X c.self.inside.x.items c.args.i c.index.result.now c.self.invariant.0
    (subst (λ p. c.args.i ≤ steps_of p.view p.lattice X) (sym c.self.view_is) c.requires) c.index.ensures
    ∙ ap (λ p. sample_place p.view p.lattice X c.args.i) c.self.view_is
