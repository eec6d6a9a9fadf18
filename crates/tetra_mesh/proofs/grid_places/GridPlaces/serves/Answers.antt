-- Views are one where their fields are.
use Rattle.std.proofs.Common.{◌≡◌, subst, sym, true, ◌∙◌}
use Rattle.view_places.specs.Window.{Window, same_view}
use Rattle.view_places.proofs.ViewLaws.{one_view, same_as_itself}
use Rattle.tetra_mesh.proofs.grid_places.GridPlaces.serves.Goals as goal

pub returns : goal.returns
returns c =
    let own = c.self.inside.view in (
      λ is. sym c.self.view_is ∙ one_view own c.args.view.now (sym c.eq.ensures ∙ is),
      λ same. c.eq.ensures ∙ subst (λ (v : Window). same_view own v ≡ true) (c.self.view_is ∙ same) (same_as_itself own),
    )
