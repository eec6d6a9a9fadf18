-- At first no face is made.
use Rattle.std.proofs.Common.{◌++◌, ap, ◌∙◌}
use Rattle.tetra_mesh.specs.Numbering.{all_faces}
use Rattle.tetra_mesh.specs.Sides.{AreSidesOf}
use Rattle.tetra_mesh.proofs.building.faces_of.Goals as goal

pub returns : goal.returns
returns c cells are =
    let now : AreSidesOf c.in_ok-walk.walk.n cells c.in_ok-walk.walk.sided = rw c.in_ok-walk.ensures are in
    c.in_ok-push_all_faces.ensures cells now ∙ ap (λ l. l ++ all_faces cells cells) c.in_ok-faces.ensures.items
