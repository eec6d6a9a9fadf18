-- No signs have a place.
use Rattle.tetra_mesh.proofs.ShapeLaws.{none_made}
use Rattle.tetra_mesh.proofs.shapes.Shapes.none.Goals as goal

pub returns : goal.returns
returns c = none_made _ (c.in_ok-vec.ensures.items_if_clones_equal (λ y h. h)) c.in_ok-ranks.ensures
