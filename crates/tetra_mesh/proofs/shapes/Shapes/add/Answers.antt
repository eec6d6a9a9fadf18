-- The new shape stands behind the others, at the place that these signs get.
use Rattle.std.proofs.Common.{◌∙◌, [], ◌∷◌, ap, arith, length, length-append, refl, subst}
use Rattle.std.specs.Prelude.{set}
use Rattle.tetra_mesh.specs.Edges.{HasTriangles}
use Rattle.tetra_mesh.specs.declared.shapes.Shapes.{Shapes}
use Rattle.tetra_mesh.proofs.ShapeLaws.{Adds, made_here, made_more, made_still}
use Rattle.tetra_mesh.proofs.TriangleLaws.{few_triangles}
use Rattle.tetra_mesh.proofs.shapes.Shapes.add.Goals as goal

pub new-requires : goal.new-requires
new-requires c = omega (arith, ap length c.deref.ensures.value, ap length c.in_ok-put_triples.ensures, few_triangles c.args.signs)

abbrev new-shapes : (c : goal.After-self-1) → Shapes
new-shapes c = record {
  places = Rattle.std.specs.Vec.with_item c.args.self.now.places c.from.result c.len.result;
  shapes = c.push.new.self;
  ranks = c.args.self.now.ranks;
}

adds : (c : goal.After-self-1) → Adds c.args.signs c.new.result c.args.self.now (new-shapes c)
adds c = record {
  few = omega (arith, c.ranges.signs);
  none = c.requires.none;
  shapes = c.in_ok-push.ensures.items;
  places = ap (λ at. set c.args.self.now.places.items at c.len.result) c.from.ensures
      ∙ ap (set c.args.self.now.places.items c.args.signs) (omega (arith, c.len.ensures, ap length c.in_ok-push.ensures.items, length-append c.args.self.now.shapes.items (c.new.result ∷ [])));
  ranks = refl;
  has = subst (λ ts. HasTriangles ts c.new.result) (c.deref.ensures.value ∙ c.in_ok-put_triples.ensures) c.new.ensures;
}

pub returns-clause-made : goal.returns-clause-made
returns-clause-made c = made_more c.args.signs c.new.result c.args.self.now (new-shapes c) c.requires.made (adds c)

pub returns-clause-this : goal.returns-clause-this
returns-clause-this c = made_here c.args.signs c.new.result c.args.self.now (new-shapes c) c.requires.made (adds c)

pub returns-clause-others : goal.returns-clause-others
returns-clause-others c = made_still c.args.signs c.new.result c.args.self.now (new-shapes c) (adds c)
