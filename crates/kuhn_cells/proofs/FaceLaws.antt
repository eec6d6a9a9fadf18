-- The edges of triangles are vertices, and their numbers are the places at which they stand.
use Rattle.std.proofs.Common.{◌≡◌, ℕ, ◌<◌, ◌≤◌, true, List, refl, arith, sym, inl, inr}
use Rattle.std.specs.Prelude.{◌⊎◌, get_or, length, All, Contains}
use Rattle.std.proofs.lemmas.Bool.{and_from, and_parts, both_ways, cases_lt, eq-eqb, eqb-true, le-leb}
use Rattle.std.proofs.lemmas.List.Elements.{All-weaker}
use Rattle.std.proofs.lemmas.List.Sums.{fails_before_first, passes_at_first}
use Rattle.kuhn_cells.specs.declared.edge_key.EdgeKey.{EdgeKey}
use Rattle.kuhn_cells.specs.Faces.{all_triangles, cell_triangles, number_among, same_edge}
use Rattle.kuhn_cells.specs.Grids.{Grid, is_inside_at, over_block, upper, vertices}
use Rattle.kuhn_cells.specs.Laws.{IsVertex, NumbersArePlaces, OfEdges, TrianglesHaveVertices}
use Rattle.kuhn_cells.specs.Triangles.{GridPoint, point}
use Rattle.kuhn_cells.proofs.EdgeLaws.{IsParting, all_tetrahedra}
use Rattle.kuhn_cells.proofs.VertexLaws.{in_vertices}
use Rattle.fixed_ops.proofs.Lists.{all_within}

-- ---- the triangles of a grid

pub all_in_block : {A : Type 0} (P : A → Type 0) (nx ny nz : ℕ) (at : GridPoint → List A)
    → ((p : GridPoint) → p.x < nx → p.y < ny → p.z < nz → All P (at p))
    → All P (over_block nx ny nz at)
all_in_block P nx ny nz at each =
    all_within P _ 0 nz (λ z fz. all_within P _ 0 ny (λ y fy. all_within P _ 0 nx
    (λ x fx. each (point x y z) (omega (arith, fx)) (omega (arith, fy)) (omega (arith, fz)))))

pub vertex_of : (g : Grid) (cell : GridPoint) (e : EdgeKey) → cell.x < g.x → cell.y < g.y
    → cell.z < g.z → IsParting (is_inside_at g) cell e → IsVertex g e
vertex_of g cell e fx fy fz h =
    let x = h.near_x in
    let y = h.near_y in
    let z = h.near_z in
    let p = upper e in
    record {
      direction = h.direction;
      within = and_from _ _ (le-leb p.x g.x (omega (arith, x, fx)))
          (and_from _ _ (le-leb p.y g.y (omega (arith, y, fy)))
          (le-leb p.z g.z (omega (arith, z, fz))));
      mixed = h.mixed;
    }

pub triangles_have_vertices : TrianglesHaveVertices
unfolding all_triangles
triangles_have_vertices g =
    let inside = is_inside_at g in
    all_in_block (OfEdges (IsVertex g)) g.x g.y g.z (cell_triangles inside) (λ cell fx fy fz.
    All-weaker (OfEdges (IsParting inside cell)) (OfEdges (IsVertex g))
    (λ t h. record {
      a = vertex_of g cell t.a fx fy fz h.a;
      b = vertex_of g cell t.b fx fy fz h.b;
      c = vertex_of g cell t.c fx fy fz h.c;
    })
    (cell_triangles inside cell) (all_tetrahedra inside cell))

-- ---- numbers

pub same_is_equal : (e f : EdgeKey) → same_edge e f ≡ true → e ≡ f
same_is_equal e f h =
    let x = and_parts _ _ h in
    let y = and_parts _ _ x.1 in
    let z = and_parts _ _ y.1 in
    rw (
      eqb-true e.x f.x x.0,
      eqb-true e.y f.y y.0,
      eqb-true e.z f.z z.0,
      eqb-true e.dir f.dir z.1,
    ) refl

pub same_as_itself : (e : EdgeKey) → same_edge e e ≡ true
same_as_itself e = and_from _ _ (eq-eqb e.x e.x refl) (and_from _ _ (eq-eqb e.y e.y refl)
    (and_from _ _ (eq-eqb e.z e.z refl) (eq-eqb e.dir e.dir refl)))

stands : (all : List EdgeKey) (e : EdgeKey) → Contains all e → number_among all e < length all
stands all e h = by (cases_lt (number_among all e) (length all))
  where
    by : (number_among all e < length all) ⊎ (length all ≤ number_among all e)
        → number_among all e < length all
    by (inl less) = less
    by (inr late) =
        let missed = fails_before_first (same_edge e) all h.0 e (omega (arith, h.1, late)) in
        let found : same_edge e (get_or all h.0 e) ≡ true = rw h.2 (same_as_itself e) in
        absurd (both_ways (same_edge e (get_or all h.0 e)) missed found)

pub numbers_are_places : NumbersArePlaces
numbers_are_places g e d v =
    let all = vertices g in
    let few = stands all e (in_vertices g e v) in (
      few,
      sym (same_is_equal e (get_or all (number_among all e) d)
          (passes_at_first (same_edge e) all d few)),
    )
