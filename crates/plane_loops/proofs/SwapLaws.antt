-- The segments run the other way where the sides are exchanged.
use Rattle.std.proofs.Common.{◌≡◌, Bool, true, false, List, [], ◌++◌, refl, ◌∙◌, ap, subst, sym}
use Rattle.std.specs.Prelude.{not, map, Contains}
use Rattle.std.proofs.lemmas.List.{map-append}
use Rattle.plane_loops.specs.Planes.{PlaneEdge, PlanePoint}
use Rattle.plane_loops.specs.Segments.{Segment, Triangle, cell_segments, edge_between, segments_in}
use Rattle.plane_loops.proofs.NextLaws.{followed, next_in}
use Rattle.plane_loops.proofs.TurnLaws.{segment, side, tips, triangle, turn_of}
use Rattle.fixed_ops.proofs.Lists.{in_map}

abbrev pub swap : Segment → Segment
swap s = segment s.to s.from

-- the points that are not inside
abbrev pub outside : (PlanePoint → Bool) → PlanePoint → Bool
outside inside p = not (inside p)

tips_swap : (a b c : Bool) (ab ac bc ba ca cb : PlaneEdge) → tips (not a) (not b) (not c) ab ac bc ba ca cb ≡ map swap (tips a b c ab ac bc ba ca cb)
tips_swap true true true ab ac bc ba ca cb = refl
tips_swap true true false ab ac bc ba ca cb = refl
tips_swap true false true ab ac bc ba ca cb = refl
tips_swap true false false ab ac bc ba ca cb = refl
tips_swap false true true ab ac bc ba ca cb = refl
tips_swap false true false ab ac bc ba ca cb = refl
tips_swap false false true ab ac bc ba ca cb = refl
tips_swap false false false ab ac bc ba ca cb = refl

triangle_swap : (inside : PlanePoint → Bool) (cell : PlanePoint) (t : Triangle) → segments_in (outside inside) cell t ≡ map swap (segments_in inside cell t)
triangle_swap inside cell t =
    tips_swap (side inside cell t.a) (side inside cell t.b) (side inside cell t.c) (edge_between cell t.a t.b) (edge_between cell t.a t.c) (edge_between cell t.b t.c) (edge_between cell t.b t.a) (edge_between cell t.c t.a) (edge_between cell t.c t.b)

pub cell_swap : (inside : PlanePoint → Bool) (cell : PlanePoint) → cell_segments (outside inside) cell ≡ map swap (cell_segments inside cell)
cell_swap inside cell =
    let s = segments_in inside cell (triangle 0 1 3) in
    let r = segments_in inside cell (triangle 0 3 2) in
    ap (λ l. l ++ (segments_in (outside inside) cell (triangle 0 3 2) ++ [])) (triangle_swap inside cell (triangle 0 1 3))
    ∙ ap (λ l. map swap s ++ (l ++ [])) (triangle_swap inside cell (triangle 0 3 2))
    ∙ ap (λ l. map swap s ++ l) (sym (map-append swap r []))
    ∙ sym (map-append swap s (r ++ []))

-- the edge from which the segment comes that arrives at an edge
pub arrived : (inside : PlanePoint → Bool) (cell : PlanePoint) (e f : PlaneEdge) → Contains (cell_segments inside cell) (segment e f) → next_in (outside inside) f ≡ e
arrived inside cell e f h =
    let P : List Segment → Type 0 = λ l. Contains l (segment f e) in
    let swapped = subst P (sym (cell_swap inside cell)) (in_map swap (cell_segments inside cell) (segment e f) h) in
    let k = followed (outside inside) cell (segment f e) (turn_of (outside inside) cell (segment f e) swapped) in
    k.next
