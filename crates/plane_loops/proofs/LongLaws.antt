-- No loop has fewer than three vertices.
use Rattle.std.proofs.Common.{◌≡◌, ℕ, ◌+◌, ◌*◌, ◌<◌, ◌≤◌, ℤ, pos, ◌*ℤ◌, List, [], ◌∷◌, arith, ◌∙◌, ap, subst, length}
use Rattle.std.specs.Prelude.{◌-ℤ◌, ◌<ℤ◌, All, Contains}
use Rattle.std.proofs.lemmas.Int.{ints}
use Rattle.std.proofs.lemmas.List.Elements.{All-head, All-tail}
use Rattle.kuhn_cells.specs.Corners.{along_x, along_y}
use Rattle.mesh_laws.specs.Manifold.{cycle_arcs}
use Rattle.plane_loops.specs.Contours.{AreJoined, StartsLowest}
use Rattle.plane_loops.specs.Laws.{LoopsAreLong}
use Rattle.plane_loops.specs.Planes.{IsBordered, PlaneEdge, PlaneGrid, share}
use Rattle.plane_loops.specs.Segments.{segments}
use Rattle.plane_loops.specs.Sides.{determinant_at, inner_end}
use Rattle.plane_loops.proofs.LeftLaws.{inside_is_left, place}
use Rattle.plane_loops.proofs.NextLaws.{edge}
use Rattle.plane_loops.proofs.TurnLaws.{segment}
use Rattle.mesh_laws.proofs.Determinants.{diff, diff_is, diff_mul, diff_sub}

determinant_is : (px py qx qy rx ry : ℕ) → determinant_at (place px py) (place qx qy) (place rx ry) ≡ diff ((qx * ry + px * py) + (qy * px + py * rx)) ((qx * py + px * ry) + (qy * rx + py * px))
unfolding diff
determinant_is px py qx qy rx ry =
    ap (λ b. b -ℤ (diff qy py *ℤ diff rx px)) (diff_mul qx px ry py)
    ∙ ap (λ b. diff (qx * ry + px * py) (qx * py + px * ry) -ℤ b) (diff_mul qy py rx px)
    ∙ diff_sub (qx * ry + px * py) (qx * py + px * ry) (qy * rx + py * px) (qy * px + py * rx)

below : (a b : ℕ) → pos 0 <ℤ diff a b → b < a
below a b h = omega (arith, ints, h, diff_is a b)

-- a place lies on the left of one of two opposite ways only
one_side : (px py qx qy rx ry : ℕ) → pos 0 <ℤ determinant_at (place px py) (place qx qy) (place rx ry) → pos 0 <ℤ determinant_at (place qx qy) (place px py) (place rx ry) → ⊥
one_side px py qx qy rx ry h k =
    let P : ℤ → Type 0 = λ d. pos 0 <ℤ d in
    let a = below _ _ (subst P (determinant_is px py qx qy rx ry) h) in
    let b = below _ _ (subst P (determinant_is qx qy px py rx ry) k) in
    omega (arith, a, b)

-- no segment runs back along another
no_way_back : (g : PlaneGrid) → IsBordered g → (e f : PlaneEdge) → Contains (segments g) (segment e f) → Contains (segments g) (segment f e) → ⊥
no_way_back g border e f there back =
    let h = (inside_is_left g border (segment e f) there).at_from in
    let k = (inside_is_left g border (segment f e) back).at_to in
    let i = inner_end g e in
    one_side (65536 * e.x + share g e * along_x e.dir) (65536 * e.y + share g e * along_y e.dir) (65536 * f.x + share g f * along_x f.dir) (65536 * f.y + share g f * along_y f.dir) (65536 * i.x) (65536 * i.y) h k

long : (g : PlaneGrid) → IsBordered g → (loop : List ℕ) → All (λ arc. AreJoined g arc.0 arc.1) (cycle_arcs loop) → StartsLowest loop → 3 ≤ length loop
long g border [] joined low = absurd low
long g border (v ∷ []) joined low =
    let j = All-head (λ arc. AreJoined g arc.0 arc.1) (v, v) [] joined in
    absurd (no_way_back g border _ _ (j.along (edge 0 0 0)) (j.along (edge 0 0 0)))
long g border (v ∷ w ∷ []) joined low =
    let j = All-head (λ arc. AreJoined g arc.0 arc.1) (v, w) ((w, v) ∷ []) joined in
    let k = All-head (λ arc. AreJoined g arc.0 arc.1) (w, v) [] (All-tail (λ arc. AreJoined g arc.0 arc.1) (v, w) ((w, v) ∷ []) joined) in
    absurd (no_way_back g border _ _ (j.along (edge 0 0 0)) (k.along (edge 0 0 0)))
long g border (v ∷ w ∷ x ∷ xs) joined low = omega arith

pub loops_are_long : LoopsAreLong
loops_are_long g border loops h = λ i d few. long g border _ (h.joined i d few) (h.lowest i d few)
