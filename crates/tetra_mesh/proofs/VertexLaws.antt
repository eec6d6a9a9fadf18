-- The vertices on the edges from the lowest corner of a cell, direction by direction.
use Rattle.std.proofs.Common.{◌≡◌, ℕ, ◌+◌, ◌-◌, ◌<◌, ◌≤◌, Bool, true, false, List, [], ◌∷◌, ◌++◌, refl, ap, sym, ◌∙◌, arith}
use Rattle.std.specs.Prelude.{ℤ, pos, not, map, filter, get_or, length}
use Rattle.std.specs.List.{range_with_len}
use Rattle.std.proofs.lemmas.List.{append-nil, append_assoc, get_or_default, map-append}
use Rattle.std.proofs.lemmas.List.Elements.{filter-append}
use mathlib.Core.Bool.{beq}
use Rattle.fixed_ops.specs.Raw.{is_inside}
use Rattle.kuhn_cells.specs.declared.cell_list.CellValues.{CellValues}
use Rattle.kuhn_cells.specs.Arrangement.{differ}
use Rattle.kuhn_cells.specs.Cells.{directions_of, has_inside, lowest_corner}
use Rattle.kuhn_cells.specs.Triangles.{edge_from}
use Rattle.tetra_mesh.specs.declared.vertex.Vertex.{Vertex}
use Rattle.mesh_laws.specs.Places.{way_up}
use Rattle.tetra_mesh.specs.Numbering.{vertex_on}
use Rattle.tetra_mesh.proofs.NumberLaws.{range_parts}
use Rattle.tetra_mesh.proofs.Bits.{directions_below}

unlike : (a b : Bool) → differ a b ≡ not (beq b a)
unlike true true = refl
unlike true false = refl
unlike false true = refl
unlike false false = refl

-- two sides are compared
pub compared : (a b r s t : Bool) → r ≡ b → s ≡ a → not (beq r s) ≡ t → differ a b ≡ t
compared a b r s t e f h = unlike a b ∙ ap (λ v. not (beq b v)) (sym f) ∙ ap (λ v. not (beq v s)) (sym e) ∙ h

value_read : (c : CellValues) (j k : ℕ) (v : ℤ) → length c.values ≡ 8 → j ≡ k → k < 8 → get_or c.values j v ≡ get_or c.values k (pos 0)
value_read c j k v eight same few = ap (λ i. get_or c.values i v) same ∙ get_or_default c.values k v (pos 0) (omega (arith, eight, few))

pub side_read : (c : CellValues) (j k : ℕ) (v w : ℤ) (t : Bool) → length c.values ≡ 8 → j ≡ k → k < 8 → differ (is_inside (get_or c.values 0 v)) (is_inside (get_or c.values j w)) ≡ t → differ (has_inside c 0) (has_inside c k) ≡ t
side_read c j k v w t eight same few h =
    let low = value_read c 0 0 v eight refl (omega arith) in
    let high = value_read c j k w eight same few in
    sym (ap (λ n. differ (is_inside n) (is_inside (get_or c.values j w))) low ∙ ap (λ n. differ (has_inside c 0) (is_inside n)) high) ∙ h

pub vertex_read : (c : CellValues) (j k t : ℕ) (v w : ℤ) → length c.values ≡ 8 → j ≡ k → k < 8 → t ≡ way_up (get_or c.values 0 v) (get_or c.values j w) → record { key = edge_from (lowest_corner c) k; t = t } ≡ vertex_on c k
vertex_read c j k t v w eight same few h =
    let low = value_read c 0 0 v eight refl (omega arith) in
    let high = value_read c j k w eight same few in
    let make : ℕ → Vertex = λ n. record { key = edge_from (lowest_corner c) k; t = n } in
    ap make (h ∙ ap (λ n. way_up n (get_or c.values j w)) low ∙ ap (λ n. way_up (get_or c.values 0 (pos 0)) n) high)

-- one more direction
directions_more : (c : CellValues) (dir : ℕ) → 1 ≤ dir → directions_below c (dir + 1) ≡ directions_below c dir ++ filter (λ d. differ (has_inside c 0) (has_inside c d)) (dir ∷ [])
directions_more c dir some =
    let q = λ (d : ℕ). differ (has_inside c 0) (has_inside c d) in
    let e : dir + 1 - 1 ≡ (dir - 1) + 1 = omega (arith, some) in
    let f : 1 + (dir - 1) ≡ dir = omega (arith, some) in
    ap (λ n. filter q (range_with_len 1 n)) e
    ∙ ap (filter q) (range_parts 1 (dir - 1) 0)
    ∙ filter-append q (range_with_len 1 (dir - 1)) ((1 + (dir - 1)) ∷ [])
    ∙ ap (λ d. directions_below c dir ++ filter q (d ∷ [])) f

pub pushed : (c : CellValues) (dir : ℕ) (base now new : List Vertex) (v : Vertex) → 1 ≤ dir → differ (has_inside c 0) (has_inside c dir) ≡ true → new ≡ now ++ v ∷ [] → now ≡ base ++ map (vertex_on c) (directions_below c dir) → v ≡ vertex_on c dir → new ≡ base ++ map (vertex_on c) (directions_below c (dir + 1))
pushed c dir base now new v some apart grown stood is =
    let f = vertex_on c in
    let below = directions_below c dir in
    let here : filter (λ d. differ (has_inside c 0) (has_inside c d)) (dir ∷ []) ≡ dir ∷ [] = rw apart refl in
    grown
    ∙ ap (λ l. l ++ v ∷ []) stood
    ∙ append_assoc base (map f below) (v ∷ [])
    ∙ ap (λ w. base ++ (map f below ++ w ∷ [])) is
    ∙ ap (λ l. base ++ l) (sym (map-append f below (dir ∷ [])) ∙ ap (map f) (sym (directions_more c dir some ∙ ap (λ l. below ++ l) here)))

pub passed : (c : CellValues) (dir : ℕ) (base now : List Vertex) → 1 ≤ dir → differ (has_inside c 0) (has_inside c dir) ≡ false → now ≡ base ++ map (vertex_on c) (directions_below c dir) → now ≡ base ++ map (vertex_on c) (directions_below c (dir + 1))
passed c dir base now some alike stood =
    let below = directions_below c dir in
    let here : filter (λ d. differ (has_inside c 0) (has_inside c d)) (dir ∷ []) ≡ [] = rw alike refl in
    stood ∙ ap (λ l. base ++ map (vertex_on c) l) (sym (directions_more c dir some ∙ ap (λ l. below ++ l) here ∙ append-nil below))

pub all_seven : (c : CellValues) → directions_below c 8 ≡ directions_of c
unfolding directions_of
all_seven c = refl
