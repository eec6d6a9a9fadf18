-- A plane grid as the middle layer of a grid whose other points are outside.
use Rattle.std.proofs.Common.{◌≡◌, ℕ, zero, suc, ◌+◌, ◌*◌, ◌<◌, ◌≤◌, ℤ, pos, Bool, true, false, List, ◌++◌, length, get_or, replicate, refl, ap, ◌∙◌, arith, length-append}
use Rattle.std.specs.Prelude.{Contains, ◌&&◌, ◌||◌, ◌==◌, nat_le}
use Rattle.std.proofs.lemmas.Bool.{and_from, and_parts, le-leb, leb-true}
use Rattle.std.proofs.lemmas.List.{get_or-append-add, get_or-replicate, get_or_append_left, length-replicate}
use Rattle.std.proofs.lemmas.Nat.{mul-add-lt}
use Rattle.fixed_ops.specs.Raw.{is_inside}
use Rattle.kuhn_cells.specs.declared.edge_key.EdgeKey.{EdgeKey}
use Rattle.kuhn_cells.specs.Arrangement.{differ}
use Rattle.kuhn_cells.specs.Cells.{IsBordered, is_outermost}
use Rattle.kuhn_cells.specs.Corners.{along_x, along_y, along_z}
use Rattle.kuhn_cells.specs.Grids.{Grid, is_inside_at, value_at, vertices}
use Rattle.kuhn_cells.specs.Laws.{IsVertex}
use Rattle.kuhn_cells.specs.Triangles.{GridPoint}
use Rattle.plane_loops.specs.Planes as planes
use Rattle.plane_loops.specs.Planes.{PlaneEdge, PlaneGrid}
use Rattle.kuhn_cells.proofs.VertexLaws.{vertices_are_mixed_edges}

-- the values of a layer of points that are all outside
pub outside : ℕ → List ℤ
outside n = replicate ((n + 1) * (n + 1)) (pos 0)

unfoldable pub layered : PlaneGrid → Grid
layered g = record { x = g.n; y = g.n; z = 2; values = outside g.n ++ (g.values ++ outside g.n) }

-- an edge of the plane, in that layer
abbrev pub raised : PlaneEdge → EdgeKey
raised e = record { x = e.x; y = e.y; z = 1; dir = e.dir }

abbrev at : ℕ → ℕ → ℕ → GridPoint
at x y z = record { x = x; y = y; z = z }

-- ---- values

outside_long : (n : ℕ) → length (outside n) ≡ (n + 1) * (n + 1)
unfolding outside
outside_long n = length-replicate ((n + 1) * (n + 1)) (pos 0)

outside_at : (n i : ℕ) → i < (n + 1) * (n + 1) → get_or (outside n) i (pos 0) ≡ pos 0
unfolding outside
outside_at n i less = get_or-replicate ((n + 1) * (n + 1)) i (pos 0) (pos 0) less

place_within : (n x y : ℕ) → x ≤ n → y ≤ n → y * (n + 1) + x < (n + 1) * (n + 1)
place_within n x y fx fy = mul-add-lt y (n + 1) x (n + 1) (omega (arith, fy)) (omega (arith, fx))

low_value : (g : PlaneGrid) (x y : ℕ) → x ≤ g.n → y ≤ g.n → value_at (layered g) (at x y 0) ≡ pos 0
unfolding layered
low_value g x y fx fy =
    let place : (0 * (g.n + 1) + y) * (g.n + 1) + x ≡ y * (g.n + 1) + x = omega arith in
    let within = place_within g.n x y fx fy in
    let long = outside_long g.n in
    ap (λ i. get_or (outside g.n ++ (g.values ++ outside g.n)) i (pos 0)) place
    ∙ get_or_append_left (outside g.n) (g.values ++ outside g.n) (pos 0) (y * (g.n + 1) + x) (omega (arith, within, long))
    ∙ outside_at g.n (y * (g.n + 1) + x) within

-- a value behind the first layer
behind : (g : PlaneGrid) (place i : ℕ) → place ≡ (g.n + 1) * (g.n + 1) + i
    → get_or (outside g.n ++ (g.values ++ outside g.n)) place (pos 0) ≡ get_or (g.values ++ outside g.n) i (pos 0)
behind g place i «is» =
    let long = outside_long g.n in
    let there : place ≡ length (outside g.n) + i = omega (arith, long, «is») in
    ap (λ k. get_or (outside g.n ++ (g.values ++ outside g.n)) k (pos 0)) there ∙ get_or-append-add (outside g.n) (g.values ++ outside g.n) i (pos 0)

pub middle_value : (g : PlaneGrid) (x y : ℕ) → length g.values ≡ (g.n + 1) * (g.n + 1) → x ≤ g.n → y ≤ g.n
    → value_at (layered g) (at x y 1) ≡ planes.value_at g (planes.point x y)
unfolding layered
middle_value g x y whole fx fy =
    let place : (1 * (g.n + 1) + y) * (g.n + 1) + x ≡ (g.n + 1) * (g.n + 1) + (y * (g.n + 1) + x) = grind arith in
    let within = place_within g.n x y fx fy in
    behind g ((1 * (g.n + 1) + y) * (g.n + 1) + x) (y * (g.n + 1) + x) place
    ∙ get_or_append_left g.values (outside g.n) (pos 0) (y * (g.n + 1) + x) (omega (arith, within, whole))

high_value : (g : PlaneGrid) (x y : ℕ) → length g.values ≡ (g.n + 1) * (g.n + 1) → x ≤ g.n → y ≤ g.n → value_at (layered g) (at x y 2) ≡ pos 0
unfolding layered
high_value g x y whole fx fy =
    let i = y * (g.n + 1) + x in
    let place : (2 * (g.n + 1) + y) * (g.n + 1) + x ≡ (g.n + 1) * (g.n + 1) + ((g.n + 1) * (g.n + 1) + i) = grind arith in
    let within = place_within g.n x y fx fy in
    let there : (g.n + 1) * (g.n + 1) + i ≡ length g.values + i = omega (arith, whole) in
    behind g ((2 * (g.n + 1) + y) * (g.n + 1) + x) ((g.n + 1) * (g.n + 1) + i) place
    ∙ ap (λ k. get_or (g.values ++ outside g.n) k (pos 0)) there
    ∙ get_or-append-add g.values (outside g.n) i (pos 0)
    ∙ outside_at g.n i within

-- ---- the outermost layer is outside

on_border : (a b c : Bool) → c ≡ false → (a || (b || c)) ≡ true → (a || b) ≡ true
on_border true b c none outer = refl
on_border false true c none outer = refl
on_border false false c none outer = (cc)

layer_outside : (g : PlaneGrid) → planes.IsBordered g → (x y z : ℕ) → x ≤ g.n → y ≤ g.n → z ≤ 2 → is_outermost (layered g) (at x y z) ≡ true
    → is_inside_at (layered g) (at x y z) ≡ false
unfolding layered
layer_outside g border x y zero fx fy fz outer = ap is_inside (low_value g x y fx fy)
layer_outside g border x y (suc zero) fx fy fz outer =
    ap is_inside (middle_value g x y border.whole fx fy)
    ∙ border.outside (planes.point x y) (and_from (nat_le x g.n) (nat_le y g.n) (le-leb x g.n fx) (le-leb y g.n fy))
    (on_border (x == 0 || x == g.n) (y == 0 || y == g.n) false refl outer)
layer_outside g border x y (suc (suc zero)) fx fy fz outer = ap is_inside (high_value g x y border.whole fx fy)
layer_outside g border x y (suc (suc (suc z))) fx fy fz outer = absurd (omega (arith, fz))

pub layered_bordered : (g : PlaneGrid) → planes.IsBordered g → IsBordered (layered g)
unfolding layered
layered_bordered g border = record {
  whole = let long = outside_long g.n in
      let whole = border.whole in
      let all = length-append (outside g.n) (g.values ++ outside g.n) in
      let rest = length-append g.values (outside g.n) in
      let three : (g.n + 1) * ((g.n + 1) * 3) ≡ (g.n + 1) * (g.n + 1) + ((g.n + 1) * (g.n + 1) + (g.n + 1) * (g.n + 1)) = grind arith in
      omega (arith, long, whole, all, rest, three);
  outside = λ p within outer.
      let x = and_parts (nat_le p.x g.n) (nat_le p.y g.n && nat_le p.z 2) within in
      let yz = and_parts (nat_le p.y g.n) (nat_le p.z 2) x.1 in
      layer_outside g border p.x p.y p.z (leb-true p.x g.n x.0) (leb-true p.y g.n yz.0) (leb-true p.z 2 yz.1) outer;
}

-- ---- the edges of the plane that hold a vertex hold one in that grid

-- an edge of the plane with exactly one inside end
pub record IsMixed (g : PlaneGrid) (e : PlaneEdge) : Type 0 where
  pub some : 1 ≤ e.dir
  pub few : e.dir ≤ 3
  pub x : e.x + along_x e.dir ≤ g.n
  pub y : e.y + along_y e.dir ≤ g.n
  pub mixed : planes.is_mixed (planes.is_inside_at g) e ≡ true

-- no step of such an edge goes up
pub no_step : (dir : ℕ) → dir ≤ 3 → along_z dir ≡ 0
no_step dir few = omega (arith, few)

module _ (g : PlaneGrid) (border : planes.IsBordered g) (e : PlaneEdge) (is : IsMixed g e) where
  -- the ends have the values of the plane
  pub lower_value : value_at (layered g) (at e.x e.y 1) ≡ planes.value_at g (planes.lower e)
  lower_value =
      let x = is.x in
      let y = is.y in
      middle_value g e.x e.y border.whole (omega (arith, x)) (omega (arith, y))

  pub upper_value : value_at (layered g) (at (e.x + along_x e.dir) (e.y + along_y e.dir) (1 + along_z e.dir)) ≡ planes.value_at g (planes.upper e)
  upper_value =
      let level : 1 + along_z e.dir ≡ 1 = let none = no_step e.dir is.few in omega (arith, none) in
      ap (λ z. value_at (layered g) (at (e.x + along_x e.dir) (e.y + along_y e.dir) z)) level
      ∙ middle_value g (e.x + along_x e.dir) (e.y + along_y e.dir) border.whole is.x is.y

  raised_is_vertex : IsVertex (layered g) (raised e)
  unfolding layered
  raised_is_vertex = record {
    direction = record { some = is.some; within = let few = is.few in omega (arith, few) };
    within = let low : 1 + along_z e.dir ≤ 2 = let none = no_step e.dir is.few in omega (arith, none) in
        and_from (nat_le (e.x + along_x e.dir) g.n) (nat_le (e.y + along_y e.dir) g.n && nat_le (1 + along_z e.dir) 2)
        (le-leb (e.x + along_x e.dir) g.n is.x)
        (and_from (nat_le (e.y + along_y e.dir) g.n) (nat_le (1 + along_z e.dir) 2) (le-leb (e.y + along_y e.dir) g.n is.y) (le-leb (1 + along_z e.dir) 2 low));
    mixed = ap (λ v. differ (is_inside v) (is_inside_at (layered g) (at (e.x + along_x e.dir) (e.y + along_y e.dir) (1 + along_z e.dir)))) lower_value
        ∙ ap (λ v. differ (planes.is_inside_at g (planes.lower e)) (is_inside v)) upper_value ∙ is.mixed;
  }

  pub raised_listed : Contains (vertices (layered g)) (raised e)
  raised_listed = (vertices_are_mixed_edges (layered g) (raised e)).1 raised_is_vertex
