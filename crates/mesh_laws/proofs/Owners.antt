-- The one tetrahedron in which a turn occurs.
use Rattle.std.proofs.Common.{◌≡◌, ℕ, ◌+◌, ◌-◌, ◌*◌, ◌/◌, ◌%◌, ◌<◌, Bool, true, false, List, [], ◌∷◌, refl, arith, ap, sym, ◌∙◌}
use Rattle.std.specs.Prelude.{◌==◌, ◌&&◌, not, min, max, nat_lt, map, flat_map, get_or, All, AllPairs, if◌then◌else◌}
use Rattle.std.specs.List.{list_all, range_with_len}
use Rattle.std.proofs.lemmas.Bool.{agree_below, agree_below_at, and_from, and_parts, both_ways, eqb-true, eq-eqb, ltb-true, not-true}
use Rattle.std.proofs.lemmas.List.Elements.{All-map, All-weaker}
use Rattle.std.proofs.lemmas.List.Sums.{AllPass-from_list_all}
use Rattle.kuhn_cells.specs.declared.edge_key.EdgeKey.{EdgeKey}
use Rattle.kuhn_cells.specs.Arrangement.{arranged}
use Rattle.kuhn_cells.specs.Corners.{along_x, along_y, along_z, corner, is_negative}
use Rattle.kuhn_cells.specs.Grids.{lower}
use Rattle.kuhn_cells.specs.Triangles.{GridPoint, further}
use Rattle.kuhn_cells.proofs.Checks.{every, every_at}
use Rattle.kuhn_cells.proofs.EdgeLaws.{pattern_at as pattern_is}
use Rattle.mesh_laws.proofs.Lists.{Differ, differ_by, distinct}
use Rattle.mesh_laws.proofs.Turns.{Way, keys_of, pattern_at, turns_at, turns_in, ways_in}
use Rattle.fixed_ops.proofs.Lists.{map_map}

-- ---- a number for each turn of the tetrahedra near a place

-- the lower corner of an edge of a tetrahedron, and the direction
abbrev pub low : ℕ → Way → ℕ
low tetra w = min (corner tetra w.inner) (corner tetra w.outer)

abbrev pub direction : ℕ → Way → ℕ
direction tetra w = max (corner tetra w.inner) (corner tetra w.outer) - low tetra w

-- how the second of two edges lies from the first, the directions, and whether the first runs upwards
code : ℕ → ℕ → ℕ → ℕ → ℕ → Bool → ℕ
code x y z d e rises = x + 3 * (y + 3 * (z + 3 * (d + 8 * (e + 8 * (if rises then 1 else 0)))))

turn_code : ℕ → Way × Way → ℕ
turn_code tetra t =
    let a = low tetra t.0 in
    let b = low tetra t.1 in
    code (along_x b + 1 - along_x a) (along_y b + 1 - along_y a) (along_z b + 1 - along_z a) (direction tetra t.0) (direction tetra t.1) (nat_lt t.0.inner t.0.outer)

key_code : (GridPoint → Bool) → EdgeKey × EdgeKey → ℕ
key_code inside k = code (k.1.x + 1 - k.0.x) (k.1.y + 1 - k.0.y) (k.1.z + 1 - k.0.z) k.0.dir k.1.dir (inside (lower k.0))

-- ---- the table of all turns, with the lower corner of the first edge and the tetrahedron

abbrev flags : List Bool
flags = true ∷ false ∷ []

abbrev patterns : List (List Bool)
patterns = flat_map (λ a. flat_map (λ b. flat_map (λ c. map (λ d. a ∷ b ∷ c ∷ d ∷ []) flags) flags) flags) flags

abbrev place : ℕ → Way × Way → ℕ
place tetra t = low tetra t.0 + 8 * tetra

table : List (ℕ × ℕ)
table = flat_map (λ tetra. flat_map (λ pattern. map (λ (t : Way × Way). (turn_code tetra t, place tetra t)) (turns_in (is_negative tetra) pattern)) patterns) (range_with_len 0 6)

unfoldable pub found : List (ℕ × ℕ) → ℕ → ℕ
found [] number = 0
found (entry ∷ rest) number = if entry.0 == number then entry.1 else found rest number

-- ---- the check of all turns

-- two edges of a tetrahedron are one
is_same : ℕ → Way → Way → Bool
is_same tetra v w =
    along_x (low tetra v) == along_x (low tetra w)
    && (along_y (low tetra v) == along_y (low tetra w)
    && (along_z (low tetra v) == along_z (low tetra w) && direction tetra v == direction tetra w))

-- A turn of a tetrahedron has a number that no turn at another place has. Its first edge runs from an inside corner
-- to an outside one, and its two edges differ.
is_good : List (ℕ × ℕ) → ℕ → List Bool → Way × Way → Bool
is_good entries tetra pattern t =
    (found entries (turn_code tetra t) == place tetra t)
    && (nat_lt (low tetra t.0) 8
    && (nat_lt t.0.inner 4
    && (nat_lt t.0.outer 4
    && (nat_lt t.1.inner 4
    && (nat_lt t.1.outer 4
    && (get_or pattern t.0.inner false
    && (not (get_or pattern t.0.outer false)
    && (low tetra t.0 == corner tetra (if nat_lt t.0.inner t.0.outer then t.0.inner else t.0.outer)
    && not (is_same tetra t.0 t.1)))))))))

are_good : List (ℕ × ℕ) → ℕ → Bool → Bool → Bool → Bool → Bool
are_good entries tetra v0 v1 v2 v3 =
    let pattern = v0 ∷ v1 ∷ v2 ∷ v3 ∷ [] in
    let turns = turns_in (is_negative tetra) pattern in
    list_all (is_good entries tetra pattern) turns && distinct (map (turn_code tetra) turns)

all_good : List (ℕ × ℕ) → Bool
all_good entries = agree_below (λ tetra. every (are_good entries tetra)) (λ _. true) 6

always_good : all_good table ≡ true
unfolding all_good are_good is_good is_same found table turn_code code ways_in arranged
always_good = refl

-- ---- what the check says of the turns of a cell

good_turns : (tetra : ℕ) (v0 v1 v2 v3 : Bool) → tetra < 6 → are_good table tetra v0 v1 v2 v3 ≡ true
unfolding all_good
good_turns tetra v0 v1 v2 v3 few =
    every_at (are_good table tetra) (agree_below_at (λ tetra. every (are_good table tetra)) (λ _. true) 6 tetra always_good few) v0 v1 v2 v3

-- the inside end of an edge is its lower end where the edge runs upwards
sign_of : (inside : GridPoint → Bool) (cell : GridPoint) (tetra i j mask : ℕ) (rises : Bool) → mask ≡ corner tetra (if rises then i else j) → i < 4 → j < 4 → get_or (pattern_at inside cell tetra) i false ≡ true → get_or (pattern_at inside cell tetra) j false ≡ false → inside (further cell mask) ≡ rises
sign_of inside cell tetra i j mask true e fi fj hi hj = rw e (sym (pattern_is (λ c. inside (further cell c)) tetra i fi) ∙ hi)
sign_of inside cell tetra i j mask false e fi fj hi hj = rw e (sym (pattern_is (λ c. inside (further cell c)) tetra j fj) ∙ hj)

step_between : (c a b : ℕ) → ((c + b) + 1) - (c + a) ≡ (b + 1) - a
step_between c a b = omega arith

place_parts : (mask tetra : ℕ) → mask < 8 → ((mask + 8 * tetra) % 8 ≡ mask) × ((mask + 8 * tetra) / 8 ≡ tetra)
place_parts mask tetra few = (omega (arith, few), omega (arith, few))

-- the tetrahedron and the cell that the table tells of a turn
home : (GridPoint → Bool) → EdgeKey × EdgeKey → ℕ
home inside k = found table (key_code inside k)

pub home_tetra : (GridPoint → Bool) → EdgeKey × EdgeKey → ℕ
home_tetra inside k = home inside k / 8

pub home_x : (GridPoint → Bool) → EdgeKey × EdgeKey → ℕ
home_x inside k = k.0.x - along_x (home inside k % 8)

pub home_y : (GridPoint → Bool) → EdgeKey × EdgeKey → ℕ
home_y inside k = k.0.y - along_y (home inside k % 8)

pub home_z : (GridPoint → Bool) → EdgeKey × EdgeKey → ℕ
home_z inside k = k.0.z - along_z (home inside k % 8)

-- a turn of a tetrahedron of a cell: the table tells them, and its edges differ
pub record IsAtHome (inside : GridPoint → Bool) (cell : GridPoint) (tetra : ℕ) (k : EdgeKey × EdgeKey) : Type 0 where
  pub x : home_x inside k ≡ cell.x
  pub y : home_y inside k ≡ cell.y
  pub z : home_z inside k ≡ cell.z
  pub in_tetra : home_tetra inside k ≡ tetra
  pub differ : k.0 ≡ k.1 → ⊥

-- what the check of one turn says
pub record IsPlaced (inside : GridPoint → Bool) (cell : GridPoint) (tetra : ℕ) (t : Way × Way) : Type 0 where
  number : key_code inside (keys_of cell tetra t) ≡ turn_code tetra t
  place : found table (turn_code tetra t) ≡ place tetra t
  near : low tetra t.0 < 8
  pub inner : t.0.inner < 4
  pub outer : t.0.outer < 4
  pub next_inner : t.1.inner < 4
  pub next_outer : t.1.outer < 4
  pub lit : get_or (pattern_at inside cell tetra) t.0.inner false ≡ true
  apart : is_same tetra t.0 t.1 ≡ false

placed : (inside : GridPoint → Bool) (cell : GridPoint) (tetra : ℕ) (t : Way × Way) → is_good table tetra (pattern_at inside cell tetra) t ≡ true → IsPlaced inside cell tetra t
unfolding is_good turn_code key_code
placed inside cell tetra t h =
    let a = low tetra t.0 in
    let b = low tetra t.1 in
    let p0 = and_parts _ _ h in
    let p1 = and_parts _ _ p0.1 in
    let p2 = and_parts _ _ p1.1 in
    let p3 = and_parts _ _ p2.1 in
    let p4 = and_parts _ _ p3.1 in
    let p5 = and_parts _ _ p4.1 in
    let p6 = and_parts _ _ p5.1 in
    let p7 = and_parts _ _ p6.1 in
    let p8 = and_parts _ _ p7.1 in
    let sign = sign_of inside cell tetra t.0.inner t.0.outer a (nat_lt t.0.inner t.0.outer) (eqb-true _ _ p8.0) (ltb-true _ _ p2.0) (ltb-true _ _ p3.0) p6.0 (not-true _ p7.0) in
    record {
      number = rw (step_between cell.x (along_x a) (along_x b), step_between cell.y (along_y a) (along_y b), step_between cell.z (along_z a) (along_z b), sign) refl;
      place = eqb-true _ _ p0.0;
      near = ltb-true _ _ p1.0;
      inner = ltb-true _ _ p2.0;
      outer = ltb-true _ _ p3.0;
      next_inner = ltb-true _ _ p4.0;
      next_outer = ltb-true _ _ p5.0;
      lit = p6.0;
      apart = not-true _ p8.1;
    }

pub all_placed : (inside : GridPoint → Bool) (cell : GridPoint) (tetra : ℕ) → tetra < 6 → All (IsPlaced inside cell tetra) (turns_in (is_negative tetra) (pattern_at inside cell tetra))
unfolding are_good
all_placed inside cell tetra few =
    let pattern = pattern_at inside cell tetra in
    let at = λ (which : ℕ). inside (further cell (corner tetra which)) in
    let turns = turns_in (is_negative tetra) pattern in
    All-weaker (λ t. is_good table tetra pattern t ≡ true) (IsPlaced inside cell tetra) (placed inside cell tetra) turns
    (AllPass-from_list_all (is_good table tetra pattern) turns (and_parts _ _ (good_turns tetra (at 0) (at 1) (at 2) (at 3) few)).0)

same_step : (c a b : ℕ) → c + a ≡ c + b → a ≡ b
same_step c a b e = omega (arith, e)

at_home : (inside : GridPoint → Bool) (cell : GridPoint) (tetra : ℕ) (t : Way × Way) → IsPlaced inside cell tetra t → IsAtHome inside cell tetra (keys_of cell tetra t)
unfolding home home_x home_y home_z home_tetra is_same
at_home inside cell tetra t h =
    let a = low tetra t.0 in
    let b = low tetra t.1 in
    let parts = place_parts a tetra h.near in
    let number = h.number in
    let place = h.place in
    record {
      x = rw (number, place, parts.0) (omega arith);
      y = rw (number, place, parts.0) (omega arith);
      z = rw (number, place, parts.0) (omega arith);
      in_tetra = rw (number, place, parts.1) refl;
      differ = λ same.
          let x = eq-eqb (along_x a) (along_x b) (same_step cell.x _ _ (ap (λ (e : EdgeKey). e.x) same)) in
          let y = eq-eqb (along_y a) (along_y b) (same_step cell.y _ _ (ap (λ (e : EdgeKey). e.y) same)) in
          let z = eq-eqb (along_z a) (along_z b) (same_step cell.z _ _ (ap (λ (e : EdgeKey). e.z) same)) in
          let d = eq-eqb (direction tetra t.0) (direction tetra t.1) (ap (λ (e : EdgeKey). e.dir) same) in
          both_ways (is_same tetra t.0 t.1) h.apart (and_from _ _ x (and_from _ _ y (and_from _ _ z d)));
    }

pub all_at_home : (inside : GridPoint → Bool) (cell : GridPoint) (tetra : ℕ) → tetra < 6 → All (IsAtHome inside cell tetra) (turns_at inside cell tetra)
all_at_home inside cell tetra few =
    let turns = turns_in (is_negative tetra) (pattern_at inside cell tetra) in
    All-map (IsAtHome inside cell tetra) (keys_of cell tetra) turns (All-weaker (IsPlaced inside cell tetra) (λ t. IsAtHome inside cell tetra (keys_of cell tetra t)) (at_home inside cell tetra) turns (all_placed inside cell tetra few))

-- the turns of a tetrahedron differ
pub one_differ : (inside : GridPoint → Bool) (cell : GridPoint) (tetra : ℕ) → tetra < 6 → AllPairs Differ (turns_at inside cell tetra)
unfolding are_good
one_differ inside cell tetra few =
    let pattern = pattern_at inside cell tetra in
    let at = λ (which : ℕ). inside (further cell (corner tetra which)) in
    let turns = turns_in (is_negative tetra) pattern in
    let all = All-weaker (IsPlaced inside cell tetra) (λ t. key_code inside (keys_of cell tetra t) ≡ turn_code tetra t) (λ t h. h.number) turns (all_placed inside cell tetra few) in
    let numbers = (and_parts _ _ (good_turns tetra (at 0) (at 1) (at 2) (at 3) few)).1 in
    differ_by (key_code inside) (turns_at inside cell tetra) (ap distinct (map_map (key_code inside) (keys_of cell tetra) (turn_code tetra) turns all) ∙ numbers)
