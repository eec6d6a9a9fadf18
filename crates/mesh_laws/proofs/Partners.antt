-- Each turn of a grid is made in the other direction too.
use Rattle.std.proofs.Common.{◌≡◌, ℕ, zero, suc, ◌+◌, ◌-◌, ◌/◌, ◌%◌, ◌<◌, ◌≤◌, ℤ, pos, negsuc, Bool, true, false, List, [], ◌∷◌, refl, arith, ap, sym, subst, ◌∙◌, inl, inr}
use Rattle.std.specs.Prelude.{◌==◌, ◌&&◌, ◌||◌, ◌⊎◌, ◌≤ℤ◌, min, nat_lt, get_or, All, Contains, if◌then◌else◌}
use Rattle.std.specs.List.{range_with_len}
use Rattle.std.proofs.lemmas.Bool.{agree_below, agree_below_at, and_from, and_parts, cases_eq, eqb-true, le-leb, leb-true, ltb-true, or_cases, or_parts, false≢true, true≢false}
use Rattle.std.proofs.lemmas.Int.{ints}
use Rattle.std.proofs.lemmas.List.Elements.{All-map, Contains-append_right}
use Rattle.std.proofs.lemmas.List.Sums.{AllPass-from_list_all}
use Rattle.fixed_ops.specs.Raw.{is_inside}
use Rattle.kuhn_cells.specs.declared.edge_key.EdgeKey.{EdgeKey}
use Rattle.kuhn_cells.specs.Corners.{along_x, along_y, along_z, corner, is_negative}
use Rattle.kuhn_cells.specs.Grids.{Grid, is_inside_at, is_point, lower}
use Rattle.kuhn_cells.specs.Triangles.{GridPoint, further}
use Rattle.kuhn_cells.proofs.Checks.{both, both_at, every, every_at}
use Rattle.kuhn_cells.proofs.EdgeLaws.{implied_or, pattern_at as pattern_is}
use Rattle.kuhn_cells.proofs.FaceLaws.{all_in_block}
use Rattle.kuhn_cells.proofs.VertexLaws.{in_block}
use Rattle.mesh_laws.specs.Frames.{IsFramed, IsOuter}
use Rattle.mesh_laws.proofs.Neighbours.{ahead, always_beyond, always_met, are_met, back, beyond, fits, has, has_turn, is_beyond, is_met, missing, missing_of, moved, opposite, pattern_beyond, same_flag, same_way, sign_beyond, touches, turn_beyond, way_beyond, yes}
use Rattle.mesh_laws.proofs.Owners.{IsPlaced, all_placed}
use Rattle.mesh_laws.proofs.Turns.{Way, all_turns, cell_turns, key_of, keys_of, pattern_at, turns_at, turns_in, way}
use Rattle.fixed_ops.proofs.Lists.{all_within, in_flat, in_map, in_range}

-- ---- inside points lie within the outermost layer

not_both : (v : ℤ) → is_inside v ≡ true → pos 0 ≤ℤ v → ⊥
not_both (pos a) h k = let e = ltb-true a 0 h in omega (arith, e)
not_both (negsuc a) h k = omega (arith, ints, k)

not_outer : (g : Grid) → IsFramed g → (p : GridPoint) → is_point g p ≡ true → is_inside_at g p ≡ true → IsOuter g p → ⊥
not_outer g framed p h k o = not_both _ k (framed.frame p h o)

pub record IsWithin (count index : ℕ) : Type 0 where
  pub low : 1 ≤ index
  pub high : index + 1 ≤ count

within : (count index : ℕ) → index ≤ count → (index ≡ 0 → ⊥) → (index ≡ count → ⊥) → IsWithin count index
within count index most first last = by (cases_eq index 0) (cases_eq index count)
  where
    by : (index ≡ 0) ⊎ (index ≡ 0 → ⊥) → (index ≡ count) ⊎ (index ≡ count → ⊥) → IsWithin count index
    by (inl e) f = absurd (first e)
    by (inr e) (inl f) = absurd (last f)
    by (inr e) (inr f) = record { low = omega (arith, e); high = omega (arith, f, most) }

pub record IsInner (g : Grid) (p : GridPoint) : Type 0 where
  pub x : IsWithin g.x p.x
  pub y : IsWithin g.y p.y
  pub z : IsWithin g.z p.z

pub inner : (g : Grid) → IsFramed g → (p : GridPoint) → p.x ≤ g.x → p.y ≤ g.y → p.z ≤ g.z → is_inside_at g p ≡ true → IsInner g p
inner g framed p x y z h =
    let out = not_outer g framed p (and_from _ _ (le-leb p.x g.x x) (and_from _ _ (le-leb p.y g.y y) (le-leb p.z g.z z))) h in
    record {
      x = within g.x p.x x (λ e. out (inl (inl e))) (λ e. out (inl (inr e)));
      y = within g.y p.y y (λ e. out (inr (inl (inl e)))) (λ e. out (inr (inl (inr e))));
      z = within g.z p.z z (λ e. out (inr (inr (inl e)))) (λ e. out (inr (inr (inr e))));
    }

-- ---- the turn of a list that a test finds

ways_same : (v w : Way) → same_way v w ≡ true → v ≡ w
unfolding same_way
ways_same v w h = let p = and_parts _ _ h in rw (eqb-true v.inner w.inner p.0, eqb-true v.outer w.outer p.1) refl

found_turn : (turns : List (Way × Way)) (t : Way × Way) → has_turn turns t ≡ true → Contains turns t
unfolding has_turn
found_turn [] t h = absurd (false≢true h)
found_turn (s ∷ turns) t h = by (or_cases _ _ h) (λ k. found_turn turns t k)
  where
    by : ((same_way s.0 t.0 && same_way s.1 t.1) ≡ true) ⊎ (has_turn turns t ≡ true) → (has_turn turns t ≡ true → Contains turns t) → Contains (s ∷ turns) t
    by (inl here) later =
        let p = and_parts _ _ here in
        let first = ways_same s.0 t.0 p.0 in
        let second = ways_same s.1 t.1 p.1 in
        (0, omega arith, rw (first, second) refl)
    by (inr rest) later = Contains-append_right (s ∷ []) turns t (later rest)

-- ---- the turns of a grid

in_cell : (inside : GridPoint → Bool) (cell : GridPoint) (tetra : ℕ) (t : Way × Way) → tetra < 6 → Contains (turns_in (is_negative tetra) (pattern_at inside cell tetra)) t → Contains (cell_turns inside cell) (keys_of cell tetra t)
in_cell inside cell tetra t few h =
    in_flat (turns_at inside cell) (range_with_len 0 6) tetra (keys_of cell tetra t) (in_range 0 6 tetra (omega arith) (omega (arith, few))) (in_map (keys_of cell tetra) (turns_in (is_negative tetra) (pattern_at inside cell tetra)) t h)

in_grid : (g : Grid) (cell : GridPoint) (tetra : ℕ) (t : Way × Way) → cell.x < g.x → cell.y < g.y → cell.z < g.z → tetra < 6 → has_turn (turns_in (is_negative tetra) (pattern_at (is_inside_at g) cell tetra)) t ≡ true → Contains (all_turns g) (keys_of cell tetra t)
unfolding all_turns
in_grid g cell tetra t x y z few h =
    in_block g.x g.y g.z (cell_turns (is_inside_at g)) cell (keys_of cell tetra t) x y z (in_cell (is_inside_at g) cell tetra t few (found_turn _ t h))

-- ---- the tetrahedron beyond a face

flags_same : (a b : Bool) → same_flag a b ≡ true → a ≡ b
unfolding same_flag
flags_same true b h = sym h
flags_same false true h = absurd (false≢true h)
flags_same false false h = refl

-- what the check says of it
record IsBeyond (tetra out : ℕ) : Type 0 where
  few : beyond out tetra < 6
  sign : is_negative (beyond out tetra) ≡ sign_beyond out (is_negative tetra)
  near : (i : ℕ) → i < 4 → touches tetra out i ≡ true
  fit : (i j : ℕ) → i < 4 → j < 4 → fits tetra out i j ≡ true

lies_beyond : (tetra out : ℕ) → tetra < 6 → out < 4 → IsBeyond tetra out
unfolding is_beyond yes
lies_beyond tetra out few fo =
    let h = agree_below_at (is_beyond tetra) yes 4 out (agree_below_at (λ t. agree_below (is_beyond t) yes 4) yes 6 tetra always_beyond few) fo in
    let first = and_parts _ _ h in
    let second = and_parts _ _ first.1 in
    let each : (i : ℕ) → i < 4 → (touches tetra out i && agree_below (fits tetra out i) yes 4) ≡ true = λ i fi. agree_below_at (λ i. touches tetra out i && agree_below (fits tetra out i) yes 4) yes 4 i second.1 fi in
    record {
      few = ltb-true _ _ first.0;
      sign = flags_same _ _ second.0;
      near = λ i fi. (and_parts _ _ (each i fi)).0;
      fit = λ i j fi fj. agree_below_at (fits tetra out i) yes 4 j (and_parts _ _ (each i fi)).1 fj;
    }

-- the cell that lies so much further along an axis, and so much back
abbrev cell_beyond : ℕ → ℕ → GridPoint → GridPoint
cell_beyond tetra out cell =
    record {
      x = cell.x + along_x (ahead out tetra) - along_x (back out tetra);
      y = cell.y + along_y (ahead out tetra) - along_y (back out tetra);
      z = cell.z + along_z (ahead out tetra) - along_z (back out tetra);
    }

-- no cell lies so far back that it would lie below 0
record IsThere (tetra out : ℕ) (cell : GridPoint) : Type 0 where
  x : along_x (back out tetra) ≤ cell.x + along_x (ahead out tetra)
  y : along_y (back out tetra) ≤ cell.y + along_y (ahead out tetra)
  z : along_z (back out tetra) ≤ cell.z + along_z (ahead out tetra)

-- along one axis: the place of a corner that both cells have
same_place : (c ahead back a b : ℕ) → back ≤ c + ahead → (ahead + b == back + a) ≡ true → (c + ahead - back) + b ≡ c + a
same_place c ahead back a b h e = let k = eqb-true _ _ e in omega (arith, h, k)

or_second : (a b c : Bool) → ((a || b) || c) ≡ true → a ≡ false → b ≡ false → c ≡ true
or_second true b c h p q = absurd (true≢false p)
or_second false true c h p q = absurd (true≢false q)
or_second false false c h p q = h

key_beyond : (tetra out : ℕ) (cell : GridPoint) (w : Way) → IsThere tetra out cell → fits tetra out w.inner w.outer ≡ true → (w.inner == out) ≡ false → (w.outer == out) ≡ false → key_of (cell_beyond tetra out cell) (beyond out tetra) (way_beyond out w) ≡ key_of cell tetra w
unfolding fits
key_beyond tetra out cell w there h i j =
    let all = or_second _ _ _ h i j in
    let x = and_parts _ _ all in
    let y = and_parts _ _ x.1 in
    let z = and_parts _ _ y.1 in
    rw (same_place cell.x _ _ _ _ there.x x.0, same_place cell.y _ _ _ _ there.y y.0, same_place cell.z _ _ _ _ there.z z.0, eqb-true _ _ z.1) refl

min_same : (a : ℕ) → min a a ≡ a
min_same a = omega arith

-- a corner of the face
point_beyond : (tetra out : ℕ) (cell : GridPoint) (i : ℕ) → IsThere tetra out cell → fits tetra out i i ≡ true → (i == out) ≡ false → further (cell_beyond tetra out cell) (corner (beyond out tetra) (moved out i)) ≡ further cell (corner tetra i)
point_beyond tetra out cell i there h apart =
    let same = rw (min_same (corner (beyond out tetra) (moved out i)), min_same (corner tetra i)) at (key_beyond tetra out cell (way i i) there h apart apart) in
    ap lower same

pattern_moves : (f h : ℕ → Bool) (out : ℕ) → out < 4 → ((i : ℕ) → i < 4 → (i == out) ≡ false → f (moved out i) ≡ h i) → (f 0 ∷ f 1 ∷ f 2 ∷ f 3 ∷ []) ≡ pattern_beyond out h (f (opposite out))
pattern_moves f h zero few same = rw (same 1 (omega arith) refl, same 2 (omega arith) refl, same 3 (omega arith) refl) refl
pattern_moves f h (suc zero) few same = rw (same 0 (omega arith) refl, same 2 (omega arith) refl, same 3 (omega arith) refl) refl
pattern_moves f h (suc (suc zero)) few same = rw (same 0 (omega arith) refl, same 1 (omega arith) refl, same 3 (omega arith) refl) refl
pattern_moves f h (suc (suc (suc zero))) few same = rw (same 0 (omega arith) refl, same 1 (omega arith) refl, same 2 (omega arith) refl) refl
pattern_moves f h (suc (suc (suc (suc k)))) few same = absurd (omega (arith, few))

-- ---- the turn in the other direction

left_out : (h : ℕ → Bool) → missing_of h < 4 → h (missing_of h) ≡ false
left_out h few = by (h 0) (h 1) (h 2) (h 3) refl refl refl refl few
  where
    by : (a b c d : Bool) → h 0 ≡ a → h 1 ≡ b → h 2 ≡ c → h 3 ≡ d → (if a then (if b then (if c then (if d then 4 else 3) else 2) else 1) else 0) < 4 → h (if a then (if b then (if c then (if d then 4 else 3) else 2) else 1) else 0) ≡ false
    by false b c d p q r s less = p
    by true false c d p q r s less = q
    by true true false d p q r s less = r
    by true true true false p q r s less = s
    by true true true true p q r s less = absurd (omega (arith, less))

-- along one axis: an inside corner of the face tells that the cell beyond it lies in the grid
reaches_back : (c ahead back a : ℕ) → 1 ≤ c + a → back + a ≤ 1 → back ≤ c + ahead
reaches_back c ahead back a h k = omega (arith, h, k)

stays_below : (c ahead back a n : ℕ) → (c + a) + 1 ≤ n → ahead ≤ a → c + ahead - back < n
stays_below c ahead back a n h k = omega (arith, h, k)

one_further : (c n k : ℕ) → c < n → c + k % 2 ≤ n
one_further c n k h = omega (arith, h)

pub pair_same : {A : Type 0} (a b c d : A) → a ≡ c → b ≡ d → ◌≡◌ {A = A × A} (a, b) (c, d)
pair_same {A} a b c d p q = rw (p, q) refl

-- a tetrahedron of a cell of a grid
record IsInGrid (g : Grid) (cell : GridPoint) (tetra : ℕ) : Type 0 where
  x : cell.x < g.x
  y : cell.y < g.y
  z : cell.z < g.z
  few : tetra < 6

abbrev lit_at : Grid → GridPoint → ℕ → ℕ → Bool
lit_at g cell tetra k = get_or (pattern_at (is_inside_at g) cell tetra) k false

abbrev IsMadeBack : Grid → GridPoint → ℕ → Way × Way → Type 0
IsMadeBack g cell tetra t = Contains (all_turns g) (key_of cell tetra t.1, key_of cell tetra t.0)

across_face : (g : Grid) (cell : GridPoint) (tetra : ℕ) (t : Way × Way) → IsFramed g → IsInGrid g cell tetra → IsPlaced (is_inside_at g) cell tetra t → missing t < 4 → both (λ flag. has_turn (turns_in (sign_beyond (missing t) (is_negative tetra)) (pattern_beyond (missing t) (lit_at g cell tetra) flag)) (turn_beyond (missing t) t)) ≡ true → IsMadeBack g cell tetra t
unfolding touches
across_face g cell tetra t framed in_grid_now placed fo met =
    let inside = is_inside_at g in
    let out = missing t in
    let there = beyond out tetra in
    let c = corner tetra t.0.inner in
    let b = lies_beyond tetra out in_grid_now.few fo in
    let a0 = or_parts _ _ (left_out (has t) fo) in
    let a1 = or_parts _ _ a0.1 in
    let a2 = or_parts _ _ a1.1 in
    let lit = sym (pattern_is (λ k. inside (further cell k)) tetra t.0.inner placed.inner) ∙ placed.lit in
    let n = inner g framed (further cell c) (one_further cell.x g.x c in_grid_now.x) (one_further cell.y g.y (c / 2) in_grid_now.y) (one_further cell.z g.z (c / 4) in_grid_now.z) lit in
    let near = implied_or _ _ (b.near t.0.inner placed.inner) a0.0 in
    let nx = and_parts _ _ near in
    let nyz = and_parts _ _ nx.1 in
    let x = and_parts _ _ nx.0 in
    let y = and_parts _ _ nyz.0 in
    let z = and_parts _ _ nyz.1 in
    let lies : IsThere tetra out cell = record {
      x = reaches_back cell.x _ _ _ n.x.low (leb-true _ _ x.1);
      y = reaches_back cell.y _ _ _ n.y.low (leb-true _ _ y.1);
      z = reaches_back cell.z _ _ _ n.z.low (leb-true _ _ z.1);
    } in
    let next = cell_beyond tetra out cell in
    let f = λ (k : ℕ). inside (further next (corner there k)) in
    let same = pattern_moves f (lit_at g cell tetra) out fo (λ i fi apart. ap inside (point_beyond tetra out cell i lies (b.fit i i fi fi) apart) ∙ sym (pattern_is (λ k. inside (further cell k)) tetra i fi)) in
    let turns = ap (λ (s : Bool). turns_in s (pattern_at inside next there)) b.sign ∙ ap (turns_in (sign_beyond out (is_negative tetra))) same in
    let made = ap (λ (ts : List (Way × Way)). has_turn ts (turn_beyond out t)) turns ∙ both_at (λ flag. has_turn (turns_in (sign_beyond out (is_negative tetra)) (pattern_beyond out (lit_at g cell tetra) flag)) (turn_beyond out t)) met (f (opposite out)) in
    let stands = in_grid g next there (turn_beyond out t) (stays_below cell.x _ _ _ g.x n.x.high (leb-true _ _ x.0)) (stays_below cell.y _ _ _ g.y n.y.high (leb-true _ _ y.0)) (stays_below cell.z _ _ _ g.z n.z.high (leb-true _ _ z.0)) b.few made in
    let first = key_beyond tetra out cell t.0 lies (b.fit t.0.inner t.0.outer placed.inner placed.outer) a0.0 a1.0 in
    let second = key_beyond tetra out cell t.1 lies (b.fit t.1.inner t.1.outer placed.next_inner placed.next_outer) a2.0 a2.1 in
    subst (λ (k : EdgeKey × EdgeKey). Contains (all_turns g) k) (pair_same _ _ _ _ second first) stands

made_back : (g : Grid) (cell : GridPoint) (tetra : ℕ) (t : Way × Way) → IsFramed g → IsInGrid g cell tetra → IsPlaced (is_inside_at g) cell tetra t → is_met (is_negative tetra) (lit_at g cell tetra) (turns_in (is_negative tetra) (pattern_at (is_inside_at g) cell tetra)) t ≡ true → IsMadeBack g cell tetra t
unfolding is_met
made_back g cell tetra t framed lies placed met = by (nat_lt (missing t) 4) (ltb-true (missing t) 4) met
  where
    by : (face : Bool) → (face ≡ true → missing t < 4) → (if face then both (λ flag. has_turn (turns_in (sign_beyond (missing t) (is_negative tetra)) (pattern_beyond (missing t) (lit_at g cell tetra) flag)) (turn_beyond (missing t) t)) else has_turn (turns_in (is_negative tetra) (pattern_at (is_inside_at g) cell tetra)) (t.1, t.0)) ≡ true → IsMadeBack g cell tetra t
    by true few h = across_face g cell tetra t framed lies placed (few refl) h
    by false few h = in_grid g cell tetra (t.1, t.0) lies.x lies.y lies.z lies.few h

all_met : (g : Grid) (cell : GridPoint) (tetra : ℕ) → All (λ t. is_met (is_negative tetra) (lit_at g cell tetra) (turns_in (is_negative tetra) (pattern_at (is_inside_at g) cell tetra)) t ≡ true) (turns_in (is_negative tetra) (pattern_at (is_inside_at g) cell tetra))
unfolding are_met
all_met g cell tetra =
    let negative = is_negative tetra in
    let at = λ (which : ℕ). is_inside_at g (further cell (corner tetra which)) in
    let turns = turns_in negative (pattern_at (is_inside_at g) cell tetra) in
    AllPass-from_list_all (is_met negative (lit_at g cell tetra) turns) turns (every_at (are_met negative) (both_at (λ n. every (are_met n)) always_met negative) (at 0) (at 1) (at 2) (at 3))

pub all_made_back : (g : Grid) → IsFramed g → All (λ k. Contains (all_turns g) (k.1, k.0)) (all_turns g)
unfolding all_turns
all_made_back g framed =
    let Back = λ (k : EdgeKey × EdgeKey). Contains (all_turns g) (k.1, k.0) in
    all_in_block Back g.x g.y g.z (cell_turns (is_inside_at g)) (λ cell x y z.
    all_within Back (turns_at (is_inside_at g) cell) 0 6 (λ tetra few.
    let turns = turns_in (is_negative tetra) (pattern_at (is_inside_at g) cell tetra) in
    let lies : IsInGrid g cell tetra = record { x = x; y = y; z = z; few = omega (arith, few) } in
    All-map Back (keys_of cell tetra) turns (λ k d h. made_back g cell tetra (get_or turns k d) framed lies (all_placed (is_inside_at g) cell tetra lies.few k d h) (all_met g cell tetra k d h))))
