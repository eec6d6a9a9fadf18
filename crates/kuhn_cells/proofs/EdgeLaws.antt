-- The edges of triangles have a direction, and exactly one inside end.
use Rattle.std.proofs.Common.{◌≡◌, ℕ, zero, suc, ◌+◌, ◌-◌, ◌/◌, ◌%◌, ◌<◌, ◌≤◌, Bool, true, false, List, [], ◌∷◌, refl, arith, ◌∙◌, sym, inl, inr}
use Rattle.std.specs.Prelude.{◌==◌, ◌&&◌, ◌||◌, ◌⊎◌, not, min, max, nat_le, nat_lt, get_or, map, All, if◌then◌else◌}
use Rattle.std.proofs.lemmas.Bool.{agree_below_at, agree_below, and_parts, eqb-true, leb-true, ltb-true, cases_order, not-true, true≢false, false≢true}
use Rattle.std.proofs.lemmas.List.Elements.{All-append, All-cons, All-nil, All-weaker}
use Rattle.kuhn_cells.specs.declared.edge_key.EdgeKey.{EdgeKey}
use Rattle.kuhn_cells.specs.declared.triple.Triple.{Triple}
use Rattle.kuhn_cells.specs.Arrangement.{arranged, differ, inside_count, pattern_of}
use Rattle.kuhn_cells.specs.Corners.{along_x, along_y, along_z, corner, is_negative}
use Rattle.kuhn_cells.specs.Faces.{cell_triangles}
use Rattle.kuhn_cells.specs.Grids.{is_mixed, upper}
use Rattle.kuhn_cells.specs.Laws.{EdgesAreMixed, EdgesHaveDirections, IsDirection, OfEdges}
use Rattle.kuhn_cells.specs.Triangles.{GridPoint, edge_between, further, triangles_among, triangles_in}
use Rattle.kuhn_cells.proofs.Checks.{both_at, every, every_at}

-- what a test implies passes where that test does
pub implied : (a b : Bool) → (not a || b) ≡ true → a ≡ true → b ≡ true
implied true b h e = h
implied false b h e = absurd (false≢true e)

-- of two tests, the other one passes where the first fails
pub implied_or : (a b : Bool) → (a || b) ≡ true → a ≡ false → b ≡ true
implied_or true b h e = absurd (true≢false e)
implied_or false b h e = h

pub differ_symmetric : (a b : Bool) → differ a b ≡ differ b a
differ_symmetric true true = refl
differ_symmetric true false = refl
differ_symmetric false true = refl
differ_symmetric false false = refl

-- what an edge of a triangle of a cell has
pub record IsParting (inside : GridPoint → Bool) (cell : GridPoint) (e : EdgeKey) : Type 0 where
  pub direction : IsDirection e.dir
  pub mixed : is_mixed inside e ≡ true
  pub near_x : (upper e).x ≤ cell.x + 1
  pub near_y : (upper e).y ≤ cell.y + 1
  pub near_z : (upper e).z ≤ cell.z + 1
  pub above : cell.z ≤ e.z

-- the steps of the lower of two corners and those of the direction make those of the upper one
adds_up : ℕ → ℕ → ℕ → Bool
adds_up tetra i j =
    let low = min (corner tetra i) (corner tetra j) in
    let high = max (corner tetra i) (corner tetra j) in
    i == j
    || ((along_x low + along_x (high - low) == along_x high)
    && ((along_y low + along_y (high - low) == along_y high)
    && ((along_z low + along_z (high - low) == along_z high)
    && (nat_le 1 (high - low) && nat_le (high - low) 7))))

abbrev yes : ℕ → Bool
yes k = true

all_add_up : (tetra i j : ℕ) → tetra < 6 → i < 4 → j < 4 → adds_up tetra i j ≡ true
unfolding adds_up
all_add_up tetra i j few fi fj =
    agree_below_at (adds_up tetra i) yes 4 j (agree_below_at
    (λ i. agree_below (adds_up tetra i) yes 4) yes 4 i
    (agree_below_at (λ t. agree_below (λ i. agree_below
    (adds_up t i) yes 4) yes 4) yes 6 tetra refl few) fi) fj

-- the lower and the upper end of an edge are its two corners, in one order or the other
lower_upper : (f : ℕ → Bool) (m n : ℕ) → differ (f (min m n)) (f (max m n)) ≡ differ (f m) (f n)
lower_upper f m n = by (cases_order m n)
  where
    by : (m ≡ n) ⊎ ((m < n) ⊎ (n < m)) → differ (f (min m n)) (f (max m n)) ≡ differ (f m) (f n)
    by (inl same) = let low : min m n ≡ m = omega (arith, same) in let high : max m n ≡ n =
        omega (arith, same) in rw (low, high) refl
    by (inr (inl less)) = let low : min m n ≡ m = omega (arith, less) in let high : max m n ≡ n =
        omega (arith, less) in rw (low, high) refl
    by (inr (inr more)) = let low : min m n ≡ n = omega (arith, more) in let high : max m n ≡ m =
        omega (arith, more) in rw (low, high) (differ_symmetric (f n) (f m))

-- one step after another
pub step_on : (x a b c : ℕ) → (a + b == c) ≡ true → (x + a) + b ≡ x + c
step_on x a b c h = let e = eqb-true (a + b) c h in omega (arith, e)

further_on : (cell : GridPoint) (low high : ℕ) → (along_x low + along_x
    (high - low) == along_x high) ≡ true → (along_y low + along_y
    (high - low) == along_y high) ≡ true → (along_z low + along_z
    (high - low) == along_z high) ≡ true → further (further cell low)
    (high - low) ≡ further cell high
further_on cell low high x y z =
    rw (
      step_on cell.x (along_x low) (along_x (high - low)) (along_x high) x,
      step_on cell.y (along_y low) (along_y (high - low)) (along_y high) y,
      step_on cell.z (along_z low) (along_z (high - low)) (along_z high) z,
    ) refl

one_step : (n k : ℕ) → k + n % 2 ≤ k + 1
one_step n k = omega arith

-- the edge between two corners of a tetrahedron of which one is inside
parting : (inside : GridPoint → Bool) (cell : GridPoint) (tetra i j : ℕ) → tetra < 6 → i < 4 → j < 4
    → differ (inside (further cell (corner tetra i))) (inside
    (further cell (corner tetra j))) ≡ true → (i == j) ≡ false
    → IsParting inside cell (edge_between cell (corner tetra i) (corner tetra j))
unfolding adds_up
parting inside cell tetra i j few fi fj parted apart =
    let low = min (corner tetra i) (corner tetra j) in
    let high = max (corner tetra i) (corner tetra j) in
    let all = implied_or _ _ (all_add_up tetra i j few fi fj) apart in
    let x = and_parts _ _ all in
    let y = and_parts _ _ x.1 in
    let z = and_parts _ _ y.1 in
    let dir = and_parts _ _ z.1 in
    record {
      direction = record { some = leb-true _ _ dir.0; within = leb-true _ _ dir.1 };
      mixed = rw (further_on cell low high x.0 y.0 z.0)
          (lower_upper (λ c. inside (further cell c)) (corner tetra i) (corner tetra j) ∙ parted);
      near_x = rw (step_on cell.x (along_x low) (along_x (high - low)) (along_x high) x.0)
          (one_step high cell.x);
      near_y = rw (step_on cell.y (along_y low) (along_y (high - low)) (along_y high) y.0)
          (one_step (high / 2) cell.y);
      near_z = rw (step_on cell.z (along_z low) (along_z (high - low)) (along_z high) z.0)
          (one_step (high / 4) cell.z);
      above = omega arith;
    }

-- Which edges of the arranged corners are drawn by how many corners are inside: their ends are two
-- of the four corners, of which one is inside.
is_parted : List Bool → List ℕ → ℕ → ℕ → Bool
is_parted pattern ks i j =
    let a = get_or ks i 0 in
    let b = get_or ks j 0 in
    nat_lt a 4 && (nat_lt b 4 && (not (a == b) && differ (get_or pattern a false)
    (get_or pattern b false)))

alone_parted : List Bool → List ℕ → Bool
alone_parted pattern ks =
    is_parted pattern ks 0 1 && (is_parted pattern ks 0 2 && is_parted pattern ks 0 3)

two_parted : List Bool → List ℕ → Bool
two_parted pattern ks = is_parted pattern ks 0 2 && (is_parted pattern ks 0 3
    && (is_parted pattern ks 1 3 && is_parted pattern ks 1 2))

are_parted : ℕ → List Bool → List ℕ → Bool
are_parted count pattern ks =
    (not (count == 1) || alone_parted pattern ks) && ((not (count == 3) || alone_parted pattern ks)
    && (not (count == 2) || two_parted pattern ks))

all_parted : Bool → Bool → Bool → Bool → Bool → Bool
all_parted negative v0 v1 v2 v3 =
    let pattern = v0 ∷ v1 ∷ v2 ∷ v3 ∷ [] in
    are_parted (inside_count pattern) pattern (arranged negative pattern)

always_parted : (negative v0 v1 v2 v3 : Bool) → all_parted negative v0 v1 v2 v3 ≡ true
unfolding all_parted are_parted alone_parted two_parted is_parted arranged
always_parted negative =
    every_at (all_parted negative) (both_at (λ n. every (all_parted n)) refl negative)

lone : (Q : EdgeKey → Type 0) (t : Triple) → OfEdges Q t → All (OfEdges Q) (t ∷ [])
lone Q t h = All-cons (OfEdges Q) t [] h (All-nil (OfEdges Q))

-- a fact of the edges that are drawn holds of the edges of the triangles
among : (Q : EdgeKey → Type 0) (edge : ℕ → ℕ → EdgeKey) (count a b c d : ℕ)
    → ((count == 1) ≡ true → Q (edge a b) × Q (edge a c) × Q (edge a d))
    → ((count == 3) ≡ true → Q (edge a b) × Q (edge a c) × Q (edge a d))
    → ((count == 2) ≡ true → Q (edge a c) × Q (edge a d) × Q (edge b d) × Q (edge b c))
    → All (OfEdges Q) (triangles_among edge count a b c d)
among Q edge count a b c d one three two = by (count == 1) (count == 3) (count == 2) one three two
  where
    by : (is_one is_three is_two : Bool) → (is_one ≡ true
        → Q (edge a b) × Q (edge a c) × Q (edge a d)) →
        (is_three ≡ true → Q (edge a b) × Q (edge a c) × Q (edge a d))
        → (is_two ≡ true → Q (edge a c) × Q (edge a d) × Q (edge b d) × Q (edge b c))
        → All (OfEdges Q) (if is_one then record {
          a = edge a b;
          b = edge a c;
          c = edge a d;
        } ∷ [] else (if is_three then record {
          a = edge a b;
          b = edge a d;
          c = edge a c;
        } ∷ [] else (if is_two then record {
          a = edge a c;
          b = edge a d;
          c = edge b d;
        } ∷ record { a = edge a c; b = edge b d; c = edge b c } ∷ [] else [])))
    by true is_three is_two h k l = let q = h refl in lone Q
        (record { a = edge a b; b = edge a c; c = edge a d }) (record { a = q.0; b = q.1; c = q.2 })
    by false true is_two h k l = let q = k refl in lone Q
        (record { a = edge a b; b = edge a d; c = edge a c }) (record { a = q.0; b = q.2; c = q.1 })
    by false false true h k l =
        let q = l refl in
        All-cons (OfEdges Q) (record { a = edge a c; b = edge a d; c = edge b d })
        (record { a = edge a c; b = edge b d; c = edge b c } ∷ [])
        (record { a = q.0; b = q.1; c = q.2 }) (lone Q
        (record { a = edge a c; b = edge b d; c = edge b c })
        (record { a = q.0; b = q.2; c = q.3 }))
    by false false false h k l = All-nil (OfEdges Q)

-- what a corner at a position is, and whether it is inside
pub corner_at : (tetra : ℕ) (ks : List ℕ) (i : ℕ) → get_or
    (map (corner tetra) ks) i 0 ≡ corner tetra (get_or ks i 0)
corner_at tetra [] i = refl
corner_at tetra (k ∷ ks) zero = refl
corner_at tetra (k ∷ ks) (suc i) = corner_at tetra ks i

pub pattern_at : (f : ℕ → Bool) (tetra k : ℕ) → k < 4 → get_or (pattern_of f tetra) k false ≡ f
    (corner tetra k)
pattern_at f tetra zero few = refl
pattern_at f tetra (suc zero) few = refl
pattern_at f tetra (suc (suc zero)) few = refl
pattern_at f tetra (suc (suc (suc zero))) few = refl
pattern_at f tetra (suc (suc (suc (suc k)))) few = absurd (omega (arith, few))

-- an edge of the arranged corners
drawn : (inside : GridPoint → Bool) (cell : GridPoint) (tetra : ℕ) (ks : List ℕ) (i j : ℕ)
    → tetra < 6 → is_parted (pattern_of (λ c. inside (further cell c)) tetra) ks i j ≡ true
    → IsParting inside cell (edge_between cell (get_or (map (corner tetra) ks) i 0)
    (get_or (map (corner tetra) ks) j 0))
unfolding is_parted
drawn inside cell tetra ks i j few h =
    let first = and_parts _ _ h in
    let second = and_parts _ _ first.1 in
    let rest = and_parts _ _ second.1 in
    let fi = ltb-true (get_or ks i 0) 4 first.0 in
    let fj = ltb-true (get_or ks j 0) 4 second.0 in
    let at = λ (c : ℕ). inside (further cell c) in
    let parted : differ (at (corner tetra (get_or ks i 0)))
    (at (corner tetra (get_or ks j 0))) ≡ true = rw (
      sym (pattern_at at tetra (get_or ks i 0) fi),
      sym (pattern_at at tetra (get_or ks j 0) fj),
    ) rest.1 in
    rw (corner_at tetra ks i, corner_at tetra ks j) (parting inside cell tetra (get_or ks i 0)
    (get_or ks j 0) few fi fj parted (not-true _ rest.0))

abbrev Drawn : (GridPoint → Bool) → GridPoint → ℕ → List ℕ → ℕ → ℕ → Type 0
Drawn inside cell tetra ks i j = IsParting inside cell (edge_between cell
    (get_or (map (corner tetra) ks) i 0) (get_or (map (corner tetra) ks) j 0))

three_drawn : (inside : GridPoint → Bool) (cell : GridPoint) (tetra : ℕ) (ks : List ℕ) → tetra < 6
    → alone_parted (pattern_of (λ c. inside (further cell c)) tetra) ks ≡ true
    → Drawn inside cell tetra ks 0 1 × Drawn inside cell tetra ks 0 2
    × Drawn inside cell tetra ks 0 3
unfolding alone_parted
three_drawn inside cell tetra ks few h =
    let first = and_parts _ _ h in
    let rest = and_parts _ _ first.1 in (
      drawn inside cell tetra ks 0 1 few first.0,
      drawn inside cell tetra ks 0 2 few rest.0,
      drawn inside cell tetra ks 0 3 few rest.1,
    )

four_drawn : (inside : GridPoint → Bool) (cell : GridPoint) (tetra : ℕ) (ks : List ℕ) → tetra < 6
    → two_parted (pattern_of (λ c. inside (further cell c)) tetra) ks ≡ true
    → Drawn inside cell tetra ks 0 2 × Drawn inside cell tetra ks 0 3
    × Drawn inside cell tetra ks 1 3 × Drawn inside cell tetra ks 1 2
unfolding two_parted
four_drawn inside cell tetra ks few h =
    let first = and_parts _ _ h in
    let second = and_parts _ _ first.1 in
    let rest = and_parts _ _ second.1 in (
      drawn inside cell tetra ks 0 2 few first.0,
      drawn inside cell tetra ks 0 3 few second.0,
      drawn inside cell tetra ks 1 3 few rest.0,
      drawn inside cell tetra ks 1 2 few rest.1,
    )

one_tetrahedron : (inside : GridPoint → Bool) (cell : GridPoint) (tetra : ℕ) → tetra < 6
    → All (OfEdges (IsParting inside cell)) (triangles_in cell tetra (λ c. inside (further cell c)))
unfolding all_parted are_parted alone_parted two_parted
one_tetrahedron inside cell tetra few =
    let at = λ (c : ℕ). inside (further cell c) in
    let pattern = pattern_of at tetra in
    let ks = arranged (is_negative tetra) pattern in
    let h = always_parted (is_negative tetra) (at (corner tetra 0)) (at (corner tetra 1))
    (at (corner tetra 2)) (at (corner tetra 3)) in
    let one = and_parts _ _ h in
    let more = and_parts _ _ one.1 in
    among (IsParting inside cell) (edge_between cell) (inside_count pattern) _ _ _ _
    (λ e. three_drawn inside cell tetra ks few (implied _ _ one.0 e))
    (λ e. three_drawn inside cell tetra ks few (implied _ _ more.0 e))
    (λ e. four_drawn inside cell tetra ks few (implied _ _ more.1 e))

pub all_tetrahedra : (inside : GridPoint → Bool) (cell : GridPoint)
    → All (OfEdges (IsParting inside cell)) (cell_triangles inside cell)
all_tetrahedra inside cell =
    let one = λ (t : ℕ) (few : t < 6). one_tetrahedron inside cell t few in
    let P = OfEdges (IsParting inside cell) in
    All-append P _ _ (one 0 (omega arith)) (All-append P _ _ (one 1 (omega arith))
    (All-append P _ _ (one 2 (omega arith)) (All-append P _ _ (one 3 (omega arith))
    (All-append P _ _ (one 4 (omega arith)) (All-append P _ _ (one 5 (omega arith))
    (All-nil P))))))

pub edges_have_directions : EdgesHaveDirections
edges_have_directions inside cell =
    All-weaker (OfEdges (IsParting inside cell)) (OfEdges (λ e. IsDirection e.dir))
    (λ t h. record { a = h.a.direction; b = h.b.direction; c = h.c.direction })
    (cell_triangles inside cell) (all_tetrahedra inside cell)

pub edges_are_mixed : EdgesAreMixed
edges_are_mixed inside cell =
    All-weaker (OfEdges (IsParting inside cell)) (OfEdges (λ e. is_mixed inside e ≡ true))
    (λ t h. record { a = h.a.mixed; b = h.b.mixed; c = h.c.mixed }) (cell_triangles inside cell)
    (all_tetrahedra inside cell)
