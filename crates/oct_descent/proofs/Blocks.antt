-- Blocks of points: the greatest of their numbers, and the values of a grid.
use Rattle.std.proofs.Common.{◌≡◌, ℕ, zero, suc, ◌+◌, ◌*◌, ◌<◌, ◌≤◌, true, List, [], ◌∷◌, ◌++◌, length, get_or, refl, ap, ◌∙◌, ◌⊎◌, inl, inr, zero-add, arith}
use Rattle.std.proofs.Math.Nat.{mul-le-mul_right}
use Rattle.std.specs.Prelude.{max, pos, nat_le, ◌&&◌}
use Rattle.std.specs.List.{flat_map, range_with_len}
use Rattle.std.proofs.lemmas.Bool.{and_parts, cases_lt, leb-true}
use Rattle.std.proofs.lemmas.List.{get_or-append-add, get_or_append_left, length-append}
use Rattle.std.proofs.lemmas.List.Concat.{flat_map-cons}
use Rattle.fixed_ops.specs.Raw.{is_inside}
use Rattle.kuhn_cells.specs.Grids.{over_block, value_at}
use Rattle.kuhn_cells.specs.Triangles.{GridPoint, point}
use Rattle.kuhn_cells.specs.declared.grid_size.GridSize.{GridSize}
use Rattle.live_clauses.specs.declared.step.Step.{Step}
use Rattle.view_places.specs.Window.{Window, size_of}
use Rattle.box_chains.specs.Sums.{maximum}
use Rattle.oct_descent.specs.GridValues.{list_grid, list_grid_value, value_on}
use Rattle.oct_descent.specs.Laws.{GridsAreBordered}
use Rattle.oct_descent.proofs.Covered.{bordered-outside}

greatest-append : (xs ys : List ℕ) → maximum (xs ++ ys) ≡ max (maximum xs) (maximum ys)
greatest-append [] ys = omega arith
greatest-append (x ∷ xs) ys = omega (arith, greatest-append xs ys)

-- the greatest of one part is at most that of all
greatest-flat : (f : ℕ → List ℕ) (low n i : ℕ) → low ≤ i → i < low + n → maximum (f i) ≤ maximum (flat_map f (range_with_len low n))
greatest-flat f low zero i l h = absurd (omega (arith, l, h))
greatest-flat f low (suc n) i l h = by (cases_lt low i) (λ k m. greatest-flat f (low + 1) n i k m)
  where
    parts : maximum (flat_map f (range_with_len low (suc n))) ≡ max (maximum (f low)) (maximum (flat_map f (range_with_len (low + 1) n)))
    parts = ap maximum (flat_map-cons f low (range_with_len (low + 1) n)) ∙ greatest-append (f low) (flat_map f (range_with_len (low + 1) n))

    by : (low < i) ⊎ (i ≤ low) → (low + 1 ≤ i → i < low + 1 + n → maximum (f i) ≤ maximum (flat_map f (range_with_len (low + 1) n))) → maximum (f i) ≤ maximum (flat_map f (range_with_len low (suc n)))
    by (inl less) rest = omega (arith, parts, rest (omega (arith, less)) (omega (arith, h)))
    by (inr same) rest =
        let at : i ≡ low = omega (arith, same, l) in
        omega (arith, parts, ap (λ j. maximum (f j)) at)

-- and where that of each part is at most a number, so is that of all
greatest-flat_most : (f : ℕ → List ℕ) (low n most : ℕ) → ((i : ℕ) → low ≤ i → i < low + n → maximum (f i) ≤ most) → maximum (flat_map f (range_with_len low n)) ≤ most
greatest-flat_most f low zero most h = omega arith
greatest-flat_most f low (suc n) most h =
    omega (
      arith,
      ap maximum (flat_map-cons f low (range_with_len (low + 1) n)),
      greatest-append (f low) (flat_map f (range_with_len (low + 1) n)),
      h low (omega arith) (omega arith),
      greatest-flat_most f (low + 1) n most (λ i l k. h i (omega (arith, l)) (omega (arith, k))),
    )

pub greatest-block : (nx ny nz : ℕ) (at : GridPoint → List ℕ) (p : GridPoint) → p.x < nx → p.y < ny → p.z < nz → maximum (at p) ≤ maximum (over_block nx ny nz at)
greatest-block nx ny nz at p x y z =
    let row = greatest-flat (λ i. at (point i p.y p.z)) 0 nx p.x (omega arith) (omega (arith, x)) in
    let layer = greatest-flat (λ j. flat_map (λ i. at (point i j p.z)) (range_with_len 0 nx)) 0 ny p.y (omega arith) (omega (arith, y)) in
    let all = greatest-flat (λ k. flat_map (λ j. flat_map (λ i. at (point i j k)) (range_with_len 0 nx)) (range_with_len 0 ny)) 0 nz p.z (omega arith) (omega (arith, z)) in
    omega (arith, row, layer, all)

pub greatest-block_most : (nx ny nz : ℕ) (at : GridPoint → List ℕ) (most : ℕ) → ((p : GridPoint) → p.x < nx → p.y < ny → p.z < nz → maximum (at p) ≤ most) → maximum (over_block nx ny nz at) ≤ most
greatest-block_most nx ny nz at most h =
    greatest-flat_most (λ k. flat_map (λ j. flat_map (λ i. at (point i j k)) (range_with_len 0 nx)) (range_with_len 0 ny)) 0 nz most
    (λ k kl kh. greatest-flat_most (λ j. flat_map (λ i. at (point i j k)) (range_with_len 0 nx)) 0 ny most
    (λ j jl jh. greatest-flat_most (λ i. at (point i j k)) 0 nx most
    (λ i il ih. h (point i j k) (omega (arith, ih)) (omega (arith, jh)) (omega (arith, kh)))))

-- ---- parts of one length

length-even : {A : Type 0} (f : ℕ → List A) (m low n : ℕ) → ((i : ℕ) → length (f i) ≡ m) → length (flat_map f (range_with_len low n)) ≡ n * m
length-even f m low zero even = omega arith
length-even f m low (suc n) even =
    omega (arith, ap length (flat_map-cons f low (range_with_len (low + 1) n)), length-append (f low) (flat_map f (range_with_len (low + 1) n)), even low, length-even f m (low + 1) n even)

get_or-even : {A : Type 0} (f : ℕ → List A) (m low n i j : ℕ) (d : A) → ((i : ℕ) → length (f i) ≡ m) → i < n → j < m → get_or (flat_map f (range_with_len low n)) (i * m + j) d ≡ get_or (f (low + i)) j d
get_or-even f m low zero i j d even less inside = absurd (omega (arith, less))
get_or-even f m low (suc n) zero j d even less inside =
    ap (λ l. get_or l (0 * m + j) d) (flat_map-cons f low (range_with_len (low + 1) n))
    ∙ ap (λ k. get_or (f low ++ flat_map f (range_with_len (low + 1) n)) k d) (omega arith)
    ∙ get_or_append_left (f low) (flat_map f (range_with_len (low + 1) n)) d j (omega (arith, even low, inside))
    ∙ ap (λ k. get_or (f k) j d) (omega arith)
get_or-even f m low (suc n) (suc i) j d even less inside =
    ap (λ l. get_or l (suc i * m + j) d) (flat_map-cons f low (range_with_len (low + 1) n))
    ∙ ap (λ k. get_or (f low ++ flat_map f (range_with_len (low + 1) n)) k d) (omega (arith, even low))
    ∙ get_or-append-add (f low) (flat_map f (range_with_len (low + 1) n)) (i * m + j) d
    ∙ get_or-even f m (low + 1) n i j d even (omega (arith, less)) inside
    ∙ ap (λ k. get_or (f k) j d) (omega arith)

block-length : {A : Type 0} (nx ny nz : ℕ) (f : GridPoint → A) → length (over_block nx ny nz (λ p. f p ∷ [])) ≡ nz * (ny * (nx * 1))
block-length nx ny nz f =
    length-even (λ k. flat_map (λ j. flat_map (λ i. f (point i j k) ∷ []) (range_with_len 0 nx)) (range_with_len 0 ny)) (ny * (nx * 1)) 0 nz
    (λ k. length-even (λ j. flat_map (λ i. f (point i j k) ∷ []) (range_with_len 0 nx)) (nx * 1) 0 ny
    (λ j. length-even (λ i. f (point i j k) ∷ []) 1 0 nx (λ i. refl)))

-- what stands at the place of a point
block-at : {A : Type 0} (nx ny nz : ℕ) (f : GridPoint → A) (p : GridPoint) (d : A) → p.x < nx → p.y < ny → p.z < nz
    → get_or (over_block nx ny nz (λ p. f p ∷ [])) ((p.z * ny + p.y) * nx + p.x) d ≡ f p
block-at {A = A} nx ny nz f p d x y z =
    let row : ℕ → ℕ → List A = λ k j. flat_map (λ i. f (point i j k) ∷ []) (range_with_len 0 nx) in
    let layer : ℕ → List A = λ k. flat_map (row k) (range_with_len 0 ny) in
    let in_row : (k j : ℕ) → length (row k j) ≡ nx * 1 = λ k j. length-even (λ i. f (point i j k) ∷ []) 1 0 nx (λ i. refl) in
    let in_layer : (k : ℕ) → length (layer k) ≡ ny * (nx * 1) = λ k. length-even (row k) (nx * 1) 0 ny (in_row k) in
    let below : p.y * (nx * 1) + p.x < ny * (nx * 1) = below-more p.y ny (nx * 1) p.x y (omega (arith, x)) in
    let place : (p.z * ny + p.y) * nx + p.x ≡ p.z * (ny * (nx * 1)) + (p.y * (nx * 1) + p.x) = grind arith in
    let column : p.x ≡ p.x * 1 + 0 = omega arith in
    ap (λ k. get_or (flat_map layer (range_with_len 0 nz)) k d) place
    ∙ get_or-even layer (ny * (nx * 1)) 0 nz p.z (p.y * (nx * 1) + p.x) d in_layer z below
    ∙ get_or-even (row (0 + p.z)) (nx * 1) 0 ny p.y p.x d (in_row (0 + p.z)) y (omega (arith, x))
    ∙ ap (λ k. get_or (row (0 + p.z) (0 + p.y)) k d) column
    ∙ get_or-even (λ i. f (point i (0 + p.y) (0 + p.z)) ∷ []) 1 0 nx p.x 0 d (λ i. refl) x (omega arith)
    ∙ ap (λ (q : GridPoint). f q) (same-places p.x p.y p.z)
  where
    same-places : (a b c : ℕ) → point (0 + a) (0 + b) (0 + c) ≡ point a b c
    same-places a b c = rw (zero-add a, zero-add b, zero-add c) refl

    below-more : (a b m r : ℕ) → a < b → r < m → a * m + r < b * m
    below-more a b m r less within =
        let step : (a + 1) * m ≤ b * m = mul-le-mul_right m (omega (arith, less)) in
        omega (arith, step, within)

point-parts : (n : GridSize) (p : GridPoint) → (nat_le p.x n.x && (nat_le p.y n.y && nat_le p.z n.z)) ≡ true → (p.x ≤ n.x) × ((p.y ≤ n.y) × (p.z ≤ n.z))
point-parts n p e =
    let x = and_parts (nat_le p.x n.x) (nat_le p.y n.y && nat_le p.z n.z) e in
    let yz = and_parts (nat_le p.y n.y) (nat_le p.z n.z) x.1 in
    (leb-true p.x n.x x.0, (leb-true p.y n.y yz.0, leb-true p.z n.z yz.1))

-- the value at a point of the grid of a list is the grid value
pub value-at_grid : (view : Window) (list : List Step) (p : GridPoint) → p.x ≤ view.nx → p.y ≤ view.ny → p.z ≤ view.nz → value_at (list_grid view list) p ≡ list_grid_value view list p
unfolding list_grid
value-at_grid view list p x y z = block-at (view.nx + 1) (view.ny + 1) (view.nz + 1) (list_grid_value view list) p (pos 0) (omega (arith, x)) (omega (arith, y)) (omega (arith, z))

grid-length : (view : Window) (list : List Step) → length (list_grid view list).values ≡ (view.nx + 1) * ((view.ny + 1) * (view.nz + 1))
unfolding list_grid
grid-length view list =
    let one : (view.nz + 1) * ((view.ny + 1) * ((view.nx + 1) * 1)) ≡ (view.nx + 1) * ((view.ny + 1) * (view.nz + 1)) = grind arith in
    block-length (view.nx + 1) (view.ny + 1) (view.nz + 1) (list_grid_value view list) ∙ one

pub grids_are_bordered_is : GridsAreBordered
unfolding list_grid
grids_are_bordered_is view list = record {
  whole = grid-length view list;
  outside = λ p here outer.
      let parts = point-parts (size_of view) p here in
      ap is_inside (value-at_grid view list p parts.0 parts.1.0 parts.1.1) ∙ bordered-outside (size_of view) p (value_on view list p) outer;
}
