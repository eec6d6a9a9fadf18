-- The mixed cells of a list's grid, from what is known of its points.
use Rattle.std.proofs.Common.{◌≡◌, ℕ, zero, suc, ◌+◌, ◌-◌, ◌*◌, ◌/◌, ◌%◌, ◌<◌, ◌≤◌, ℤ, Bool, true, false, cond, List, [], ◌∷◌, ◌++◌, get_or, refl, sym, ap, ◌∙◌, ◌⊎◌, inl, inr, append_assoc, append-nil, add-zero, arith}
use Rattle.std.specs.Prelude.{IfSome, None, Option, Some, length, pos, min, map, filter, not, ◌&&◌, unwrap_or}
use Rattle.std.specs.List.{All, flat_map, list_any, range_with_len}
use Rattle.std.proofs.lemmas.Bool.{false≢true}
use Rattle.std.proofs.lemmas.List.{ext_get_or}
use Rattle.std.proofs.lemmas.List.Concat.{flat_map-cons}
use Rattle.std.proofs.lemmas.List.Elements.{All-head, All-tail, filter-append}
use Rattle.std.proofs.lemmas.List.FromFn.{get_or-map-range_with_len}
use Rattle.fixed_ops.specs.Raw.{is_inside}
use Rattle.kuhn_cells.specs.Cells.{cell_at, is_mixed_cell, mixed_cells}
use Rattle.kuhn_cells.specs.Grids.{over_block, value_at}
use Rattle.kuhn_cells.specs.Triangles.{GridPoint, further, point}
use Rattle.kuhn_cells.specs.declared.cell_list.CellValues.{CellValues}
use Rattle.live_clauses.specs.declared.step.Step.{Step}
use Rattle.view_places.specs.Window.{Window}
use Rattle.oct_descent.specs.Bound.{sample_of}
use Rattle.oct_descent.specs.Corners.{AreCorners, IsRow, LacksCorner, are_mixed}
use Rattle.oct_descent.specs.GridValues.{list_grid, list_grid_value}
use Rattle.oct_descent.specs.Rows.{cells_at, cells_between, cells_in_layer}
use Rattle.oct_descent.specs.Tables.{IsUniform, PointValues, brick_of, is_known, known_at, read, stand}
use Rattle.oct_descent.specs.Trees.{IsTold}
use Rattle.oct_descent.specs.Ways.{cell_box}
use Rattle.oct_descent.proofs.Blocks.{value-at_grid}
use Rattle.oct_descent.proofs.Bricks.{roomless-unknown}
use Rattle.oct_descent.proofs.Corners.{IsOne, mask-covered}
use Rattle.oct_descent.specs.Known.{AllKnown}
use Rattle.oct_descent.specs.Kinds.{known_of}

-- ---- rows and layers

next-flat : {A : Type 0} (f : ℕ → List A) (low n : ℕ) → flat_map f (range_with_len low (suc n)) ≡ flat_map f (range_with_len low n) ++ f (low + n)
next-flat f low zero =
    let from : low ≡ low + 0 = omega arith in
    flat_map-cons f low (range_with_len (low + 1) zero) ∙ append-nil (f low) ∙ ap f from
next-flat f low (suc n) =
    let from : low + 1 + n ≡ low + suc n = omega arith in
    flat_map-cons f low (range_with_len (low + 1) (suc n))
    ∙ ap (λ l. f low ++ l) (next-flat f (low + 1) n)
    ∙ sym (append_assoc (f low) (flat_map f (range_with_len (low + 1) n)) (f (low + 1 + n)))
    ∙ ap (λ l. l ++ f (low + 1 + n)) (sym (flat_map-cons f low (range_with_len (low + 1) n)))
    ∙ ap (λ k. flat_map f (range_with_len low (suc n)) ++ f k) from

-- one more part
pub next-part : {A : Type 0} (f : ℕ → List A) (low : ℕ) (old mid new : List A) (n : ℕ) → low ≤ n → mid ≡ old ++ flat_map f (range_with_len low (n - low)) → new ≡ mid ++ f n
    → new ≡ old ++ flat_map f (range_with_len low ((n + 1) - low))
next-part f low old mid new n above first second =
    let from : n ≡ low + (n - low) = omega (arith, above) in
    let to : suc (n - low) ≡ (n + 1) - low = omega (arith, above) in
    second ∙ ap (λ l. l ++ f n) first ∙ append_assoc old (flat_map f (range_with_len low (n - low))) (f n)
    ∙ ap (λ l. old ++ l) (ap (λ k. flat_map f (range_with_len low (n - low)) ++ f k) from ∙ sym (next-flat f low (n - low)) ∙ ap (λ k. flat_map f (range_with_len low k)) to)

pub next-front : {A : Type 0} (f : ℕ → List A) (old mid new : List A) (n : ℕ) → mid ≡ old ++ flat_map f (range_with_len 0 n) → new ≡ mid ++ f n → new ≡ old ++ flat_map f (range_with_len 0 (n + 1))
next-front f old mid new n first second =
    let whole : n ≡ n - 0 = omega arith in
    let more : (n + 1) - 0 ≡ n + 1 = omega arith in
    next-part f 0 old mid new n (omega arith) (first ∙ ap (λ k. old ++ flat_map f (range_with_len 0 k)) whole) second ∙ ap (λ k. old ++ flat_map f (range_with_len 0 k)) more

-- parts side by side
flat-parts : {A : Type 0} (f : ℕ → List A) (low m n : ℕ) → flat_map f (range_with_len low m) ++ flat_map f (range_with_len (low + m) n) ≡ flat_map f (range_with_len low (m + n))
flat-parts f low zero n =
    let from : low + 0 ≡ low = omega arith in
    let count : n ≡ 0 + n = omega arith in
    ap (λ k. flat_map f (range_with_len k n)) from ∙ ap (λ k. flat_map f (range_with_len low k)) count
flat-parts f low (suc m) n =
    let from : low + suc m ≡ low + 1 + m = omega arith in
    let count : suc (m + n) ≡ suc m + n = omega arith in
    ap (λ l. l ++ flat_map f (range_with_len (low + suc m) n)) (flat_map-cons f low (range_with_len (low + 1) m))
    ∙ append_assoc (f low) (flat_map f (range_with_len (low + 1) m)) (flat_map f (range_with_len (low + suc m) n))
    ∙ ap (λ k. f low ++ (flat_map f (range_with_len (low + 1) m) ++ flat_map f (range_with_len k n))) from
    ∙ ap (λ l. f low ++ l) (flat-parts f (low + 1) m n)
    ∙ sym (flat_map-cons f low (range_with_len (low + 1) (m + n)))
    ∙ ap (λ k. flat_map f (range_with_len low k)) count

-- eight more parts, or those that are left
pub next-eight : {A : Type 0} (f : ℕ → List A) (old mid new : List A) (n e : ℕ) → e * 8 < n → mid ≡ old ++ flat_map f (range_with_len 0 (min n (e * 8)))
    → new ≡ mid ++ flat_map f (range_with_len (e * 8) (min n (e * 8 + 8) - e * 8)) → new ≡ old ++ flat_map f (range_with_len 0 (min n ((e + 1) * 8)))
next-eight f old mid new n e less first second =
    let a : min n (e * 8) ≡ e * 8 = omega (arith, less) in
    let from : e * 8 ≡ 0 + e * 8 = omega arith in
    let all : e * 8 + (min n (e * 8 + 8) - e * 8) ≡ min n ((e + 1) * 8) = omega (arith, less) in
    let rest = flat_map f (range_with_len (e * 8) (min n (e * 8 + 8) - e * 8)) in
    second ∙ ap (λ l. l ++ rest) (first ∙ ap (λ k. old ++ flat_map f (range_with_len 0 k)) a) ∙ append_assoc old (flat_map f (range_with_len 0 (e * 8))) rest
    ∙ ap (λ l. old ++ l)
    (ap (λ k. flat_map f (range_with_len 0 (e * 8)) ++ flat_map f (range_with_len k (min n (e * 8 + 8) - e * 8))) from
    ∙ flat-parts f 0 (e * 8) (min n (e * 8 + 8) - e * 8) ∙ ap (λ k. flat_map f (range_with_len 0 k)) all)

-- parts without anything
flat-none : {A : Type 0} (f : ℕ → List A) (low n : ℕ) → ((i : ℕ) → low ≤ i → i < low + n → [] ≡ f i) → [] ≡ flat_map f (range_with_len low n)
flat-none f low zero none = refl
flat-none f low (suc n) none =
    none low (omega arith) (omega arith) ∙ sym (append-nil (f low))
    ∙ ap (λ l. f low ++ l) (flat-none f (low + 1) n (λ i l h. none i (omega (arith, l)) (omega (arith, h)))) ∙ sym (flat_map-cons f low (range_with_len (low + 1) n))

filter-flat : {X A : Type 0} (p : A → Bool) (f : X → List A) (xs : List X) → filter p (flat_map f xs) ≡ flat_map (λ x. filter p (f x)) xs
filter-flat p f [] = refl
filter-flat p f (x ∷ xs) = ap (filter p) (flat_map-cons f x xs) ∙ filter-append p (f x) (flat_map f xs) ∙ ap (λ l. filter p (f x) ++ l) (filter-flat p f xs) ∙ sym (flat_map-cons (λ x. filter p (f x)) x xs)

flat-same : {X A : Type 0} (f h : X → List A) (xs : List X) → ((x : X) → f x ≡ h x) → flat_map f xs ≡ flat_map h xs
flat-same f h [] same = refl
flat-same f h (x ∷ xs) same =
    flat_map-cons f x xs ∙ ap (λ l. l ++ flat_map f xs) (same x) ∙ ap (λ l. h x ++ l) (flat-same f h xs same) ∙ sym (flat_map-cons h x xs)

filter-block : {A : Type 0} (p : A → Bool) (nx ny nz : ℕ) (at : GridPoint → List A) → filter p (over_block nx ny nz at) ≡ over_block nx ny nz (λ q. filter p (at q))
filter-block p nx ny nz at =
    filter-flat p (λ z. flat_map (λ y. flat_map (λ x. at (point x y z)) (range_with_len 0 nx)) (range_with_len 0 ny)) (range_with_len 0 nz)
    ∙ flat-same (λ z. filter p (flat_map (λ y. flat_map (λ x. at (point x y z)) (range_with_len 0 nx)) (range_with_len 0 ny))) (λ z. flat_map (λ y. flat_map (λ x. filter p (at (point x y z))) (range_with_len 0 nx)) (range_with_len 0 ny)) (range_with_len 0 nz)
    (λ z. filter-flat p (λ y. flat_map (λ x. at (point x y z)) (range_with_len 0 nx)) (range_with_len 0 ny)
    ∙ flat-same (λ y. filter p (flat_map (λ x. at (point x y z)) (range_with_len 0 nx))) (λ y. flat_map (λ x. filter p (at (point x y z))) (range_with_len 0 nx)) (range_with_len 0 ny)
    (λ y. filter-flat p (λ x. at (point x y z)) (range_with_len 0 nx)))

-- the mixed cells are those of the layers
pub layers-mixed : (view : Window) (list : List Step) → flat_map (cells_in_layer view list) (range_with_len 0 view.nz) ≡ mixed_cells (list_grid view list)
unfolding mixed_cells list_grid
layers-mixed view list = sym (filter-block is_mixed_cell view.nx view.ny view.nz (λ p. cell_at (list_grid view list) p ∷ []))

-- ---- one cell

-- a cell whose corners are known has their values
corner-value : (view : Window) (list : List Step) (t : PointValues) (p : GridPoint) (values : List ℤ) (k : ℕ) → IsTold view list t → p.x < view.nx → p.y < view.ny → p.z < view.nz → AreCorners t p values → k < 8
    → get_or values k (pos 0) ≡ value_at (list_grid view list) (further p k)
corner-value view list t p values k told x y z corners few =
    let q = further p k in
    let read = corners.each k few in
    let right = told.right q (ap is_known read) in
    let same : get_or values k (pos 0) ≡ list_grid_value view list q = ap (λ o. unwrap_or o (pos 0)) (sym read ∙ right) in
    same ∙ sym (value-at_grid view list q (omega (arith, x)) (omega (arith, y)) (omega (arith, z)))

cell-is : (view : Window) (list : List Step) (t : PointValues) (p : GridPoint) (values : List ℤ) → IsTold view list t → p.x < view.nx → p.y < view.ny → p.z < view.nz → AreCorners t p values
    → record { x = p.x; y = p.y; z = p.z; values = values } ≡ cell_at (list_grid view list) p
cell-is view list t p values told x y z corners =
    let g = list_grid view list in
    let make : List ℤ → CellValues = λ l. record { x = p.x; y = p.y; z = p.z; values = l } in
    ap make (ext_get_or (pos 0) values (map (λ c. value_at g (further p c)) (range_with_len 0 8)) corners.all
    (λ k less.
    let few : k < 8 = omega (arith, less, corners.all) in
    corner-value view list t p values k told x y z corners few ∙ sym (get_or-map-range_with_len (λ c. value_at g (further p c)) 0 8 k k (pos 0) few (omega arith))))

pub listed-mixed : (view : Window) (list : List Step) (t : PointValues) (p : GridPoint) (values : List ℤ) → IsTold view list t → p.x < view.nx → p.y < view.ny → p.z < view.nz → AreCorners t p values → are_mixed values ≡ true
    → record { x = p.x; y = p.y; z = p.z; values = values } ∷ [] ≡ cells_at view list p
listed-mixed view list t p values told x y z corners e =
    let same = cell-is view list t p values told x y z corners in
    let mixed : is_mixed_cell (cell_at (list_grid view list) p) ≡ true = ap is_mixed_cell (sym same) ∙ e in
    ap (λ c. c ∷ []) same ∙ sym (ap (λ b. cond b (cell_at (list_grid view list) p ∷ []) []) mixed)

pub listed-not : (view : Window) (list : List Step) (t : PointValues) (p : GridPoint) (values : List ℤ) → IsTold view list t → p.x < view.nx → p.y < view.ny → p.z < view.nz → AreCorners t p values → are_mixed values ≡ false
    → [] ≡ cells_at view list p
listed-not view list t p values told x y z corners e =
    let same = cell-is view list t p values told x y z corners in
    let mixed : is_mixed_cell (cell_at (list_grid view list) p) ≡ false = ap is_mixed_cell (sym same) ∙ e in
    sym (ap (λ b. cond b (cell_at (list_grid view list) p ∷ []) []) mixed)

none-any : {X : Type 0} (test : X → Bool) (xs : List X) → All (λ x. test x ≡ false) xs → list_any test xs ≡ false
none-any test [] none = refl
none-any test (x ∷ xs) none = rw (All-head (λ y. test y ≡ false) x xs none) (none-any test xs (All-tail (λ y. test y ≡ false) x xs none))

and-false : (a b : Bool) → b ≡ false → (a && b) ≡ false
and-false true b e = e
and-false false b e = refl

-- values on one side are not mixed
one-side : (inside : Bool) (values : List ℤ) → All (λ v. is_inside v ≡ inside) values → are_mixed values ≡ false
one-side true values same =
    and-false (list_any is_inside values) (list_any (λ v. not (is_inside v)) values) (none-any (λ v. not (is_inside v)) values (λ k d less. ap not (same k d less)))
one-side false values same = rw (none-any is_inside values same) refl

-- a cell of which some corner is not known has all of them on one side
pub listed-none : (view : Window) (list : List Step) (t : PointValues) (p : GridPoint) → IsTold view list t → p.x < view.nx → p.y < view.ny → p.z < view.nz → LacksCorner t p → [] ≡ cells_at view list p
listed-none view list t p told x y z lacks = by (told.settled (sample_of p) (record { x = (omega arith, x); y = (omega arith, y); z = (omega arith, z) }))
  where
    g : GridPoint → ℤ
    g = list_grid_value view list

    one : IsOne (cell_box (sample_of p))
    one = record { x = refl; y = refl; z = refl }

    side : (uniform : IsUniform g (cell_box (sample_of p))) → is_mixed_cell (cell_at (list_grid view list) p) ≡ false
    side uniform =
        one-side uniform.inside (map (λ c. value_at (list_grid view list) (further p c)) (range_with_len 0 8))
        (λ k d less.
        let few : k < 8 = omega (arith, less) in
        ap is_inside (get_or-map-range_with_len (λ c. value_at (list_grid view list) (further p c)) 0 8 k k d few (omega arith) ∙ value-at_grid view list (further p k) (omega (arith, x)) (omega (arith, y)) (omega (arith, z)))
        ∙ uniform.each (further p k) (mask-covered (cell_box (sample_of p)) k one))

    by : AllKnown (known_of t) (cell_box (sample_of p)) ⊎ IsUniform g (cell_box (sample_of p)) → [] ≡ cells_at view list p
    by (inl known) = absurd (false≢true (sym lacks.unknown ∙ known (further p lacks.corner) (mask-covered (cell_box (sample_of p)) lacks.corner one)))
    by (inr uniform) = sym (ap (λ b. cond b (cell_at (list_grid view list) p ∷ []) []) (side uniform))

-- the corners of a mixed cell are known, and the cell is the grid's
pub cell-found : (view : Window) (list : List Step) (t : PointValues) (p : GridPoint) (found : Option (List ℤ)) (else : List ℤ) → IsTold view list t → p.x < view.nx → p.y < view.ny → p.z < view.nz
    → IfSome found (λ values. AreCorners t p values) → (found ≡ None → LacksCorner t p) → is_mixed_cell (cell_at (list_grid view list) p) ≡ true
    → record { x = p.x; y = p.y; z = p.z; values = unwrap_or found else } ≡ cell_at (list_grid view list) p
cell-found view list t p (Some values) else told x y z all lacks mixed = cell-is view list t p values told x y z all
cell-found view list t p None else told x y z all lacks mixed =
    let none : [] ≡ cells_at view list p = listed-none view list t p told x y z (lacks refl) in
    let one : cells_at view list p ≡ cell_at (list_grid view list) p ∷ [] = ap (λ b. cond b (cell_at (list_grid view list) p ∷ []) []) mixed in
    absurd (omega (arith, ap length (none ∙ one)))

-- ---- the grid

pub grid-x : (view : Window) (list : List Step) → (list_grid view list).x ≡ view.nx
unfolding list_grid
grid-x view list = refl

pub grid-y : (view : Window) (list : List Step) → (list_grid view list).y ≡ view.ny
unfolding list_grid
grid-y view list = refl

pub grid-z : (view : Window) (list : List Step) → (list_grid view list).z ≡ view.nz
unfolding list_grid
grid-z view list = refl

-- no cell of a row is mixed whose lowest corner is not known
pub row-none : (view : Window) (list : List Step) (t : PointValues) (first x y z start : ℕ) → IsTold view list t → IsRow t (point first y z) start → first ≤ x → x < first + 8 → x < view.nx → y < view.ny → z < view.nz
    → is_known (read t.kept (start + (x - first))) ≡ false → [] ≡ cells_at view list (point x y z)
row-none view list t first x y z start told row low high fx fy fz e =
    let back : first + (x - first) ≡ x = omega (arith, low) in
    let within : first + (x - first) ≤ t.n.x = omega (arith, low, fx, told.n.0) in
    listed-none view list t (point x y z) told fx fy fz (record {
      corner = 0;
      few = omega arith;
      unknown =
          ap (λ q. is_known (known_at t q)) (starts (point x y z) ∙ ap (λ k. point k y z) (sym back))
          ∙ ap is_known (sym (row.each (x - first) (omega (arith, high)) within)) ∙ e;
    })
  where
    starts : (p : GridPoint) → further p 0 ≡ p
    starts p = rw (add-zero p.x, add-zero p.y, add-zero p.z) refl

-- no cell is mixed whose lowest corners lie in a brick of which nothing is known
pub eight-none : (view : Window) (list : List Step) (t : PointValues) (first high y z : ℕ) → IsTold view list t → first % 8 ≡ 0 → high ≤ view.nx → high ≤ first + 8 → y < view.ny → z < view.nz
    → stand t (point first y z) ≡ None → [] ≡ cells_between view list first high y z
eight-none view list t first high y z told eighth within near fy fz e =
    flat-none (λ x. cells_at view list (point x y z)) first (high - first)
    (λ x low less.
    let less_high : x < high = omega (arith, low, less) in
    let same : x / 8 ≡ first / 8 = omega (arith, low, less_high, near, eighth) in
    let brick : brick_of t.n (further (point x y z) 0) ≡ brick_of t.n (point first y z) = ap (brick_of t.n) (starts (point x y z)) ∙ ap (λ k. (z / 8 * (t.n.y / 8 + 1) + y / 8) * (t.n.x / 8 + 1) + k) same in
    listed-none view list t (point x y z) told (omega (arith, less_high, within)) fy fz (record { corner = 0; few = omega arith; unknown = roomless-unknown t (point first y z) (further (point x y z) 0) e brick }))
  where
    starts : (p : GridPoint) → further p 0 ≡ p
    starts p = rw (add-zero p.x, add-zero p.y, add-zero p.z) refl
