-- The tables that are found of a plane grid are those of the grid over the view.
use Rattle.std.proofs.Common.{◌≡◌, ◌≢◌, ℕ, zero, suc, ◌+◌, ◌*◌, ◌/◌, ◌%◌, ◌<◌, ◌≤◌, ◌==◌, ℤ, pos, Bool, true, false, List, ◌++◌, get_or, length, map, refl, sym, ap, subst, ◌∙◌, length-append, arith}
use Rattle.std.specs.Prelude.{nat_le, ◌&&◌, ◌||◌}
use Rattle.std.specs.List.{flat_map, range_with_len}
use Rattle.std.proofs.lemmas.Bool.Decides.{nat_tests}
use Rattle.std.proofs.lemmas.List.{get_or-append-add, get_or_append_left}
use Rattle.std.proofs.lemmas.List.Concat.{flat_map-cons}
use Rattle.std.proofs.lemmas.List.FromFn.{get_or-map-range_with_len, length-map-range_with_len}
use Rattle.fixed_ops.specs.Points.{Point}
use Rattle.fixed_ops.specs.Raw.{is_inside}
use Rattle.kuhn_cells.specs.Corners.{along_x, along_y}
use Rattle.live_clauses.specs.Steps.{tape_value}
use Rattle.live_clauses.specs.declared.step.Step.{Step}
use Rattle.plane_loops.specs.Planes.{IsBordered, PlaneGrid, PlanePoint, further, is_border, is_inside_at as inside_of, is_point, point, value_at}
use Rattle.plane_loops.specs.Tables.{AreMixed as AreSome, AreTables, one_if, signs_at as signs_of}
use Rattle.view_places.specs.Window.{Window, size_of}
use Rattle.contour_lines.specs.Laws.{PlanesAreBordered}
use Rattle.contour_lines.specs.PlaneGrids.{plane_over, value_over}
use Rattle.contour_lines.specs.Planes.{is_on_border, plane_point, plane_value}
use Rattle.contour_lines.proofs.Borders.{bordered-outside}
use Rattle.contour_lines.specs.Signs.{AreMixed, HasCorners, HasSigns, bit_of, is_inside_at, signs_at}

-- ---- rows of one length

length-rows : {A : Type 0} (f : ℕ → List A) (m low n : ℕ) → ((i : ℕ) → length (f i) ≡ m) → length (flat_map f (range_with_len low n)) ≡ n * m
length-rows f m low zero even = omega arith
length-rows f m low (suc n) even =
    omega (arith, ap length (flat_map-cons f low (range_with_len (low + 1) n)), length-append (f low) (flat_map f (range_with_len (low + 1) n)), even low, length-rows f m (low + 1) n even)

get_or-rows : {A : Type 0} (f : ℕ → List A) (m low n i j : ℕ) (d : A) → ((i : ℕ) → length (f i) ≡ m) → i < n → j < m → get_or (flat_map f (range_with_len low n)) (i * m + j) d ≡ get_or (f (low + i)) j d
get_or-rows f m low zero i j d even less inside = absurd (omega (arith, less))
get_or-rows f m low (suc n) zero j d even less inside =
    ap (λ l. get_or l (0 * m + j) d) (flat_map-cons f low (range_with_len (low + 1) n))
    ∙ ap (λ k. get_or (f low ++ flat_map f (range_with_len (low + 1) n)) k d) (omega arith)
    ∙ get_or_append_left (f low) (flat_map f (range_with_len (low + 1) n)) d j (omega (arith, even low, inside))
    ∙ ap (λ k. get_or (f k) j d) (omega arith)
get_or-rows f m low (suc n) (suc i) j d even less inside =
    ap (λ l. get_or l (suc i * m + j) d) (flat_map-cons f low (range_with_len (low + 1) n))
    ∙ ap (λ k. get_or (f low ++ flat_map f (range_with_len (low + 1) n)) k d) (omega (arith, even low))
    ∙ get_or-append-add (f low) (flat_map f (range_with_len (low + 1) n)) (i * m + j) d
    ∙ get_or-rows f m (low + 1) n i j d even (omega (arith, less)) inside
    ∙ ap (λ k. get_or (f k) j d) (omega arith)

-- ---- points

both_true : (a b : Bool) → (a && b) ≡ true → (a ≡ true) × (b ≡ true)
both_true true true e = (refl, refl)
both_true true false e = absurd cc
both_true false b e = absurd cc

le_yes : (a b : ℕ) → nat_le a b ≡ true → a ≤ b
le_yes a b e = grind (arith, nat_tests, e)

bit_most : (b : Bool) → one_if b ≤ 1
bit_most true = omega arith
bit_most false = omega arith

some_signs : (signs : ℕ) → signs ≤ 15 → AreSome signs → AreMixed signs
some_signs zero few some = absurd (some.0 refl)
some_signs (suc n) few some = record { some = omega arith; others = less (suc n) few some.1 }
  where
    less : (k : ℕ) → k ≤ 15 → k ≢ 15 → k < 15
    less k most other = grind (arith, most, other)

module _ (view : Window) (f : Point → ℤ) (square : view.nx ≡ view.ny) where
  abbrev grid_over : PlaneGrid
  grid_over = plane_over view f

  abbrev row : ℕ → List ℤ
  row j = map (λ i. value_over view f i j) (range_with_len 0 (view.nx + 1))

  long : (j : ℕ) → length (row j) ≡ view.nx + 1
  long j = length-map-range_with_len (λ i. value_over view f i j) 0 (view.nx + 1)

  -- what counts at a point
  counts_as : (i j : ℕ) → i ≤ view.nx → j ≤ view.nx → value_at grid_over (point i j) ≡ value_over view f i j
  counts_as i j wide high =
      get_or-rows row (view.nx + 1) 0 (view.ny + 1) j i (pos 0) long (omega (arith, high, square)) (omega (arith, wide))
      ∙ get_or-map-range_with_len (λ k. value_over view f k (0 + j)) 0 (view.nx + 1) i i (pos 0) (omega (arith, wide)) (omega arith)
      ∙ ap (λ k. value_over view f i k) (omega arith)

  border_is : (i j : ℕ) → is_border view.nx (point i j) ≡ true → is_on_border (size_of view) i j ≡ true
  border_is i j border = subst (λ n. ((i == 0 || i == view.nx) || (j == 0 || j == n)) ≡ true) square border

  outside : (p : PlanePoint) → is_point grid_over p ≡ true → is_border grid_over.n p ≡ true → inside_of grid_over p ≡ false
  outside p within border =
      let ends = both_true (nat_le p.x view.nx) (nat_le p.y view.nx) within in
      ap is_inside (counts_as p.x p.y (le_yes p.x view.nx ends.0) (le_yes p.y view.nx ends.1))
      ∙ bordered-outside (size_of view) p.x p.y (f (plane_point view p.x p.y)) (border_is p.x p.y border)

  bordered : IsBordered grid_over
  bordered = record {
    whole = length-rows row (view.nx + 1) 0 (view.ny + 1) long ∙ ap (λ n. (n + 1) * (view.nx + 1)) (sym square);
    outside = outside;
  }

-- so the grid over a view is bordered
pub planes_are_bordered : PlanesAreBordered
planes_are_bordered view f square = bordered view f square

module _ (view : Window) (list : List Step) (square : view.nx ≡ view.ny) where
  abbrev grid : PlaneGrid
  grid = plane_over view (λ p. tape_value p list)

  value_is : (i j : ℕ) → i ≤ view.nx → j ≤ view.nx → value_at grid (point i j) ≡ plane_value view list i j
  value_is i j wide high = counts_as view (λ p. tape_value p list) square i j wide high

  side_is : (i j : ℕ) → i ≤ view.nx → j ≤ view.nx → inside_of grid (point i j) ≡ is_inside_at view list i j
  side_is i j wide high = ap is_inside (value_is i j wide high)

  -- a corner of a cell
  corner_is : (i j c : ℕ) → c < 4 → further (point i j) c ≡ point (i + c % 2) (j + c / 2)
  corner_is i j c few =
      let x : i + along_x c ≡ i + c % 2 = omega arith in
      let y : j + along_y c ≡ j + c / 2 = omega (arith, few) in
      λ k. record { x = x k; y = y k }

  bit_is : (i j c : ℕ) → i < view.nx → j < view.nx → c < 4 → one_if (inside_of grid (further (point i j) c)) ≡ bit_of (is_inside_at view list (i + c % 2) (j + c / 2))
  bit_is i j c wide high few =
      ap (λ p. one_if (inside_of grid p)) (corner_is i j c few)
      ∙ ap one_if (side_is (i + c % 2) (j + c / 2) (omega (arith, wide)) (omega (arith, high, few)))

  cell_is : (i j : ℕ) → i < view.nx → j < view.nx → signs_of (inside_of grid) (point i j) ≡ signs_at view list i j
  cell_is i j wide high =
      let x : i + 0 ≡ i = omega arith in
      let y : j + 0 ≡ j = omega arith in
      omega (
        arith,
        bit_is i j 0 wide high (omega arith) ∙ ap (λ k. bit_of (is_inside_at view list k (j + 0))) x ∙ ap (λ k. bit_of (is_inside_at view list i k)) y,
        bit_is i j 1 wide high (omega arith) ∙ ap (λ k. bit_of (is_inside_at view list (i + 1) k)) y,
        bit_is i j 2 wide high (omega arith) ∙ ap (λ k. bit_of (is_inside_at view list k (j + 1))) x,
        bit_is i j 3 wide high (omega arith),
      )

  few_signs : (p : PlanePoint) → signs_of (inside_of grid) p ≤ 15
  few_signs p = omega (
    arith,
    bit_most (inside_of grid (further p 0)),
    bit_most (inside_of grid (further p 1)),
    bit_most (inside_of grid (further p 2)),
    bit_most (inside_of grid (further p 3)),
  )

  exact : (values : List ℤ) → HasCorners view list values → (cell : PlanePoint) (corner : ℕ) → cell.x < view.nx → cell.y < view.nx → corner < 4
      → AreSome (signs_of (inside_of grid) cell)
      → get_or values ((further cell corner).y * (view.nx + 1) + (further cell corner).x) (pos 0) ≡ value_at grid (further cell corner)
  exact values has cell corner wide high few some =
      let i = cell.x in
      let j = cell.y in
      let mixed = subst AreMixed (cell_is i j wide high) (some_signs (signs_of (inside_of grid) cell) (few_signs cell) some) in
      subst (λ p. get_or values (p.y * (view.nx + 1) + p.x) (pos 0) ≡ value_at grid p) (sym (corner_is i j corner few))
      (has.each i j corner wide (omega (arith, high, square)) few mixed
      ∙ sym (value_is (i + corner % 2) (j + corner / 2) (omega (arith, wide)) (omega (arith, high, few))))

  pub tables_are : (values : List ℤ) (signs : List ℕ) → HasSigns view list signs → HasCorners view list values → AreTables view.nx grid values signs
  tables_are values signs signed has = record {
    size = refl;
    border = bordered view (λ p. tape_value p list) square;
    room = has.all ∙ ap (λ n. (n + 1) * (view.nx + 1)) (sym square);
    cells = signed.all ∙ ap (λ n. n * view.nx) (sym square);
    sides = λ cell wide high. signed.each cell.x cell.y wide (omega (arith, high, square)) ∙ sym (cell_is cell.x cell.y wide high);
    exact = exact values has;
  }
