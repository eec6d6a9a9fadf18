-- The grid of a view has the values of its points.
use Rattle.std.proofs.Common.{◌≡◌, ℕ, zero, suc, ◌+◌, ◌*◌, ◌<◌, ◌≤◌, false, [], ◌∷◌, length, get_or, refl, ap, ◌∙◌, arith, zero-add}
use Rattle.std.specs.Prelude.{ℤ, pos, negsuc, flat_map, if◌then◌else◌}
use Rattle.std.specs.Int.{int_max}
use Rattle.std.specs.List.{range_with_len}
use Rattle.std.proofs.lemmas.Bool.{and_parts, le-leb, le-ltb, leb-true}
use Rattle.std.proofs.lemmas.Nat.{mul-add-lt}
use Rattle.fixed_ops.specs.Points.{Point}
use Rattle.fixed_ops.specs.Raw.{is_inside}
use Rattle.kuhn_cells.specs.Cells.{IsBordered}
use Rattle.kuhn_cells.specs.Grids.{over_block, value_at}
use Rattle.kuhn_cells.specs.Triangles.{GridPoint, point}
use Rattle.view_places.specs.Places.{point_of}
use Rattle.view_places.specs.Window.{Window}
use Rattle.view_places.specs.declared.lattice.Lattice.TheVariants as lattices
use Rattle.model_frames.specs.Meshes.{grid_of, grid_value}
use Rattle.fixed_ops.proofs.Lists.{flat_item, flat_length}

-- ---- the values of a grid

one_each : (at : GridPoint → ℤ) (y z n : ℕ) → length (flat_map (λ x. at (point x y z) ∷ []) (range_with_len 0 n)) ≡ n * 1
one_each at y z n = flat_length (λ x. at (point x y z) ∷ []) 0 n 1 (λ x. refl)

row_each : (at : GridPoint → ℤ) (z n m : ℕ) → length (flat_map (λ y. flat_map (λ x. at (point x y z) ∷ []) (range_with_len 0 n)) (range_with_len 0 m)) ≡ m * (n * 1)
row_each at z n m = flat_length (λ y. flat_map (λ x. at (point x y z) ∷ []) (range_with_len 0 n)) 0 m (n * 1) (λ y. one_each at y z n)

-- the item of a block at the place of a point
block_item : (at : GridPoint → ℤ) (nx ny nz x y z : ℕ) (d : ℤ) → x < nx → y < ny → z < nz
    → get_or (over_block nx ny nz (λ p. at p ∷ [])) ((z * ny + y) * nx + x) d ≡ at (point x y z)
block_item at nx ny nz x y z d fx fy fz =
    let place : (z * ny + y) * nx + x ≡ z * (ny * (nx * 1)) + (y * (nx * 1) + (x * 1 + 0)) = grind arith in
    let column : x * 1 + 0 < nx * 1 = omega (arith, fx) in
    let row : y * (nx * 1) + (x * 1 + 0) < ny * (nx * 1) = let h = mul-add-lt y (nx * 1) (x * 1 + 0) ny fy column in let e : nx * 1 * ny ≡ ny * (nx * 1) = grind arith in omega (arith, h, e) in
    ap (λ m. get_or (over_block nx ny nz (λ p. at p ∷ [])) m d) place
    ∙ flat_item (λ z. flat_map (λ y. flat_map (λ x. at (point x y z) ∷ []) (range_with_len 0 nx)) (range_with_len 0 ny)) 0 nz (ny * (nx * 1)) z (y * (nx * 1) + (x * 1 + 0)) d (λ z. row_each at z nx ny) fz row
    ∙ flat_item (λ y. flat_map (λ x. at (point x y (0 + z)) ∷ []) (range_with_len 0 nx)) 0 ny (nx * 1) y (x * 1 + 0) d (λ y. one_each at y (0 + z) nx) fy column
    ∙ flat_item (λ x. at (point x (0 + y) (0 + z)) ∷ []) 0 nx 1 x 0 d (λ x. refl) fx (omega arith)
    ∙ ap (λ x. at (point x (0 + y) (0 + z))) (zero-add x)
    ∙ ap (λ y. at (point x y (0 + z))) (zero-add y)
    ∙ ap (λ z. at (point x y z)) (zero-add z)

-- a grid has the value of each of its points
pub grid_at : (view : Window) (value : Point → ℤ) (p : GridPoint) → p.x ≤ view.nx → p.y ≤ view.ny → p.z ≤ view.nz
    → value_at (grid_of view value) p ≡ grid_value view value p
unfolding grid_of
grid_at view value p fx fy fz =
    block_item (grid_value view value) (view.nx + 1) (view.ny + 1) (view.nz + 1) p.x p.y p.z (pos 0) (omega (arith, fx)) (omega (arith, fy)) (omega (arith, fz))

-- no border is inside
border_outside : (v : ℤ) → is_inside (int_max v (pos 0)) ≡ false
border_outside (pos zero) = refl
border_outside (pos (suc n)) = rw (le-leb 1 (suc n) (omega arith), le-ltb (suc n) 0 (omega arith)) refl
border_outside (negsuc n) = refl

-- the outermost layer of each grid is outside
pub grid_bordered : (view : Window) (value : Point → ℤ) → IsBordered (grid_of view value)
unfolding grid_of
grid_bordered view value = record {
  whole = let nx = view.nx + 1 in
      let ny = view.ny + 1 in
      let nz = view.nz + 1 in
      let size = flat_length (λ z. flat_map (λ y. flat_map (λ x. grid_value view value (point x y z) ∷ []) (range_with_len 0 nx)) (range_with_len 0 ny)) 0 nz (ny * (nx * 1)) (λ z. row_each (grid_value view value) z nx ny) in
      let same : nz * (ny * (nx * 1)) ≡ nx * (ny * nz) = grind arith in
      size ∙ same;
  outside = λ p within outer.
      let x = and_parts _ _ within in
      let yz = and_parts _ _ x.1 in
      ap is_inside (grid_at view value p (leb-true p.x view.nx x.0) (leb-true p.y view.ny yz.0) (leb-true p.z view.nz yz.1)
      ∙ ap (λ t. if t then int_max (own p) (pos 0) else own p) outer)
      ∙ border_outside (own p);
}
  where
    own : GridPoint → ℤ
    own p = value (point_of view lattices.Grid p.x p.y p.z)
