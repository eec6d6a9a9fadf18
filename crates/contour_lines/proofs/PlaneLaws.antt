-- What is found of a plane grid, from what is known of it.
use Rattle.std.proofs.Common.{◌≡◌, ℕ, ◌+◌, ◌*◌, ◌/◌, ◌%◌, ◌<◌, ◌≤◌, ℤ, pos, Bool, true, false, cond, List, get_or, length, refl, sym, ap, subst, ◌∙◌, ◌⊎◌, inl, inr, arith}
use Rattle.std.specs.Prelude.{Option, Some, None, unwrap_or}
use Rattle.std.proofs.lemmas.Option.{none-some}
use Rattle.box_chains.specs.Sums.{LiesIn}
use Rattle.fixed_ops.specs.Raw.{is_inside}
use Rattle.kuhn_cells.specs.Triangles.{point}
use Rattle.kuhn_cells.specs.declared.grid_size.GridSize.{GridSize}
use Rattle.live_clauses.specs.Steps.{tape_value}
use Rattle.live_clauses.specs.declared.step.Step.{Step}
use Rattle.oct_descent.specs.Known.{AllKnown}
use Rattle.oct_descent.specs.Tables.{IsUniform, Marks, read}
use Rattle.oct_descent.specs.Ways.{Covers}
use Rattle.view_places.specs.Spans.{root_box_of}
use Rattle.view_places.specs.Window.{Window, size_of}
use Rattle.view_places.specs.declared.lattice.Lattice.TheVariants as lattices
use Rattle.contour_lines.specs.Planes.{laid_flat, plane_value, within_border}
use Rattle.contour_lines.specs.Signs.{AreMixed, AreRows, HasCorners, HasSigns, bit_of, is_inside_at, side_of, signs_at, signs_by}
use Rattle.contour_lines.specs.Tables.{PlaneValues, known_of}
use Rattle.contour_lines.specs.Trees.{IsTold}
use Rattle.contour_lines.specs.Ways.{cell_square, flat_value}
use Rattle.contour_lines.proofs.FlatLaws.{flat_views_are_planes_is}
use Rattle.contour_lines.proofs.KnownLaws.{known-is}

-- the value over the view that is laid flat is that of the plane grid
pub value-is : (view : Window) (list : List Step) (i j : ℕ) → flat_value (laid_flat view) list (point i j 0) ≡ plane_value view list i j
value-is view list i j = ap (λ p. within_border (size_of view) i j (tape_value p list)) (flat_views_are_planes_is view i j 0)

side-is : (view : Window) (list : List Step) (i j : ℕ) → side_of (laid_flat view) list i j ≡ is_inside_at view list i j
side-is view list i j = ap is_inside (value-is view list i j)

-- the sides of the points give the signs of the cells
laid-signs : (view : Window) (list : List Step) (sides : List Bool) (signs : List ℕ) → AreRows (view.nx + 1) (side_of (laid_flat view) list) false (view.ny + 1) 0 sides
    → AreRows view.nx (signs_by view.nx sides) 0 view.ny 0 signs → HasSigns view list signs
laid-signs view list sides signs sided signed = record {
  all = omega (arith, signed.all);
  each = λ i j wide high. signed.each i j wide high ∙ cell i j wide high;
}
  where
    w : ℕ
    w = view.nx + 1

    here : (i j k : ℕ) → i ≤ view.nx → j ≤ view.ny → k ≡ j * w + i → bit_of (get_or sides k false) ≡ bit_of (is_inside_at view list i j)
    here i j k wide high at = ap (λ n. bit_of (get_or sides n false)) at ∙ ap bit_of (sided.each i j (omega (arith, wide)) (omega (arith, high)) ∙ side-is view list i j)

    above : (j : ℕ) → (j + 1) * w ≡ j * w + w
    above j = grind arith

    cell : (i j : ℕ) → i < view.nx → j < view.ny → signs_by view.nx sides i j ≡ signs_at view list i j
    cell i j wide high = omega (
      arith,
      here i j (j * w + i) (omega (arith, wide)) (omega (arith, high)) refl,
      here (i + 1) j (j * w + i + 1) (omega (arith, wide)) (omega (arith, high)) (omega arith),
      here i (j + 1) (j * w + i + w) (omega (arith, wide)) (omega (arith, high)) (omega (arith, above j)),
      here (i + 1) (j + 1) (j * w + i + w + 1) (omega (arith, wide)) (omega (arith, high)) (omega (arith, above j)),
    )

pub has-signs : (view : Window) (list : List Step) (nx ny : ℕ) (sides : List Bool) (signs : List ℕ) → nx ≡ view.nx → ny ≡ view.ny → AreRows (nx + 1) (side_of (laid_flat view) list) false (ny + 1) 0 sides
    → AreRows nx (signs_by nx sides) 0 ny 0 signs → HasSigns view list signs
has-signs view list nx ny sides signs ex ey sided signed =
    laid-signs view list sides signs
    (subst (λ (n : ℕ). AreRows (n + 1) (side_of (laid_flat view) list) false (view.ny + 1) 0 sides) ex (subst (λ (m : ℕ). AreRows (nx + 1) (side_of (laid_flat view) list) false (m + 1) 0 sides) ey sided))
    (subst (λ (n : ℕ). AreRows n (signs_by n sides) 0 view.ny 0 signs) ex (subst (λ (m : ℕ). AreRows nx (signs_by nx sides) 0 m 0 signs) ey signed))

-- a cell with all corners on one side is not mixed
even-signs : (view : Window) (list : List Step) (i j : ℕ) (inside : Bool) → is_inside_at view list i j ≡ inside → is_inside_at view list (i + 1) j ≡ inside → is_inside_at view list i (j + 1) ≡ inside
    → is_inside_at view list (i + 1) (j + 1) ≡ inside → AreMixed (signs_at view list i j) → ⊥
even-signs view list i j inside a b c d mixed =
    by inside (omega (arith, ap bit_of a, ap bit_of b, ap bit_of c, ap bit_of d))
  where
    by : (t : Bool) → signs_at view list i j ≡ 15 * bit_of t → ⊥
    by true e = omega (arith, e, mixed.others)
    by false e = omega (arith, e, mixed.some)

-- a value that is known is the one that stands there
read-some : (b : Marks) (at : ℕ) (v : ℤ) → read b at ≡ Some v → get_or b.values at (pos 0) ≡ v
read-some b at v e = by (get_or b.known at false) e
  where
    by : (t : Bool) → cond {A = Option ℤ} t (Some (get_or b.values at (pos 0))) None ≡ Some v → get_or b.values at (pos 0) ≡ v
    by true h = ap (λ o. unwrap_or o v) h
    by false h = absurd (none-some v h)

bit-few : (c : ℕ) → c < 4 → (c % 2 ≤ 1) × (c / 2 ≤ 1)
bit-few c few = (omega arith, omega (arith, few))

-- the corners of mixed cells are known, with their values
pub has-corners : (view : Window) (list : List Step) (t : PlaneValues) → t.n ≡ size_of (laid_flat view) → length t.kept.values ≡ (t.n.y + 1) * (t.n.x + 1) → IsTold (laid_flat view) list (known_of t) → HasCorners view list t.kept.values
has-corners view list t n long told = record {
  all = long ∙ ap (λ (m : GridSize). (m.y + 1) * (m.x + 1)) n;
  each = λ i j c wide high few mixed. corner i j c wide high few (by i j wide high mixed (told.settled (record { i = i; j = j; k = 0 }) (lies i j wide high)));
}
  where
    lies : (i j : ℕ) → i < view.nx → j < view.ny → LiesIn (root_box_of (laid_flat view) lattices.Grid) (record { i = i; j = j; k = 0 })
    lies i j wide high = record { x = (omega arith, wide); y = (omega arith, high); z = (omega arith, omega arith) }

    covers : (i j a b : ℕ) → a ≤ 1 → b ≤ 1 → Covers (cell_square (record { i = i; j = j; k = 0 })) (point (i + a) (j + b) 0)
    covers i j a b wide high = record { x = (omega arith, omega (arith, wide)); y = (omega arith, omega (arith, high)); z = (omega arith, omega arith) }

    by : (i j : ℕ) → i < view.nx → j < view.ny → AreMixed (signs_at view list i j) → AllKnown (known_of t) (cell_square (record { i = i; j = j; k = 0 })) ⊎ IsUniform (flat_value (laid_flat view) list) (cell_square (record { i = i; j = j; k = 0 })) → AllKnown (known_of t) (cell_square (record { i = i; j = j; k = 0 }))
    by i j wide high mixed (inl known) = known
    by i j wide high mixed (inr uniform) =
        let side : (a b : ℕ) → a ≤ 1 → b ≤ 1 → is_inside_at view list (i + a) (j + b) ≡ uniform.inside = λ a b x y. sym (side-is view list (i + a) (j + b)) ∙ uniform.each (point (i + a) (j + b) 0) (covers i j a b x y) in
        let right : i + 0 ≡ i = omega arith in
        let up : j + 0 ≡ j = omega arith in
        absurd (even-signs view list i j uniform.inside
        (ap (λ n. is_inside_at view list n j) (sym right) ∙ ap (is_inside_at view list (i + 0)) (sym up) ∙ side 0 0 (omega arith) (omega arith))
        (ap (is_inside_at view list (i + 1)) (sym up) ∙ side 1 0 (omega arith) (omega arith))
        (ap (λ n. is_inside_at view list n (j + 1)) (sym right) ∙ side 0 1 (omega arith) (omega arith))
        (side 1 1 (omega arith) (omega arith)) mixed)

    corner : (i j c : ℕ) → i < view.nx → j < view.ny → c < 4 → AllKnown (known_of t) (cell_square (record { i = i; j = j; k = 0 }))
        → get_or t.kept.values ((j + c / 2) * (view.nx + 1) + (i + c % 2)) (pos 0) ≡ plane_value view list (i + c % 2) (j + c / 2)
    corner i j c wide high few known =
        let p = point (i + c % 2) (j + c / 2) 0 in
        let bits = bit-few c few in
        let x : i + c % 2 ≤ t.n.x = omega (arith, wide, bits.0, ap (λ (m : GridSize). m.x) n) in
        let y : j + c / 2 ≤ t.n.y = omega (arith, high, bits.1, ap (λ (m : GridSize). m.y) n) in
        let right = told.right p (known p (covers i j (c % 2) (c / 2) bits.0 bits.1)) in
        let there = sym (known-is t (i + c % 2) (j + c / 2) x y) ∙ right in
        ap (λ (m : GridSize). get_or t.kept.values ((j + c / 2) * (m.x + 1) + (i + c % 2)) (pos 0)) (sym n)
        ∙ read-some t.kept ((j + c / 2) * (t.n.x + 1) + (i + c % 2)) _ there ∙ value-is view list (i + c % 2) (j + c / 2)
