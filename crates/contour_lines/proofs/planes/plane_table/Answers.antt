use Rattle.std.proofs.Common.{◌≡◌, ◌+◌, ◌*◌, ℕ, Bool, List, ◌∙◌, ap, arith, length, subst, sym}
use Rattle.view_places.specs.Window.{IsWindow, size_of}
use Rattle.contour_lines.specs.Planes.{laid_flat}
use Rattle.contour_lines.specs.Signs.{AreRows, HasCorners, signs_by}
use Rattle.contour_lines.specs.Tables.{known_of}
use Rattle.contour_lines.specs.Trees.{IsTold}
use Rattle.contour_lines.proofs.PlaneLaws.{has-corners, has-signs}
use Rattle.contour_lines.proofs.Theorems.{planes}
use Rattle.contour_lines.proofs.planes.plane_table.Goals as goal

pub signs_of-requires : goal.signs_of-requires
signs_of-requires c =
    let flat = laid_flat c.args.view.now in
    let list = c.args.list.now in
    let told = subst (λ v. IsTold v list (known_of c.in_ok-values.values)) c.lay_flat-flat.ensures c.in_ok-values.ensures.told in
    let window = subst IsWindow c.lay_flat-flat.ensures c.in_ok-values.ensures.window in
    let n = c.in_ok-values.values.n in
    let sided = c.in_ok-sides.ensures flat list window told in
    let long : length c.in_ok-sides.sides.items ≡ (n.y + 1) * (n.x + 1) = omega (arith, sided.all) in
    record {
      wide = c.nx.ensures.few;
      high = c.ny.ensures.few;
      sides = ap length c.deref.ensures.value ∙ long ∙ ap (λ (m : ℕ). (m + 1) * (n.x + 1)) (sym c.ny.ensures.value) ∙ ap (λ (k : ℕ). (c.ny.result + 1) * (k + 1)) (sym c.nx.ensures.value);
    }

pub returns-clause-signs : goal.returns-clause-signs
returns-clause-signs c =
    let flat = laid_flat c.args.view.now in
    let list = c.args.list.now in
    let told = subst (λ v. IsTold v list (known_of c.in_ok-values.values)) c.lay_flat-flat.ensures c.in_ok-values.ensures.told in
    let window = subst IsWindow c.lay_flat-flat.ensures c.in_ok-values.ensures.window in
    let n = c.in_ok-values.values.n in
    let signed = subst (λ (m : ℕ). AreRows m (signs_by m c.in_ok-sides.sides.items) 0 n.y 0 c.in_ok-signs.signs.items) c.nx.ensures.value
    (subst (λ (m : ℕ). AreRows c.nx.result (signs_by c.nx.result c.in_ok-sides.sides.items) 0 m 0 c.in_ok-signs.signs.items) c.ny.ensures.value
    (subst (λ (s : List Bool). AreRows c.nx.result (signs_by c.nx.result s) 0 c.ny.result 0 c.in_ok-signs.signs.items) c.deref.ensures.value c.in_ok-signs.ensures)) in
    has-signs c.args.view.now list n.x n.y c.in_ok-sides.sides.items c.in_ok-signs.signs.items told.n.0 told.n.1.0 (c.in_ok-sides.ensures flat list window told) signed

pub returns-clause-corners : goal.returns-clause-corners
returns-clause-corners c =
    let flat = laid_flat c.args.view.now in
    let list = c.args.list.now in
    let told = subst (λ v. IsTold v list (known_of c.in_ok-values.values)) c.lay_flat-flat.ensures c.in_ok-values.ensures.told in
    let values = c.in_ok-values.values in
    subst (HasCorners c.args.view.now list) (sym c.into_values.ensures) (has-corners c.args.view.now list values (planes.sizes.is values.n (size_of flat) told.n) c.holds.ensures.values told)
