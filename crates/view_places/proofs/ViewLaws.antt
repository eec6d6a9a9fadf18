-- The test of whether two views are one.
use Rattle.std.proofs.Common.{◌≡◌, true, refl}
use Rattle.std.proofs.lemmas.Bool.{and_from, and_parts}
use Rattle.std.proofs.lemmas.Bool.Decides.{Decides-eqb, Decides-int_eq}
use Rattle.view_places.specs.Window.{Window, same_view}

-- views with the same fields are one
pub one_view : (a b : Window) → same_view a b ≡ true → a ≡ b
one_view a b e =
    let x0 = and_parts _ _ e in
    let x1 = and_parts _ _ x0.1 in
    let y0 = and_parts _ _ x1.1 in
    let y1 = and_parts _ _ y0.1 in
    let z0 = and_parts _ _ y1.1 in
    let z1 = and_parts _ _ z0.1 in
    let z = and_parts _ _ z1.1 in
    let w = and_parts _ _ z.1 in
    let h = and_parts _ _ w.1 in
    let d = and_parts _ _ h.1 in
    let nx = and_parts _ _ d.1 in
    let ny = and_parts _ _ nx.1 in
    λ k. record {
      x0 = (Decides-int_eq a.x0 b.x0).0 x0.0 k;
      x1 = (Decides-int_eq a.x1 b.x1).0 x1.0 k;
      y0 = (Decides-int_eq a.y0 b.y0).0 y0.0 k;
      y1 = (Decides-int_eq a.y1 b.y1).0 y1.0 k;
      z0 = (Decides-int_eq a.z0 b.z0).0 z0.0 k;
      z1 = (Decides-int_eq a.z1 b.z1).0 z1.0 k;
      z = (Decides-int_eq a.z b.z).0 z.0 k;
      w = (Decides-eqb a.w b.w).0 w.0 k;
      h = (Decides-eqb a.h b.h).0 h.0 k;
      d = (Decides-eqb a.d b.d).0 d.0 k;
      nx = (Decides-eqb a.nx b.nx).0 nx.0 k;
      ny = (Decides-eqb a.ny b.ny).0 ny.0 k;
      nz = (Decides-eqb a.nz b.nz).0 ny.1 k;
    }

-- a view is one with itself
pub same_as_itself : (a : Window) → same_view a a ≡ true
same_as_itself a =
    and_from _ _ ((Decides-int_eq a.x0 a.x0).1 refl) (and_from _ _ ((Decides-int_eq a.x1 a.x1).1 refl)
    (and_from _ _ ((Decides-int_eq a.y0 a.y0).1 refl) (and_from _ _ ((Decides-int_eq a.y1 a.y1).1 refl)
    (and_from _ _ ((Decides-int_eq a.z0 a.z0).1 refl) (and_from _ _ ((Decides-int_eq a.z1 a.z1).1 refl)
    (and_from _ _ ((Decides-int_eq a.z a.z).1 refl)
    (and_from _ _ ((Decides-eqb a.w a.w).1 refl) (and_from _ _ ((Decides-eqb a.h a.h).1 refl)
    (and_from _ _ ((Decides-eqb a.d a.d).1 refl) (and_from _ _ ((Decides-eqb a.nx a.nx).1 refl)
    (and_from _ _ ((Decides-eqb a.ny a.ny).1 refl) ((Decides-eqb a.nz a.nz).1 refl))))))))))))
