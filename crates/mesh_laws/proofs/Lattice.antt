-- Different vertices have different places on the lattice.
use Rattle.std.proofs.Common.{◌≡◌, ℕ, zero, suc, ◌+◌, ◌-◌, ◌*◌, ◌/◌, ◌%◌, ◌≤◌, ℤ, pos, refl, arith, ap, sym, ◌∙◌}
use Rattle.std.proofs.lemmas.Bool.{cond_both}
use Rattle.std.proofs.lemmas.Int.{ints}
use Rattle.fixed_ops.specs.Cut.{cut_of}
use Rattle.kuhn_cells.specs.declared.edge_key.EdgeKey.{EdgeKey}
use Rattle.kuhn_cells.specs.Corners.{along_x, along_y, along_z}
use Rattle.kuhn_cells.specs.Grids.{Grid, lower, upper, value_at}
use Rattle.kuhn_cells.specs.Laws.{IsDirection}
use Rattle.kuhn_cells.specs.Vectors.{Vector}
use Rattle.mesh_laws.specs.Places.{lattice_place, share, way_up}
use Rattle.fixed_ops.specs.Raw.{is_inside}

pub record IsShare (t : ℕ) : Type 0 where
  pub some : 1 ≤ t
  pub few : t ≤ 65535

cut_is_share : (a b : ℤ) → IsShare (cut_of a b)
cut_is_share a b = record { some = omega arith; few = omega arith }

rest_is_share : (a b : ℤ) → IsShare (65536 - cut_of a b)
rest_is_share a b = record { some = omega arith; few = omega arith }

-- a mesh cuts an edge between its ends, whatever their values
pub way_is_share : (low high : ℤ) → IsShare (way_up low high)
way_is_share low high =
    cond_both (is_inside low) (cut_of low high) (65536 - cut_of high low) IsShare (λ _. cut_is_share low high) (λ _. rest_is_share high low)

-- so the share of an edge is one
pub share_is_share : (g : Grid) (e : EdgeKey) → IsShare (share g e)
share_is_share g e = way_is_share (value_at g (lower e)) (value_at g (upper e))

-- ---- edges are known by their lower ends and their steps

record IsOneEdge (e f : EdgeKey) : Type 0 where
  x : e.x ≡ f.x
  y : e.y ≡ f.y
  z : e.z ≡ f.z
  steps_x : along_x e.dir ≡ along_x f.dir
  steps_y : along_y e.dir ≡ along_y f.dir
  steps_z : along_z e.dir ≡ along_z f.dir

mask_is : (m : ℕ) → m ≤ 7 → m ≡ m % 2 + 2 * (m / 2 % 2) + 4 * (m / 4 % 2)
mask_is m few = omega (arith, few)

same_mask : (m n : ℕ) → m ≤ 7 → n ≤ 7 → along_x m ≡ along_x n → along_y m ≡ along_y n → along_z m ≡ along_z n → m ≡ n
same_mask m n fm fn x y z = mask_is m fm ∙ rw (x, y, z) (sym (mask_is n fn))

one_edge : (e f : EdgeKey) → IsDirection e.dir → IsDirection f.dir → IsOneEdge e f → e ≡ f
one_edge e f d c h = rw (h.x, h.y, h.z, same_mask e.dir f.dir d.within c.within h.steps_x h.steps_y h.steps_z) refl

-- ---- along one axis

pub record IsSameStart (a b d c : ℕ) : Type 0 where
  pub start : a ≡ b
  pub steps : d ≡ c

lattice_axis : (a b d c t s : ℕ) → d ≤ 1 → c ≤ 1 → IsShare t → IsShare s → 65536 * a + t * d ≡ 65536 * b + s * c → IsSameStart a b d c
lattice_axis a b zero zero t s fd fc p q e = record { start = omega (arith, e); steps = refl }
lattice_axis a b zero (suc zero) t s fd fc p q e =
    let some = q.some in
    let few = q.few in
    absurd (omega (arith, e, some, few))
lattice_axis a b (suc zero) zero t s fd fc p q e =
    let some = p.some in
    let few = p.few in
    absurd (omega (arith, e, some, few))
lattice_axis a b (suc zero) (suc zero) t s fd fc p q e =
    let few = p.few in
    let more = q.few in
    record { start = omega (arith, e, few, more); steps = refl }
lattice_axis a b (suc (suc d)) c t s fd fc p q e = absurd (omega (arith, fd))
lattice_axis a b d (suc (suc c)) t s fd fc p q e = absurd (omega (arith, fc))

pub few_steps : (n : ℕ) → n % 2 ≤ 1
few_steps n = omega arith

pos_same : (m n : ℕ) → pos m ≡ pos n → m ≡ n
pos_same m n e = omega (arith, ints, e)

pub same_start : (e f : EdgeKey) → IsDirection e.dir → IsDirection f.dir → IsSameStart e.x f.x (along_x e.dir) (along_x f.dir) → IsSameStart e.y f.y (along_y e.dir) (along_y f.dir) → IsSameStart e.z f.z (along_z e.dir) (along_z f.dir) → e ≡ f
same_start e f d c x y z = one_edge e f d c (record { x = x.start; y = y.start; z = z.start; steps_x = x.steps; steps_y = y.steps; steps_z = z.steps })

pub lattice_tells : (g : Grid) (e f : EdgeKey) → IsDirection e.dir → IsDirection f.dir → lattice_place g e ≡ lattice_place g f → e ≡ f
lattice_tells g e f d c same =
    let t = share_is_share g e in
    let s = share_is_share g f in
    same_start e f d c
    (lattice_axis e.x f.x (along_x e.dir) (along_x f.dir) (share g e) (share g f) (few_steps e.dir) (few_steps f.dir) t s (pos_same _ _ (ap (λ (v : Vector). v.x) same)))
    (lattice_axis e.y f.y (along_y e.dir) (along_y f.dir) (share g e) (share g f) (few_steps (e.dir / 2)) (few_steps (f.dir / 2)) t s (pos_same _ _ (ap (λ (v : Vector). v.y) same)))
    (lattice_axis e.z f.z (along_z e.dir) (along_z f.dir) (share g e) (share g f) (few_steps (e.dir / 4)) (few_steps (f.dir / 4)) t s (pos_same _ _ (ap (λ (v : Vector). v.z) same)))
