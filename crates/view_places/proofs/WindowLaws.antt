-- The test of a window is what it tests.
use Rattle.std.specs.Prelude.{◌≡◌, ◌↔◌, ◌*◌, ◌≤◌, nat_le, IsTrue, Bool, true, false, ◌&&◌, ◌≤ℤ◌, T, ℤ, ℕ, pos, ◌-ℤ◌}
use Rattle.std.specs.Int.Signed.{le_z_yes}
use Rattle.std.proofs.Common.{refl, arith}
use Rattle.std.proofs.lemmas.Bool.Decides.{nat_tests}
use Rattle.view_places.specs.Window.{Window, FitsMesh, cells_are_few, cells_have_room, fits_mesh, has_room}
use Rattle.std.proofs.lemmas.Bool.{and_parts}

to_true : (b : Bool) → T b → b ≡ true
to_true true t = refl
to_true false t = absurd t

from_true : (b : Bool) → b ≡ true → T b
from_true true e = tt
from_true false e = absurd cc

pub room_yes : (low high : ℤ) (cells : ℕ) → has_room low high cells ≡ true
    → pos (cells * 65536) ≤ℤ (high -ℤ low)
unfolding has_room
room_yes low high cells e = le_z_yes (from_true _ e)

yes_room : (low high : ℤ) (cells : ℕ) → pos (cells * 65536) ≤ℤ (high -ℤ low)
    → has_room low high cells ≡ true
unfolding has_room
yes_room low high cells h = to_true _ h.le

all_true : (a b c : Bool) → (a && (b && c)) ≡ true → (a ≡ true) × (b ≡ true) × (c ≡ true)
all_true true true true e = (refl, refl, refl)
all_true true true false e = absurd cc
all_true true false c e = absurd cc
all_true false b c e = absurd cc

true_all : (a b c : Bool) → a ≡ true → b ≡ true → c ≡ true → (a && (b && c)) ≡ true
true_all a b c ha hb hc = rw (ha, hb, hc) refl

few_yes : (cells : ℕ) → nat_le cells 16777216 ≡ true → cells ≤ 16777216
few_yes cells e = grind (arith, nat_tests, e)

yes_few : (cells : ℕ) → cells ≤ 16777216 → nat_le cells 16777216 ≡ true
yes_few cells h = grind (arith, nat_tests, h)

pub fits_mesh_is : (v : Window) → IsTrue (fits_mesh v) ↔ FitsMesh v
fits_mesh_is v = (
  λ h. let both = and_parts (cells_have_room v) (cells_are_few v) h in
      let each = all_true (has_room v.x0 v.x1 v.nx) (has_room v.y0 v.y1 v.ny) (has_room v.z0 v.z1 v.nz) both.0 in
      record {
        x = room_yes v.x0 v.x1 v.nx each.0;
        y = room_yes v.y0 v.y1 v.ny each.1;
        z = room_yes v.z0 v.z1 v.nz each.2;
        all = few_yes (v.nx * (v.ny * v.nz)) both.1;
      },
  λ f. rw (
    true_all _ _ _ (yes_room v.x0 v.x1 v.nx f.x) (yes_room v.y0 v.y1 v.ny f.y)
        (yes_room v.z0 v.z1 v.nz f.z),
    yes_few (v.nx * (v.ny * v.nz)) f.all,
  ) refl,
)

pub tested : (v : Window) (b : Bool) → b ≡ fits_mesh v → IsTrue b ↔ FitsMesh v
tested v b e = rw e (fits_mesh_is v)
