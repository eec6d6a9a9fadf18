-- No turn occurs twice in a grid.
use Rattle.std.proofs.Common.{◌≡◌, ℕ, ◌<◌, Bool, true, false, cond, List, [], refl, arith, ap}
use Rattle.std.specs.Prelude.{nat_lt, All, AllPairs}
use Rattle.std.specs.List.{range_with_len}
use Rattle.std.proofs.lemmas.Bool.{ltb-true}
use Rattle.std.proofs.lemmas.List.Elements.{All-nil, All-weaker}
use Rattle.kuhn_cells.specs.declared.edge_key.EdgeKey.{EdgeKey}
use Rattle.kuhn_cells.specs.Grids.{Grid, is_inside_at}
use Rattle.kuhn_cells.specs.Triangles.{GridPoint, point}
use Rattle.kuhn_cells.proofs.VertexLaws.{all_block}
use Rattle.mesh_laws.proofs.Lists.{Differ}
use Rattle.mesh_laws.proofs.Owners.{IsAtHome, all_at_home, home_tetra, home_x, home_y, home_z, one_differ}
use Rattle.mesh_laws.proofs.Turns.{all_turns, cell_turns, turns_at}
use Rattle.fixed_ops.proofs.Lists.{all_flat, all_within, in_order}

-- two things that a number tells apart differ
pub apart : {A : Type 0} (n : A → ℕ) (i j : ℕ) (x y : A) → i < j → n x ≡ i → n y ≡ j → Differ x y
apart n i j x y less p q same = let e = ap n same in omega (arith, less, p, q, e)

-- the turns of a tetrahedron, and none of a tetrahedron that a cell has not
some_turns : (GridPoint → Bool) → GridPoint → ℕ → Bool → List (EdgeKey × EdgeKey)
some_turns inside cell tetra few = cond few (turns_at inside cell tetra) []

some_differ : (inside : GridPoint → Bool) (cell : GridPoint) (tetra : ℕ) (few : Bool) → (few ≡ true → tetra < 6) → AllPairs Differ (some_turns inside cell tetra few)
unfolding some_turns
some_differ inside cell tetra true h = one_differ inside cell tetra (h refl)
some_differ inside cell tetra false h = λ i j d less within. absurd (omega (arith, within))

some_at_home : (inside : GridPoint → Bool) (cell : GridPoint) (tetra : ℕ) (few : Bool) → (few ≡ true → tetra < 6) → All (λ k. home_tetra inside k ≡ tetra) (some_turns inside cell tetra few)
unfolding some_turns
some_at_home inside cell tetra true h =
    All-weaker (IsAtHome inside cell tetra) (λ k. home_tetra inside k ≡ tetra) (λ k p. p.in_tetra) (turns_at inside cell tetra) (all_at_home inside cell tetra (h refl))
some_at_home inside cell tetra false h = All-nil (λ k. home_tetra inside k ≡ tetra)

cell_differ : (inside : GridPoint → Bool) (cell : GridPoint) → AllPairs Differ (cell_turns inside cell)
unfolding some_turns
cell_differ inside cell =
    in_order Differ (λ tetra. some_turns inside cell tetra (nat_lt tetra 6)) (λ tetra k. home_tetra inside k ≡ tetra)
    (λ tetra. some_differ inside cell tetra (nat_lt tetra 6) (ltb-true tetra 6))
    (λ tetra. some_at_home inside cell tetra (nat_lt tetra 6) (ltb-true tetra 6))
    (apart (home_tetra inside)) 0 6

-- a turn of a cell
record IsOfCell (inside : GridPoint → Bool) (cell : GridPoint) (k : EdgeKey × EdgeKey) : Type 0 where
  x : home_x inside k ≡ cell.x
  y : home_y inside k ≡ cell.y
  z : home_z inside k ≡ cell.z
  differ : k.0 ≡ k.1 → ⊥

all_of_cell : (inside : GridPoint → Bool) (cell : GridPoint) → All (IsOfCell inside cell) (cell_turns inside cell)
all_of_cell inside cell =
    all_within (IsOfCell inside cell) (turns_at inside cell) 0 6 (λ tetra few.
    All-weaker (IsAtHome inside cell tetra) (IsOfCell inside cell) (λ k p. record { x = p.x; y = p.y; z = p.z; differ = p.differ }) (turns_at inside cell tetra) (all_at_home inside cell tetra (omega (arith, few))))

pub all_differ : (g : Grid) → AllPairs Differ (all_turns g)
unfolding all_turns
all_differ g =
    let inside = is_inside_at g in
    let of = all_of_cell inside in
    let at = cell_turns inside in
    in_order Differ _ (λ z k. home_z inside k ≡ z)
    (λ z. in_order Differ _ (λ y k. home_y inside k ≡ y)
    (λ y. in_order Differ (λ x. at (point x y z)) (λ x k. home_x inside k ≡ x)
    (λ x. cell_differ inside (point x y z))
    (λ x. All-weaker (IsOfCell inside (point x y z)) (λ k. home_x inside k ≡ x) (λ k p. p.x) (at (point x y z)) (of (point x y z)))
    (apart (home_x inside)) 0 g.x)
    (λ y. all_flat (λ k. home_y inside k ≡ y) (λ x. at (point x y z)) (λ x. All-weaker (IsOfCell inside (point x y z)) (λ k. home_y inside k ≡ y) (λ k p. p.y) (at (point x y z)) (of (point x y z))) (range_with_len 0 g.x))
    (apart (home_y inside)) 0 g.y)
    (λ z. all_flat (λ k. home_z inside k ≡ z) _ (λ y. all_flat (λ k. home_z inside k ≡ z) (λ x. at (point x y z)) (λ x. All-weaker (IsOfCell inside (point x y z)) (λ k. home_z inside k ≡ z) (λ k p. p.z) (at (point x y z)) (of (point x y z))) (range_with_len 0 g.x)) (range_with_len 0 g.y))
    (apart (home_z inside)) 0 g.z

-- the two edges of a turn differ
pub all_part : (g : Grid) → All (λ k. k.0 ≡ k.1 → ⊥) (all_turns g)
unfolding all_turns
all_part g =
    let inside = is_inside_at g in
    all_block (λ k. k.0 ≡ k.1 → ⊥) g.x g.y g.z (cell_turns inside) (λ cell.
    All-weaker (IsOfCell inside cell) (λ k. k.0 ≡ k.1 → ⊥) (λ k p. p.differ) (cell_turns inside cell) (all_of_cell inside cell))
