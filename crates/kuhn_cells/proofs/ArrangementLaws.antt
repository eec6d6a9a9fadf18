-- The arrangement of the corners of a tetrahedron.
use Rattle.std.proofs.Common.{◌≡◌, ℕ, ◌<◌, Bool, true, false, List, [], ◌∷◌, refl, arith, length}
use Rattle.std.specs.Prelude.{get_or, pos, if◌then◌else◌}
use Rattle.std.specs.Ordering.{int_eq}
use Rattle.std.proofs.lemmas.Bool.{agree_below_at}
use Rattle.std.proofs.lemmas.Bool.Decides.{Decides-int_eq}
use Rattle.kuhn_cells.specs.Arrangement.{arranged, arrangement, differ, grouped, turned}
use Rattle.kuhn_cells.specs.Corners.{is_odd, corner_determinant}
use Rattle.kuhn_cells.specs.Laws.{ArrangementsArePositive}
use Rattle.kuhn_cells.proofs.Checks.{every, every_at}

turned_twice : (ks : List ℕ) → turned (turned ks) ≡ ks
turned_twice [] = refl
turned_twice (a ∷ []) = refl
turned_twice (a ∷ b ∷ []) = refl
turned_twice (a ∷ b ∷ c ∷ []) = refl
turned_twice (a ∷ b ∷ c ∷ d ∷ ks) = refl

-- a negative sign exchanges the last two
pub negative_is_turned : (pattern : List Bool) → turned (arranged false pattern) ≡ arranged true pattern
unfolding arranged
negative_is_turned pattern = by (is_odd (grouped pattern)) (grouped pattern)
  where
    by : (odd : Bool) (ks : List ℕ) → turned (if differ false odd then turned ks else ks) ≡ (if differ true odd then turned ks else ks)
    by true ks = turned_twice ks
    by false ks = refl

-- the elements of a list of four, the last two exchanged
pub turned_four : (ks : List ℕ) → length ks ≡ 4 → (get_or ks 0 0 ∷ get_or ks 1 0 ∷ get_or ks 3 0 ∷ get_or ks 2 0 ∷ []) ≡ turned ks
turned_four [] h = absurd (omega (arith, h))
turned_four (a ∷ []) h = absurd (omega (arith, h))
turned_four (a ∷ b ∷ []) h = absurd (omega (arith, h))
turned_four (a ∷ b ∷ c ∷ []) h = absurd (omega (arith, h))
turned_four (a ∷ b ∷ c ∷ d ∷ []) h = refl
turned_four (a ∷ b ∷ c ∷ d ∷ e ∷ ks) h = absurd (omega (arith, h))

-- whether the ways from a to b, c and d have the determinant 1
is_positive : ℕ → Bool → Bool → Bool → Bool → Bool
is_positive tetra v0 v1 v2 v3 =
    let corners = arrangement tetra (v0 ∷ v1 ∷ v2 ∷ v3 ∷ []) in
    int_eq (corner_determinant (get_or corners 0 0) (get_or corners 1 0) (get_or corners 2 0) (get_or corners 3 0)) (pos 1)

all_positive : (tetra : ℕ) → tetra < 6 → every (is_positive tetra) ≡ true
unfolding is_positive arranged
all_positive tetra few = agree_below_at (λ t. every (is_positive t)) (λ _. true) 6 tetra refl few

pub arrangements_are_positive : ArrangementsArePositive
unfolding is_positive
arrangements_are_positive tetra v0 v1 v2 v3 few =
    (Decides-int_eq _ _).0 (every_at (is_positive tetra) (all_positive tetra few) v0 v1 v2 v3)
