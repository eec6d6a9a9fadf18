-- Places that are read from the list of all.
use Rattle.std.proofs.Common.{◌≡◌, ◌+◌, ◌<◌, ◌≤◌, ℕ, ℤ, List, [], ◌∷◌, ◌++◌, get_or, length, map, ap, sym, ◌∙◌, arith}
use Rattle.std.specs.List.{range_with_len}
use Rattle.std.proofs.lemmas.List.FromFn.{get_or-map-range_with_len, length-map-range_with_len, map-range_with_len_more}
use Rattle.view_places.specs.Places.{sample_place, steps_of}
use Rattle.view_places.specs.Window.{Window}
use Rattle.view_places.specs.declared.lattice.Axis.{Axis}
use Rattle.view_places.specs.declared.lattice.Lattice.{Lattice}
use Rattle.box_chains.specs.Placing.{places_along}

-- there is one place a sample
pub as_many : (v : Window) (lattice : Lattice) (axis : Axis) (places : List ℤ) → places ≡ places_along v lattice axis → length places ≡ steps_of v lattice axis + 1
as_many v lattice axis places same = ap length same ∙ length-map-range_with_len (sample_place v lattice axis) 0 (steps_of v lattice axis + 1)

pub within : (v : Window) (lattice : Lattice) (axis : Axis) (places : List ℤ) (i : ℕ) → places ≡ places_along v lattice axis → i ≤ steps_of v lattice axis → i < length places
within v lattice axis places i same few = omega (arith, as_many v lattice axis places same, few)

pub place-read : (v : Window) (lattice : Lattice) (axis : Axis) (places : List ℤ) (i : ℕ) (r : ℤ) → places ≡ places_along v lattice axis → i ≤ steps_of v lattice axis → r ≡ get_or places i r → r ≡ sample_place v lattice axis i
place-read v lattice axis places i r same few read =
    read ∙ ap (λ l. get_or l i r) same ∙ get_or-map-range_with_len (sample_place v lattice axis) 0 (steps_of v lattice axis + 1) i i r (omega (arith, few)) (omega arith)

-- one more place
pub place-more : (old new : List ℤ) (f : ℕ → ℤ) (i : ℕ) (r : ℤ) → old ≡ map f (range_with_len 0 i) → new ≡ old ++ r ∷ [] → r ≡ f i → new ≡ map f (range_with_len 0 (i + 1))
place-more old new f i r before pushed same =
    pushed ∙ ap (λ l. l ++ r ∷ []) before ∙ ap (λ x. map f (range_with_len 0 i) ++ x ∷ []) same ∙ sym (map-range_with_len_more f 0 i i (omega arith))
