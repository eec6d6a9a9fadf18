-- Lists that are put together from others, and lists without repetition.
use Rattle.std.proofs.Common.{◌≡◌, ℕ, Bool, true, List, [], ◌∷◌, ◌++◌, refl, arith, ap, sym, ◌∙◌}
use Rattle.std.specs.Prelude.{◌==◌, ◌&&◌, not, map, flat_map, All, AllPairs}
use Rattle.std.specs.List.{list_all}
use Rattle.std.proofs.lemmas.Bool.{and_parts, both_ways, eq-eqb, not-true}
use Rattle.std.proofs.lemmas.List.{map-append}
use Rattle.std.proofs.lemmas.List.Elements.{All-append, All-cons, All-nil, All-head, All-tail}
use Rattle.std.proofs.lemmas.List.Kept.{AllPairs-cons}

-- ---- lists of lists

pub flat_same : {X Y : Type 0} (f g : X → List Y) → ((x : X) → f x ≡ g x) → (xs : List X) → flat_map f xs ≡ flat_map g xs
flat_same f g same [] = refl
flat_same f g same (x ∷ xs) = rw (same x, flat_same f g same xs) refl

pub flat_of_maps : {X Y Z : Type 0} (h : Y → Z) (g : X → List Y) (xs : List X) → flat_map (λ x. map h (g x)) xs ≡ map h (flat_map g xs)
flat_of_maps h g [] = refl
flat_of_maps h g (x ∷ xs) = ap (λ ys. map h (g x) ++ ys) (flat_of_maps h g xs) ∙ sym (map-append h (g x) (flat_map g xs))

pub all_of_flat : {X Y : Type 0} (P : X → Type 0) (Q : Y → Type 0) (f : X → List Y) → ((x : X) → P x → All Q (f x)) → (xs : List X) → All P xs → All Q (flat_map f xs)
all_of_flat P Q f each [] h = All-nil Q
all_of_flat P Q f each (x ∷ xs) h = All-append Q (f x) (flat_map f xs) (each x (All-head P x xs h)) (all_of_flat P Q f each xs (All-tail P x xs h))

-- ---- lists without repetition

abbrev pub Differ : {A : Type 0} → A → A → Type 0
Differ x y = x ≡ y → ⊥

-- no number stands twice
abbrev pub distinct : List ℕ → Bool
distinct [] = true
distinct (k ∷ ks) = list_all (λ later. not (later == k)) ks && distinct ks

none_same : {A : Type 0} (n : A → ℕ) (y : A) (ys : List A) → list_all (λ later. not (later == n y)) (map n ys) ≡ true → All (Differ y) ys
none_same n y [] h = All-nil (Differ y)
none_same n y (z ∷ zs) h =
    let parts = and_parts _ _ h in
    All-cons (Differ y) z zs (λ same. both_ways (n z == n y) (not-true _ parts.0) (eq-eqb (n z) (n y) (rw same refl))) (none_same n y zs parts.1)

pub differ_by : {A : Type 0} (n : A → ℕ) (ys : List A) → distinct (map n ys) ≡ true → AllPairs Differ ys
differ_by n [] h = λ i j d less within. absurd (omega (arith, within))
differ_by n (y ∷ ys) h =
    let parts = and_parts _ _ h in
    AllPairs-cons Differ y ys (none_same n y ys parts.0) (differ_by n ys parts.1)
