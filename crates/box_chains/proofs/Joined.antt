-- Joined lists, and pairs of their elements.
use Rattle.std.proofs.Common.{◌≡◌, ℕ, zero, suc, List, [], ◌∷◌, ◌++◌, get_or, refl, sym, subst, ◌⊎◌, inl, inr, arith}
use Rattle.std.specs.List.{All, AllPairs, Contains, flat_map, sum_by}
use Rattle.std.proofs.lemmas.List.Concat.{flat_map-cons}
use Rattle.std.proofs.lemmas.List.Elements.{All-append, All-head, All-tail, All-weaker, Contains-append_cases, Contains-append_left, Contains-append_right}
use Rattle.std.proofs.lemmas.List.Kept.{AllPairs-cons}
use Rattle.std.proofs.lemmas.List.Sums.{sum_by-append, sum_by-cons}
use Rattle.box_chains.proofs.HalfLaws.{All-flat_map}

-- pairs of a list, from its first element and the others
pub pairs-head : {X : Type 0} (R : X → X → Type 0) (x : X) (xs : List X) → AllPairs R (x ∷ xs)
    → All (R x) xs
pairs-head R x xs pairs k d h = pairs zero (suc k) d (omega arith) (omega (arith, h))

pub pairs-tail : {X : Type 0} (R : X → X → Type 0) (x : X) (xs : List X) → AllPairs R (x ∷ xs)
    → AllPairs R xs
pairs-tail R x xs pairs i j d less h =
    pairs (suc i) (suc j) d (omega (arith, less)) (omega (arith, h))

pub pairs-nil : {X : Type 0} (R : X → X → Type 0) → AllPairs R []
pairs-nil R i j d less h = absurd (omega (arith, h))

pub pairs-append : {X : Type 0} (R : X → X → Type 0) (xs ys : List X) → AllPairs R xs → AllPairs R ys
    → All (λ x. All (R x) ys) xs → AllPairs R (xs ++ ys)
pairs-append R [] ys p q c = q
pairs-append R (x ∷ xs) ys p q c =
    AllPairs-cons R x (xs ++ ys) (All-append (R x) xs ys (pairs-head R x xs p)
    (All-head (λ y. All (R y) ys) x xs c))
    (pairs-append R xs ys (pairs-tail R x xs p) q (All-tail (λ y. All (R y) ys) x xs c))

pub pairs-flat_map : {X Y : Type 0} (R : Y → Y → Type 0) (f : X → List Y) (xs : List X)
    → All (λ x. AllPairs R (f x)) xs → AllPairs (λ a b. All (λ y. All (R y) (f b)) (f a)) xs
    → AllPairs R (flat_map f xs)
pairs-flat_map R f [] each apart = pairs-nil R
pairs-flat_map {X = X} {Y = Y} R f (x ∷ xs) each apart =
    let across = pairs-head (λ a b. All (λ y. All (R y) (f b)) (f a)) x xs apart in
    rw (flat_map-cons f x xs)
    (pairs-append R (f x) (flat_map f xs) (All-head (λ a. AllPairs R (f a)) x xs each)
    (pairs-flat_map R f xs (All-tail (λ a. AllPairs R (f a)) x xs each)
    (pairs-tail (λ a b. All (λ y. All (R y) (f b)) (f a)) x xs apart))
    (turn (f x) xs across))
  where
    turn : (ys : List Y) (zs : List X) → All (λ b. All (λ y. All (R y) (f b)) ys) zs
        → All (λ y. All (R y) (flat_map f zs)) ys
    turn ys zs h k d less = All-flat_map (R (get_or ys k d)) f zs
        (All-weaker (λ b. All (λ y. All (R y) (f b)) ys) (λ b. All (R (get_or ys k d)) (f b))
        (λ b g. g k d less) zs h)

-- what is in a joined list is in one of its parts
pub Contains-flat_map : {X Y : Type 0} (f : X → List Y) (xs : List X) (x : X) (y : Y) → Contains xs x
    → Contains (f x) y → Contains (flat_map f xs) y
Contains-flat_map f [] x y (k, h, is) inside = absurd (omega (arith, h))
Contains-flat_map f (z ∷ xs) x y (zero, h, is) inside =
    rw (flat_map-cons f z xs) (Contains-append_left (f z) (flat_map f xs) y
    (subst (λ a. Contains (f a) y) (sym is) inside))
Contains-flat_map f (z ∷ xs) x y (suc k, h, is) inside =
    rw (flat_map-cons f z xs) (Contains-append_right (f z) (flat_map f xs) y
    (Contains-flat_map f xs x y (k, omega (arith, h), is) inside))

-- an element of a joined list, with the part that has it
pub record IsInPart {X Y : Type 0} (f : X → List Y) (xs : List X) (y : Y) : Type 0 where
  pub part : X
  pub among : Contains xs part
  pub has : Contains (f part) y

pub parts-of : {X Y : Type 0} (f : X → List Y) (xs : List X) (y : Y) → Contains (flat_map f xs) y
    → IsInPart f xs y
parts-of f [] y (k, h, is) = absurd (omega (arith, h))
parts-of {X = X} {Y = Y} f (z ∷ xs) y inside = by (Contains-append_cases (f z) (flat_map f xs) y
    (subst (λ l. Contains l y) (flat_map-cons f z xs) inside)) (λ rest. parts-of f xs y rest)
  where
    by : Contains (f z) y ⊎ Contains (flat_map f xs) y →
        (Contains (flat_map f xs) y → IsInPart f xs y) → IsInPart f (z ∷ xs) y
    by (inl here) later = record { part = z; among = (zero, omega arith, refl); has = here }
    by (inr there) later =
        let rest = later there in
        record {
          part = rest.part;
          among = (
            suc (rest.among.0),
            omega (arith, rest.among.1),
            rest.among.2,
          );
          has = rest.has;
        }

-- pairs of a list of which more is known
pub pairs-weaker : {X : Type 0} (P : X → Type 0) (R S : X → X → Type 0) (xs : List X) → All P xs
    → ((a b : X) → P a → P b → R a b → S a b) → AllPairs R xs → AllPairs S xs
pairs-weaker P R S xs each weaker pairs i j d less h =
    weaker _ _ (each i d (omega (arith, less, h))) (each j d h) (pairs i j d less h)

-- a sum over joined lists
pub sum_by-flat_map : {X Y : Type 0} (f : Y → ℕ) (g : X → List Y) (xs : List X)
    → sum_by f (flat_map g xs) ≡ sum_by (λ x. sum_by f (g x)) xs
sum_by-flat_map f g [] = refl
sum_by-flat_map f g (x ∷ xs) =
    rw (flat_map-cons g x xs) (omega (
      arith,
      sum_by-append f (g x) (flat_map g xs),
      sum_by-cons (λ y. sum_by f (g y)) x xs,
      sum_by-flat_map f g xs,
    ))
