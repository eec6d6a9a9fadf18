-- Clauses by names, where others follow.
use Rattle.std.proofs.Common.{◌≡◌, ℕ, ◌+◌, ◌<◌, List, [], ◌++◌, length, map, get_or, Some, slice_get, ap, ◌∙◌, arith}
use Rattle.std.proofs.lemmas.List.{length-map, map-append, get_or_append_left, get_or-append-add}
use Rattle.std.proofs.lemmas.Option.{slice_get_within}
use Rattle.fixed_ops.specs.Arity.{arity_of}
use Rattle.solid_model.specs.declared.clause.Clause.{Clause}
use Rattle.solid_model.specs.Clauses.{names_of, AreInOrder}
use Rattle.solid_model.specs.Named.{name_at, by_name, named_of}
use Rattle.fixed_ops.proofs.Lists.{same_front}
use Rattle.solid_model.proofs.NamePlaces.{map-alike}

-- the names of clauses stay, and those of the others follow
pub name_front : (xs ys : List Clause) (k : ℕ) → k < length xs → name_at (xs ++ ys) k ≡ name_at xs k
name_front xs ys k less =
    let long : length (names_of xs) ≡ length xs = length-map xs (λ c. c.name) in
    ap (λ l. get_or l k []) (map-append (λ c. c.name) xs ys) ∙ get_or_append_left (names_of xs) (names_of ys) [] k (omega (arith, long, less))

pub name_behind : (xs ys : List Clause) (n k : ℕ) → length xs + n ≡ k → name_at (xs ++ ys) k ≡ name_at ys n
name_behind xs ys n k e =
    let long : length (names_of xs) ≡ length xs = length-map xs (λ c. c.name) in
    let place : k ≡ length (names_of xs) + n = omega (arith, long, e) in
    ap (λ l. get_or l k []) (map-append (λ c. c.name) xs ys)
    ∙ ap (λ j. get_or (names_of xs ++ names_of ys) j []) place
    ∙ get_or-append-add (names_of xs) (names_of ys) n []

-- clauses by names stay
named_front : (xs ys : List Clause) → AreInOrder xs → map (λ c. by_name (xs ++ ys) c) xs ≡ named_of xs
named_front xs ys ordered = map-alike (λ c. by_name (xs ++ ys) c) (λ c. by_name xs c) xs each
  where
    each : (k : ℕ) (c : Clause) → slice_get xs k ≡ Some c → by_name (xs ++ ys) c ≡ by_name xs c
    each k c is =
        let stands = ordered k c is in
        let within = slice_get_within xs k c is in
        ap (λ args. record { name = c.name; form = record { op = c.op; args = args; value = c.value } })
        (same_front (arity_of c.op) (name_at (xs ++ ys) c.a) (name_at (xs ++ ys) c.b) (name_at xs c.a) (name_at xs c.b)
        (λ some. name_front xs ys c.a (let less = stands.fits.first some in omega (arith, less, within)))
        (λ two. name_front xs ys c.b (let less = stands.fits.second two in omega (arith, less, within))))

-- and those that follow are named after all of them
pub named_more : (xs ys : List Clause) → AreInOrder xs → named_of (xs ++ ys) ≡ named_of xs ++ map (λ c. by_name (xs ++ ys) c) ys
named_more xs ys ordered =
    map-append (λ c. by_name (xs ++ ys) c) xs ys ∙ ap (λ l. l ++ map (λ c. by_name (xs ++ ys) c) ys) (named_front xs ys ordered)
