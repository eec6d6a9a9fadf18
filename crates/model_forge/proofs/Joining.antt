-- The clauses of a further disc by places are those by names.
use Rattle.std.proofs.Common.{◌≡◌, ℕ, zero, suc, ◌+◌, ◌-◌, ◌*◌, ◌<◌, ◌≤◌, ◌==◌, ℤ, Bool, true, false, cond, List, [], ◌∷◌, ◌++◌, length, map, take, refl, ap, sym, ◌∙◌, length-append, arith}
use Rattle.std.specs.Prelude.{codes, decimal}
use Rattle.std.proofs.Math.Dec.{eqb-suc-zero}
use Rattle.std.proofs.lemmas.Bool.{ne_eqb}
use Rattle.std.proofs.lemmas.List.{map-append}
use Rattle.fixed_ops.specs.Arity.{arity_of}
use Rattle.solid_model.specs.declared.clause.Clause.{Clause}
use Rattle.solid_model.specs.Clauses.{AreInOrder}
use Rattle.solid_model.specs.Named.{Named, name_at, by_name, named_of}
use Rattle.model_forge.specs.declared.disc.Role.{Role}
use Rattle.model_forge.specs.declared.disc.Role.TheVariants.{Solid, Hole}
use Rattle.model_forge.specs.Forged.{circle, joining, solid_before}
use Rattle.model_forge.specs.Placed.{circle_at, joined_at, disc_at}
use Rattle.model_forge.proofs.NamedLemmas.{name_front, name_behind, named_more}

-- the clauses begin with those of both axes
pub record HasAxes (clauses : List Clause) : Type 0 where
  pub two : 2 ≤ length clauses
  pub x : name_at clauses 0 ≡ codes "x"
  pub y : name_at clauses 1 ≡ codes "y"

-- after the first disc, the last clause has the name of the solid before a disc
abbrev pub EndsWithSolid : List Clause → ℕ → Type 0
EndsWithSolid clauses i = 0 < i → name_at clauses (length clauses - 1) ≡ solid_before i

-- a clause by names that each place gives
abbrev by_names : (ℕ → List ℕ) → Clause → Named
by_names name c = record { name = c.name; form = record { op = c.op; args = take (arity_of c.op) (name c.a ∷ name c.b ∷ []); value = c.value } }

circle_named : (name : ℕ → List ℕ) (at i : ℕ) (x y radius : ℤ)
    → name 0 ≡ codes "x" → name 1 ≡ codes "y"
    → name at ≡ 97 ∷ decimal i → name (at + 1) ≡ 98 ∷ decimal i → name (at + 2) ≡ 99 ∷ decimal i
    → name (at + 3) ≡ 100 ∷ decimal i → name (at + 3 + 1) ≡ 101 ∷ decimal i → name (at + 5) ≡ 102 ∷ decimal i
    → name (at + 6) ≡ 103 ∷ decimal i → name (at + 6 + 1) ≡ 104 ∷ decimal i → name (at + 6 + 2) ≡ 107 ∷ decimal i
    → map (by_names name) (circle_at at i x y radius) ≡ circle i x y radius
circle_named name at i x y radius hx hy ha hb hc hd he hf hg hh hk = rw (hx, hy, ha, hb, hc, hd, he, hf, hg, hh, hk) refl

joined_named : (name : ℕ → List ℕ) (before at i : ℕ) (role : Role)
    → name before ≡ solid_before i → name at ≡ 109 ∷ decimal i → (role ≡ Hole → name (at + 1) ≡ 110 ∷ decimal i)
    → map (by_names name) (joined_at before at i role) ≡ joining i role
joined_named name before at i Solid hp hm hn = rw (hp, hm) refl
joined_named name before at i Hole hp hm hn = rw (hp, hm, hn refl) refl

-- the disc alone, whatever follows
circle_front : (xs more : List Clause) (i : ℕ) (x y radius : ℤ) → HasAxes xs
    → map (λ c. by_name (xs ++ (circle_at (length xs) i x y radius ++ more)) c) (circle_at (length xs) i x y radius) ≡ circle i x y radius
circle_front xs more i x y radius axes =
    let ys = circle_at (length xs) i x y radius ++ more in
    let n = length xs in
    let two = axes.two in
    circle_named (name_at (xs ++ ys)) n i x y radius
    (name_front xs ys 0 (omega (arith, two)) ∙ axes.x) (name_front xs ys 1 (omega (arith, two)) ∙ axes.y)
    (name_behind xs ys 0 n (omega arith)) (name_behind xs ys 1 (n + 1) (omega arith)) (name_behind xs ys 2 (n + 2) (omega arith))
    (name_behind xs ys 3 (n + 3) (omega arith)) (name_behind xs ys 4 (n + 3 + 1) (omega arith)) (name_behind xs ys 5 (n + 5) (omega arith))
    (name_behind xs ys 6 (n + 6) (omega arith)) (name_behind xs ys 7 (n + 6 + 1) (omega arith)) (name_behind xs ys 8 (n + 6 + 2) (omega arith))

-- a further disc, and how it joins those before it
joined_behind : (xs : List Clause) (i : ℕ) (x y radius : ℤ) (role : Role) → HasAxes xs → name_at xs (length xs - 1) ≡ solid_before i
    → (ys : List Clause) → ys ≡ circle_at (length xs) i x y radius ++ joined_at (length xs - 1) (length xs + 9) i role
    → map (λ c. by_name (xs ++ ys) c) (joined_at (length xs - 1) (length xs + 9) i role) ≡ joining i role
joined_behind xs i x y radius role axes solid ys is =
    let n = length xs in
    let two = axes.two in
    joined_named (name_at (xs ++ ys)) (n - 1) (n + 9) i role
    (name_front xs ys (n - 1) (omega (arith, two)) ∙ solid)
    (name_behind xs ys 9 (n + 9) (omega arith) ∙ ap (λ l. name_at l 9) is)
    (λ hole. name_behind xs ys 10 (n + 9 + 1) (omega arith) ∙ ap (λ l. name_at l 10) is ∙ ap (λ r. name_at (circle_at n i x y radius ++ joined_at (n - 1) (n + 9) i r) 10) hole)

-- the clauses of a disc by places are those by names
pub disc_named : (xs : List Clause) (i : ℕ) (x y radius : ℤ) (role : Role) → AreInOrder xs → HasAxes xs → EndsWithSolid xs i
    → named_of (xs ++ disc_at (length xs) i x y radius role) ≡ named_of xs ++ (circle i x y radius ++ cond (i == 0) [] (joining i role))
disc_named xs zero x y radius _ ordered axes solid =
    named_more xs (circle_at (length xs) 0 x y radius ++ []) ordered
    ∙ ap (λ l. named_of xs ++ l) (map-append (λ c. by_name (xs ++ (circle_at (length xs) 0 x y radius ++ [])) c) (circle_at (length xs) 0 x y radius) []
    ∙ ap (λ l. l ++ []) (circle_front xs [] 0 x y radius axes))
disc_named xs (suc j) x y radius role ordered axes solid =
    let i = suc j in
    let front = circle_at (length xs) i x y radius in
    let back = joined_at (length xs - 1) (length xs + 9) i role in
    rw (eqb-suc-zero j)
    (named_more xs (front ++ back) ordered
    ∙ ap (λ l. named_of xs ++ l) (map-append (λ c. by_name (xs ++ (front ++ back)) c) front back
    ∙ ap (λ l. l ++ map (λ c. by_name (xs ++ (front ++ back)) c) back) (circle_front xs back i x y radius axes)
    ∙ ap (λ l. circle i x y radius ++ l) (joined_behind xs i x y radius role axes (solid (omega arith)) (front ++ back) refl)))

-- the solid after a further disc has the name of its union
later_solid : (j : ℕ) → solid_before (suc j + 1) ≡ 117 ∷ decimal (suc j)
later_solid j =
    let same : suc j + 1 - 1 ≡ suc j = omega arith in
    rw (ne_eqb (suc j + 1) 1 (λ e. omega (arith, e)), same) refl

-- how many clauses a list and the further ones are
last_place : (xs ys : List Clause) (n : ℕ) → length ys ≡ n + 1 → length xs + n ≡ length (xs ++ ys) - 1
last_place xs ys n e = let all = length-append xs ys in omega (arith, all, e)

-- after a disc, the last clause is the solid of all so far
pub disc_last : (xs : List Clause) (i : ℕ) (x y radius : ℤ) (role : Role)
    → EndsWithSolid (xs ++ disc_at (length xs) i x y radius role) (i + 1)
disc_last xs zero x y radius role some =
    let ys = disc_at (length xs) 0 x y radius role in
    name_behind xs ys 9 (length (xs ++ ys) - 1) (last_place xs ys 9 refl)
disc_last xs (suc j) x y radius Solid some =
    let ys = circle_at (length xs) (suc j) x y radius ++ joined_at (length xs - 1) (length xs + 9) (suc j) Solid in
    rw (eqb-suc-zero j) (name_behind xs ys 10 (length (xs ++ ys) - 1) (last_place xs ys 10 refl) ∙ sym (later_solid j))
disc_last xs (suc j) x y radius Hole some =
    let ys = circle_at (length xs) (suc j) x y radius ++ joined_at (length xs - 1) (length xs + 9) (suc j) Hole in
    rw (eqb-suc-zero j) (name_behind xs ys 11 (length (xs ++ ys) - 1) (last_place xs ys 11 refl) ∙ sym (later_solid j))

-- and the axes are still the first
pub disc_axes : (xs ys : List Clause) → HasAxes xs → HasAxes (xs ++ ys)
disc_axes xs ys axes =
    let two = axes.two in
    let all = length-append xs ys in
    record {
      two = omega (arith, two, all);
      x = name_front xs ys 0 (omega (arith, two)) ∙ axes.x;
      y = name_front xs ys 1 (omega (arith, two)) ∙ axes.y;
    }

-- a disc has at most 12 clauses
pub disc_few : (xs : List Clause) (i : ℕ) (x y radius : ℤ) (role : Role) → length xs ≤ 2 + 12 * i + (97 - 97)
    → length (xs ++ disc_at (length xs) i x y radius role) ≤ 2 + 12 * (i + 1)
disc_few xs i x y radius role few =
    let all = length-append xs (disc_at (length xs) i x y radius role) in
    let own = by (i == 0) role in
    omega (arith, all, own, few)
  where
    by : (first : Bool) (r : Role)
        → length (circle_at (length xs) i x y radius ++ cond first [] (joined_at (length xs - 1) (length xs + 9) i r)) ≤ 12
    by true r = omega arith
    by false Solid = omega arith
    by false Hole = omega arith
