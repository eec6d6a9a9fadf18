-- The children of a box in the order in which a mapper visits them: the nearer ones from the last on, and then the farther ones.
use Rattle.std.proofs.Common.{◌≡◌, ℕ, ◌+◌, ◌-◌, ◌*◌, ◌/◌, Bool, true, false, cond, List, [], ◌∷◌, ◌++◌, append-nil, drop, length, nat_lt, reverse, take, refl, sym, ap, ◌∙◌, arith}
use Rattle.std.specs.List.{filter}
use Rattle.std.proofs.Math.Seq.{drop-append_seam, take-append_seam}
use Rattle.std.proofs.lemmas.List.{length-append, length-reverse, reverse-append}
use Rattle.std.proofs.lemmas.Grind.{reverse_onto}
use Rattle.std.proofs.lemmas.List.Elements.{filter-append}
use Rattle.box_descent.specs.Plans.{first_group, group_size, second_group}
use Rattle.view_places.specs.Boxes.{Indices, halves_of}
use Rattle.height_map.specs.Beside.{farther, level_halves, nearer}
use Rattle.height_map.specs.Mappers.{map_plan}
use Rattle.height_map.proofs.Beside.{halves-parts}

-- a box has as many nearer children as farther ones, where it has some of these
level-many : (leaf : ℕ) (b : Indices) → length (level_halves leaf b) ≡ cond (nat_lt leaf (b.y1 - b.y0)) 2 1 * cond (nat_lt leaf (b.x1 - b.x0)) 2 1
level-many leaf b = by (nat_lt leaf (b.y1 - b.y0)) (nat_lt leaf (b.x1 - b.x0)) refl refl
  where
    by : (t u : Bool) → nat_lt leaf (b.y1 - b.y0) ≡ t → nat_lt leaf (b.x1 - b.x0) ≡ u → length (level_halves leaf b) ≡ cond t 2 1 * cond u 2 1
    by true true e f = rw (e, f) refl
    by true false e f = rw (e, f) refl
    by false true e f = rw (e, f) refl
    by false false e f = rw (e, f) refl

both-many : (leaf : ℕ) (b : Indices) → nat_lt leaf (b.z1 - b.z0) ≡ true → length (nearer leaf b) ≡ length (farther leaf b)
both-many leaf b e = rw e (level-many leaf _ ∙ sym (level-many leaf _))

turned : (b : Indices) → reverse (halves_of 8 b) ≡ reverse (nearer 8 b) ++ reverse (farther 8 b)
turned b = ap reverse (halves-parts 8 b) ∙ reverse-append (farther 8 b) (nearer 8 b)

-- so many of them are the nearer ones
size-nearer : (b : Indices) → group_size map_plan b ≡ length (reverse (nearer 8 b))
size-nearer b = by (nat_lt 8 (b.z1 - b.z0)) refl
  where
    near : length (reverse (nearer 8 b)) ≡ length (nearer 8 b)
    near = length-reverse (nearer 8 b)

    all : length (halves_of 8 b) ≡ length (farther 8 b) + length (nearer 8 b)
    all = ap length (halves-parts 8 b) ∙ length-append (farther 8 b) (nearer 8 b)

    none : nat_lt 8 (b.z1 - b.z0) ≡ false → length (farther 8 b) ≡ 0
    none e = rw e refl

    by : (t : Bool) → nat_lt 8 (b.z1 - b.z0) ≡ t → cond t (length (halves_of 8 b) / 2) (length (halves_of 8 b)) ≡ length (reverse (nearer 8 b))
    by true e = omega (arith, near, all, both-many 8 b e)
    by false e = omega (arith, near, all, none e)

pub first-nearer : (b : Indices) → first_group map_plan b ≡ reverse (nearer 8 b)
first-nearer b =
    ap (take (group_size map_plan b)) (turned b) ∙ ap (λ n. take n (reverse (nearer 8 b) ++ reverse (farther 8 b))) (size-nearer b)
    ∙ take-append_seam (reverse (nearer 8 b)) (reverse (farther 8 b))

pub second-farther : (b : Indices) → second_group map_plan b ≡ reverse (farther 8 b)
second-farther b =
    ap (drop (group_size map_plan b)) (turned b) ∙ ap (λ n. drop n (reverse (nearer 8 b) ++ reverse (farther 8 b))) (size-nearer b)
    ∙ drop-append_seam (reverse (nearer 8 b)) (reverse (farther 8 b))

-- those that pass a test, from the last on
pub filter-reverse : {X : Type 0} (test : X → Bool) (xs : List X) → filter test (reverse xs) ≡ reverse (filter test xs)
filter-reverse test [] = refl
filter-reverse {X} test (x ∷ xs) =
    ap (filter test) (reverse_onto xs x []) ∙ filter-append test (reverse xs) (x ∷ []) ∙ ap (λ ys. ys ++ filter test (x ∷ [])) (filter-reverse test xs) ∙ by (test x) (filter test xs)
  where
    by : (t : Bool) (ys : List X) → reverse ys ++ cond t (x ∷ []) [] ≡ reverse (cond t (x ∷ ys) ys)
    by true ys = sym (reverse_onto ys x [])
    by false ys = append-nil (reverse ys)
