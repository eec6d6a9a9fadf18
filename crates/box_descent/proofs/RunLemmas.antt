-- Boxes that are visited, and one more.
use Rattle.std.proofs.Common.{◌≡◌, ℕ, zero, suc, ◌+◌, ◌<◌, Bool, true, false, cond, append-nil, List, [], ◌∷◌, ◌++◌, length, take, get_or, ap, ◌∙◌, refl, subst, sym, arith}
use Rattle.std.specs.List.{filter}
use Rattle.std.proofs.Math.Seq.{take-suc}
use Rattle.std.proofs.lemmas.List.Elements.{filter_more}
use Rattle.box_chains.specs.Chains.{Descent, visit}
use Rattle.box_descent.specs.Runs.{Group, Runs}
use Rattle.box_descent.specs.Visitors.{Meaning}
use Rattle.fixed_ops.specs.Counts.{Counts}
use Rattle.live_clauses.specs.declared.step.Step.{Step}
use Rattle.view_places.specs.Boxes.{Indices}

-- one more that passes a test is kept
pub one-kept : {X : Type 0} (test : X → Bool) (xs kept : List X) (i : ℕ) (x : X) → i < length xs → x ≡ get_or xs i x → test x ≡ true
    → kept ≡ filter test (take i xs) → kept ++ x ∷ [] ≡ filter test (take (i + 1) xs)
one-kept test xs kept i x within read e are =
    ap (λ l. l ++ x ∷ []) are ∙ ap (λ y. filter test (take i xs) ++ y ∷ []) read
    ∙ ap (λ t. filter test (take i xs) ++ cond t (get_or xs i x ∷ []) []) (sym e ∙ ap test read) ∙ sym (filter_more test xs i x within)

-- and another is not
pub one-left : {X : Type 0} (test : X → Bool) (xs kept : List X) (i : ℕ) (x : X) → i < length xs → x ≡ get_or xs i x → test x ≡ false
    → kept ≡ filter test (take i xs) → kept ≡ filter test (take (i + 1) xs)
one-left test xs kept i x within read e are =
    are ∙ sym (append-nil (filter test (take i xs))) ∙ ap (λ t. filter test (take i xs) ++ cond t (get_or xs i x ∷ []) []) (sym e ∙ ap test read) ∙ sym (filter_more test xs i x within)

-- One that passes a test stands among all that do behind those of the first ones.
pub record StandsAt {X : Type 0} (xs : List X) (at : ℕ) (x : X) : Type 0 where
  pub among : at < length xs
  pub there : (other : X) → get_or xs at other ≡ x

pub kept-at : {X : Type 0} (test : X → Bool) (xs : List X) (i : ℕ) (x : X) → i < length xs → x ≡ get_or xs i x → test x ≡ true
    → StandsAt (filter test xs) (length (filter test (take i xs))) x
kept-at test [] i x within read e = absurd (omega (arith, within))
kept-at test (y ∷ ys) zero x within read e =
    subst (λ t. StandsAt (cond t (y ∷ filter test ys) (filter test ys)) 0 x) (sym e ∙ ap test read) (record { among = omega arith; there = λ other. sym read })
kept-at {X} test (y ∷ ys) (suc i) x within read e = by (test y) (kept-at test ys i x (omega (arith, within)) read e)
  where
    by : (t : Bool) → StandsAt (filter test ys) (length (filter test (take i ys))) x → StandsAt (cond t (y ∷ filter test ys) (filter test ys)) (length (cond t (y ∷ filter test (take i ys)) (filter test (take i ys)))) x
    by true rest = record { among = omega (arith, rest.among); there = rest.there }
    by false rest = rest

runs-one : {S M : Type 0} (m : Meaning S M) (d : Descent) (tape : List Step) (a b c : S) (xs : List Indices) (x : Indices) (t u w : Counts) → Runs m d tape a b xs t u → m.draws d b c (visit x tape) u w
    → Runs m d tape a c (xs ++ x ∷ []) t w
runs-one m d tape a b c [] x t u w h one =
    record { mid = c; tally = w; first = subst (λ s. m.draws d s c (visit x tape) t w) (sym h.0) (subst (λ k. m.draws d b c (visit x tape) k w) (sym h.1) one); rest = (refl, refl) }
runs-one m d tape a b c (y ∷ ys) x t u w h one =
    record { mid = h.mid; tally = h.tally; first = h.first; rest = runs-one m d tape h.mid b c ys x h.tally u w h.rest one }

-- one more box is visited
pub group-more : {S M : Type 0} (m : Meaning S M) (d : Descent) (tape : List Step) (boxes : List Indices) (a b c : S) (i : ℕ) (x : Indices) (t u w : Counts) → i < length boxes → x ≡ get_or boxes i x
    → Group m d tape boxes a b (take i boxes) t u → m.draws d b c (visit x tape) u w → Group m d tape boxes a c (take (i + 1) boxes) t w
group-more m d tape boxes a b c i x t u w within read h one =
    let next : i + 1 ≡ suc i = omega arith in
    let same : take (i + 1) boxes ≡ take i boxes ++ x ∷ [] = ap (λ k. take k boxes) next ∙ take-suc boxes i x within ∙ ap (λ y. take i boxes ++ y ∷ []) (sym read) in
    record { tally = h.tally; traced = h.traced; runs = subst (λ ys. Runs m d tape a c ys h.tally w) (sym same) (runs-one m d tape a b c (take i boxes) x h.tally u w h.runs one) }
