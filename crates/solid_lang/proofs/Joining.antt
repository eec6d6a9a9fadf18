-- The steps of a solid are put where those of its parts are put one behind the other.
use Rattle.std.proofs.Common.{◌≡◌, ℕ, ◌+◌, List, ◌++◌, length, ap, sym, subst, ◌∙◌, arith}
use Rattle.solid_lang.specs.declared.axes.Axes.{Axes}
use Rattle.solid_lang.specs.declared.step.Step.{Step}
use Rattle.solid_lang.specs.Solids.{SolidTree}
use Rattle.solid_lang.specs.Steps.{after, solid_steps}
use Rattle.solid_lang.proofs.FitLemmas.{length-solid_steps}

-- steps that are put one behind the other are put
abbrev pub AddsUp : {S : Type 0} → (S → S → ℕ → List Step → Type 0) → Type 0
AddsUp {S} grows = (a b c : S) (n m : ℕ) (xs ys : List Step) → n + length xs ≡ m → grows a b n xs → grows b c m ys → grows a c n (xs ++ ys)

-- steps that stand before a solid
pub before_solid : {S : Type 0} (grows : S → S → ℕ → List Step → Type 0) → AddsUp grows → (s : SolidTree) (n m next : ℕ) (seen at : Axes) (steps prefix : List Step) (old mid new : S)
    → n + length prefix ≡ m → steps ≡ prefix → seen ≡ at → grows old mid n steps → next ≡ n + length steps → grows mid new next (solid_steps s next seen)
    → grows old new n (prefix ++ solid_steps s m at)
before_solid grows adds_up s n m next seen at steps prefix old mid new long is places first end last =
    let there : next ≡ m = end ∙ ap (λ l. n + length l) is ∙ long in
    let last_there : grows mid new m (solid_steps s m seen) = subst (λ k. grows mid new k (solid_steps s k seen)) there last in
    adds_up old mid new n m prefix (solid_steps s m at) long (subst (grows old mid n) is first)
    (subst (λ a. grows mid new m (solid_steps s m a)) places last_there)

-- two solids, and steps behind them that depend on the places there
pub both_solids : {S : Type 0} (grows : S → S → ℕ → List Step → Type 0) → AddsUp grows → (a b : SolidTree) (n first second : ℕ) (at : Axes) (steps : ℕ → ℕ → List Step) (seen : List Step) (old one two new : S)
    → grows old one n (solid_steps a n at) → first ≡ after n a → grows one two first (solid_steps b first at) → second ≡ after first b
    → seen ≡ steps first second → grows two new second seen
    → grows old new n (solid_steps a n at ++ (solid_steps b (after n a) at ++ steps (after n a) (after (after n a) b)))
both_solids grows adds_up a b n first second at steps seen old one two new e1 h1 e2 h2 is e3 =
    let m = after n a in
    let end = after m b in
    let long_a = length-solid_steps a n at in
    let long_b = length-solid_steps b m at in
    let second_is : second ≡ end = h2 ∙ ap (λ k. after k b) h1 in
    let middle : grows one two m (solid_steps b m at) = subst (λ k. grows one two k (solid_steps b k at)) h1 e2 in
    let steps_are : seen ≡ steps m end = is ∙ ap (λ k. steps k second) h1 ∙ ap (steps m) second_is in
    let back_at : grows two new end seen = subst (λ k. grows two new k seen) second_is e3 in
    let back : grows two new end (steps m end) = subst (grows two new end) steps_are back_at in
    adds_up old one new n m (solid_steps a n at) (solid_steps b m at ++ steps m end) (omega (arith, long_a)) e1
    (adds_up one two new m end (solid_steps b m at) (steps m end) (omega (arith, long_b)) middle back)
