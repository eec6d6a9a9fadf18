-- Parts of a list that stand in it from a place on.
use Rattle.std.proofs.Common.{◌≡◌, ℕ, ◌+◌, ◌≤◌, List, [], ◌∷◌, ◌++◌, append_assoc, length, get_or, sym, ap, ◌∙◌, arith}
use Rattle.std.proofs.Math.Seq.{get_or-append_seam}
use Rattle.std.proofs.lemmas.List.{length-append}
use Rattle.quad_descent.specs.Drawn.{StandsAt}

-- the element at the place where a part stands is the first of the part
pub stands-head : {K : Type 0} (all part below : List K) (head other : K) (at : ℕ) → StandsAt all part at → part ≡ head ∷ below → get_or all at other ≡ head
stands-head all part below head other at stands is =
    ap (λ l. get_or l at other) (stands.is ∙ ap (λ p. stands.front ++ (p ++ stands.rest)) is) ∙ ap (λ n. get_or (stands.front ++ (head ∷ (below ++ stands.rest))) n other) stands.place
    ∙ get_or-append_seam stands.front head (below ++ stands.rest) other

pub stands-read : {K : Type 0} (all part below : List K) (head r : K) (at : ℕ) → StandsAt all part at → part ≡ head ∷ below → r ≡ get_or all at r → r ≡ head
stands-read all part below head r at stands is read = read ∙ stands-head all part below head r at stands is

pub stands-within : {K : Type 0} (all part : List K) (at : ℕ) → StandsAt all part at → at + length part ≤ length all
stands-within all part at stands =
    omega (arith, stands.place, ap length stands.is, length-append stands.front (part ++ stands.rest), length-append part stands.rest)

-- what stands behind the first element of a part
pub stands-below : {K : Type 0} (all part below : List K) (head : K) (at : ℕ) → StandsAt all part at → part ≡ head ∷ below → StandsAt all below (at + 1)
stands-below all part below head at stands is = record {
  front = stands.front ++ head ∷ [];
  rest = stands.rest;
  place = omega (arith, stands.place, length-append stands.front (head ∷ []));
  is = stands.is ∙ ap (λ p. stands.front ++ (p ++ stands.rest)) is ∙ sym (append_assoc stands.front (head ∷ []) (below ++ stands.rest));
}

-- what stands first of two parts, and what stands behind it
pub stands-first : {K : Type 0} (all first more : List K) (at : ℕ) → StandsAt all (first ++ more) at → StandsAt all first at
stands-first all first more at stands = record {
  front = stands.front;
  rest = more ++ stands.rest;
  place = stands.place;
  is = stands.is ∙ ap (λ l. stands.front ++ l) (append_assoc first more stands.rest);
}

pub stands-more : {K : Type 0} (all first more : List K) (at : ℕ) → StandsAt all (first ++ more) at → StandsAt all more (at + length first)
stands-more all first more at stands = record {
  front = stands.front ++ first;
  rest = stands.rest;
  place = omega (arith, stands.place, length-append stands.front first);
  is = stands.is ∙ ap (λ l. stands.front ++ l) (append_assoc first more stands.rest) ∙ sym (append_assoc stands.front first (more ++ stands.rest));
}
