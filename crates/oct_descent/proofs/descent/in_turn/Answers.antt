use Rattle.std.proofs.Common.{inl, inr, ap, reverse, subst, sym, ◌≡◌, ◌∙◌, false}
use Rattle.std.specs.List.{All}
use Rattle.std.specs.List.Sorted.{IsPermutation}
use Rattle.std.proofs.lemmas.List.Sorted.{All-permutation, IsPermutation-refl, IsPermutation-reverse}
use Rattle.box_chains.specs.Chains.{is_long}
use Rattle.view_places.specs.Boxes.{halves_of}
use Rattle.oct_descent.proofs.Turns.{cells-short}
use Rattle.box_chains.proofs.Theorems.{laws}
use Rattle.oct_descent.proofs.descent.in_turn.Goals as goal

pub returns-then-is_long : goal.returns-then-is_long
returns-then-is_long c = λ is. record {
  among = subst (IsPermutation (halves_of 1 c.args.b)) (sym c.split-halves.ensures) (IsPermutation-refl (halves_of 1 c.args.b));
  order = inl c.split-halves.ensures;
}

pub returns-else-is_long : goal.returns-else-is_long
returns-else-is_long c = λ is.
    let all = c.as_slice.ensures.value ∙ c.split-halves.ensures in
    let turned = c.last_first.ensures ∙ ap reverse all in
    let short = cells-short laws c.args.b is (sym c.is_long.ensures ∙ c.if-is_long.false) in
    record {
      among = subst (IsPermutation (halves_of 1 c.args.b)) (sym turned) (IsPermutation-reverse (halves_of 1 c.args.b));
      order = inr (subst (λ hs. All (λ h. is_long 1 h ≡ false) hs) (sym turned)
          (All-permutation (λ h. is_long 1 h ≡ false) (halves_of 1 c.args.b) (reverse (halves_of 1 c.args.b)) (IsPermutation-reverse (halves_of 1 c.args.b)) short));
    }
