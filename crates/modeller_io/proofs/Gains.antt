-- Laws of what writes do to the bytes that a sink holds.
use Rattle.std.proofs.Common.{ℕ, ◌+◌, List, ◌++◌, take, drop, Option, Some, None, ap, ◌∙◌, append_assoc}
use Rattle.std.proofs.Math.Seq.{take-add}
use Rattle.std.proofs.lemmas.List.{take_rest, length-drop}
use Rattle.modeller_io.specs.Held.{Extends}

-- one write after another
pub Extends-append : (a b c : Option (List ℕ)) (xs ys : List ℕ) → Extends a b xs → Extends b c ys → Extends a c (xs ++ ys)
Extends-append a b None xs ys p q = tt
Extends-append a None (Some z) xs ys p q = absurd q
Extends-append None (Some y) (Some z) xs ys p q = absurd p
Extends-append (Some x) (Some y) (Some z) xs ys p q = q ∙ ap (λ l. l ++ ys) p ∙ append_assoc x xs ys

-- two writes of one list's parts, side by side
pub Extends-take : (a b c : Option (List ℕ)) (xs : List ℕ) (m n : ℕ) → Extends a b (take m xs) → Extends b c (take n (drop m xs)) → Extends a c (take (m + n) xs)
Extends-take a b c xs m n p q = rw take-add (Extends-append a b c (take m xs) (take n (drop m xs)) p q)

-- for the loop of `write_all`
pub ruleset step_laws = (Extends-take, take_rest, length-drop)
