-- What writes do to the bytes that a sink holds, one after the other.
use Rattle.std.proofs.Common.{◌≡◌, ℕ, ◌+◌, List, [], ◌++◌, length, take, Option, Some, None, Result, Ok, Err, sym, ap, subst, ◌∙◌, append-nil, length-append, arith}
use Rattle.std.specs.Prelude.{OnErr, OnOk}
use Rattle.std.proofs.Math.Seq.{take-append-add}
use Rattle.std.proofs.lemmas.List.{take-append-le}
use Rattle.modeller_io.specs.Count.{RoseBy, Stands, raised}
use Rattle.modeller_io.specs.Held.{Extends, Gains, GainsProperPrefix, Grew}
use Rattle.modeller_io.proofs.Gains.{Extends-append}

-- a sink that stands grew by no bytes
pub Extends-none : (a : Option (List ℕ)) → Extends a a []
Extends-none None = tt
Extends-none (Some x) = sym (append-nil x)

pub Gains-then : {K : Type 0} (held : K → Option (List ℕ)) (a b c : K) (xs ys : List ℕ) → Gains held a b xs → Gains held b c ys → Gains held a c (xs ++ ys)
Gains-then held a b c xs ys p q = Extends-append (held a) (held b) (held c) xs ys p q

-- a proper prefix of bytes behind other bytes is one of all of them, whatever comes behind
pub GainsProperPrefix-after : {K : Type 0} (held : K → Option (List ℕ)) (a b c : K) (xs ys zs : List ℕ) → Gains held a b xs → GainsProperPrefix held b c ys
    → GainsProperPrefix held a c (xs ++ (ys ++ zs))
GainsProperPrefix-after held a b c xs ys zs first next = record {
  count = length xs + next.count;
  within = omega (arith, next.within, length-append xs (ys ++ zs), length-append ys zs);
  gained = subst (Gains held a c)
      (sym (take-append-add xs (ys ++ zs) next.count ∙ ap (λ l. xs ++ l) (take-append-le next.count ys zs (omega (arith, next.within)))))
      (Gains-then held a b c xs (take next.count ys) first next.gained);
}

-- bytes after bytes are some bytes
pub Grew-after : {K : Type 0} (held : K → Option (List ℕ)) (a b c : K) (xs : List ℕ) → Gains held a b xs → Grew held b c → Grew held a c
Grew-after held a b c xs first next = record {
  bytes = xs ++ next.bytes;
  gained = Gains-then held a b c xs next.bytes first next.gained;
}

pub Grew-gains : {K : Type 0} (held : K → Option (List ℕ)) (a b : K) (xs : List ℕ) → Gains held a b xs → Grew held a b
Grew-gains held a b xs gains = record { bytes = xs; gained = gains }

pub Grew-prefix : {K : Type 0} (held : K → Option (List ℕ)) (a b : K) (xs : List ℕ) → GainsProperPrefix held a b xs → Grew held a b
Grew-prefix held a b xs prefix = record { bytes = take prefix.count xs; gained = prefix.gained }

-- a count that stood and next rose has risen
pub RoseBy-after : {K : Type 0} (count : K → ℕ) (a b c : K) (n : ℕ) → Stands count a b → RoseBy count b c n → RoseBy count a c n
RoseBy-after count a b c n stands rose = subst (λ m. count c ≡ raised m n) stands rose

-- two pieces, one after the other
pub two-pieces : (a b xs ys : List ℕ) → a ≡ xs → b ≡ ys → a ++ b ≡ xs ++ ys
two-pieces a b xs ys first next = ap (λ l. l ++ b) first ∙ ap (λ l. xs ++ l) next

-- what is so says that it is so of a failure
pub on-err : {T E : Type 0} (r : Result T E) (P : Type 0) → P → OnErr r P
on-err (Ok x) P p = tt
on-err (Err e) P p = p

-- and of a success
pub on-ok : {T E : Type 0} (r : Result T E) (P : Type 0) → P → OnOk r P
on-ok (Ok x) P p = p
on-ok (Err e) P p = tt
