-- Laws of what reads take from a source.
use Rattle.std.proofs.Common.{◌≡◌, ℕ, ◌+◌, ◌-◌, ◌≤◌, List, ◌++◌, length, take, drop, Option, ap, sym, ◌∙◌, arith, length-append}
use Rattle.std.proofs.KnownBytes.{Consumes-trans}
use Rattle.std.proofs.lemmas.List.{drop-drop, take-append-drop, take_rest}
use Rattle.modeller_io.specs.Count.{RoseBy}
use Rattle.modeller_io.specs.Took.{Loses, LosesAtMost}

-- bytes that were read, and then those of one read more
pub LosesAtMost-read : {S : Type 0} (rest : S → Option (List ℕ)) (taken : S → ℕ) (a b c : S) (xs ys : List ℕ) (m n most : ℕ) → m ≡ length xs → length ys ≡ n → Loses rest a b xs → Loses rest b c ys → RoseBy taken a b m → RoseBy taken b c n → m + n ≤ most → LosesAtMost rest taken a c most
LosesAtMost-read rest taken a b c xs ys m n most before long p q rose more within =
    let e = length-append xs ys in
    record {
      bytes = xs ++ ys;
      within = omega (arith, e);
      lost = Consumes-trans (rest a) (rest b) (rest c) xs ys p q;
      counted = rw e (omega arith);
    }

-- what is left is what was copied out of its front, and the rest
pub rest-copied : (bytes copy : List ℕ) (at count : ℕ) → take count copy ≡ take count (take (length bytes - at) (drop at bytes)) → drop at bytes ≡ take count copy ++ drop (at + count) bytes
rest-copied bytes copy at count e =
    sym (take-append-drop count (drop at bytes)) ∙ ap (λ l. take count (drop at bytes) ++ l) (drop-drop count at bytes) ∙ ap (λ l. l ++ drop (at + count) bytes) (sym (e ∙ ap (take count) (take_rest bytes at)))

-- for a read out of memory
pub ruleset copy_laws = (rest-copied, take_rest)
