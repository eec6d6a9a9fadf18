-- Boxes that are traced one after another.
use Rattle.std.proofs.Common.{ℕ, ◌+◌, ◌*◌, ◌≤◌, sym, subst, arith}
use Rattle.std.proofs.Math.Nat.{add-mul, mul-le-mul_right}
use Rattle.std.specs.Prelude.{Result, Ok, Err, OnErr, OnOk}
use Rattle.fixed_ops.specs.Counts.{Counts}
use Rattle.fixed_ops.specs.Laws.{TalliesAddUp}
use Rattle.interval_ops.specs.Laws.{HullCountsAdd}
use Rattle.interval_ops.specs.HullCounts.{CountsHulls}
use Rattle.box_chains.proofs.TallyLaws.{exactly-hulls, most-after, most-exactly}
use Rattle.box_chains.specs.Tallied.{CountsAtMost}

-- some more boxes are traced
pub hulls-more : HullCountsAdd → (before mid after : Counts) (i n len : ℕ) → CountsHulls (i * len) before mid
    → CountsHulls (n * len) mid after → CountsHulls ((i + n) * len) before after
hulls-more add before mid after i n len first second =
    subst (λ m. CountsHulls m before after) (sym (add-mul i n len))
    (add before mid after (i * len) (n * len) first second)

-- and the traces of the rest are begun
pub hulls-begun : TalliesAddUp → (before mid after : Counts) (i n m len : ℕ) → i + n ≤ m → CountsHulls (i * len) before mid
    → CountsAtMost 0 (n * len) mid after → CountsAtMost 0 (m * len) before after
hulls-begun tallies before mid after i n m len few first second =
    most-after tallies before mid after 0 (i * len) 0 (n * len) 0 (m * len) (omega arith)
    (omega (arith, add-mul i n len, mul-le-mul_right len few)) (exactly-hulls before mid (i * len) first) second

-- the traces of some boxes are among those of all
pub hulls-among : (before after : Counts) (i n len : ℕ) → i ≤ n → CountsHulls (i * len) before after
    → CountsAtMost 0 (n * len) before after
hulls-among before after i n len few h =
    most-exactly before after 0 (i * len) 0 (n * len) (omega arith) (mul-le-mul_right len few)
    (exactly-hulls before after (i * len) h)

-- an error says what holds anyway
pub on_err : {T E : Type 0} (r : Result T E) (P : Type 0) → P → OnErr r P
on_err (Ok x) P p = tt
on_err (Err e) P p = p

pub hulls-one : (before after : Counts) (len : ℕ) → CountsHulls len before after → CountsHulls (1 * len) before after
hulls-one before after len h = subst (λ n. CountsHulls n before after) (omega arith) h

-- what holds of a success holds of what follows from it
pub on_ok-then : {T E : Type 0} (r : Result T E) (P Q : Type 0) → (P → Q) → OnOk r P → OnOk r Q
on_ok-then (Ok x) P Q f p = f p
on_ok-then (Err e) P Q f p = tt
