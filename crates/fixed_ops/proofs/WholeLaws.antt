-- The floor of a raw number is what inequalities say of it, and nothing else is.
use Rattle.std.proofs.Common.{◌≡◌, ◌^◌, ℤ, arith, sym, ◌∙◌}
use Rattle.std.proofs.lemmas.Int.{ints, clamps, by_lt_z}
use Rattle.fixed_ops.specs.Laws.{IsWhole, IsWholeBelow, OnlyWholeHolds, WholeHolds, least_whole}
use Rattle.fixed_ops.specs.Operations.{whole_of}
use Rattle.fixed_ops.specs.Raw.{IsRaw, floor_div}
use Rattle.fixed_ops.proofs.RoundingLaws.{floor_div_is_floor}

pub whole_of_is : (a : ℤ) → IsRaw a → IsWhole a (whole_of a)
whole_of_is a raw =
    let count = floor_div a (2 ^ 32) in
    let floor = floor_div_is_floor a (2 ^ 32) (omega arith) in
    record {
      within = λ high. record {
        count = count;
        whole = omega (arith, ints, clamps, high, floor.0, floor.1);
        below = omega (arith, ints, clamps, high, floor.0, floor.1);
        next = omega (arith, ints, clamps, high, floor.0, floor.1);
      };
      low = λ lt. omega (arith, ints, clamps, lt, raw.0, floor.0, floor.1);
    }

-- there is one such whole number
one_whole : (a r s : ℤ) → IsWholeBelow a r → IsWholeBelow a s → r ≡ s
one_whole a r s h k = omega (arith, ints, h.whole, h.below, h.next, k.whole, k.below, k.next)

pub whole_once : (a r s : ℤ) → IsWhole a r → IsWhole a s → r ≡ s
whole_once a r s h k =
    by_lt_z a least_whole (λ lt. h.low lt ∙ sym (k.low lt)) (λ high. one_whole a r s (h.within high) (k.within high))

pub whole_holds : WholeHolds
whole_holds a b raw = whole_of_is a raw

pub only_whole : OnlyWholeHolds
only_whole a b r raw is = whole_once a r (whole_of a) is (whole_of_is a raw)
