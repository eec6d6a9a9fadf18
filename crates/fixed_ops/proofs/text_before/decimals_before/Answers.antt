-- The point and the five pairs.
use Rattle.std.proofs.Common.{◌%◌, ◌^◌, ◌∷◌, ℕ, List, ap, drop, arith}
use Rattle.fixed_ops.proofs.PartLaws.{fraction_pairs}
use Rattle.fixed_ops.proofs.text_before.decimals_before.Goals as goal

pub returns-clause-written : goal.returns-clause-written
returns-clause-written c =
    rw (
      c.byte_before.ensures.written,
      c.pair_before-end-5.ensures.written,
      c.pair_before-end-4.ensures.written,
      c.pair_before-end-3.ensures.written,
      c.pair_before-end-2.ensures.written,
      c.pair_before-end.ensures.written,
    )
    (
    ap (λ (text : List ℕ). 46 ∷ text) (
    rw c.next_product-first.ensures (
    fraction_pairs (c.args.n % 2 ^ 32) c.next_product-second.result c.next_product-third.result c.next_product-fourth.result c.next_product.result (drop c.args.end c.args.line.now) (omega arith)
    (rw c.next_product-first.ensures at c.next_product-second.ensures) c.next_product-third.ensures c.next_product-fourth.ensures c.next_product.ensures
    )
    )
    )
