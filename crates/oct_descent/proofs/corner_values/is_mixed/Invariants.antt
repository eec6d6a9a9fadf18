use Rattle.std.proofs.Common.{◌≡◌, not, take}
use Rattle.std.specs.List.{list_any}
use Rattle.fixed_ops.specs.Raw.{is_inside}
use Rattle.oct_descent.proofs.corner_values.is_mixed.Given as goal

abbrev pub invariant-loop-value : goal.invariant-loop-value
invariant-loop-value l = record {
  inside : l.inside ≡ list_any is_inside (take l.value-index l.values);
  outside : l.outside ≡ list_any (λ v. not (is_inside v)) (take l.value-index l.values);
}
