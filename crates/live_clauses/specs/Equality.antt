-- A test of whether two lists have the same steps.
use Rattle.std.specs.Prelude.{◌==◌, Bool, ◌&&◌, List}
use Rattle.std.specs.Ordering.{int_eq}
use Rattle.std.specs.Cmp.Lexicographic.{pointwise}
use Rattle.std.specs.Str.{bytes_eq}
use Rattle.fixed_ops.specs.OpNames.{name_of}
use Rattle.live_clauses.specs.declared.step.Step.{Step}

-- two steps have the same operation, which its name tells, the same operands and the same number
abbrev pub same_step : Step → Step → Bool
same_step a b =
    bytes_eq (name_of a.op) (name_of b.op)
    && (a.a == b.a && (a.b == b.b && int_eq a.value b.value))

-- two lists have the same steps in the same order
abbrev pub same_list : List Step → List Step → Bool
same_list a b = pointwise same_step a b
